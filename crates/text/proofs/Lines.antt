-- A line of numbers as it is printed: a space after each number, and at last the line's end over the last space. And the line of a
-- refusal.
-- Assumes nothing.
use mathlib.Core.Path.{◌≡◌, refl, sym, ap, ap₂, ◌∙◌}
use mathlib.Core.List.{List, [], ◌∷◌, ◌++◌, append-nil, append_assoc}
use Prim.Native.Nat.{ℕ, suc, ◌+◌, ◌-◌, ◌*◌, ◌≤◌, ◌<◌}
use native.Mathlib.Nat.{le_refl}
use native.Mathlib.Omega.{arith}
use lib.ListN.{length, get_or, take, drop, set, length-append, length-drop, drop_of_length-le}
use borrow.Rule.Slice.PartMut.{put_mid}
use native.Mathlib.Numerals.{add-one}
use lib.Seq.{take-suc, take_at, take-append-add, set_split, set-append_left, take_all, drop_at, drop-drop, set_at, length-take-le, drop-length, drop-cons}
use Rattle.spec.specs.Program.{decimal, line, refusal_printed}
use Rattle.text.proofs.Digits.{length_decimal}

-- ---- numbers in a row

-- numbers in decimal, a space after each
unfoldable pub spaced : List ℕ → List ℕ
spaced [] = []
spaced (n ∷ ns) = decimal n ++ (32 ∷ spaced ns)

-- one number more
spaced_append : (xs : List ℕ) (n : ℕ) → spaced (xs ++ n ∷ []) ≡ spaced xs ++ (decimal n ++ (32 ∷ []))
unfolding spaced
spaced_append [] n = refl
spaced_append (x ∷ xs) n =
    ap (λ t. decimal x ++ (32 ∷ t)) (spaced_append xs n) ∙ sym (append_assoc (decimal x) (32 ∷ spaced xs) (decimal n ++ (32 ∷ [])))

pub spaced_more : (ns : List ℕ) (i : ℕ) → i < length ns → spaced (take (i + 1) ns) ≡ spaced (take i ns) ++ (decimal (get_or ns i 0) ++ (32 ∷ []))
spaced_more ns i h = rw (add-one i, take-suc ns i 0 h) (spaced_append (take i ns) (get_or ns i 0))

-- in the line the last space is the line's end
line_more : (ds rest : List ℕ) → 0 < length rest
    → ds ++ (32 ∷ (take (length rest - 1) rest ++ (10 ∷ []))) ≡ take (length (ds ++ (32 ∷ rest)) - 1) (ds ++ (32 ∷ rest)) ++ (10 ∷ [])
line_more ds rest h =
    let size : length ds + suc (length rest - 1) ≡ length (ds ++ (32 ∷ rest)) - 1 = omega (arith, length-append ds (32 ∷ rest)) in
    sym (append_assoc ds (32 ∷ take (length rest - 1) rest) (10 ∷ []))
    ∙ ap (λ t. t ++ (10 ∷ []))
    (sym (take-append-add ds (32 ∷ rest) (suc (length rest - 1))) ∙ ap (λ k. take k (ds ++ (32 ∷ rest))) size)

pub line_spaced : (ns : List ℕ) → line ns ≡ take (length (spaced ns) - 1) (spaced ns) ++ (10 ∷ [])
unfolding line spaced
line_spaced [] = refl
line_spaced (n ∷ []) =
    let size : length (decimal n) ≡ length (decimal n ++ (32 ∷ [])) - 1 = omega (arith, length-append (decimal n) (32 ∷ [])) in
    ap (λ t. t ++ (10 ∷ [])) (sym (take_at (decimal n) (32 ∷ []) (length (decimal n ++ (32 ∷ [])) - 1) size))
line_spaced (n ∷ m ∷ ns) =
    ap (λ t. decimal n ++ (32 ∷ t)) (line_spaced (m ∷ ns))
    ∙ line_more (decimal n) (spaced (m ∷ ns)) (omega (arith, length-append (decimal m) (32 ∷ spaced ns)))

-- how long a line can be
pub length_line : (ns : List ℕ) → length (line ns) ≤ 21 * length ns + 1
unfolding line
length_line [] = le_refl 1
length_line (n ∷ []) = omega (arith, length_decimal n, length-append (decimal n) (10 ∷ []))
length_line (n ∷ m ∷ ns) =
    omega (arith, length_decimal n, length-append (decimal n) (32 ∷ line (m ∷ ns)), length_line (m ∷ ns))

-- a byte stored over the last of those at the front of a slice, or over the slice's first where there are none
pub ended : (xs old : List ℕ) (b : ℕ) → length xs ≤ length old → 0 < length old
    → set (xs ++ drop (length xs) old) (length xs - 1) b ≡ (take (length xs - 1) xs ++ (b ∷ [])) ++ drop (length xs - 1 + 1) old
ended [] old b h g = set_split old 0 b g
ended (x ∷ xs) old b h g =
    let k = length xs in
    let e : suc k - 1 ≡ k = omega arith in
    let last : drop (suc k) (x ∷ xs) ≡ [] = drop-length (x ∷ xs) in
    rw e
    (set-append_left (x ∷ xs) (drop (suc k) old) k b (omega arith)
    ∙ ap₂ ◌++◌ (set_split (x ∷ xs) k b (omega arith) ∙ ap (λ t. take k (x ∷ xs) ++ (b ∷ t)) last) (ap (λ n. drop n old) (sym (add-one k))))

-- digits stored at the front of a slice, then a byte after them
pub stored_front : (end b : ℕ) (ds old : List ℕ) → end ≡ length ds → end < length old
    → set (ds ++ drop end old) end b ≡ ds ++ (b ∷ drop (end + 1) old)
stored_front end b ds old e h =
    ap (λ t. set (ds ++ t) end b) (drop-cons old end 0 h)
    ∙ set_at ds (get_or old end 0) (drop (suc end) old) b end (sym e)
    ∙ ap (λ n. ds ++ (b ∷ drop n old)) (sym (add-one end))

-- digits and a space stored after those at the front of a slice, into the part that was lent
pub front_more : (xs ds put old : List ℕ) (end r lent : ℕ) → length xs ≡ end → length old - end ≤ lent → let l = xs ++ drop end old in
    put ≡ ds ++ (32 ∷ drop r (take lent (drop end l))) → put_mid end lent l put ≡ xs ++ (ds ++ (32 ∷ drop (end + r) old))
front_more xs ds put old end r lent size h e =
    let l = xs ++ drop end old in
    let back : drop end l ≡ drop end old = drop_at xs (drop end old) end size in
    let whole : take lent (drop end l) ≡ drop end old = ap (take lent) back ∙ take_all lent (drop end old) (omega (arith, length-drop end old)) in
    let none : drop lent (drop end l) ≡ [] =
    ap (drop lent) back ∙ drop_of_length-le (drop end old) {i = lent} (omega (arith, length-drop end old)) in
    let last : put ≡ ds ++ (32 ∷ drop (end + r) old) = e ∙ ap (λ t. ds ++ (32 ∷ drop r t)) whole ∙ ap (λ t. ds ++ (32 ∷ t)) (drop-drop r end old) in
    ap₂ (λ a t. a ++ (put ++ t)) (take_at xs (drop end old) end size) none ∙ ap (λ t. xs ++ t) (append-nil put ∙ last)

-- ---- printing a row

-- the first i numbers, a space after each, stand at the front of a slice, up to the next place
pub record Laid (ns old : List ℕ) (i next : ℕ) (out : List ℕ) : Type 0 where
  pub place : next ≡ length (spaced (take i ns))
  pub few : next ≤ 21 * i
  pub is : out ≡ spaced (take i ns) ++ drop next old

module _ (ns old : List ℕ) where
  pub laid_none : Laid ns old 0 0 old
  unfolding spaced
  laid_none = record { place = refl; few = omega arith; is = refl }

  pub laid_more : {i end r : ℕ} {out put : List ℕ} → Laid ns old i end out → i < length ns → length out ≡ length old
      → r ≡ length (decimal (get_or ns i 0)) + 1 → r ≤ 21
      → put ≡ decimal (get_or ns i 0) ++ (32 ∷ drop r (take (length out - end) (drop end out)))
      → Laid ns old (i + 1) (end + r) (put_mid end (length out - end) out put)
  laid_more {i} {end} {r} {out} {put} l h size e g p =
      let xs = spaced (take i ns) in
      let ds = decimal (get_or ns i 0) in
      let more : spaced (take (i + 1) ns) ≡ xs ++ (ds ++ (32 ∷ [])) = spaced_more ns i h in
      record {
        place = sym (ap length more ∙ length-append xs (ds ++ (32 ∷ [])) ∙ omega (arith, length-append ds (32 ∷ []), l.place));
        few = omega (arith, l.few);
        is =
            ap (λ o. put_mid end (length out - end) o put) l.is
            ∙ front_more xs ds put old end r (length out - end) (sym l.place) (omega arith)
            (p ∙ ap (λ o. ds ++ (32 ∷ drop r (take (length out - end) (drop end o)))) l.is)
            ∙ ap (λ t. xs ++ t) (sym (append_assoc ds (32 ∷ []) (drop (end + r) old)))
            ∙ sym (append_assoc xs (ds ++ (32 ∷ [])) (drop (end + r) old))
            ∙ ap (λ t. t ++ drop (end + r) old) (sym more);
      }

  -- all numbers are there, and the line's end takes the place of the last space
  pub laid_line : {i next : ℕ} {out : List ℕ} → Laid ns old i next out → length ns ≤ i → next < length old
      → (next - 1 + 1 ≡ length (line ns)) × (set out (next - 1) 10 ≡ line ns ++ drop (next - 1 + 1) old)
  laid_line {i} {next} {out} l h g =
      let xs = spaced ns in
      let whole : spaced (take i ns) ≡ xs = ap spaced (take_all i ns h) in
      let place : next ≡ length xs = l.place ∙ ap length whole in
      let is : out ≡ xs ++ drop (length xs) old = l.is ∙ ap₂ (λ a n. a ++ drop n old) whole place in (
        omega (arith, place, ap length (line_spaced ns), length-append (take (length xs - 1) xs) (10 ∷ []), length-take-le (length xs - 1) xs (omega arith)),
        ap₂ (λ o n. set o (n - 1) 10) is place
            ∙ ended xs old 10 (omega arith) (omega arith)
            ∙ ap₂ (λ a n. a ++ drop (n - 1 + 1) old) (sym (line_spaced ns)) (sym place),
      )

-- ---- the line of a refusal

-- the word before its number
abbrev pub word : List ℕ
word = 0x72 ∷ 0x65 ∷ 0x66 ∷ 0x75 ∷ 0x73 ∷ 0x65 ∷ 0x64 ∷ 0x20 ∷ []

-- how long its line can be
pub length_refusal : (n : ℕ) → length (refusal_printed n) ≤ 30
unfolding refusal_printed
length_refusal n = omega (arith, length_line (n ∷ []))

-- the word is copied, then the number and a space are put, and over that the line's end
module _ (n r : ℕ) (put old : List ℕ) (h : length old ≡ 64) (e : r ≡ length (decimal n) + 1) where
  refusal_length : 8 + r ≡ length (refusal_printed n)
  unfolding refusal_printed line
  refusal_length = omega (arith, length-append (decimal n) (10 ∷ []))

  refusal_text : put ≡ decimal n ++ (32 ∷ drop r (take 56 (drop 8 (word ++ drop 8 old))))
      → set (put_mid 8 56 (word ++ drop 8 old) put) (8 + r - 1) 10 ≡ refusal_printed n ++ drop (8 + r) old
  unfolding refusal_printed line
  refusal_text p =
      let size : length (word ++ decimal n) ≡ 8 + r - 1 = omega (arith, length-append word (decimal n)) in
      ap (λ t. set t (8 + r - 1) 10)
      (front_more word (decimal n) put old 8 r 56 refl (omega arith) p ∙ sym (append_assoc word (decimal n) (32 ∷ drop (8 + r) old)))
      ∙ set_at (word ++ decimal n) 32 (drop (8 + r) old) 10 (8 + r - 1) size
      ∙ append_assoc word (decimal n) (10 ∷ drop (8 + r) old)
      ∙ ap (λ t. word ++ t) (sym (append_assoc (decimal n) (10 ∷ []) (drop (8 + r) old)))

  pub refusal_put : (first : List ℕ) → first ≡ word → put ≡ decimal n ++ (32 ∷ drop r (take 56 (drop 8 (first ++ drop 8 old))))
      → (8 + r ≡ length (refusal_printed n))
      × (set (put_mid 8 56 (first ++ drop 8 old) put) (8 + r - 1) 10 ≡ refusal_printed n ++ drop (length (refusal_printed n)) old)
  refusal_put first w p = (
    refusal_length,
    ap (λ l. set (put_mid 8 56 (l ++ drop 8 old) put) (8 + r - 1) 10) w
        ∙ refusal_text (p ∙ ap (λ l. decimal n ++ (32 ∷ drop r (take 56 (drop 8 (l ++ drop 8 old))))) w)
        ∙ ap (λ k. refusal_printed n ++ drop k old) refusal_length,
  )
