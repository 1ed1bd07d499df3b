-- A list as a cascade holds it.
-- Assumes nothing.
use mathlib.Core.Path.{◌≡◌, sym, ap, ap₂, ◌∙◌}
use mathlib.Core.List.{List, ◌++◌}
use Prim.Native.Nat.{ℕ, ◌+◌, ◌-◌, ◌≤◌, ◌<◌}
use native.Mathlib.Decide.{dec_lt}
use native.Mathlib.Omega.{arith}
use lib.ListN.{length, get_or, take, drop, replicate, length-append, length-drop, length-replicate, get_or-append, get_or-replicate, get_or-eq_default}
use lib.Seq.{ext_get_or, get_or-append_right, get_or-drop}
use Rattle.spec.specs.Words.{part}
use Rattle.spec.specs.Recipe.{Recipe, recipe, widths, held, held_filter}
use Rattle.laws.proofs.Lists.{get_d_tab, length_part, part_within}
use Rattle.spec.specs.declared.Cascade.{Cascade}

get_d_part : (from n : ℕ) (xs : List ℕ) (k : ℕ) → k < n → get_or (part from n xs) k 0 ≡ get_or xs (from + k) 0
unfolding part
get_d_part from n xs k h = get_d_tab n (λ i. get_or xs (from + i) 0) k 0 h

-- what a cascade holds is the list, where it has room
pub held_widths : (ns : List ℕ) → length ns ≤ 48 → widths (held ns) ≡ ns
unfolding held widths
held_widths ns h =
    let size = length_part 0 (length ns) (part 0 48 ns) in
    ext_get_or 0 (part 0 (length ns) (part 0 48 ns)) ns size
    (λ k l.
    let small : k < length ns = omega (arith, size) in
    let e : 0 + (0 + k) ≡ k = omega arith in
    get_d_part 0 (length ns) (part 0 48 ns) k small ∙ get_d_part 0 48 ns (0 + k) (omega arith) ∙ ap (λ i. get_or ns i 0) e)

pub held_recipe : (r : Recipe) → length r.rows ≤ 48 → length r.columns ≤ 48 → recipe (held_filter r) ≡ r
unfolding recipe held_filter
held_recipe r h g = λ i. record { rows = held_widths r.rows h i; columns = held_widths r.columns g i }

-- a list over zeros, as a cascade of 48 places holds it
over_zeros : (ns : List ℕ) → length ns ≤ 48 → ns ++ drop (length ns) (replicate 48 0) ≡ part 0 48 ns
over_zeros ns h =
    let zeros : List ℕ = replicate 48 0 in
    let size = length-append ns (drop (length ns) zeros) ∙ ap (λ n. length ns + n) (length-drop (length ns) zeros) in
    ext_get_or 0 (ns ++ drop (length ns) zeros) (part 0 48 ns)
    (omega (arith, size, length-replicate {A = ℕ} 48 0, length_part 0 48 ns))
    (λ k l.
    let at : k < 48 = omega (arith, size, length-replicate {A = ℕ} 48 0) in
    let same : 0 + k ≡ k = omega arith in
    let read : get_or (part 0 48 ns) k 0 ≡ get_or ns k 0 = get_d_part 0 48 ns k at ∙ ap (λ i. get_or ns i 0) same in
    elim (dec_lt k (length ns)) [
      | yes m ↦ get_or-append ns (drop (length ns) zeros) 0 k m ∙ sym read
      | no m ↦
          let past : length ns ≤ k = omega arith in
          let there : length ns + (k - length ns) ≡ k = omega arith in
          get_or-append_right ns (drop (length ns) zeros) k 0 past
          ∙ get_or-drop (length ns) zeros (k - length ns) 0
          ∙ ap (λ i. get_or zeros i 0) there
          ∙ get_or-replicate 48 k 0 0 at
          ∙ sym (read ∙ get_or-eq_default ns 0 past)
    ])

-- the cascade into whose front the widths at a place of a file were copied
pub held_so : (bytes : List ℕ) (at n m : ℕ) {ws : List ℕ} → n ≤ 48 → at + n ≤ length bytes → m ≡ n → ws ≡ take (at + m - at) (drop at bytes)
    → ◌≡◌ {A = Cascade} (record { count = n; widths = ws ++ drop m (replicate 48 0) }) (held (part at n bytes))
unfolding held
held_so bytes at n m {ws} few h e w =
    let count : at + m - at ≡ n = omega arith in
    let size = length_part at n bytes in
    let is : ws ≡ part at n bytes = w ∙ ap (λ k. take k (drop at bytes)) count ∙ sym (part_within at n bytes h) in
    let all : ws ++ drop m (replicate 48 0) ≡ part 0 48 (part at n bytes) =
    ap₂ (λ l k. l ++ drop k (replicate 48 0)) is (e ∙ sym size) ∙ over_zeros (part at n bytes) (omega (arith, size)) in
    λ i. record { count = sym size i; widths = all i }
