-- The two buffers that the passes go between, and which of them holds the picture.
use Rattle.std.specs.Prelude.{◌≡◌, cond, List, ℕ, eqb, length, fold}
use Rattle.spec.specs.Recipe.{Recipe}
use Rattle.passes.specs.declared.buffers.Buffer.{Buffer}
use Rattle.passes.specs.declared.buffers.Buffer.TheVariants.{Out, Work}
use Rattle.passes.specs.declared.buffers.Buffers.{Buffers}

-- of two lists the one in a buffer
abbrev pub present : Buffer → List ℕ → List ℕ → List ℕ
present Out a b = a
present Work a b = b

-- what the buffer holds that has the picture
abbrev pub held : Buffers → List ℕ
held b = present b.holder b.out.now b.work.now

-- the same two buffers, as long as before
pub record SameBuffers (old new : Buffers) : Type 0 where
  pub out : new.out.ghost_name ≡ old.out.ghost_name
  pub work : new.work.ghost_name ≡ old.work.ghost_name
  pub long : length new.out.now ≡ length old.out.now

abbrev pub other : Buffer → Buffer
other Out = Work
other Work = Out

-- each width but 1 takes the picture into the other buffer
unfoldable pub turned : ℕ → Buffer → Buffer
turned n b = cond (eqb n 1) b (other b)

abbrev pub turned_by : List ℕ → Buffer → Buffer
turned_by ns b = fold (λ x n. turned n x) b ns

-- so by all widths of a recipe
abbrev pub turned_all : Recipe → Buffer → Buffer
turned_all r b = turned_by r.columns (turned_by r.rows b)
