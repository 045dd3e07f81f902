-- The walk to a place, one instruction at a time, and how far `open_at` has come on it.
use Prim.Native.Nat.{ℕ, zero, suc, ◌+◌, ◌≤◌, ◌<◌}
use native.Mathlib.Omega.{arith}
use mathlib.Core.Path.{◌≡◌, refl, sym, ap, ◌∙◌, subst}
use mathlib.Core.Bool.{Bool, cond}
use mathlib.Core.List.{List}
use lib.Dec.{eqb}
use borrow.Author.Tests.{eq-eqb, ne_eqb}
use Rattle.std.specs.Prelude.{Option, Some, None}
use Rattle.nesting.specs.declared.places.Stack.{Stack}
use Rattle.std.proofs.lemmas.Option.{none-some, same_Some}
use Rattle.blocks.specs.Code.{Code}
use Rattle.blocks.specs.Open.{Open}
use Rattle.blocks.specs.Scan.{Next, over, go, step, carry}
use Rattle.nesting.specs.OpenAt.{Found, seek, walk, open_at, shown}
use Rattle.nesting.specs.Stacks.{Holds, Advances}
use Rattle.blocks.proofs.Widths.{Fits}
use Rattle.blocks.proofs.Passes.{Moves, step_moves, step_past, carry_same}
use Rattle.nesting.proofs.Stacks.{holds_is}

-- what follows the place where the walk stands
abbrev pub onwards : (ℕ → List Open → Found) → Next → Found
onwards f x = carry (λ v. None) f x

-- past the place, nothing is found
carry_passed : (at size : ℕ) (f : ℕ → List Open → Found) → ((a : ℕ) (o : List Open) → at < a → f a o ≡ None) → (x : Next) → Moves at size x → onwards f x ≡ None
carry_passed at size f e (over v) m = refl
carry_passed at size f e (go a o) m = e a o m.0

module _ (code : Code) (fits : Fits code) (place : ℕ) where
  -- fuel that is enough is enough
  steady : (n m at : ℕ) (o : List Open) → code.size ≤ at + n → code.size ≤ at + m → seek code place n at o ≡ seek code place m at o
  unfolding seek
  steady zero zero at o h k = refl
  steady zero (suc m) at o h k =
      sym (ap (λ (x : Next). cond (eqb at place) (Some o) (onwards (seek code place m) x)) (step_past code at o (omega arith)))
  steady (suc n) zero at o h k =
      ap (λ (x : Next). cond (eqb at place) (Some o) (onwards (seek code place n) x)) (step_past code at o (omega arith))
  steady (suc n) (suc m) at o h k =
      ap (cond (eqb at place) (Some o))
      (carry_same at code.size (λ v. None) (seek code place n) (seek code place m) (λ a o' lt. steady n m a o' (omega arith) (omega arith))
      (step code at o) (step_moves code fits at o))

  walk_step : (at : ℕ) (o : List Open) → walk code place at o ≡ cond (eqb at place) (Some o) (onwards (walk code place) (step code at o))
  unfolding walk seek
  walk_step at o = steady code.size (suc code.size) at o (omega arith) (omega arith)

  pub walk_here : (at : ℕ) (o : List Open) → at ≡ place → walk code place at o ≡ Some o
  walk_here at o e = walk_step at o ∙ ap (λ (b : Bool). cond b (Some o) (onwards (walk code place) (step code at o))) (eq-eqb at place e)

  pub walk_on : (at : ℕ) (o : List Open) (x : Next) → (at ≡ place → ⊥) → step code at o ≡ x → walk code place at o ≡ onwards (walk code place) x
  walk_on at o x ne e =
      walk_step at o ∙ ap (λ (b : Bool). cond b (Some o) (onwards (walk code place) (step code at o))) (ne_eqb at place ne) ∙ ap (onwards (walk code place)) e

  seek_passed : (n at : ℕ) (o : List Open) → place < at → seek code place n at o ≡ None
  unfolding seek
  seek_passed zero at o h = ap (λ (b : Bool). cond b (Some o) None) (ne_eqb at place (λ e. omega arith))
  seek_passed (suc n) at o h =
      ap (λ (b : Bool). cond b (Some o) (onwards (seek code place n) (step code at o))) (ne_eqb at place (λ e. omega arith))
      ∙ carry_passed at code.size (seek code place n) (λ a o' lt. seek_passed n a o' (omega arith)) (step code at o) (step_moves code fits at o)

  pub walk_passed : (at : ℕ) (o : List Open) → place < at → walk code place at o ≡ None
  unfolding walk
  walk_passed at o h = seek_passed code.size at o h

-- the loop's invariant: the walk from the start comes to `at`, with the blocks open that the stack holds
pub record Walked (code : Code) (place : ℕ) (s : Stack) (at : ℕ) : Type 0 where
  pub fits : Fits code
  pub blocks : List Open
  pub holds : Holds s blocks
  pub same : open_at code place ≡ walk code place at blocks

-- an advance that goes on
record Onward (x : Next) (next : ℕ) (t : Stack) : Type 0 where
  blocks : List Open
  goes : x ≡ go next blocks
  holds : Holds t blocks

onward : (x : Next) {r : Option ℕ} {t : Stack} {next : ℕ} → Advances x r t → r ≡ Some next → Onward x next t
onward (over v) {next = next} a e = absurd (none-some next (sym a ∙ e))
onward (go at o) {next = next} a e = let z : next ≡ at = same_Some next at (sym e ∙ a.0) in record { blocks = o; goes = ap (λ (n : ℕ). go n o) (sym z); holds = a.1 }

-- and one that does not
halted : (x : Next) {r : Option ℕ} (t : Stack) (f : ℕ → List Open → Found) → Advances x r t → r ≡ None → onwards f x ≡ None
halted (over v) t f a e = refl
halted (go at o) t f a e = absurd (none-some at (sym e ∙ a.0))

module _ {code : Code} {place : ℕ} {s : Stack} {at : ℕ} (w : Walked code place s at) where
  module _ {r : Option ℕ} (t : Stack) (lt : at < place) (f : (o : List Open) → Holds s o → Advances (step code at o) r t) where
    gone : {next : ℕ} → r ≡ Some next → Onward (step code at w.blocks) next t
    gone e = onward (step code at w.blocks) (f w.blocks w.holds) e

    pub further : {next : ℕ} → r ≡ Some next → Walked code place t next
    further {next} e =
        record {
          fits = w.fits;
          blocks = (gone e).blocks;
          holds = (gone e).holds;
          same = w.same ∙ walk_on code w.fits place at w.blocks (go next (gone e).blocks) (λ q. omega arith) (gone e).goes;
        }

    pub farther : {next : ℕ} → r ≡ Some next → at < next
    farther e = (subst (Moves at code.size) (gone e).goes (step_moves code w.fits at w.blocks)).0

    pub nothing : r ≡ None → None ≡ shown (open_at code place)
    nothing e =
        ap shown
        (sym
        (w.same ∙ walk_on code w.fits place at w.blocks (step code at w.blocks) (λ q. omega arith) refl
        ∙ halted (step code at w.blocks) t (walk code place) (f w.blocks w.holds) e))

  pub arrived : at ≡ place → Some s ≡ shown (open_at code place)
  arrived e =
      ap Some (holds_is s w.blocks w.holds) ∙ ap shown (sym (w.same ∙ walk_here code w.fits place at w.blocks e))

  pub missed : place ≤ at → (at ≡ place → ⊥) → None ≡ shown (open_at code place)
  missed h ne = ap shown (sym (w.same ∙ walk_passed code w.fits place at w.blocks (omega arith)))
