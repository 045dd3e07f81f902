-- The pass of the check, one instruction at a time. Each instruction moves it on, so fuel of the code's length is always enough and can be forgotten.
use Prim.Native.Nat.{ℕ, zero, suc, ◌+◌, ◌≤◌, ◌<◌}
use native.Mathlib.Omega.{arith}
use mathlib.Core.Path.{◌≡◌, refl, sym, ap, ◌∙◌}
use mathlib.Core.Bool.{Bool, true, false, cond}
use mathlib.Core.List.{List, [], ◌∷◌}
use lib.ListN.{length}
use lib.Dec.{ltb}
use borrow.Author.Tests.{lt-ltb, le-ltb, ltb-true}
use Rattle.std.specs.Prelude.{Result, Ok, Err}
use Rattle.refusals.specs.declared.Refusal.{Refusal}
use Rattle.refusals.specs.declared.Rule.{Rule}
use Rattle.refusals.specs.Table.{broken}
use Rattle.blocks.specs.declared.item.Item.{Item}
use Rattle.blocks.specs.Code.{Code}
use Rattle.blocks.specs.declared.rules.Part.{Part}
use Rattle.blocks.specs.Open.{Open, opened_at, in_loop}
use Rattle.lanes.specs.Blocks.{nesting}
use Rattle.blocks.specs.Scan.{Checked, Next, over, go, stray, ended, react, meets, step, carry, scan, run}
use Rattle.blocks.proofs.Widths.{Fits, InCode, SeenInCode}

-- the pass moves on, and stays in the code
abbrev pub Moves : ℕ → ℕ → Next → Type 0
Moves at size (over v) = Unit {0}
Moves at size (go a o) = (at < a) × (a ≤ size)

cond_moves : (at size : ℕ) (b : Bool) (x y : Next) → (b ≡ true → Moves at size x) → (b ≡ false → Moves at size y) → Moves at size (cond b x y)
cond_moves at size true x y p q = p refl
cond_moves at size false x y p q = q refl

react_moves : (i : Item) (at size : ℕ) (o : List Open) → InCode at size i → at < size → Moves at size (react i at o)
unfolding react
react_moves (Item.Plain w) at size o ok h = omega arith
react_moves Item.If at size o ok h =
    cond_moves at size (ltb (length o) nesting) (go (at + 1) (opened_at Part.Before at ∷ o)) (over (Err (broken Rule.Depth at))) (λ _. omega arith) (λ _. tt)
react_moves Item.Else at size [] ok h = tt
react_moves Item.Else at size (opened_at Part.Before p ∷ o) ok h = omega arith
react_moves Item.Else at size (opened_at Part.After p ∷ o) ok h = tt
react_moves Item.Else at size (opened_at Part.Loop p ∷ o) ok h = tt
react_moves Item.Endif at size [] ok h = tt
react_moves Item.Endif at size (opened_at Part.Before p ∷ o) ok h = omega arith
react_moves Item.Endif at size (opened_at Part.After p ∷ o) ok h = omega arith
react_moves Item.Endif at size (opened_at Part.Loop p ∷ o) ok h = tt
react_moves Item.Loop at size o ok h =
    cond_moves at size (ltb (length o) nesting) (go (at + 1) (opened_at Part.Loop at ∷ o)) (over (Err (broken Rule.Depth at))) (λ _. omega arith) (λ _. tt)
react_moves Item.Jump at size o ok h = cond_moves at size (in_loop o) (go (at + 1) o) (stray at) (λ _. omega arith) (λ _. tt)
react_moves Item.Endloop at size [] ok h = tt
react_moves Item.Endloop at size (opened_at Part.Before p ∷ o) ok h = tt
react_moves Item.Endloop at size (opened_at Part.After p ∷ o) ok h = tt
react_moves Item.Endloop at size (opened_at Part.Loop p ∷ o) ok h = omega arith

meets_moves : (x : Result Item Refusal) (at size : ℕ) (o : List Open) → SeenInCode at size x → at < size → Moves at size (meets x at o)
meets_moves (Ok i) at size o ok h = react_moves i at size o ok h
meets_moves (Err r) at size o ok h = tt

-- past the end, and in the code
pub step_past : (code : Code) (at : ℕ) (o : List Open) → code.size ≤ at → step code at o ≡ over (ended o)
unfolding step
step_past code at o h = simp (le-ltb at code.size h)

pub step_in : (code : Code) (at : ℕ) (o : List Open) → at < code.size → step code at o ≡ meets (code.item at) at o
unfolding step
step_in code at o h = simp (lt-ltb at code.size h)

pub step_seen : (code : Code) (at : ℕ) (o : List Open) {i : Item} → at < code.size → code.item at ≡ Ok i → step code at o ≡ react i at o
step_seen code at o h e = step_in code at o h ∙ ap (λ (x : Result Item Refusal). meets x at o) e

-- two passes that agree further on agree here
pub carry_same : {A : Type 0} (at size : ℕ) (f : Checked → A) (g h : ℕ → List Open → A) → ((a : ℕ) (o : List Open) → at < a → g a o ≡ h a o)
    → (x : Next) → Moves at size x → carry f g x ≡ carry f h x
carry_same at size f g h e (over v) m = refl
carry_same at size f g h e (go a o) m = e a o m.0

module _ (code : Code) (fits : Fits code) where
  pub step_moves : (at : ℕ) (o : List Open) → Moves at code.size (step code at o)
  unfolding step
  step_moves at o =
      cond_moves at code.size (ltb at code.size) (meets (code.item at) at o) (over (ended o))
      (λ e. meets_moves (code.item at) at code.size o (fits at (ltb-true _ _ e)) (ltb-true _ _ e)) (λ _. tt)

  -- fuel that is enough is enough
  steady : (n m at : ℕ) (o : List Open) → code.size ≤ at + n → code.size ≤ at + m → scan code n at o ≡ scan code m at o
  unfolding scan
  steady zero zero at o h k = refl
  steady zero (suc m) at o h k = sym (ap (carry (λ v. v) (scan code m)) (step_past code at o (omega arith)))
  steady (suc n) zero at o h k = ap (carry (λ v. v) (scan code n)) (step_past code at o (omega arith))
  steady (suc n) (suc m) at o h k =
      carry_same at code.size (λ v. v) (scan code n) (scan code m) (λ a o' lt. steady n m a o' (omega arith) (omega arith)) (step code at o) (step_moves at o)

  pub run_step : (at : ℕ) (o : List Open) → run code at o ≡ carry (λ v. v) (run code) (step code at o)
  unfolding run scan
  run_step at o = steady code.size (suc code.size) at o (omega arith) (omega arith)

  pub run_to : (at : ℕ) (o : List Open) (x : Next) → at < code.size → meets (code.item at) at o ≡ x → run code at o ≡ carry (λ v. v) (run code) x
  run_to at o x h e = run_step at o ∙ ap (carry (λ v. v) (run code)) (step_in code at o h ∙ e)

  -- an instruction of the code does what it does to the open blocks
  pub run_seen : (at : ℕ) (o : List Open) (x : Next) {i : Item} → at < code.size → code.item at ≡ Ok i → react i at o ≡ x
      → run code at o ≡ carry (λ v. v) (run code) x
  run_seen at o x h e f = run_to at o x h (ap (λ (y : Result Item Refusal). meets y at o) e ∙ f)

  -- and one that is refused by itself ends the pass
  pub run_refused : (at : ℕ) (o : List Open) {r : Refusal} → at < code.size → code.item at ≡ Err r → run code at o ≡ Err r
  run_refused at o {r} h e = run_to at o (over (Err r)) h (ap (λ (y : Result Item Refusal). meets y at o) e)

  pub run_past : (at : ℕ) (o : List Open) → code.size ≤ at → run code at o ≡ ended o
  run_past at o h = run_step at o ∙ ap (carry (λ v. v) (run code)) (step_past code at o h)
