-- An instruction has one word or two, as its second word's form says.
use mathlib.Core.Path.{◌≡◌, refl}
use mathlib.Core.List.{[], ◌∷◌}
use Prim.Native.Nat.{ℕ, suc, ◌≤◌}
use native.Mathlib.Omega.{arith}
use lib.ListN.{length, get_or}
use borrow.Author.Rules.{rules}
use Rattle.instructions.specs.declared.instr.Instr.{Instr}
use Rattle.instructions.specs.declared.forms.Second.{Second}
use Rattle.instructions.specs.Forms.{limits_of, size_of}
use Rattle.words.specs.Layout.{rest_of, words_of}

-- what holds of 1 and of 2 holds of a size
pub sizes : (P : ℕ → Type 0) → P 1 → P 2 → (s : Second) → P (size_of s)
sizes P a b Second.Nothing = a
sizes P a b Second.Number = b
sizes P a b (Second.Registers x y z) = b

pub size_positive : (s : Second) → 1 ≤ size_of s
size_positive s = sizes (λ (n : ℕ). 1 ≤ n) (search rules) (search rules) s

pub size_most : (s : Second) → size_of s ≤ 2
size_most s = sizes (λ (n : ℕ). n ≤ 2) (search rules) (search rules) s

pub size_one : (s : Second) → (size_of s ≡ 2 → ⊥) → size_of s ≡ 1
size_one s = sizes (λ (n : ℕ). (n ≡ 2 → ⊥) → n ≡ 1) (λ h. refl) (λ h. absurd (h refl)) s

rest_length : (s : Second) (i : Instr) → suc (length (rest_of s i)) ≡ size_of s
rest_length Second.Nothing i = refl
rest_length Second.Number i = refl
rest_length (Second.Registers x y z) i = refl

pub words_length : (i : Instr) → length (words_of i) ≡ size_of (limits_of i.op).second
words_length i = rest_length (limits_of i.op).second i

-- the words after the first
pub rest_one : (s : Second) (i : Instr) → size_of s ≡ 1 → rest_of s i ≡ []
rest_one Second.Nothing i e = refl
rest_one Second.Number i e = absurd (omega arith)
rest_one (Second.Registers x y z) i e = absurd (omega arith)

pub rest_two : (s : Second) (i : Instr) → size_of s ≡ 2 → rest_of s i ≡ get_or (rest_of s i) 0 0 ∷ []
rest_two Second.Nothing i e = absurd (omega arith)
rest_two Second.Number i e = refl
rest_two (Second.Registers x y z) i e = refl
