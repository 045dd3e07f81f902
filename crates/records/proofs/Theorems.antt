-- What the promises of `read` and `firsts` come to: a file that was made is accepted, and a refusal leaves the output as lent.
use Rattle.std.specs.Prelude.{Ok, Err}
use mathlib.Core.Path.{◌≡◌, refl}
use Prim.Native.Nat.{ℕ}
use mathlib.Core.List.{List}
use lib.Dec.{leb, eqb}
use lib.ListN.{length}
use Rattle.refusals.specs.declared.Refusal.{Refusal}
use native.Mathlib.Omega.{arith}
use Rattle.ground.proofs.Choices.{cond_by}
use Rattle.dayfile.specs.Day.{Layout, count_of, file_of, Listed}
use Rattle.dayfile.proofs.Layouts.{Lawful}
use Rattle.records.specs.Read.{refusal_of, Counting, firsts_in}
use Rattle.records.proofs.Accepted.{given_accepted}

-- THEOREM: a file that was made is accepted
pub made_accepted : {L : Layout} (K : Lawful L) (bs : List (List ℕ)) → Listed L bs → refusal_of L (file_of bs) ≡ 0
made_accepted K bs h = given_accepted K (file_of bs) (record { bodies = bs; listed = h; file = refl })

pub uncounted : (k : ℕ) (x : Refusal) → Ok k ≡ Err x → ⊥
uncounted k x e = let z : ◌≡◌ {A = ℕ} 0 1 = cc in omega arith

-- THEOREM: firsts that are refused change nothing
pub firsts_refused_keeps : (L : Layout) (x : Refusal) (f out : List ℕ) → (firsts_in L f out).answer ≡ Err x → (firsts_in L f out).out ≡ out
unfolding firsts_in
firsts_refused_keeps L x f out =
    cond_by (λ (c : Counting). c.answer ≡ Err x → c.out ≡ out) (eqb (refusal_of L f) 0) _ _
    (λ t.
    cond_by (λ (c : Counting). c.answer ≡ Err x → c.out ≡ out) (leb (count_of f) (length out)) _ _
    (λ u e. absurd (uncounted (count_of f) x e))
    (λ u e. refl))
    (λ t e. refl)
