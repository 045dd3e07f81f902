-- A run answers exactly what the page says.
use Prim.Native.Nat.{ℕ, suc, ◌+◌, ◌-◌}
use native.Mathlib.Nat.{zero-add, add-zero}
use native.Mathlib.Omega.{arith}
use mathlib.Core.Path.{◌≡◌, sym, ap, ◌∙◌}
use mathlib.Core.Bool.{true, false}
use mathlib.Core.List.{List}
use Rattle.faulting.specs.Kinds.{clear}
use Rattle.stepping.specs.declared.settings.Settings.{Settings}
use Rattle.stepping.specs.declared.answers.Outcome.{Outcome}
use Rattle.stepping.specs.Machine.{Machine}
use Rattle.stepping.specs.Run.{Ran, stop, later, ended_of, step_at, run_of}
use Rattle.stepping.proofs.Runs.{done, later_zero, later_later, at_ended, at_budget, at_fault, at_clear, run_induction}
use Rattle.runs.specs.Running.{ComesBy, at_once, further}
use Rattle.runs.specs.Outcomes.{Answers, ended, spent, faulted}

module _ (s : Settings) (code : List ℕ) where
  a_step_later : (b : ℕ) (m : Machine) (r : Ran) → ended_of s code m ≡ false → clear (step_at s code m).faults ≡ true
      → Answers s code b (step_at s code m).end r → Answers s code (suc b) m (later 1 r)
  a_step_later b m r e c (ended w l q) = ended (further e c w) (omega arith) q
  a_step_later b m r e c (spent w q) = let one : suc b ≡ 1 + b = omega arith in rw one (spent (further e c w) q)
  a_step_later b m r e c (faulted w l q f) = faulted (further e c w) (omega arith) q f

  -- THEOREM: what a run answers is of these
  pub run_answers : (b : ℕ) (m : Machine) → Answers s code b m (run_of s code b m)
  run_answers =
      run_induction s code (Answers s code) (λ b m e. ended at_once (omega arith) e) (λ m e. spent at_once e)
      (λ b m e c. faulted at_once (omega arith) e c) a_step_later

  -- the run from where it comes by
  from_there : (n b : ℕ) (m k : Machine) → ComesBy s code n m k → run_of s code (n + b) m ≡ later n (run_of s code b k)
  from_there n b m k at_once = ap (λ (j : ℕ). run_of s code j m) (zero-add b) ∙ sym (later_zero (run_of s code b m))
  from_there n b m k (further {n = n'} e c w) =
      let one : 1 + n' + b ≡ suc (n' + b) = omega arith in
      ap (λ (j : ℕ). run_of s code j m) one ∙ at_clear s code (n' + b) m e c ∙ ap (later 1) (from_there n' b (step_at s code m).end k w)
      ∙ later_later 1 n' (run_of s code b k)

  stops_there : (n b : ℕ) (m k : Machine) (o : Outcome) → ComesBy s code n m k → run_of s code b k ≡ stop o k → run_of s code (n + b) m ≡ done o n k
  stops_there n b m k o w e = from_there n b m k w ∙ ap (later n) e ∙ ap (λ (j : ℕ). done o j k) (add-zero n)

  -- THEOREM: and it answers nothing else
  pub answers_run : (b : ℕ) (m : Machine) (r : Ran) → Answers s code b m r → run_of s code b m ≡ r
  answers_run b m r (ended {n} {k} w l q) =
      let left : n + (b - n) ≡ b = omega arith in rw left at (stops_there n (b - n) m k _ w (at_ended s code (b - n) k q))
  answers_run b m r (spent {k} w q) = rw (add-zero b) at (stops_there b 0 m k _ w (at_budget s code k q))
  answers_run b m r (faulted {n} {k} w l q f) =
      let left : n + suc (b - n - 1) ≡ b = omega arith in rw left at (stops_there n (suc (b - n - 1)) m k _ w (at_fault s code (b - n - 1) k q f))
