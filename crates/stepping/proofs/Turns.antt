-- What the loop of a run keeps from turn to turn, and how each way out of it gives the run.
use Prim.Native.Nat.{ℕ, suc, ◌+◌, ◌-◌, ◌≤◌, ◌<◌}
use mathlib.Core.Path.{◌≡◌, refl, ap, sym, ◌∙◌}
use mathlib.Core.Bool.{true, false}
use mathlib.Core.List.{List}
use native.Mathlib.Omega.{arith}
use native.Mathlib.Nat.{add-zero}
use lib.ListN.{length}
use Rattle.faulting.specs.Kinds.{clear}
use Rattle.words.specs.declared.reading.Fetched.{Fetched}
use Rattle.fetching.specs.Fetching.{fetch_at}
use Rattle.stepping.specs.declared.settings.Settings.{Settings}
use Rattle.stepping.specs.declared.answers.Outcome.{Outcome}
use Rattle.stepping.specs.declared.answers.Outcome.TheVariants.{Ended, OutOfBudget, Fault}
use Rattle.stepping.specs.Machine.{Machine}
use Rattle.stepping.specs.Step.{Stepped, step_of}
use Rattle.stepping.specs.Run.{stop, later, ended_of, step_at, run_of}
use Rattle.stepping.proofs.Runs.{done, keeps, at_ended, at_budget, at_fault, at_clear, later_zero, later_later}

later_stop : (n : ℕ) (o : Outcome) (m : Machine) → later n (stop o m) ≡ done o n m
later_stop n o m = ap (λ (k : ℕ). done o k m) (add-zero n)

-- the buffers of a machine are as long as another's
pub record SameLengths (m m₀ : Machine) : Type 0 where
  pub regs : length m.regs ≡ length m₀.regs
  pub device : length m.memories.device ≡ length m₀.memories.device
  pub local : length m.memories.local ≡ length m₀.memories.local

-- n steps of the budget are made, and m is the machine: the rest of the run from m is the run
pub record Going (s : Settings) (code : List ℕ) (budget n : ℕ) (m₀ m : Machine) : Type 0 where
  pub fewer : n ≤ budget
  pub rest : run_of s code budget m₀ ≡ later n (run_of s code (budget - n) m)
  pub long : SameLengths m m₀

pub start : (s : Settings) (code : List ℕ) (budget : ℕ) (m : Machine) → Going s code budget 0 m m
start s code budget m =
    record {
      fewer = omega arith;
      rest = sym (later_zero (run_of s code (budget - 0) m) ∙ ap (λ (b : ℕ). run_of s code b m) (omega arith));
      long = record { regs = refl; device = refl; local = refl };
    }

-- a turn of the loop: before it n steps of the budget were made, and x is what its step gave
pub record Turn (s : Settings) (code : List ℕ) (budget n : ℕ) (m₀ : Machine) (x : Stepped) : Type 0 where
  pub machine : Machine
  pub going : Going s code budget n m₀ machine
  pub unended : ended_of s code machine ≡ false
  pub unspent : n ≡ budget → ⊥
  pub fetched : Fetched
  pub reads : fetched ≡ fetch_at code machine.wave.place
  pub steps : x ≡ step_of s fetched machine
  pub same : SameLengths x.end machine

pub turn : {s : Settings} {code : List ℕ} {budget n : ℕ} {m₀ m : Machine} {f : Fetched} {x : Stepped} → Going s code budget n m₀ m
    → ended_of s code m ≡ false → (n ≡ budget → ⊥) → f ≡ fetch_at code m.wave.place → x ≡ step_of s f m → SameLengths x.end m
    → Turn s code budget n m₀ x
turn going unended unspent reads steps same =
    record { machine = _; going = going; unended = unended; unspent = unspent; fetched = _; reads = reads; steps = steps; same = same }

-- ---- the ways out of the loop, and round
module _ {s : Settings} {code : List ℕ} {budget n : ℕ} {m₀ m : Machine} (g : Going s code budget n m₀ m) where
  pub ends : ended_of s code m ≡ true → done Ended n m ≡ run_of s code budget m₀
  ends e = sym (g.rest ∙ ap (later n) (at_ended s code (budget - n) m e) ∙ later_stop n Ended m)

  pub spends : ended_of s code m ≡ false → n ≡ budget → done OutOfBudget n m ≡ run_of s code budget m₀
  spends e q =
      let z : budget - n ≡ 0 = omega arith in
      sym (g.rest ∙ ap (λ (b : ℕ). later n (run_of s code b m)) z ∙ ap (later n) (at_budget s code m e) ∙ later_stop n OutOfBudget m)

module _ {s : Settings} {code : List ℕ} {budget n : ℕ} {m₀ : Machine} {x : Stepped} (t : Turn s code budget n m₀ x) where
  abbrev from : Machine
  from = t.machine

  made : x ≡ step_at s code from
  made = t.steps ∙ ap (λ (f : Fetched). step_of s f from) t.reads

  pub below : n < budget
  below = omega (arith, t.unspent, t.going.fewer)

  pub still_long : SameLengths x.end m₀
  still_long =
      let was = t.going.long in
      record { regs = t.same.regs ∙ was.regs; device = t.same.device ∙ was.device; local = t.same.local ∙ was.local }

  -- the run has a step left, and then the rest
  one_more : run_of s code budget m₀ ≡ later n (run_of s code (suc (budget - (n + 1))) from)
  one_more =
      let e : budget - n ≡ suc (budget - (n + 1)) = omega (arith, below) in
      t.going.rest ∙ ap (λ (b : ℕ). later n (run_of s code b from)) e

  pub faults : clear x.faults ≡ false → done (Fault x.faults) n x.end ≡ run_of s code budget m₀
  faults f =
      let u : clear (step_at s code from).faults ≡ false = rw (← made) f in
      rw made
      (ap (done (Fault (step_at s code from).faults) n) (keeps s _ from u)
      ∙ sym (one_more ∙ ap (later n) (at_fault s code (budget - (n + 1)) from t.unended u) ∙ later_stop n _ from))

  pub goes : clear x.faults ≡ true → Going s code budget (n + 1) m₀ x.end
  goes f =
      let u : clear (step_at s code from).faults ≡ true = rw (← made) f in
      record {
        fewer = omega (arith, below);
        rest =
            one_more ∙ ap (later n) (at_clear s code (budget - (n + 1)) from t.unended u) ∙ later_later n 1 _
            ∙ ap (λ (y : Stepped). later (n + 1) (run_of s code (budget - (n + 1)) y.end)) (sym made);
        long = still_long;
      }
