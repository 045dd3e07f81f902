-- The definitions give what the page says of every case of the marked table, by computation. Of a launch the registers stay variables, and the
-- run is computed with the least budget: one that is larger comes to the same.
use mathlib.Core.Path.{◌≡◌, refl, ap, ◌∙◌}
use mathlib.Core.Bool.{true}
use mathlib.Core.List.{List, [], ◌∷◌, flat_map}
use Prim.Native.Nat.{ℕ, ◌+◌, ◌-◌, ◌*◌, ◌≤◌}
use native.Mathlib.Omega.{arith}
use lib.Dec.{leb}
use lib.ListN.{length, get_or, take, drop}
use lib.Seq.{take-append_seam}
use borrow.Author.Tests.{le-leb}
use Rattle.ground.specs.Lists.{tabulate, in_order}
use Rattle.ground.specs.Tests.{same_list, one_of, all_of}
use Rattle.ground.proofs.Lists.{length-tabulate, tabulate_ext}
use Rattle.lanes.specs.Sets.{bit, has, without, first, only, set_of}
use Rattle.fetching.specs.Fetching.{fetch_at}
use Rattle.std.specs.Prelude.{Ok}
use Rattle.blocks.specs.Item.{item_at}
use Rattle.blocks.specs.Code.{code_of}
use Rattle.blocks.specs.Scan.{check_of}
use Rattle.blocks.specs.Open.{in_loop}
use Rattle.blocks.specs.Scan as blocks
use Rattle.control.specs.Control as control
use Rattle.faulting.specs.Causes.{fault_lanes}
use Rattle.lanes.specs.EachLane.{by_lane}
use Rattle.compute.specs.Registers.{slot, gather_of, write_lanes}
use Rattle.compute.specs.Memory.{changes_of}
use Rattle.compute.specs.Values.{results_of, predicate_of}
use Rattle.compute.specs.Carrying.{faults_of, after_of, carried_of}
use Rattle.stepping.specs.declared.settings.Settings.{Settings}
use Rattle.stepping.specs.declared.answers.Outcome.{Outcome}
use Rattle.stepping.specs.declared.answers.Outcome.TheVariants.{OutOfBudget}
use Rattle.stepping.specs.Machine.{Machine}
use Rattle.stepping.specs.Step.{step_of}
use Rattle.stepping.specs.Run.{Ran, run_of}
use Rattle.stepping.specs.Answer.{ending}
use Rattle.replay.specs.Replay.{most_words, most_steps, launch_machine, launch_of}
use Rattle.runs.proofs.Adding.{following, runs_add}
use Rattle.runs.proofs.Returns.{Launchable, passes, launched as launch-run}
use Rattle.numbers.specs.Numbers.{bytes_of, bytes_of_all}
use Rattle.numbers.proofs.Placing.{placed_front}
use Rattle.lanes.specs.declared.said.Block.{Block}
use Rattle.lanes.specs.declared.said.Fault.{Fault}
use Rattle.formats.specs.Format.{bytes_in, number, both, counted, seen_as}
use Rattle.body.specs.Body.{Parts, fault_format, block_format, body_format, bytes_of_body}
use Rattle.body.specs.Layout.{kind_lists, apart, faults_fit, block_fits, of_layout, fits_layout}
use Rattle.key.specs.Key.{blocks_of, parts_of, body_key, outcome_key, key_of}
use Rattle.marked.specs.Table.{Answer, ended, faulted, least, Open, settings, written, launched, launching, Gives, Each, all, ◌&◌, t11, t12, t13, t14, table}

-- ---- a launch with budget enough

-- a run that stopped for another reason than its budget goes no further with more
stops : (o : Outcome) (r x : Ran) → (o ≡ OutOfBudget → ⊥) → following o r x ≡ r
stops Outcome.Ended r x f = refl
stops Outcome.OutOfBudget r x f = absurd (f refl)
stops (Outcome.Fault e) r x f = refl
stops (Outcome.Refused q) r x f = refl

module _ (s : Settings) (code : List ℕ) (l : Launchable s code) (regs device local : List ℕ) (b : ℕ) where
  abbrev m : Machine
  m = launch_machine s regs device local

  comes_to : length regs ≡ s.width * s.registers → b ≤ s.budget → s.budget ≤ most_steps → ((run_of s code b m).outcome ≡ OutOfBudget → ⊥)
      → launch_of s code regs device local ≡ ending (run_of s code b m)
  comes_to long enough allowed f =
      let z : s.budget ≡ b + (s.budget - b) = omega arith in
      launch-run s code regs device local (passes s code l s.budget regs allowed long)
      ∙ ap ending
      (ap (λ (k : ℕ). run_of s code k m) z ∙ runs_add s code (s.budget - b) b m ∙ stops (run_of s code b m).outcome (run_of s code b m) _ f)

-- ---- the key of a fault, in room enough

key_bytes : (p : Parts) (room : List ℕ) → fits_layout p ≡ true → length (bytes_of_body p) ≤ length room → written (body_key p room) ≡ bytes_of_body p
unfolding body_key
key_bytes p room f h =
    let b = bytes_of_body p in
    rw (f, le-leb (length b) (length room) h) (ap (take (length b)) (placed_front room b h) ∙ take-append_seam b (drop (length b) room))

-- ---- a launch of the table

module _ (W n R : ℕ) (words : List ℕ) (said : Answer) where
  -- its machine, the registers each a variable
  abbrev start : Open W R (least said) → Machine
  start o = launch_machine (settings W n R o.budget) (tabulate (W * R) (λ i. get_or o.regs i 0)) o.device o.local

  -- what it comes to with the least budget
  abbrev least_run : Open W R (least said) → Ran
  least_run o = run_of (settings W n R o.budget) words (least said) (start o)

  gives : ((b : ℕ) → Launchable (settings W n R b) words) → ((o : Open W R (least said)) → (least_run o).outcome ≡ OutOfBudget → ⊥)
      → ((o : Open W R (least said)) → launched W n R o.room (ending (least_run o)) ≡ said) → Gives (launching W n R words) said
  gives lawful stopped says o =
      let s = settings W n R o.budget in
      let f : ℕ → ℕ = λ i. get_or o.regs i 0 in
      let same : o.regs ≡ tabulate (W * R) f = tabulate_ext (W * R) f o.regs o.whole (λ k h. refl) in
      ap (launched W n R o.room)
      (ap (λ (regs : List ℕ). launch_of s words regs o.device o.local) same
      ∙ comes_to s words (lawful o.budget) (tabulate (W * R) f) o.device o.local (least said) (length-tabulate (W * R) f) o.enough
      o.allowed (stopped o))
      ∙ says o

-- no other outcome is want of budget
other_outcome : ◌≡◌ {A = ℕ} 0 1 → ⊥
other_outcome e = omega arith

-- the table's launches pass the tests, with W 8 and R 2
lawful : (n : ℕ) (words : List ℕ) → leb 1 n ≡ true → leb n 8 ≡ true → leb (length words) most_words ≡ true → check_of (code_of words (record { registers = 2 })) ≡ Ok tt
    → (b : ℕ) → Launchable (settings 8 n 2 b) words
lawful n words some few short checked b =
    record {
      widths = refl;
      some_register = refl;
      few_registers = refl;
      some_lane = some;
      few_lanes = few;
      short = short;
      checked = checked;
    }

-- what the bodies say: T11's that both lanes' sums reach 2^32; T13's and T14's a division by zero of lane 0, in T14's loop, opened at 5 and
-- entered by three lanes, of which lane 1 broke it
abbrev parts : ℕ → Fault → ℕ → List Block → Parts
parts place fault active blocks = record { kernel = 7; place = place; faults = fault ∷ []; active = active; halted = 0; blocks = blocks }

abbrev over : Fault
over = record { kind = 6; lanes = 3 }

abbrev divided : Fault
divided = record { kind = 4; lanes = 1 }

abbrev broken : List Block
broken = record { part = 3; opener = 5; entered = 7; aside = 2; again = 0; left = 0 } ∷ []

abbrev t11_body : Parts
t11_body = parts 2 over 3 []

abbrev t13_body : Parts
t13_body = parts 1 divided 3 []

abbrev t14_body : Parts
t14_body = parts 7 divided 5 broken

layout : (fits_layout t11_body ≡ true) × (fits_layout t13_body ≡ true) × (fits_layout t14_body ≡ true)
unfolding of_layout faults_fit block_fits kind_lists apart same_list one_of all_of flat_map bytes_in number both counted seen_as fault_format block_format body_format
layout = (refl, refl, refl)

lengths : (length (bytes_of_body t11_body) ≡ 32) × (length (bytes_of_body t13_body) ≡ 32) × (length (bytes_of_body t14_body) ≡ 56)
unfolding flat_map bytes_in number both counted seen_as fault_format block_format body_format
lengths = (refl, refl, refl)

bodies : (bytes_of_body t11_body ≡ bytes_of_all (7 ∷ 2 ∷ 1 ∷ 6 ∷ 3 ∷ 3 ∷ 0 ∷ 0 ∷ []))
    × (bytes_of_body t13_body ≡ bytes_of_all (7 ∷ 1 ∷ 1 ∷ 4 ∷ 1 ∷ 3 ∷ 0 ∷ 0 ∷ []))
    × (bytes_of_body t14_body ≡ bytes_of_all (7 ∷ 7 ∷ 1 ∷ 4 ∷ 1 ∷ 5 ∷ 0 ∷ 1 ∷ 3 ∷ 5 ∷ 7 ∷ 2 ∷ 0 ∷ 0 ∷ []))
unfolding flat_map bytes_of bytes_of_all bytes_in number both counted seen_as fault_format block_format body_format
bodies = (refl, refl, refl)

-- THE MARKED TABLE
pub marked : Each table
unfolding flat_map tabulate in_order bit has without first only set_of fetch_at item_at in_loop blocks.react blocks.ended blocks.step blocks.scan blocks.run control.control_rule control.fault_lanes slot by_lane gather_of write_lanes changes_of results_of predicate_of fault_lanes faults_of after_of carried_of step_of run_of blocks_of parts_of outcome_key key_of
marked =
    refl & refl & refl & refl & refl & refl & refl & refl & refl & refl & refl & refl
    & gives 8 2 2 t11 _ (lawful 2 t11 refl refl refl refl) (λ o e. other_outcome cc)
    (λ o. ap (faulted 1) (key_bytes t11_body o.room layout.0 (omega (arith, lengths.0, o.roomy)) ∙ bodies.0))
    & gives 8 4 2 t12 (ended 9 (7 ∷ 8 ∷ 2 ∷ 2 ∷ []) 12) (lawful 4 t12 refl refl refl refl) (λ o e. other_outcome cc) (λ o. refl)
    & gives 8 2 2 t13 _ (lawful 2 t13 refl refl refl refl) (λ o e. other_outcome cc)
    (λ o. ap (faulted 1) (key_bytes t13_body o.room layout.1 (omega (arith, lengths.1, o.roomy)) ∙ bodies.1))
    & gives 8 3 2 t14 _ (lawful 3 t14 refl refl refl refl) (λ o e. other_outcome cc)
    (λ o. ap (faulted 5) (key_bytes t14_body o.room layout.2 (omega (arith, lengths.2, o.roomy)) ∙ bodies.2))
    & all
