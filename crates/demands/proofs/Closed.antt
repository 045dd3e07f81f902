-- Blocks do close: T12's IF, which lanes 2 and 3 left by HALT, and a loop that one lane left by HALT and two by BREAK. Each is computed from the
-- launch, with the path read before the closing step and the lanes that were active after it.
use mathlib.Core.Path.{◌≡◌, refl}
use mathlib.Core.List.{List, [], ◌∷◌}
use Prim.Native.Nat.{ℕ}
use lib.ListN.{replicate, drop}
use Rattle.ground.specs.Lists.{tabulate, in_order}
use Rattle.lanes.specs.Sets.{bit, has, without, first, only, set_of}
use Rattle.fetching.specs.Fetching.{fetch_at}
use Rattle.blocks.specs.Item.{item_at}
use Rattle.blocks.specs.Open.{in_loop}
use Rattle.blocks.specs.Scan as blocks
use Rattle.nesting.specs.OpenAt as places
use Rattle.control.specs.Control as control
use Rattle.faulting.specs.Causes.{fault_lanes}
use Rattle.lanes.specs.declared.said.Block.{Block}
use Rattle.lanes.specs.EachLane.{by_lane}
use Rattle.compute.specs.Registers.{slot, gather_of, write_lanes}
use Rattle.compute.specs.Memory.{changes_of}
use Rattle.compute.specs.Values.{results_of, predicate_of}
use Rattle.compute.specs.Carrying.{faults_of, after_of, carried_of}
use Rattle.stepping.specs.Step.{step_of}
use Rattle.stepping.specs.Run.{run_of}
use Rattle.replay.specs.Replay.{most_steps, launch_of}
use Rattle.marked.specs.Table.{settings, t12}
use Rattle.demands.specs.Steps.{Step, steps_of}
use Rattle.demands.specs.Path.{unclosed, blocks_in, loops_in, turned_in, aside_of, again_of, left_of, marks_of, path_from}
use Rattle.demands.specs.History.{Point, after_launch}
use Rattle.demands.specs.Closing.{ClosesBlock}

-- a launch of n lanes at W 8, R 2, registers 0 and no memory
abbrev launched_at : ℕ → List ℕ → Point
launched_at n code = after_launch (settings 8 n 2 most_steps) code (replicate 16 0) [] []

-- the newest of the steps closes this block
abbrev Closes : Block → List Step → Type 0
Closes b [] = ⊥
Closes b (e ∷ es) = ClosesBlock [] e es × (path_from [] es ≡ (b ∷ []))

-- the lanes active before the newest of the steps
abbrev active_at : List Step → ℕ
active_at [] = 0
active_at (e ∷ es) = e.active

-- MOV_SPECIAL r0, lane; MOV_IMM r1, 1; EQ p1, r0, r1; LT p2, r0, r1; LOOP; BREAK on p1; HALT on p2; BREAK; ENDLOOP
abbrev broken_and_halted : List ℕ
broken_and_halted =
    0xF2000000 ∷ 0xF1010000 ∷ 0x00000001 ∷ 0x28010000 ∷ 0x01000000 ∷ 0x2A020000 ∷ 0x01000000
    ∷ 0x3F000030 ∷ 0x3F000041 ∷ 0x3F000092 ∷ 0x3F000040 ∷ 0x3F000060 ∷ []

-- T12's last step but one, ENDIF: lanes 0 to 3 entered, 2 and 3 left, and the last step, ADD, has 0 and 1 active
pub if_closes : Closes (record { part = 2; opener = 5; entered = 15; aside = 3; again = 0; left = 12 }) (drop 1 (launched_at 4 t12).steps)
    × (active_at (launched_at 4 t12).steps ≡ 3)
unfolding tabulate in_order bit has without first only set_of fetch_at item_at in_loop blocks.react blocks.ended blocks.step blocks.scan blocks.run places.walk places.seek control.control_rule control.fault_lanes slot by_lane gather_of write_lanes changes_of results_of predicate_of fault_lanes faults_of after_of carried_of step_of run_of launch_of steps_of unclosed blocks_in loops_in turned_in aside_of again_of left_of marks_of
if_closes = ((refl, refl), refl)

-- the last step, ENDLOOP: lanes 0 to 2 entered, 0 halted, and 1 and 2, which broke the loop, are active at the end
pub loop_closes : Closes (record { part = 3; opener = 7; entered = 7; aside = 6; again = 0; left = 1 }) (launched_at 3 broken_and_halted).steps
    × ((launched_at 3 broken_and_halted).answer.state.hot.active ≡ 6)
unfolding tabulate in_order bit has without first only set_of fetch_at item_at in_loop blocks.react blocks.ended blocks.step blocks.scan blocks.run places.walk places.seek control.control_rule control.fault_lanes slot by_lane gather_of write_lanes changes_of results_of predicate_of fault_lanes faults_of after_of carried_of step_of run_of launch_of steps_of unclosed blocks_in loops_in turned_in aside_of again_of left_of marks_of
loop_closes = ((refl, refl), refl)
