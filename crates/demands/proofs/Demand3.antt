-- THE THIRD DEMAND, in the user's order of sentences.
--
--   "Take any run that began at a launch, with code, settings (not the budget), buffers and returned state untouched between calls."
--
-- A `History` is such a run, and more: its first call is a launch, or goes on from a state that fits; later calls have any budgets, a refused one
-- too; and the buffers that a later call is lent may have been changed by others. The user's runs are those with `by_launch` and with `untouched`
-- in every later call.
use mathlib.Core.Path.{◌≡◌}
use mathlib.Core.Logic.{◌↔◌}
use mathlib.Core.List.{List, map}
use Prim.Native.Nat.{ℕ}
use Rattle.wave.specs.Wave.{wave_in}
use Rattle.dayfile.specs.Day.{page}
use Rattle.dayfile.specs.Make.{Makes, file_in}
use Rattle.demands.specs.History.{Calls, blocks_at, last_of, History}
use Rattle.demands.specs.Closing.{EachHandsBack}
use Rattle.demands.specs.Keys.{Faulted, Agree, Writes, body_of}
use Rattle.demands.specs.Days.{Key, bytes}
use Rattle.demands.proofs.Histories.{tells}
use Rattle.demands.proofs.Agreeing.{bodies_agree}
use Rattle.demands.proofs.Days.{all_bodies}
use Rattle.dayfile.proofs.Layouts.{page_lawful}
use Rattle.dayfile.proofs.MadeFiles.{one_list_made}

-- "Every block that closes hands back exactly the lanes that entered it, less those that since halted or broke or continued an outer loop."
-- `EachHandsBack` says so of every step: where it closes a block, the lanes active after it are the block's entered less its left; entered and left
-- are read from the steps before it.
pub hands_back : (c : Calls) → History c
    → EachHandsBack (blocks_at c.start) (wave_in (last_of c).answer.state).active (last_of c).steps
hands_back c h = (tells c h).back

-- "For two such runs that fault, the keys are the same bytes exactly if kernel number, place, faulting lanes by kind, active lanes, halted lanes and
-- the path of open blocks agree, the path read from the steps carried out and not from the tool's own stack."
-- `Writes h out`: the writer of keys, lent `out`, wrote a key for h, and `body_of` is its bytes. `Agree` has the six, the path by `path_from` the steps.
pub same_key : (h h' : Faulted) (out out' : List ℕ) (w : Writes h out) (w' : Writes h' out') → (body_of w ≡ body_of w') ↔ Agree h h'
same_key = bodies_agree

-- "No two different lists of keys give the same day file."
-- `Makes`: the maker of day files, lent the keys one after another and `out`, made a file, and `file_in` is its bytes.
pub one_day : (ks js : List Key) {out out' : List ℕ} (w : Makes page (map bytes ks) out) (w' : Makes page (map bytes js) out') → file_in w ≡ file_in w'
    → map bytes ks ≡ map bytes js
one_day ks js w w' e = one_list_made page_lawful (map bytes ks) (map bytes js) (all_bodies ks) (all_bodies js) w w' e
