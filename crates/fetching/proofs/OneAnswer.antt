-- One answer to each promise: any two results that it allows are equal. A law for each public function.
use Rattle.instructions.specs.declared.instr.ControlOp.{ControlOp}
use Rattle.std.specs.Prelude.{Option}
use mathlib.Core.Path.{◌≡◌}
use mathlib.Core.List.{List}
use Prim.Native.Nat.{ℕ}
use Rattle.instructions.specs.declared.instr.Op.{Op}
use Rattle.instructions.proofs.OneAnswer.{one}
use Rattle.words.specs.declared.reading.Fetched.{Fetched}
use Rattle.fetching.specs.Fetching.{fetch_at, control_in}

pub fetch_at_one : (ws : List ℕ) (at : ℕ) (r u : Fetched) → r ≡ fetch_at ws at → u ≡ fetch_at ws at → r ≡ u
fetch_at_one ws at r u p q = one p q

pub control_in_one : (op : Op) (r u : Option ControlOp) → r ≡ control_in op → u ≡ control_in op → r ≡ u
control_in_one op r u p q = one p q
