-- HALT: the lanes have left the blocks that the loop has passed.
use Rattle.std.proofs.Common.{◌≡◌, ◌++◌, map, take, drop}
use Rattle.control.specs.Rules.{leave}
use Rattle.control.proofs.rules.halting.halt_rule.Given as goal

abbrev pub invariant-loop-block : goal.invariant-loop-block
invariant-loop-block l =
    l.block-items ≡ map (leave l.t) (take l.block-index l.initial.block-items) ++ drop l.block-index l.initial.block-items
