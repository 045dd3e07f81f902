-- BREAK sets lanes aside as broken.
use Rattle.std.proofs.Common.{sym, ◌∙◌}
use Rattle.control.specs.Rules.{broken}
use Rattle.control.proofs.Ruling.{set_aside, none_aside}
use Rattle.control.proofs.rules.aside.break_rule.Goals as goal
use Rattle.control.proofs.rules.aside.break_rule.Goals.{in-Some, in_default}

pub returns : goal.returns
returns c =
    let s = c.args in
    let found = c.leave_inner.ensures in
    elim c.match-leave_inner.branch [
      | in-Some w ↦
          rw (w.blocks-is)
          (set_aside (broken s.t) s.t s.h _ s.blocks.now _ c.without_lanes.ensures found.left _ (sym w.in-Some.is ∙ found.number))
      | in_default w ↦
          rw (w.blocks-is)
          (none_aside (broken s.t) s.t s.h _ s.blocks.now _ c.without_lanes.ensures found.left (sym w.in_default.is ∙ found.number))
    ]
