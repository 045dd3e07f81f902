-- The invariant: the faults from `left` on are tested, and their kinds are spelled.
use native.Mathlib.Omega.{arith}
use mathlib.Core.Path.{sym, ◌∙◌}
use Rattle.body.proofs.Spelling.{too_many, testing_start, testing_stop, testing_next, testing_room, testing_end}
use Rattle.body.proofs.faults_fit.Goals as goal

pub returns-then-many-gt-MOST_KINDS : goal.returns-then-many-gt-MOST_KINDS
returns-then-many-gt-MOST_KINDS c = too_many _ (omega (arith, c.count-many.ensures, c.if-many-gt-MOST_KINDS.true))

pub loop-left-init : goal.loop-left-init
loop-left-init c = (omega (arith, c.count-many.ensures, c.if-many-gt-MOST_KINDS.false), testing_start _ _ c.count-many.ensures)

pub returns-then-not-may_precede : goal.returns-then-not-may_precede
returns-then-not-may_precede c =
    testing_stop c.loop-left.invariant.1 c.loop-left-test.true _ c.fault-f.ensures
    (sym c.may_precede.ensures ∙ c.if-not-may_precede.true)

pub overflow_mul-kinds : goal.overflow_mul-kinds
overflow_mul-kinds c =
    omega (
      arith,
      testing_room c.loop-left.invariant.1 c.loop-left-test.true _ c.fault-f.ensures
          (sym c.may_precede.ensures ∙ c.if-not-may_precede.false) c.loop-left.invariant.0,
    )

-- one digit more has room
pub overflow_add-kinds : goal.overflow_add-kinds
overflow_add-kinds c =
    omega (
      arith,
      testing_room c.loop-left.invariant.1 c.loop-left-test.true _ c.fault-f.ensures
          (sym c.may_precede.ensures ∙ c.if-not-may_precede.false) c.loop-left.invariant.0,
    )

pub loop-left-preserved : goal.loop-left-preserved
loop-left-preserved c = (
  c.loop-left.invariant.0,
  testing_next c.loop-left.invariant.1 c.loop-left-test.true _ c.fault-f.ensures
      (sym c.may_precede.ensures ∙ c.if-not-may_precede.false),
)

pub returns : goal.returns
returns c =
    c.in_table.ensures ∙ testing_end c.loop-left.invariant.1 c.loop-left-test.false
