-- At each turn what is left finishes the run.
use Rattle.std.proofs.Common.{sym, refl, ap, ◌∙◌, arith, rules}
use Rattle.stepping.specs.declared.settings.Settings.{Settings}
use Rattle.runs.proofs.Slices.{begun, gone_further, spent, over}
use Rattle.replay_capture.proofs.running.run_in_slices.Goals as goal

pub loop-left-init : goal.loop-left-init
loop-left-init c =
    let begun_here = begun 1000000 _ _ _ _ _ c.requires c.min-first.ensures c.budgeted.ensures c.start-answer.ensures in
    (record { finishes = refl; few = begun_here.few }, refl)

pub go_further-answer-requires : goal.go_further-answer-requires
go_further-answer-requires c = omega (arith, ap (λ (q : Settings). q.budget) c.budgeted-in-loop-left.ensures)

pub loop-left-smaller : goal.loop-left-smaller
loop-left-smaller c = omega (arith, c.min-next.ensures, c.loop-left-test.true)

pub loop-left-preserved : goal.loop-left-preserved
loop-left-preserved c =
    let stopped = sym c.is_stopped.ensures ∙ c.if-not-is_stopped.false in (
      gone_further c.loop-left.invariant.0 20000000 stopped (omega arith) (omega arith) c.min-next.ensures c.budgeted-in-loop-left.ensures c.go_further-answer.ensures,
      search rules,
    )

pub returns-after-loop-left : goal.returns-after-loop-left
returns-after-loop-left c =
    spent c.loop-left.invariant.0 (omega arith)
    ∙ sym (begun 1000000 _ _ _ _ _ c.requires c.min-first.ensures c.budgeted.ensures c.start-answer.ensures).finishes

pub returns-then-not-is_stopped : goal.returns-then-not-is_stopped
returns-then-not-is_stopped c =
    over c.loop-left.invariant.0 (sym c.is_stopped.ensures ∙ c.if-not-is_stopped.true)
    ∙ sym (begun 1000000 _ _ _ _ _ c.requires c.min-first.ensures c.budgeted.ensures c.start-answer.ensures).finishes
