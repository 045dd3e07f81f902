-- The invariant: the walk that is left, from where the loop stands, answers for all.
use Rattle.std.proofs.Common.{sym, ◌∙◌, arith}
use Rattle.body.proofs.Answers.{length_says, refused_says}
use Rattle.dayfile.proofs.Layouts.{page_lawful}
use Rattle.records.proofs.Walks.{walking_start, walking_end, walking_elsewhere, walking_refused, walking_unequal, walking_turn}
use Rattle.records.proofs.accepting.holds.Goals as goal

pub loop-k-init : goal.loop-k-init
loop-k-init c = walking_start c.table_end-p.ensures c.requires

pub returns-then-record_place-p : goal.returns-then-record_place-p
returns-then-record_place-p c =
    walking_elsewhere page_lawful c.loop-k.invariant c.loop-k-test.true c.record_place.ensures c.if-record_place-p.true

pub returns-in_default : goal.returns-in_default
returns-in_default c =
    let b = refused_says _ _ _ (sym c.in_default.is ∙ c.body_length.ensures) in
    walking_refused page_lawful c.loop-k.invariant c.loop-k-test.true c.record_place.ensures c.if-record_place-p.false b

pub returns-then-record_length-size : goal.returns-then-record_length-size
returns-then-record_length-size c =
    let b = length_says _ _ _ (sym c.in-Ok.is ∙ c.body_length.ensures) in
    walking_unequal page_lawful c.loop-k.invariant c.loop-k-test.true c.record_place.ensures c.if-record_place-p.false b c.record_length.ensures
    c.if-record_length-size.true

pub overflow_add-p : goal.overflow_add-p
overflow_add-p c =
    let b = length_says _ _ _ (sym c.in-Ok.is ∙ c.body_length.ensures) in
    let t = walking_turn page_lawful c.loop-k.invariant c.loop-k-test.true c.record_place.ensures c.if-record_place-p.false b c.record_length.ensures
    c.if-record_length-size.false in
    omega (arith, t.inside)

pub loop-k-preserved : goal.loop-k-preserved
loop-k-preserved c =
    let b = length_says _ _ _ (sym c.in-Ok.is ∙ c.body_length.ensures) in
    walking_turn page_lawful c.loop-k.invariant c.loop-k-test.true c.record_place.ensures c.if-record_place-p.false b c.record_length.ensures
    c.if-record_length-size.false

pub returns : goal.returns
returns c = walking_end c.loop-k.invariant c.loop-k-test.false
