-- The tests in their order; the walk decides the last.
use Rattle.std.proofs.Common.{sym, ◌∙◌, arith}
use Rattle.dayfile.proofs.Layouts.{page_lawful}
use Rattle.records.proofs.Records.{refused_short, refused_many, refused_table, refused_walk, accepted_walk}
use Rattle.records.proofs.accepting.accept.Goals as goal

pub returns-then-bytes-lt-COUNT_BYTES : goal.returns-then-bytes-lt-COUNT_BYTES
returns-then-bytes-lt-COUNT_BYTES c = rw c.broken.ensures (refused_short page_lawful _ c.if-bytes-lt-COUNT_BYTES.true)

pub returns-then-n-gt-MOST_RECORDS : goal.returns-then-n-gt-MOST_RECORDS
returns-then-n-gt-MOST_RECORDS c =
    rw c.broken-then-n-gt-MOST_RECORDS.ensures (refused_many page_lawful _ c.if-bytes-lt-COUNT_BYTES.false c.get-n.ensures c.if-n-gt-MOST_RECORDS.true)

pub returns-then-bytes-table_end : goal.returns-then-bytes-table_end
returns-then-bytes-table_end c =
    rw c.broken-then-bytes-table_end.ensures
    (refused_table page_lawful _ c.if-bytes-lt-COUNT_BYTES.false c.get-n.ensures c.if-n-gt-MOST_RECORDS.false
    (omega (arith, c.if-bytes-table_end.true, c.table_end.ensures)))

pub holds-requires : goal.holds-requires
holds-requires c = omega (arith, c.if-bytes-table_end.false, c.table_end.ensures)

pub returns-then-not-holds : goal.returns-then-not-holds
returns-then-not-holds c =
    rw c.broken-then-not-holds.ensures
    (refused_walk page_lawful _ c.if-bytes-lt-COUNT_BYTES.false c.get-n.ensures c.if-n-gt-MOST_RECORDS.false (λ k. omega (arith, c.type_inv.bytes k))
    (omega (arith, c.if-bytes-table_end.false, c.table_end.ensures)) (sym c.holds.ensures ∙ c.if-not-holds.true))

pub invariant_of-result : goal.invariant_of-result
invariant_of-result c = record {
  accepted = accepted_walk page_lawful _ c.if-bytes-lt-COUNT_BYTES.false c.get-n.ensures c.if-n-gt-MOST_RECORDS.false (λ k. omega (arith, c.type_inv.bytes k))
      (omega (arith, c.if-bytes-table_end.false, c.table_end.ensures)) (sym c.holds.ensures ∙ c.if-not-holds.false);
}
