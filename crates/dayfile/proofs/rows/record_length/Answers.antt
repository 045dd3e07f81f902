-- The length stands behind the place.
use mathlib.Core.Path.{ap, ◌∙◌}
use Prim.Native.Nat.{ℕ, ◌+◌}
use Rattle.numbers.specs.Numbers.{number_at}
use Rattle.dayfile.proofs.rows.record_length.Goals as goal

pub returns : goal.returns
returns c = c.get.ensures ∙ ap (λ (q : ℕ). number_at c.args.file.now (q + 4)) c.table_end.ensures
