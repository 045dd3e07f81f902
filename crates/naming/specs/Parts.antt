-- A step of the proofs: nothing that is said to the reader rests on this file.
-- The text of the operands and the marks that the code puts.
use Rattle.std.specs.Prelude.{ℕ, List, ◌++◌}
use Rattle.std.specs.List.{flat_map}
use Rattle.naming.specs.declared.operands.Part.{Part}
use Rattle.texts.specs.Templates.{Kind}
use Rattle.texts.specs.Text.{shown}

abbrev pub part_text : Part → List ℕ
part_text (Part.Mark m) = m.now
part_text (Part.Special n) = shown Kind.special n
part_text (Part.Number m n) = m.now ++ shown Kind.plain n

abbrev pub parts_text : List Part → List ℕ
parts_text ps = flat_map part_text ps
