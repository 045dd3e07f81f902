-- The lines that the second program's description shows, each read as its instruction; the longest; and lines that are read as none.
use Rattle.std.specs.Prelude.{Option, Some, None}
use mathlib.Core.Path.{◌≡◌, refl}
use mathlib.Core.Bool.{true, false}
use mathlib.Core.List.{List, [], ◌∷◌}
use Prim.Native.Nat.{ℕ}
use Prim.Native.String.{String}
use lib.ListN.{length}
use Rattle.ground.specs.Tests.{same_list}
use Rattle.instructions.specs.declared.instr.TwoOp.{TwoOp}
use Rattle.instructions.specs.declared.instr.CompareOp.{CompareOp}
use Rattle.instructions.specs.declared.instr.OneOp.{OneOp}
use Rattle.instructions.specs.declared.instr.AtomicOp.{AtomicOp}
use Rattle.instructions.specs.declared.instr.WaveOp.{WaveOp}
use Rattle.instructions.specs.declared.instr.ControlOp.{ControlOp}
use Rattle.instructions.specs.declared.instr.Space.{Space}
use Rattle.instructions.specs.declared.instr.Op.{Op}
use Rattle.instructions.specs.declared.instr.Instr.{Instr}
use Rattle.words.specs.Layout.{instr}
use Rattle.texts.specs.Bytes.{ascii, word, rest}
use Rattle.texts.specs.Numerals.{digits, places, numeral, behind, number_in}
use Rattle.texts.specs.Text.{operands, text_room}
use Rattle.texts.specs.Lines.{guarded, tail_in, fields_in, if_text, instr_of, line_words, line_at}

-- what the lines are read as
abbrev readings : List String → List (Option Instr)
readings [] = []
readings (t ∷ ts) = instr_of (ascii t) ∷ readings ts

shown_lines :
    readings (
    "ADD r3, r1, r2" ∷ "LT p1, r0, r1" ∷ "NEG r1, r2" ∷ "MOV_SPECIAL r0, lane" ∷ "MOV_IMM r0, 5" ∷ "CAS r1, [r2], r3, r4 scope 2"
    ∷ "LOAD r1, [r2 + 8]" ∷ "STORE [r2 + 8], r1" ∷ "ATOMIC_ADD r1, [r2], r3" ∷ "REDUCE_ADD r1, r0" ∷ "SHUFFLE r1, r0, r2" ∷ "BALLOT r1, r0 on p1"
    ∷ "IF on not p1" ∷ "BREAK on p1" ∷ "ADD r3, r1, r2 on p2" ∷ []
    )
    ≡ Some (instr (Op.Two TwoOp.Add) (guarded 0 false) 3 1 2 0 0 0)
    ∷ Some (instr (Op.Compare CompareOp.Lt) (guarded 0 false) 1 0 1 0 0 0)
    ∷ Some (instr (Op.One OneOp.Neg) (guarded 0 false) 1 2 0 0 0 0)
    ∷ Some (instr Op.Special (guarded 0 false) 0 0 0 0 0 0)
    ∷ Some (instr Op.Number (guarded 0 false) 0 0 0 0 0 5)
    ∷ Some (instr Op.Cas (guarded 0 false) 1 2 3 4 2 0)
    ∷ Some (instr (Op.Load Space.Device) (guarded 0 false) 1 2 0 0 0 8)
    ∷ Some (instr (Op.Store Space.Device) (guarded 0 false) 1 2 0 0 0 8)
    ∷ Some (instr (Op.Atomic AtomicOp.Add) (guarded 0 false) 1 2 3 0 0 0)
    ∷ Some (instr (Op.Wave WaveOp.ReduceAdd) (guarded 0 false) 1 0 0 0 0 0)
    ∷ Some (instr Op.Shuffle (guarded 0 false) 1 0 2 0 0 0)
    ∷ Some (instr (Op.Wave WaveOp.Ballot) (guarded 1 false) 1 0 0 0 0 0)
    ∷ Some (instr (Op.Control ControlOp.If) (guarded 1 true) 0 0 0 0 0 0)
    ∷ Some (instr (Op.Control ControlOp.Break) (guarded 1 false) 0 0 0 0 0 0)
    ∷ Some (instr (Op.Two TwoOp.Add) (guarded 2 false) 3 1 2 0 0 0)
    ∷ []
unfolding word rest operands numeral digits places behind number_in tail_in fields_in if_text same_list
shown_lines = refl

-- the largest decimal number, and the smallest hexadecimal one
numbers :
    readings ("LOCAL_LOAD r1, [r2 + 9999999]" ∷ "LOCAL_LOAD r1, [r2 + 0x00989680]" ∷ [])
    ≡ Some (instr (Op.Load Space.Local) (guarded 0 false) 1 2 0 0 0 9999999)
    ∷ Some (instr (Op.Load Space.Local) (guarded 0 false) 1 2 0 0 0 10000000)
    ∷ []
unfolding word rest operands numeral digits places behind number_in tail_in fields_in if_text same_list
numbers = refl

-- a text as long as any
longest_line : List ℕ
longest_line = ascii "ATOMIC_UMAX r255, [r255], r255 scope 3 on not p3"

longest : instr_of longest_line ≡ Some (instr (Op.Atomic AtomicOp.Umax) (guarded 3 true) 255 255 255 0 3 0)
unfolding longest_line word rest operands numeral digits places behind number_in tail_in fields_in if_text same_list
longest = refl

longest_long : length longest_line ≡ text_room
unfolding longest_line
longest_long = refl

-- no name, a register too many, a leading zero, a lower-case digit, a small number in hexadecimal, a space too many, a scope of 0, a predicate on ELSE, a register past 255
no_lines :
    readings (
    "HOP r1, r2" ∷ "NEG r1, r2, r3" ∷ "NEG r01, r2" ∷ "MOV_IMM r0, 0xfffffffF" ∷ "MOV_IMM r0, 0x00000005" ∷ "NEG r1,  r2" ∷ "CAS r1, [r2], r3, r4 scope 0"
    ∷ "ELSE on p1" ∷ "NEG r256, r2" ∷ "" ∷ []
    )
    ≡ None ∷ None ∷ None ∷ None ∷ None ∷ None ∷ None ∷ None ∷ None ∷ None ∷ []
unfolding word rest operands numeral digits places behind number_in tail_in fields_in if_text same_list
no_lines = refl

-- a line as words, and words as a line
to_words : line_words (ascii "STORE [r2 + 8], r5 on not p1") ≡ Some (0x31050205 ∷ 8 ∷ [])
unfolding word rest operands numeral digits places behind number_in tail_in fields_in if_text same_list
to_words = refl

to_line : line_at (0x3FF0 ∷ 0x31050205 ∷ 8 ∷ []) 1 ≡ Some (ascii "STORE [r2 + 8], r5 on not p1")
unfolding operands numeral digits places
to_line = refl
