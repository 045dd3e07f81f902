-- What is fetched at a place: by the numbers that the code has; and that it is what reading gives there, where reading gives anything.
use Rattle.words.specs.declared.reading.Fetched.{Fetched}
use Rattle.std.specs.Prelude.{Option, Some, None, Result, Ok, Err}
use mathlib.Core.Path.{◌≡◌, ◌∙◌}
use mathlib.Core.Bool.{Bool, true, false, cond, ◌&&◌}
use mathlib.Core.List.{List, [], ◌∷◌}
use Prim.Native.Nat.{ℕ, suc, ◌≤◌, ◌<◌, ◌+◌}
use native.Mathlib.Omega.{arith}
use lib.Dec.{ltb}
use lib.ListN.{length, get_or, drop, drop_of_length-le}
use lib.Seq.{drop-cons, get_or-drop}
use Rattle.refusals.specs.declared.Refusal.{Refusal}
use Rattle.refusals.specs.declared.Rule.{Rule}
use Rattle.refusals.specs.Table.{broken}
use Rattle.instructions.specs.declared.instr.ControlOp.{ControlOp}
use Rattle.instructions.specs.declared.instr.Instr.{Instr}
use Rattle.instructions.specs.declared.instr.Op.{Op}
use Rattle.instructions.specs.declared.forms.Limits.{Limits}
use Rattle.opcodes.specs.Table.{op_of}
use Rattle.instructions.specs.Forms.{limits_of, size_of, fits}
use Rattle.words.proofs.FromWords.{said_once}
use Rattle.words.specs.Layout.{opcode_in, modifier_in, instr_in, spare_zero, counted}
use Rattle.words.specs.Reading.{read_fields, read_op, read_from, read_at}
use Rattle.fetching.specs.Fetching.{nop, said_by, said_from, fetch_at, control_in}
use Rattle.words.proofs.Sizes.{size_most}

-- ---- by the numbers that the code has
module _ (ws : List ℕ) (at : ℕ) where
  pub fetch_past : length ws ≤ at → fetch_at ws at ≡ nop
  unfolding fetch_at
  fetch_past h = rw (drop_of_length-le ws h)

  module _ (here : at < length ws) where
    said : fetch_at ws at ≡ said_by (op_of (opcode_in (get_or ws at 0)) (modifier_in (get_or ws at 0))) (get_or ws at 0) (get_or ws (at + 1) 0)
    unfolding fetch_at
    said =
        let next : suc at + 0 ≡ at + 1 = omega arith in
        rw (drop-cons ws at 0 here, get_or-drop (suc at) ws 0 0, next)

    pub fetch_missing : op_of (opcode_in (get_or ws at 0)) (modifier_in (get_or ws at 0)) ≡ None → fetch_at ws at ≡ nop
    fetch_missing e = said ∙ rw e

    pub fetch_carried :
        (o : Op) (l : Limits) (v : ℕ) → op_of (opcode_in (get_or ws at 0)) (modifier_in (get_or ws at 0)) ≡ Some o → l ≡ limits_of o →
        v ≡ get_or ws (at + 1) 0 → fetch_at ws at ≡ counted (instr_in l.second o (get_or ws at 0) v) (size_of l.second)
    fetch_carried o l v e el ev = said ∙ rw (e, el, ev)

-- ---- what reading gives
-- a refusal is no instruction
not_read : {A : Type 0} (r : Refusal) (n : ℕ) (i : Instr) → Err r ≡ Ok (counted i n) → A
not_read r n i e = absurd (let z : ◌≡◌ {A = ℕ} 0 1 = cc in omega arith)

late : (t : Bool) (r : Refusal) (n : ℕ) (a : Result Fetched Refusal) (i : Instr) → cond t (Err r) a ≡ Ok (counted i n) → a ≡ Ok (counted i n)
late true r n a i e = not_read r n i e
late false r n a i e = e

early : (t : Bool) (r : Refusal) (n : ℕ) (a : Fetched) (i : Instr) → cond t (Ok a) (Err r) ≡ Ok (counted i n) → a ≡ counted i n
early true r n a i e = said_once e
early false r n a i e = not_read r n i e

by_op : (f : Option Op) (w : ℕ) (ws : List ℕ) (at n : ℕ) (i : Instr) → read_op f w ws at ≡ Ok (counted i n) → said_by f w (get_or ws 0 0) ≡ counted i n
by_op None w ws at n i e = not_read _ n i e
by_op (Some o) w ws at n i e =
    let l = limits_of o in
    let x : Instr = instr_in l.second o w (get_or ws 0 0) in
    early (spare_zero l.second w (get_or ws 0 0) && fits l x) (broken Rule.Field at) n (counted x (size_of l.second)) i
    (late (ltb (suc (length ws)) (size_of l.second)) (broken Rule.NoSecond at) n (read_fields o l w (get_or ws 0 0) at) i e)

from_words : (ws : List ℕ) (at n : ℕ) (i : Instr) → read_from ws at ≡ Ok (counted i n) → said_from ws ≡ counted i n
from_words [] at n i e = not_read _ n i e
from_words (w ∷ ws) at n i e = by_op (op_of (opcode_in w) (modifier_in w)) w ws at n i e

-- where reading gives an instruction, it is the one that is fetched, with as many words
pub fetched : (ws : List ℕ) (at n : ℕ) (i : Instr) → read_at ws at ≡ Ok (counted i n) → fetch_at ws at ≡ counted i n
unfolding fetch_at
fetched ws at n i e = from_words (drop at ws) at n i e

-- ---- at most two words are fetched
said_most : (f : Option Op) (w v : ℕ) → (said_by f w v).words ≤ 2
said_most None w v = omega arith
said_most (Some o) w v = size_most (limits_of o).second

from_most : (ws : List ℕ) → (said_from ws).words ≤ 2
from_most [] = omega arith
from_most (w ∷ ws) = said_most (op_of (opcode_in w) (modifier_in w)) w (get_or ws 0 0)

pub fetch_most : (ws : List ℕ) (at : ℕ) → (fetch_at ws at).words ≤ 2
unfolding fetch_at
fetch_most ws at = from_most (drop at ws)

-- ---- control
other : {A : Type 0} (o : ControlOp) → None ≡ Some o → A
other o e = absurd (let z : ◌≡◌ {A = ℕ} 0 1 = cc in omega arith)

pub control_is : (op : Op) (o : ControlOp) → control_in op ≡ Some o → op ≡ Op.Control o
control_is (Op.Control a) o e = cc
control_is (Op.Two a) o e = other o e
control_is (Op.Compare a) o e = other o e
control_is (Op.One a) o e = other o e
control_is Op.Special o e = other o e
control_is Op.Number o e = other o e
control_is (Op.Load s) o e = other o e
control_is (Op.Store s) o e = other o e
control_is (Op.Atomic a) o e = other o e
control_is Op.Cas o e = other o e
control_is (Op.Wave a) o e = other o e
control_is Op.Shuffle o e = other o e
