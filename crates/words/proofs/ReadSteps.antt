-- Reading by the numbers that the code has: lengths and places instead of the list of words that is left.
use Rattle.std.specs.Prelude.{Option, Some, None, Ok}
use mathlib.Core.Path.{◌≡◌, ◌∙◌, sym, ap}
use mathlib.Core.Bool.{Bool, cond, ◌&&◌}
use mathlib.Core.List.{List}
use Prim.Native.Nat.{ℕ, suc, ◌≤◌, ◌<◌, ◌+◌, ◌-◌}
use native.Mathlib.Omega.{arith}
use lib.ListN.{length, get_or, drop, length-drop, drop_of_length-le}
use lib.Seq.{drop-cons, get_or-drop}
use borrow.Author.Tests.{le-ltb, lt-ltb}
use Rattle.instructions.specs.declared.instr.Op.{Op}
use Rattle.instructions.specs.declared.instr.Instr.{Instr}
use Rattle.instructions.specs.declared.forms.Limits.{Limits}
use Rattle.opcodes.specs.Table.{op_of}
use Rattle.instructions.specs.Forms.{limits_of, size_of, fits}
use Rattle.words.specs.Layout.{instr_in, spare_zero, opcode_in, modifier_in, counted}
use Rattle.refusals.specs.declared.Rule.{Rule}
use Rattle.words.specs.Reading.{refused, read_fields, read_op, read_at}

-- the test of the fields, from the parts that the code has worked out
pub fields_are :
    (o : Op) (l : Limits) (w v at n : ℕ) (i : Instr) (spare fit t : Bool) →
    i ≡ instr_in l.second o w v → n ≡ size_of l.second → spare ≡ spare_zero l.second w v → fit ≡ fits l i → (spare && fit) ≡ t →
    cond t (Ok (counted i n)) (refused Rule.Field at) ≡ read_fields o l w v at
fields_are o l w v at n i spare fit t ei en es ef et = rw (← et, es, ef, ei, en)

module _ (ws : List ℕ) (at : ℕ) where
  -- no word at all
  pub past : length ws ≤ at → read_at ws at ≡ refused Rule.NoSecond at
  past h = rw (drop_of_length-le ws h)

  module _ (here : at < length ws) where
    -- some word
    pub within :
        read_at ws at ≡ read_op (op_of (opcode_in (get_or ws at 0)) (modifier_in (get_or ws at 0))) (get_or ws at 0) (drop (suc at) ws) at
    within = rw (drop-cons ws at 0 here)

    -- an operation that is not carried
    pub missing : op_of (opcode_in (get_or ws at 0)) (modifier_in (get_or ws at 0)) ≡ None → read_at ws at ≡ refused Rule.NotCarried at
    missing e = within ∙ rw e

    -- the operation that is looked up, its limits and how many words it has, as the code has them
    module _ {found : Option Op} {o : Op} {l : Limits} {n : ℕ}
        (looked : found ≡ op_of (opcode_in (get_or ws at 0)) (modifier_in (get_or ws at 0))) (is : found ≡ Some o) (limits : l ≡ limits_of o)
        (count : n ≡ size_of l.second) where
      named : op_of (opcode_in (get_or ws at 0)) (modifier_in (get_or ws at 0)) ≡ Some o
      named = sym looked ∙ is

      sized : n ≡ size_of (limits_of o).second
      sized = count ∙ ap (λ (x : Limits). size_of x.second) limits

      -- an operation that has no room for its words
      pub short : length ws - at < n → read_at ws at ≡ refused Rule.NoSecond at
      short h =
          let p : suc (length (drop (suc at) ws)) < size_of (limits_of o).second = rw (← sized) (simp length-drop (omega arith)) in
          within ∙ rw (named, lt-ltb _ _ p)

      -- an operation whose words are there
      pub whole : (v : ℕ) → v ≡ get_or ws (at + 1) 0 → n ≤ length ws - at → read_at ws at ≡ read_fields o l (get_or ws at 0) v at
      whole v last h =
          let p : size_of (limits_of o).second ≤ suc (length (drop (suc at) ws)) = rw (← sized) (simp length-drop (omega arith)) in
          let next : suc at + 0 ≡ at + 1 = omega arith in
          within ∙ rw (named, le-ltb _ _ p, get_or-drop (suc at) ws 0 0, next, limits, last)
