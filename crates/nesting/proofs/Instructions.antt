-- What stands at a place of checked code is an instruction that reading gives, with its registers in bounds.
use Rattle.refusals.specs.declared.Refusal.{Refusal}
use Rattle.words.specs.Layout.{counted}
use Rattle.words.specs.declared.reading.Fetched.{Fetched}
use Rattle.std.specs.Prelude.{Result, Ok, Err}
use Prim.Native.Nat.{ℕ, ◌<◌}
use mathlib.Core.Path.{◌≡◌, refl}
use mathlib.Core.Bool.{Bool, true, false, cond}
use mathlib.Core.List.{List}
use lib.ListN.{length}
use Rattle.refusals.specs.declared.Rule.{Rule}
use Rattle.refusals.specs.Table.{broken}
use Rattle.instructions.specs.declared.instr.Instr.{Instr}
use Rattle.instructions.specs.Forms.{limits_of, size_of}
use Rattle.words.specs.Reading.{read_at}
use Rattle.instructions.specs.Registers.{registers_below}
use Rattle.blocks.specs.declared.item.Item.{Item}
use Rattle.blocks.specs.declared.item.Reading.{Reading}
use Rattle.std.specs.Prelude.{Result, Ok, Err}
use Rattle.refusals.specs.declared.Refusal.{Refusal}
use Rattle.blocks.specs.Item.{item_of, seen, item_at}
use Rattle.blocks.specs.Code.{Code, code_of}
use Rattle.blocks.specs.Open.{Open}
use Rattle.blocks.specs.Scan.{check_of}
use Rattle.std.specs.Prelude.{Some}
use Rattle.nesting.specs.OpenAt.{open_at}
use Rattle.blocks.proofs.Items.{seen_whole}
use Rattle.blocks.proofs.Widths.{read_wide, code_fits}
use Rattle.nesting.proofs.Theorems.{Allowed, allowed}

-- an instruction that is read at a place, its width, and what the blocks see of it
pub record Instruction (words : List ℕ) (by : Reading) (at : ℕ) : Type 0 where
  pub instr : Instr
  pub width : ℕ
  pub reads : read_at words at ≡ Ok (counted instr width)
  pub below : registers_below by.registers instr ≡ true
  pub wide : width ≡ size_of (limits_of instr.op).second
  pub item_is : item_at words by at ≡ Ok (item_of instr.op width)

abbrev NotRefused : Result Item Refusal → Type 0
NotRefused (Ok i) = Unit {0}
NotRefused (Err r) = ⊥

not_refused : (code : Code) (x : Result Item Refusal) (at : ℕ) (o : List Open) → Allowed code x at o → NotRefused x
not_refused code (Ok i) at o a = tt
not_refused code (Err r) at o a = a

module _ (words : List ℕ) (by : Reading) (at : ℕ) where
  below_seen : (i : Instr) (n : ℕ) → read_at words at ≡ Ok (counted i n) → (b : Bool) → registers_below by.registers i ≡ b
      → NotRefused (cond b (Ok (item_of i.op n)) (Err (broken Rule.Register at))) → Instruction words by at
  below_seen i n e true f ok =
      record {
        instr = i;
        width = n;
        reads = e;
        below = f;
        wide = (read_wide words at i n e).0;
        item_is = seen_whole words by at e f;
      }
  below_seen i n e false f ok = absurd ok

  read_seen : (a : Result Fetched Refusal) → read_at words at ≡ a → NotRefused (seen by at a) → Instruction words by at
  read_seen (Ok f) e ok = below_seen f.instr f.words e (registers_below by.registers f.instr) refl ok
  read_seen (Err r) e ok = absurd ok

  pub instruction_there : check_of (code_of words by) ≡ Ok tt → (o : List Open) → open_at (code_of words by) at ≡ Some o → at < length words
      → Instruction words by at
  unfolding item_at
  instruction_there checked o here h =
      read_seen (read_at words at) refl
      (not_refused (code_of words by) (item_at words by at) at o (allowed (code_of words by) (code_fits words by) checked at o here h))
