-- What the blocks see at a place, by what reading gives there.
use Rattle.words.specs.Layout.{counted}
use Rattle.std.specs.Prelude.{Ok, Err}
use Prim.Native.Nat.{ℕ}
use mathlib.Core.Path.{◌≡◌, ap, ◌∙◌}
use mathlib.Core.Bool.{Bool, true, false, cond}
use mathlib.Core.List.{List}
use Rattle.std.specs.Prelude.{Ok, Err}
use Rattle.refusals.specs.declared.Refusal.{Refusal}
use Rattle.refusals.specs.declared.Rule.{Rule}
use Rattle.refusals.specs.Table.{broken}
use Rattle.instructions.specs.declared.instr.Instr.{Instr}
use Rattle.words.specs.Reading.{read_at}
use Rattle.instructions.specs.Registers.{registers_below}
use Rattle.blocks.specs.declared.item.Reading.{Reading}
use Rattle.blocks.specs.Item.{item_of, seen, item_at}

module _ (words : List ℕ) (by : Reading) (at : ℕ) where
  by_registers : {i : Instr} {n : ℕ} (b : Bool) → read_at words at ≡ Ok (counted i n) → registers_below by.registers i ≡ b
      → item_at words by at ≡ cond b (Ok (item_of i.op n)) (Err (broken Rule.Register at))
  unfolding item_at
  by_registers {i} {n} b e f = ap (seen by at) e ∙ ap (λ (x : Bool). cond x (Ok (item_of i.op n)) (Err (broken Rule.Register at))) f

  pub seen_whole : {i : Instr} {n : ℕ} → read_at words at ≡ Ok (counted i n) → registers_below by.registers i ≡ true → item_at words by at ≡ Ok (item_of i.op n)
  seen_whole e f = by_registers true e f

  pub seen_past : {i : Instr} {n : ℕ} → read_at words at ≡ Ok (counted i n) → registers_below by.registers i ≡ false → item_at words by at ≡ Err (broken Rule.Register at)
  seen_past e f = by_registers false e f

  pub seen_refused : {r : Refusal} → read_at words at ≡ Err r → item_at words by at ≡ Err r
  unfolding item_at
  seen_refused e = ap (seen by at) e
