-- One answer to each promise: any two results, and later outputs, that it allows are equal. A law for each public function.
use Rattle.refusals.specs.declared.Refusal.{Refusal}
use Rattle.words.specs.declared.reading.Fetched.{Fetched}
use Rattle.std.specs.Prelude.{Result}
use mathlib.Core.Path.{◌≡◌, ap}
use mathlib.Core.List.{List}
use Prim.Native.Nat.{ℕ}
use lib.ListN.{get_or}
use Rattle.instructions.specs.declared.instr.Instr.{Instr}
use Rattle.instructions.specs.declared.instr.Op.{Op}
use Rattle.instructions.specs.declared.forms.Second.{Second}
use Rattle.words.specs.Layout.{instr_in}
use Rattle.words.specs.Reading.{read_at}
use Rattle.instructions.proofs.OneAnswer.{one}
use Rattle.words.specs.Writing.{Written, written, write_of}

pub read_at_one : (ws : List ℕ) (at : ℕ) (r u : Result Fetched Refusal) → r ≡ read_at ws at → u ≡ read_at ws at → r ≡ u
read_at_one ws at r u p q = one p q

pub read_one : (ws : List ℕ) (r u : Result Fetched Refusal) → r ≡ read_at ws 0 → u ≡ read_at ws 0 → r ≡ u
read_one ws r u p q = read_at_one ws 0 r u p q

pub word_at_one : (ws : List ℕ) (at r u : ℕ) → r ≡ get_or ws at 0 → u ≡ get_or ws at 0 → r ≡ u
word_at_one ws at r u p q = one p q

pub instr_in_one :
    (second : Second) (op : Op) (first word : ℕ) (r u : Instr) → r ≡ instr_in second op first word → u ≡ instr_in second op first word → r ≡ u
instr_in_one second op first word r u p q = one p q

pub write_one :
    (i : Instr) (out : List ℕ) (r u : Result ℕ Refusal) (after later : List ℕ) → written r after ≡ write_of i out → written u later ≡ write_of i out →
    (r ≡ u) × (after ≡ later)
write_one i out r u after later p q = (ap (λ (w : Written). w.answer) (one p q), ap (λ (w : Written). w.after) (one p q))
