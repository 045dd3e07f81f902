-- Words at a place, and words at the start of what is left there: reading gives an instruction where its words stand, and only there.
use Rattle.std.specs.Prelude.{Ok}
use mathlib.Core.Path.{◌≡◌, sym, ◌∙◌, ap}
use mathlib.Core.List.{List, ◌++◌}
use Prim.Native.Nat.{ℕ, ◌≤◌, ◌+◌, ◌-◌, min}
use native.Mathlib.Omega.{arith}
use lib.ListN.{length, take, drop, take-append-drop, length-take, length-drop}
use lib.Seq.{take-append_seam}
use Rattle.instructions.specs.declared.instr.Instr.{Instr}
use Rattle.instructions.specs.Forms.{limits_of, size}
use Rattle.words.specs.Layout.{words_of, counted}
use Rattle.words.specs.Rules.{Stands}
use Rattle.words.specs.Reading.{read_from, read_at}
use Rattle.words.proofs.Sizes.{size_positive, size_most, words_length}
use Rattle.words.proofs.FromInstr.{read_written}
use Rattle.words.proofs.FromWords.{Starts, read_back}

pub stood : (ws : List ℕ) (at : ℕ) (i : Instr) (n : ℕ) → read_at ws at ≡ Ok (counted i n) → Stands ws at i × (n ≡ length (words_of i))
stood ws at i n e =
    let s : Starts (drop at ws) i n = read_back i n at (drop at ws) e in
    ((s.ok, ap (take (length (words_of i))) s.words ∙ take-append_seam (words_of i) (drop n (drop at ws))), s.count)

pub standing : (ws : List ℕ) (at : ℕ) (i : Instr) → Stands ws at i → read_at ws at ≡ Ok (counted i (length (words_of i)))
standing ws at i h =
    let k = length (words_of i) in
    let there : drop at ws ≡ words_of i ++ drop k (drop at ws) =
    sym (take-append-drop k (drop at ws)) ∙ ap (λ (l : List ℕ). l ++ drop k (drop at ws)) h.1 in
    ap (λ (l : List ℕ). read_from l at) there ∙ read_written i h.0 (drop k (drop at ws)) at

-- an instruction that was read has one word or two, and they are there
pub read_span : (ws : List ℕ) (at : ℕ) (i : Instr) (n : ℕ) → read_at ws at ≡ Ok (counted i n) → (1 ≤ n) × (n ≤ 2) × (at + n ≤ length ws)
read_span ws at i n e =
    let s = stood ws at i n e in
    let count : n ≡ size i.op = s.1 ∙ words_length i in
    let there : min n (length ws - at) ≡ n =
    sym (length-take n (drop at ws) ∙ ap (min n) (length-drop at ws)) ∙ ap (λ (k : ℕ). length (take k (drop at ws))) s.1 ∙ ap length s.0.1 ∙ sym s.1 in
    let low : 1 ≤ n = rw count (size_positive (limits_of i.op).second) in
    (low, rw count (size_most (limits_of i.op).second), omega arith)
