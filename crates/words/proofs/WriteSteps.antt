-- Writing by the numbers that the code has: one or two words stored at the start of a list are what `write_of` says.
use Rattle.std.specs.Prelude.{Ok}
use mathlib.Core.Path.{◌≡◌, sym, ◌∙◌, ap}
use mathlib.Core.Bool.{true, false}
use mathlib.Core.List.{List, [], ◌∷◌}
use Prim.Native.Nat.{ℕ, ◌≤◌, ◌<◌}
use native.Mathlib.Omega.{arith}
use lib.ListN.{length, get_or, set}
use borrow.Author.Tests.{le-leb, lt-leb}
use Rattle.refusals.specs.declared.Rule.{Rule}
use Rattle.instructions.specs.declared.instr.Instr.{Instr}
use Rattle.instructions.specs.Forms.{limits_of, size_of, valid}
use Rattle.words.specs.Layout.{first_word, rest_of, words_of}
use Rattle.words.specs.Writing.{written, unwritten, put, write_of}
use Rattle.words.proofs.Sizes.{words_length, rest_one, rest_two}

put_one : (out : List ℕ) (h : ℕ) → 1 ≤ length out → written (Ok 1) (set out 0 h) ≡ put (h ∷ []) out
put_one [] h p = absurd (omega arith)
put_one (a ∷ out) h p = rw (le-leb 1 _ p)

put_two : (out : List ℕ) (h v : ℕ) → 2 ≤ length out → written (Ok 2) (set (set out 0 h) 1 v) ≡ put (h ∷ v ∷ []) out
put_two [] h v p = absurd (omega arith)
put_two (a ∷ []) h v p = absurd (omega arith)
put_two (a ∷ b ∷ out) h v p = rw (le-leb 2 _ p)

module _ (i : Instr) (out : List ℕ) where
  pub not_valid : valid i ≡ false → unwritten Rule.NoWords out ≡ write_of i out
  not_valid bad = rw bad

  module _ (ok : valid i ≡ true) where
    pub no_room : length out < size_of (limits_of i.op).second → unwritten Rule.Short out ≡ write_of i out
    no_room h =
        let p : length out < length (words_of i) = rw (words_length i) h in
        rw (ok, lt-leb _ _ p)

    is_put : (ws : List ℕ) → words_of i ≡ ws → write_of i out ≡ put ws out
    is_put ws e = rw ok (ap (λ (us : List ℕ). put us out) e)

    module _ (n h : ℕ) (count : n ≡ size_of (limits_of i.op).second) (first : h ≡ first_word i) (room : n ≤ length out) where
      pub wrote_one : n ≡ 1 → written (Ok n) (set out 0 h) ≡ write_of i out
      wrote_one e =
          let w : words_of i ≡ h ∷ [] = rw (← first, rest_one _ i (sym count ∙ e)) in
          rw e (put_one out h (omega arith) ∙ sym (is_put (h ∷ []) w))

      pub wrote_two : (v : ℕ) → v ≡ get_or (rest_of (limits_of i.op).second i) 0 0 → n ≡ 2 → written (Ok n) (set (set out 0 h) 1 v) ≡ write_of i out
      wrote_two v last e =
          let w : words_of i ≡ h ∷ v ∷ [] = rw (← first, rest_two _ i (sym count ∙ e), ← last) in
          rw e (put_two out h v (omega arith) ∙ sym (is_put (h ∷ v ∷ []) w))
