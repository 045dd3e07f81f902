-- Of the files that `make` itself made: it takes at most 1,024 bodies, what it made of a list is the list's file, and so no two lists of bodies
-- give the same file.
use mathlib.Core.Path.{◌≡◌, sym, ap, ◌∙◌}
use mathlib.Core.Bool.{true}
use mathlib.Core.Logic.{inl, inr}
use mathlib.Core.List.{List, ◌++◌, flatten}
use Prim.Native.Nat.{ℕ, ◌<◌}
use native.Mathlib.Omega.{arith}
use borrow.Author.Tests.{leb-true, leb-false}
use lib.Dec.{leb}
use lib.ListN.{length, take, drop}
use lib.Seq.{take-append_seam}
use Rattle.std.specs.Prelude.{Result, Ok, Err}
use Rattle.refusals.specs.declared.Refusal.{Refusal}
use Rattle.refusals.specs.declared.Rule.{Rule}
use Rattle.refusals.specs.Table.{broken}
use Rattle.ground.specs.Tests.{all_of}
use Rattle.ground.proofs.Tests.{true_or_false}
use Rattle.numbers.specs.Placed.{placed}
use Rattle.numbers.proofs.Placing.{placed_front}
use Rattle.dayfile.specs.Day.{most_records, Layout, file_of, Listed}
use Rattle.dayfile.specs.Make.{Making, made, filed, surveyed, make_of, Makes, file_in}
use Rattle.dayfile.proofs.Layouts.{Lawful}
use Rattle.dayfile.proofs.Lists.{one_list}
use Rattle.dayfile.proofs.Surveys.{survey_over}
use Rattle.dayfile.proofs.Theorems.{list_made}

-- ---- an answer is one answer

one_making : (m n : ℕ) (x y : List ℕ) → made (Ok m) x ≡ made (Ok n) y → (m ≡ n) × (x ≡ y)
one_making m n x y e = let a : Ok m ≡ Ok n = ap (λ (k : Making). k.answer) e in (cc, ap (λ (k : Making). k.out) e)

made_refused : (n : ℕ) (z : Refusal) (x y : List ℕ) → made (Ok n) x ≡ made (Err z) y → ⊥
made_refused n z x y e =
    let a : Ok n ≡ Err z = ap (λ (m : Making). m.answer) e in let o : ◌≡◌ {A = ℕ} 0 1 = cc in omega arith

filed_is : (f out now : List ℕ) (n : ℕ) → made (Ok n) now ≡ filed f out → take n now ≡ f
unfolding filed
filed_is f out now n e =
    elim (true_or_false (leb (length f) (length out))) [
      | inl l ↦
          let w = one_making n (length f) now (placed out 0 f) (e ∙ simp l) in
          let s : now ≡ f ++ drop (length f) out = w.1 ∙ placed_front out f (leb-true _ _ l) in
          rw (w.0, s) (take-append_seam f (drop (length f) out))
      | inr l ↦ absurd (made_refused n (broken Rule.Short 0) now out (e ∙ simp l))
    ]

module _ {L : Layout} (K : Lawful L) where
  module _ (bs : List (List ℕ)) (each : all_of L.whole bs ≡ true) {out : List ℕ} (w : Makes L bs out) where
    over_refused : most_records < length bs → ⊥
    unfolding make_of surveyed
    over_refused h =
        made_refused w.size (broken Rule.TooMany 0) w.now out
        (w.did ∙ ap (λ (v : Result ℕ Refusal). surveyed L v (flatten bs) out) (survey_over K bs most_records 0 0 each h))

    -- `make` takes at most 1,024 bodies
    pub made_listed : Listed L bs
    made_listed =
        elim (true_or_false (leb (length bs) most_records)) [
          | inl e ↦ record { few = leb-true (length bs) most_records e; each = each }
          | inr e ↦ absurd (over_refused (leb-false (length bs) most_records e))
        ]

    -- THEOREM: the file that `make` made of bodies is the one that their list gives
    pub file_is : file_in w ≡ file_of bs
    file_is = filed_is (file_of bs) out w.now w.size (w.did ∙ list_made K bs made_listed out)

  -- THEOREM: no two lists of bodies give the same file
  pub one_list_made : (xs ys : List (List ℕ)) → all_of L.whole xs ≡ true → all_of L.whole ys ≡ true
      → {out out' : List ℕ} (w : Makes L xs out) (w' : Makes L ys out') → file_in w ≡ file_in w' → xs ≡ ys
  one_list_made xs ys a b w w' e = one_list K xs ys (made_listed xs a w) (made_listed ys b w') (sym (file_is xs a w) ∙ e ∙ file_is ys b w')
