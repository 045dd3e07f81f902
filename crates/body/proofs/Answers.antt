-- What the length's test reads and answers, and what its answer says.
use mathlib.Core.Path.{◌≡◌, refl, sym, ◌∙◌}
use Prim.Native.Nat.{ℕ, ◌+◌, ◌*◌, ◌-◌, ◌≤◌}
use mathlib.Core.List.{List, []}
use mathlib.Core.Bool.{Bool, true, false, ◌&&◌, and_comm}
use mathlib.Core.Logic.{⊎_elim}
use native.Mathlib.Omega.{arith}
use lib.Dec.{leb}
use lib.ListN.{length, take, drop, drop_of_length-le}
use borrow.Author.Tests.{leb-true}
use borrow.Author.Rules.{part_to_end}
use Rattle.std.specs.Prelude.{Result, Ok, Err}
use Rattle.refusals.specs.declared.Rule.{Rule}
use Rattle.refusals.specs.Table.{broken}
use Rattle.refusals.specs.declared.Refusal.{Refusal}
use Rattle.ground.specs.Tests.{all_of}
use Rattle.ground.proofs.Bools.{and_right}
use Rattle.ground.proofs.Tests.{false_of, true_or_false}
use Rattle.formats.specs.Places.{each}
use Rattle.body.specs.Body.{set_bytes, parts_at, size_at}
use Rattle.body.specs.Layout.{last_place, most_kinds, kind_lists, faults_fit, block_fits, of_layout, starts, starts_body, body_answer}
use Rattle.lanes.specs.Blocks.{nesting}
use Rattle.body.specs.Places.{count_at, depth_at, block_at}
use Rattle.body.proofs.Places.{count_faults, depth_blocks, blocks_place_lem, size_place}
use Rattle.body.proofs.Starts.{starts_of, starts_long, page_few}

-- ---- what the code reads

regroup : (P F D S B : Bool) → ((((F && P) && D) && S) && B) ≡ ((P && (F && (D && B))) && S)
regroup true true true S B = and_comm S B
regroup true true false S B = refl
regroup true false D S B = refl
regroup false true D S B = refl
regroup false false D S B = refl

pub answer_refused : (s : List ℕ) (at : ℕ) → starts_body (drop at s) ≡ false → Err (broken Rule.NotOfLayout at) ≡ body_answer s at
unfolding body_answer
answer_refused s at e = simp e

pub answer_length : (s : List ℕ) (at k : ℕ) → k ≡ size_at (drop at s) → starts_body (drop at s) ≡ true → Ok k ≡ body_answer s at
unfolding body_answer
answer_length s at k e h = simp (h, e)

none_starts : starts_body [] ≡ false
none_starts =
    false_of (starts_body []) (λ e. let s = starts_of kind_lists set_bytes [] e in let l = starts_long kind_lists set_bytes most_kinds page_few [] s in let r = s.room in omega arith)

pub answer_out : (s : List ℕ) (at : ℕ) → length s ≤ at → Err (broken Rule.NotOfLayout at) ≡ body_answer s at
answer_out s at h = answer_refused s at (rw (drop_of_length-le s {i = at} h) none_starts)

-- the part of s from `at` on
abbrev part : List ℕ → ℕ → List ℕ
part s at = take (length s - at) (drop at s)

-- what the code reads of the body at `at`: c kinds, depth d, place p, and whether its faults fit
module _ (s : List ℕ) (at : ℕ) {c d p : ℕ} {F : Bool} (count : c ≡ length (parts_at (part s at)).faults)
    (depth : d ≡ length (parts_at (part s at)).blocks) (place : p ≡ (parts_at (part s at)).place)
    (faults : F ≡ faults_fit kind_lists (parts_at (part s at)).faults) where
  abbrev body : List ℕ
  body = part s at

  body_is : body ≡ drop at s
  body_is = part_to_end s at

  count_is : c ≡ count_at body
  count_is = count ∙ count_faults set_bytes body

  depth_is : d ≡ depth_at set_bytes body
  depth_is = depth ∙ depth_blocks set_bytes body

  size_is : 24 + 8 * c + 24 * d ≡ size_at body
  size_is = let a = count_is in let b = depth_is in let e = size_place set_bytes body in omega arith

  abbrev fits : Bool
  fits = ((F && leb p last_place) && leb d nesting) && leb (24 + 8 * c + 24 * d) (length body)

  pub fits_room : fits ≡ true → 24 + 8 * c + 24 * d ≤ length body
  fits_room e = leb-true _ _ (and_right ((F && leb p last_place) && leb d nesting) _ e)

  blocks_are : each (block_at set_bytes body) 24 (24 + 8 * c) d ≡ (parts_at body).blocks
  blocks_are =
      let a = count_is in
      let e : 24 + 8 * c ≡ 12 + 8 * count_at body + 4 + 4 + 4 = omega arith in
      rw (e, depth_is) (sym (blocks_place_lem set_bytes body))

  starts_read : (fits && all_of block_fits (each (block_at set_bytes body) 24 (24 + 8 * c) d)) ≡ starts_body body
  unfolding starts of_layout
  starts_read = regroup _ F _ _ _ ∙ rw (faults, place, size_is, blocks_are, depth)

  pub answer_unfit : fits ≡ false → Err (broken Rule.NotOfLayout at) ≡ body_answer s at
  answer_unfit e = answer_refused s at (rw (← body_is) (sym starts_read ∙ rw e))

  module _ (B : Bool) (eB : B ≡ all_of block_fits (each (block_at set_bytes body) 24 (24 + 8 * c) d)) where
    pub answer_blocks : fits ≡ true → B ≡ false → Err (broken Rule.NotOfLayout at) ≡ body_answer s at
    answer_blocks e f = answer_refused s at (rw (← body_is) (sym starts_read ∙ rw (e, ← eB) f))

    pub answer_body : fits ≡ true → B ≡ true → Ok (24 + 8 * c + 24 * d) ≡ body_answer s at
    answer_body e f = answer_length s at (24 + 8 * c + 24 * d) (rw (← body_is) size_is) (rw (← body_is) (sym starts_read ∙ rw (e, ← eB) f))

-- ---- what an answer says

length_unrefused : (k : ℕ) (x : Refusal) → Ok k ≡ Err x → ⊥
length_unrefused k x e = let z : ◌≡◌ {A = ℕ} 0 1 = cc in omega arith

module _ (s : List ℕ) (at : ℕ) where
  pub length_says : (k : ℕ) → Ok k ≡ body_answer s at → (starts_body (drop at s) ≡ true) × (k ≡ size_at (drop at s))
  length_says k e =
      ⊎_elim
      (λ (h : starts_body (drop at s) ≡ true).
      let z : Ok k ≡ Ok (size_at (drop at s)) = e ∙ sym (answer_length s at _ refl h) in
      (h, cc))
      (λ (h : starts_body (drop at s) ≡ false). absurd (length_unrefused _ _ (e ∙ sym (answer_refused s at h))))
      (true_or_false (starts_body (drop at s)))

  pub refused_says : (x : Refusal) → Err x ≡ body_answer s at → starts_body (drop at s) ≡ false
  refused_says x e =
      ⊎_elim
      (λ (h : starts_body (drop at s) ≡ true). absurd (length_unrefused _ _ (answer_length s at _ refl h ∙ sym e)))
      (λ (h : starts_body (drop at s) ≡ false). h)
      (true_or_false (starts_body (drop at s)))

  pub refused_is : (x : Refusal) → Err x ≡ body_answer s at → ◌≡◌ {A = Result ℕ Refusal} (Err x) (Err (broken Rule.NotOfLayout at))
  refused_is x e = e ∙ sym (answer_refused s at (refused_says x e))
