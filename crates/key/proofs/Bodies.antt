-- The body of parts: put piece by piece, read again from the bytes that were put, and copied from there.
use Rattle.std.specs.Prelude.{Result, Ok, Err}
use mathlib.Core.Path.{◌≡◌, sym, ap, ap₂, ◌∙◌}
use Prim.Native.Nat.{ℕ, ◌≤◌, ◌<◌}
use mathlib.Core.Bool.{true, false, and-true}
use mathlib.Core.List.{List, [], ◌++◌, append-nil}
use native.Mathlib.Omega.{arith}
use borrow.Author.Tests.{le-leb, lt-leb}
use lib.ListN.{length, take, length-append}
use lib.Seq.{take-append_seam, length-take-le}
use Rattle.refusals.specs.declared.Rule.{Rule}
use Rattle.refusals.specs.Table.{broken}
use Rattle.refusals.specs.declared.Refusal.{Refusal}
use Rattle.ground.specs.Tests.{all_of}
use Rattle.ground.proofs.Bools.{and_both}
use Rattle.ground.proofs.Tests.{false_of}
use Rattle.numbers.specs.Numbers.{bound}
use Rattle.numbers.specs.Placed.{placed}
use Rattle.formats.specs.Format.{number, both, counted, seen_as}
use Rattle.body.specs.Body.{Parts, fault_format, block_format, body_format, set_bytes, bytes_of_body, size_at}
use Rattle.body.specs.Layout.{kind_lists, fits_layout, starts, starts_body, body_answer}
use Rattle.lanes.specs.Blocks.{nesting}
use Rattle.body.proofs.Places.{length-body}
use Rattle.body.proofs.Starts.{fits_of, starts_of}
use Rattle.body.proofs.Written.{parts_back, size_back}
use Rattle.body.proofs.Answers.{length_says, refused_says, refused_is}
use Rattle.wave.specs.declared.state.State.{State}
use Rattle.faulting.specs.declared.faults.Faults.{Faults}
use Rattle.faulting.specs.Kinds.{listed}
use Rattle.faulting.proofs.EveryKind.{few_listed}
use Rattle.stepping.specs.declared.answers.Outcome.{Outcome}
use Rattle.stepping.specs.declared.answers.Replayed.{Replayed}
use Rattle.key.specs.Key.{blocks_of, parts_of, keyed, body_key, outcome_key, key_of}
use Rattle.key.specs.Putting.{room, Put, copied}
use Rattle.key.proofs.Drafting.{four_fits, put_both}
use Rattle.key.proofs.Paths.{length-blocks}

-- ---- put piece by piece

module _ (kernel : ℕ) (f : Faults) (s : State) where
  -- its parts one behind another
  pub body_put : {o o₁ o₂ o₃ o₄ o₅ o₆ : List ℕ} → Put (number 4) kernel o o₁ → Put (number 4) s.hot.place o₁ o₂
      → Put (counted (fault_format set_bytes)) (listed f) o₂ o₃ → Put (number set_bytes) s.hot.active o₃ o₄ → Put (number set_bytes) s.hot.halted o₄ o₅
      → Put (counted (block_format set_bytes)) (blocks_of s) o₅ o₆ → Put (body_format set_bytes) (parts_of kernel f s) o o₆
  unfolding body_format seen_as parts_of
  body_put a b c d e g =
      let all = put_both a (put_both b (put_both c (put_both d (put_both e g)))) in record { fits = all.fits; stands = all.stands }

  -- room for every number and set
  pub parts_room : kernel < bound → s.hot.place < bound → all_of (fault_format set_bytes).fits (listed f) ≡ true → s.hot.active < bound
      → s.hot.halted < bound → s.hot.depth < bound → all_of (block_format set_bytes).fits (blocks_of s) ≡ true
      → (body_format set_bytes).fits (parts_of kernel f s) ≡ true
  unfolding body_format seen_as both counted number parts_of
  parts_room k p fs a h d bs =
      and_both ((number 4).fits kernel) _ (four_fits _ k)
      (and_both ((number 4).fits s.hot.place) _ (four_fits _ p)
      (and_both ((counted (fault_format set_bytes)).fits (listed f)) _
      (and_both _ _ (four_fits _ (omega (arith, few_listed f))) fs)
      (and_both ((number 4).fits s.hot.active) _ (four_fits _ a)
      (and_both ((number 4).fits s.hot.halted) _ (four_fits _ h)
      (and_both _ _ (four_fits _ (omega (arith, length-blocks s))) bs)))))

-- there is room for it
pub body_room : (kernel : ℕ) (f : Faults) (s : State) → s.hot.depth ≤ nesting → length (bytes_of_body (parts_of kernel f s)) ≤ room
unfolding parts_of
body_room kernel f s low = omega (arith, length-body set_bytes (parts_of kernel f s), few_listed f, length-blocks s)

-- a depth over 32 gives no body
pub deep_key : (kernel : ℕ) (f : Faults) (s : State) (out : List ℕ) → nesting < s.hot.depth
    → keyed (Err (broken Rule.NotOfLayout 0)) out ≡ body_key (parts_of kernel f s) out
unfolding body_key parts_of
deep_key kernel f s out h =
    let p = parts_of kernel f s in
    let n : fits_layout p ≡ false = false_of (fits_layout p) (λ e. let d = (fits_of kind_lists p e).depth in let l = length-blocks s in omega arith) in
    simp n

-- ---- copied

-- the body is whole
pub copy_long : (s : List ℕ) (k : ℕ) → Ok k ≡ body_answer s 0 → k ≡ length (take k s)
copy_long s k e =
    let z = length_says s 0 k e in
    let size : k ≡ size_at s = z.1 in
    let r = (starts_of kind_lists set_bytes s z.0).room in
    sym (length-take-le k s (omega arith))

module _ (s out : List ℕ) where
  pub copy_none : (x : Refusal) → Err x ≡ body_answer s 0 → keyed (Err x) out ≡ copied s out
  unfolding copied
  copy_none x e = ap (λ (r : Result ℕ Refusal). keyed r out) (refused_is s 0 x e) ∙ simp (refused_says s 0 x e)

  pub copy_short : (k : ℕ) → Ok k ≡ body_answer s 0 → length out < k → keyed (Err (broken Rule.Short 0)) out ≡ copied s out
  unfolding copied
  copy_short k e h =
      let z = length_says s 0 k e in
      let size : k ≡ size_at s = z.1 in
      simp (z.0, lt-leb (size_at s) (length out) (omega arith))

  pub copy_so : (k : ℕ) (now : List ℕ) → Ok k ≡ body_answer s 0 → k ≤ length out → now ≡ placed out 0 (take k s)
      → keyed (Ok k) now ≡ copied s out
  unfolding copied
  copy_so k now e h p =
      let z = length_says s 0 k e in
      let size : k ≡ size_at s = z.1 in
      simp (z.0, le-leb (size_at s) (length out) (omega arith)) (rw (p, size))

-- ---- what was put is what is copied

module _ (p : Parts) (now : List ℕ) (h : Put (body_format set_bytes) p [] now) (fit : length (bytes_of_body p) ≤ room) where
  stands : now ≡ bytes_of_body p ++ []
  stands = h.stands (omega (arith, fit)) ∙ sym (append-nil (bytes_of_body p))

  starts_fits : starts_body now ≡ fits_layout p
  unfolding starts
  starts_fits =
      let l = length-append (bytes_of_body p) [] in
      rw (stands, parts_back set_bytes [] p h.fits, size_back set_bytes [] p h.fits)
      (simp (le-leb (length (bytes_of_body p)) (length (bytes_of_body p ++ [])) (omega arith), and-true))

  size_is : size_at now ≡ length (bytes_of_body p)
  size_is = ap size_at stands ∙ size_back set_bytes [] p h.fits

  front_is : take (size_at now) now ≡ bytes_of_body p
  front_is = ap₂ take size_is stands ∙ take-append_seam (bytes_of_body p) []

  pub copy_put : (out : List ℕ) → copied now out ≡ body_key p out
  unfolding copied body_key
  copy_put out = rw (starts_fits, front_is, size_is)

-- ---- by the outcome

module _ (kernel : ℕ) (r : Replayed) (out : List ℕ) where
  pub key_fault : (f : Faults) → r.outcome ≡ Outcome.Fault f → body_key (parts_of kernel f r.state) out ≡ key_of kernel r out
  unfolding key_of outcome_key
  key_fault f e = ap (λ (o : Outcome). outcome_key kernel o r.state out) (sym e)

  pub key_ended : r.outcome ≡ Outcome.Ended → keyed (Err (broken Rule.NotOfLayout 0)) out ≡ key_of kernel r out
  unfolding key_of outcome_key
  key_ended e = ap (λ (o : Outcome). outcome_key kernel o r.state out) (sym e)

  pub key_budget : r.outcome ≡ Outcome.OutOfBudget → keyed (Err (broken Rule.NotOfLayout 0)) out ≡ key_of kernel r out
  unfolding key_of outcome_key
  key_budget e = ap (λ (o : Outcome). outcome_key kernel o r.state out) (sym e)

  pub key_refused : (q : Refusal) → r.outcome ≡ Outcome.Refused q → keyed (Err (broken Rule.NotOfLayout 0)) out ≡ key_of kernel r out
  unfolding key_of outcome_key
  key_refused q e = ap (λ (o : Outcome). outcome_key kernel o r.state out) (sym e)
