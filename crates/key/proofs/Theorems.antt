-- What a key says: it is a body of the layout, and two keys are equal exactly if everything that the page names is.
use Rattle.std.specs.Prelude.{Ok, Err}
use mathlib.Core.Path.{◌≡◌, refl, sym, ap, ◌∙◌}
use Prim.Native.Nat.{ℕ}
use mathlib.Core.Bool.{true, false}
use mathlib.Core.List.{List, ◌++◌}
use mathlib.Core.Logic.{⊎_elim}
use native.Mathlib.Omega.{arith}
use borrow.Author.Tests.{leb-true}
use lib.Dec.{leb}
use lib.ListN.{length, take, drop}
use lib.Seq.{take-append_seam}
use Rattle.refusals.specs.declared.Rule.{Rule}
use Rattle.refusals.specs.Table.{broken}
use Rattle.refusals.specs.declared.Refusal.{Refusal}
use Rattle.ground.proofs.Choices.{cond_by}
use Rattle.ground.proofs.Tests.{true_or_false}
use Rattle.numbers.specs.Placed.{placed}
use Rattle.numbers.proofs.Placing.{placed_front}
use Rattle.body.specs.Body.{Parts, body_format, set_bytes, bytes_of_body}
use Rattle.body.specs.Layout.{kind_lists, fits_layout, is_body}
use Rattle.body.proofs.Written.{one_body, written_body}
use Rattle.wave.specs.declared.state.State.{State}
use Rattle.faulting.specs.declared.faults.Faults.{Faults}
use Rattle.faulting.specs.Kinds.{listed}
use Rattle.stepping.specs.declared.answers.Outcome.{Outcome}
use Rattle.stepping.specs.declared.answers.Replayed.{Replayed}
use Rattle.key.specs.Key.{blocks_of, parts_of, Keying, keyed, body_key, outcome_key, key_of}

-- ---- what was written

-- n bytes of `out` are the body of p, which is of the layout
pub record Key (p : Parts) (n : ℕ) (out : List ℕ) : Type 0 where
  pub fits : fits_layout p ≡ true
  pub size : n ≡ length (bytes_of_body p)
  pub bytes : take n out ≡ bytes_of_body p

wrote_inj : (m n : ℕ) (x y : List ℕ) → keyed (Ok m) x ≡ keyed (Ok n) y → (m ≡ n) × (x ≡ y)
wrote_inj m n x y e = let a : Ok m ≡ Ok n = ap (λ (k : Keying). k.answer) e in (cc, ap (λ (k : Keying). k.out) e)

not_written : (n : ℕ) (z : Refusal) (x y : List ℕ) → keyed (Ok n) x ≡ keyed (Err z) y → ⊥
not_written n z x y e =
    let a : Ok n ≡ Err z = ap (λ (k : Keying). k.answer) e in let o : ◌≡◌ {A = ℕ} 0 1 = cc in omega arith

body_key_lem : (p : Parts) (n : ℕ) (now out : List ℕ) → keyed (Ok n) now ≡ body_key p out → Key p n now
unfolding body_key
body_key_lem p n now out e =
    let b = bytes_of_body p in
    ⊎_elim
    (λ (f : fits_layout p ≡ true).
    ⊎_elim
    (λ (l : leb (length b) (length out) ≡ true).
    let w = wrote_inj n (length b) now (placed out 0 b) (e ∙ simp (f, l)) in
    let s : now ≡ b ++ drop (length b) out = w.1 ∙ placed_front out b (leb-true _ _ l) in
    record { fits = f; size = w.0; bytes = rw (w.0, s) (take-append_seam b (drop (length b) out)) })
    (λ (l : leb (length b) (length out) ≡ false). absurd (not_written n (broken Rule.Short 0) now out (e ∙ simp (f, l))))
    (true_or_false (leb (length b) (length out))))
    (λ (f : fits_layout p ≡ false). absurd (not_written n (broken Rule.NotOfLayout 0) now out (e ∙ simp f)))
    (true_or_false (fits_layout p))

-- what a run answered that has a key: a fault, and its body
pub record Keyed (kernel : ℕ) (r : Replayed) (n : ℕ) (out : List ℕ) : Type 0 where
  pub faults : Faults
  pub outcome : r.outcome ≡ Outcome.Fault faults
  pub key : Key (parts_of kernel faults r.state) n out

outcome_key_lem : (kernel n : ℕ) (r : Replayed) (now out : List ℕ) (o : Outcome) → r.outcome ≡ o
    → keyed (Ok n) now ≡ outcome_key kernel o r.state out → Keyed kernel r n now
unfolding outcome_key
outcome_key_lem kernel n r now out (Outcome.Fault f) h e = record { faults = f; outcome = h; key = body_key_lem (parts_of kernel f r.state) n now out e }
outcome_key_lem kernel n r now out Outcome.Ended h e = absurd (not_written n (broken Rule.NotOfLayout 0) now out e)
outcome_key_lem kernel n r now out Outcome.OutOfBudget h e = absurd (not_written n (broken Rule.NotOfLayout 0) now out e)
outcome_key_lem kernel n r now out (Outcome.Refused q) h e = absurd (not_written n (broken Rule.NotOfLayout 0) now out e)

-- THEOREM: only a fault has a key, and what was written is its body
pub key_written : (kernel n : ℕ) (r : Replayed) (now out : List ℕ) → keyed (Ok n) now ≡ key_of kernel r out → Keyed kernel r n now
unfolding key_of
key_written kernel n r now out e = outcome_key_lem kernel n r now out r.outcome refl e

-- ---- what was not

refused_wrote : (k : ℕ) (x : Refusal) → Ok k ≡ Err x → ⊥
refused_wrote k x e = let z : ◌≡◌ {A = ℕ} 0 1 = cc in omega arith

module _ (x : Refusal) (out : List ℕ) where
  body_keeps : (p : Parts) → (body_key p out).answer ≡ Err x → (body_key p out).out ≡ out
  unfolding body_key
  body_keeps p =
      cond_by (λ (k : Keying). k.answer ≡ Err x → k.out ≡ out) (fits_layout p) _ _
      (λ t.
      cond_by (λ (k : Keying). k.answer ≡ Err x → k.out ≡ out) (leb (length (bytes_of_body p)) (length out)) _ _
      (λ u e. absurd (refused_wrote (length (bytes_of_body p)) x e))
      (λ u e. refl))
      (λ t e. refl)

  outcome_keeps : (kernel : ℕ) (o : Outcome) (s : State) → (outcome_key kernel o s out).answer ≡ Err x → (outcome_key kernel o s out).out ≡ out
  unfolding outcome_key
  outcome_keeps kernel (Outcome.Fault f) s e = body_keeps (parts_of kernel f s) e
  outcome_keeps kernel Outcome.Ended s e = refl
  outcome_keeps kernel Outcome.OutOfBudget s e = refl
  outcome_keeps kernel (Outcome.Refused q) s e = refl

  -- THEOREM: a refusal leaves the output as lent
  pub refused_keeps : (kernel : ℕ) (r : Replayed) → (key_of kernel r out).answer ≡ Err x → (key_of kernel r out).out ≡ out
  unfolding key_of
  refused_keeps kernel r e = outcome_keeps kernel r.outcome r.state e

-- THEOREM: what was written, where each number has room, is a body of the layout
pub key_is_body : (p : Parts) (n : ℕ) (out : List ℕ) → (body_format set_bytes).fits p ≡ true → Key p n out → is_body (take n out) ≡ true
key_is_body p n out h k = written_body kind_lists set_bytes (take n out) (record { parts = p; room = h; fits = k.fits; bytes = sym k.bytes })

-- ---- which keys are equal

-- two faults agree in all that a key says
pub record Same (number number' : ℕ) (f f' : Faults) (s s' : State) : Type 0 where
  pub kernel : number ≡ number'
  pub place : s.hot.place ≡ s'.hot.place
  pub faults : listed f ≡ listed f'
  pub active : s.hot.active ≡ s'.hot.active
  pub halted : s.hot.halted ≡ s'.hot.halted
  pub blocks : blocks_of s ≡ blocks_of s'

module _ (kernel kernel' : ℕ) (f f' : Faults) (s s' : State) where
  -- THEOREM: keys are equal exactly if kernel, place, faults, active and halted lanes and open blocks are
  pub same_key : Same kernel kernel' f f' s s' → bytes_of_body (parts_of kernel f s) ≡ bytes_of_body (parts_of kernel' f' s')
  unfolding parts_of
  same_key h =
      ap bytes_of_body
      (λ i.
      record {
        kernel = h.kernel i;
        place = h.place i;
        faults = h.faults i;
        active = h.active i;
        halted = h.halted i;
        blocks = h.blocks i;
      })

  pub key_same : (body_format set_bytes).fits (parts_of kernel f s) ≡ true → (body_format set_bytes).fits (parts_of kernel' f' s') ≡ true
      → bytes_of_body (parts_of kernel f s) ≡ bytes_of_body (parts_of kernel' f' s') → Same kernel kernel' f f' s s'
  unfolding parts_of
  key_same a b e =
      let p : parts_of kernel f s ≡ parts_of kernel' f' s' = one_body set_bytes (parts_of kernel f s) (parts_of kernel' f' s') a b e in
      record {
        kernel = ap (λ (q : Parts). q.kernel) p;
        place = ap (λ (q : Parts). q.place) p;
        faults = ap (λ (q : Parts). q.faults) p;
        active = ap (λ (q : Parts). q.active) p;
        halted = ap (λ (q : Parts). q.halted) p;
        blocks = ap (λ (q : Parts). q.blocks) p;
      }
