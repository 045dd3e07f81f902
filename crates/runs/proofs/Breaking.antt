-- A call is refused exactly if it breaks a rule of the page's table, with the refusal that the table gives it: each test is taken as passed or
-- not, in the order of the tests.
use Prim.Native.Nat.{ℕ, ◌*◌, ◌≤◌}
use native.Mathlib.Omega.{arith}
use mathlib.Core.Path.{◌≡◌, refl, sym, ap, ◌∙◌, subst}
use mathlib.Core.Logic.{◌↔◌}
use mathlib.Core.Bool.{Bool, true, false}
use mathlib.Core.List.{List}
use lib.Dec.{eqb, leb}
use lib.ListN.{length}
use borrow.Author.Tests.{leb-true, leb-false, eqb-true, eqb-false, le-leb, lt-leb, eq-eqb, ne_eqb}
use Rattle.ground.proofs.Bools.{never}
use Rattle.ground.proofs.Tests.{false_of}
use Rattle.lanes.specs.Sets.{widest}
use Rattle.refusals.specs.declared.Refusal.{Refusal}
use Rattle.refusals.specs.declared.Rule.{Rule}
use Rattle.refusals.specs.Table.{broken}
use Rattle.blocks.specs.Scan.{Checked}
use Rattle.std.specs.Prelude.{Ok, Err}
use Rattle.blocks.specs.Code.{Code, code_of}
use Rattle.blocks.specs.Scan.{check_of}
use Rattle.blocks.proofs.Refusing.{refused_not_fine, same_refusal}
use Rattle.nesting.specs.Nesting.{Nested}
use Rattle.nesting.proofs.Nested.{passes_if}
use Rattle.nesting.proofs.Breaking.{refused_if}
use Rattle.wave.specs.declared.state.State.{State}
use Rattle.fits.specs.Fits as wave
use Rattle.fits.specs.FitsTest.{fits_test}
use Rattle.fits.specs.Opens.{StateFits}
use Rattle.fits.proofs.Fitting.{fits_test_lem}
use Rattle.fits.proofs.Opens.{state_fits_if}
use Rattle.stepping.specs.declared.settings.Settings.{Settings}
use Rattle.stepping.specs.declared.answers.Outcome.TheVariants.{Refused}
use Rattle.replay.specs.Replay.{most_words, settings_right, reading_of, then_test, refused_unless, bounds_test, launch_test, resume_test, launch_of, resume_of}
use Rattle.runs.specs.Refusals.{Bounded, BoundsBreak, setting, code_length, buffer_length}
use Rattle.runs.specs.Refusals.{LaunchBreaks, in_bounds, in_code, ResumeBreaks, in_launch, in_state}
use Rattle.runs.proofs.Allowing.{allowed_right, right_allowed, allowed_narrow}
use Rattle.runs.proofs.Returns.{then_first, then_second, unless_true}
use Rattle.runs.proofs.Refusing.{launch_refused_if, resume_refused_if}

module _ (s : Settings) (code regs : List ℕ) where
  -- ---- 1 to 3

  -- the three tests, by what each told
  abbrev tests : Bool → Bool → Bool → Checked
  tests a b c =
      then_test (refused_unless a (broken Rule.Setting 0))
      (then_test (refused_unless b (broken Rule.LongCode 0)) (refused_unless c (broken Rule.Buffer 0)))

  bounds_as : (r q : Refusal) → BoundsBreak s code regs q → ◌≡◌ {A = Checked} (Err q) (Err r) → BoundsBreak s code regs r
  bounds_as r q b e = subst (BoundsBreak s code regs) (same_refusal q r e) b

  bounds_tested : (r : Refusal) (a b c : Bool) → settings_right s ≡ a → leb (length code) most_words ≡ b → eqb (length regs) (s.width * s.registers) ≡ c
      → tests a b c ≡ Err r → BoundsBreak s code regs r
  bounds_tested r false b c ea eb ec e = bounds_as r _ (setting (λ x. never (sym ea ∙ allowed_right s x))) e
  bounds_tested r true false c ea eb ec e = bounds_as r _ (code_length (right_allowed s ea) (leb-false _ _ eb)) e
  bounds_tested r true true false ea eb ec e =
      bounds_as r _ (buffer_length (right_allowed s ea) (leb-true _ _ eb) (eqb-false _ _ ec)) e
  bounds_tested r true true true ea eb ec e = refused_not_fine r (sym e)

  bounds_passed : (a b c : Bool) → settings_right s ≡ a → leb (length code) most_words ≡ b → eqb (length regs) (s.width * s.registers) ≡ c
      → tests a b c ≡ Ok tt → Bounded s code regs
  bounds_passed false b c ea eb ec e = refused_not_fine _ e
  bounds_passed true false c ea eb ec e = refused_not_fine _ e
  bounds_passed true true false ea eb ec e = refused_not_fine _ e
  bounds_passed true true true ea eb ec e = record { allowed = right_allowed s ea; short = leb-true _ _ eb; buffer = eqb-true _ _ ec }

  bounds_broken : (r : Refusal) → BoundsBreak s code regs r → bounds_test s code regs ≡ Err r
  bounds_broken r (setting f) = rw (false_of (settings_right s) (λ e. f (right_allowed s e))) refl
  bounds_broken r (code_length a l) = rw (allowed_right s a, lt-leb _ _ l) refl
  bounds_broken r (buffer_length a l f) = rw (allowed_right s a, le-leb _ _ l, ne_eqb _ _ f) refl

  bounds_if : (r : Refusal) → (bounds_test s code regs ≡ Err r) ↔ BoundsBreak s code regs r
  bounds_if r = (
    bounds_tested r (settings_right s) (leb (length code) most_words) (eqb (length regs) (s.width * s.registers)) refl refl refl,
    bounds_broken r,
  )

  bounded_if : (bounds_test s code regs ≡ Ok tt) ↔ Bounded s code regs
  bounded_if = (
    bounds_passed (settings_right s) (leb (length code) most_words) (eqb (length regs) (s.width * s.registers)) refl refl refl,
    λ b. rw (allowed_right s b.allowed, le-leb _ _ b.short, eq-eqb _ _ b.buffer) refl,
  )

  -- ---- then 4 to 10

  abbrev kernel : Code
  kernel = code_of code (reading_of s)

  launch_tested : (r : Refusal) (v : Checked) → bounds_test s code regs ≡ v → then_test v (check_of kernel) ≡ Err r → LaunchBreaks s code regs r
  launch_tested r (Ok tt) ev e = in_code (bounded_if.0 ev) ((refused_if code (reading_of s) r).0 e)
  launch_tested r (Err q) ev e = in_bounds ((bounds_if r).0 (ev ∙ e))

  launch_broken : (r : Refusal) → LaunchBreaks s code regs r → launch_test s code regs ≡ Err r
  launch_broken r (in_bounds b) = rw ((bounds_if r).1 b) refl
  launch_broken r (in_code b x) = ap (λ (v : Checked). then_test v (check_of kernel)) (bounded_if.1 b) ∙ (refused_if code (reading_of s) r).1 x

  launch_if : (r : Refusal) → (launch_test s code regs ≡ Err r) ↔ LaunchBreaks s code regs r
  launch_if r = (launch_tested r (bounds_test s code regs) refl, launch_broken r)

  -- its tests pass exactly if all is in bounds and the blocks nest
  pub launch_passes : (launch_test s code regs ≡ Ok tt) ↔ (Bounded s code regs × Nested code (reading_of s))
  launch_passes = (
    λ e. (
      bounded_if.0 (then_first (bounds_test s code regs) (check_of kernel) e),
      (passes_if code (reading_of s)).0 (then_second (bounds_test s code regs) (check_of kernel) e),
    ),
    λ h. ap (λ (v : Checked). then_test v (check_of kernel)) (bounded_if.1 h.0) ∙ (passes_if code (reading_of s)).1 h.1,
  )

  -- A LAUNCH is refused exactly by the first rule that it breaks
  pub launch_refused : (device local : List ℕ) (r : Refusal)
      → ((launch_of s code regs device local).outcome ≡ Refused r) ↔ LaunchBreaks s code regs r
  launch_refused device local r =
      let t = launch_refused_if r s code regs device local in
      (λ e. (launch_if r).0 (t.0 e), λ b. t.1 ((launch_if r).1 b))

  -- ---- then 11

  module _ (state : State) where
    abbrev fit : Bool
    fit = fits_test code (reading_of s) s.lanes state.hot state.blocks

    fit_if : (fit ≡ true) ↔ wave.Fits code (reading_of s) s.lanes state.hot state.blocks
    fit_if = fits_test_lem code (reading_of s) s.lanes state.hot state.blocks

    -- in bounds, for code whose blocks nest, the test is true exactly of the states that fit
    pub state_fit_if : Bounded s code regs → Nested code (reading_of s)
        → (fit ≡ true) ↔ StateFits code (reading_of s) s.lanes state.hot state.blocks
    state_fit_if b w =
        let wide : s.lanes ≤ widest = omega (arith, b.allowed.lanes.1, allowed_narrow s b.allowed) in
        let t = state_fits_if code (reading_of s) s.lanes w wide state.hot state.blocks in
        (λ e. t.0 (fit_if.0 e), λ f. fit_if.1 (t.1 f))

    -- whether the state fits, by what the test told
    abbrev state_test_lem : Bool → Checked
    state_test_lem b = refused_unless b (broken Rule.State 0)

    resume_tested : (r : Refusal) (v : Checked) (b : Bool) → launch_test s code regs ≡ v → fit ≡ b → then_test v (state_test_lem b) ≡ Err r
        → ResumeBreaks s state code regs r
    resume_tested r (Err q) b ev eb e = in_launch ((launch_if r).0 (ev ∙ e))
    resume_tested r (Ok tt) true ev eb e = refused_not_fine r (sym e)
    resume_tested r (Ok tt) false ev eb e =
        let q = launch_passes.0 ev in
        subst (ResumeBreaks s state code regs) (same_refusal _ r e) (in_state q.0 q.1 (λ f. never (sym eb ∙ (state_fit_if q.0 q.1).1 f)))

    resume_broken : (r : Refusal) → ResumeBreaks s state code regs r → resume_test s state code regs ≡ Err r
    resume_broken r (in_launch b) = rw ((launch_if r).1 b) refl
    resume_broken r (in_state b w f) =
        ap (λ (v : Checked). then_test v (state_test_lem fit)) (launch_passes.1 (b, w)) ∙ rw (false_of fit (λ e. f ((state_fit_if b w).0 e))) refl

    -- the tests of a resume pass exactly if all is in bounds, the blocks nest and the state fits
    pub resume_passes : (resume_test s state code regs ≡ Ok tt)
        ↔ (Bounded s code regs × Nested code (reading_of s) × StateFits code (reading_of s) s.lanes state.hot state.blocks)
    resume_passes = (
      λ e.
          let q = launch_passes.0 (then_first (launch_test s code regs) (state_test_lem fit) e) in
          (q.0, q.1, (state_fit_if q.0 q.1).0 (unless_true fit _ (then_second (launch_test s code regs) (state_test_lem fit) e))),
      λ h. ap (λ (v : Checked). then_test v (state_test_lem fit)) (launch_passes.1 (h.0, h.1)) ∙ rw ((state_fit_if h.0 h.1).1 h.2) refl,
    )

    -- GOING ON is refused exactly by the first rule that it breaks
    pub resume_refused : (device local : List ℕ) (r : Refusal)
        → ((resume_of s state code regs device local).outcome ≡ Refused r) ↔ ResumeBreaks s state code regs r
    resume_refused device local r =
        let t = resume_refused_if r s code regs device local state in
        (λ e. resume_tested r (launch_test s code regs) fit refl refl (t.0 e), λ b. t.1 (resume_broken r b))
