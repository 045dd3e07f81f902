-- The test of the settings is true exactly of the settings that are allowed; these have no wave wider than the widest.
use Prim.Native.Nat.{ℕ, ◌≤◌}
use native.Mathlib.Omega.{arith}
use mathlib.Core.Path.{◌≡◌, refl}
use mathlib.Core.Logic.{◌⊎◌, inl, inr, ⊎_elim}
use mathlib.Core.Bool.{Bool, true, ◌&&◌, ◌||◌}
use lib.Dec.{eqb, leb}
use borrow.Author.Tests.{leb-true, eqb-true, le-leb}
use Rattle.ground.proofs.Bools.{and_left, and_right}
use Rattle.ground.proofs.Tests.{or_cases}
use Rattle.lanes.specs.Sets.{widest}
use Rattle.stepping.specs.declared.settings.Settings.{Settings}
use Rattle.replay.specs.Replay.{most_registers, most_steps, settings_right}
use Rattle.runs.specs.Refusals.{Allowed}

width_among : (w : ℕ) → (eqb w 8 || eqb w 16 || eqb w 32) ≡ true → (w ≡ 8) ⊎ ((w ≡ 16) ⊎ (w ≡ 32))
width_among w e =
    elim (or_cases (eqb w 8 || eqb w 16) (eqb w 32) e) [
      | inl two ↦ ⊎_elim (λ a. inl (eqb-true w 8 a)) (λ b. inr (inl (eqb-true w 16 b))) (or_cases (eqb w 8) (eqb w 16) two)
      | inr c ↦ inr (inr (eqb-true w 32 c))
    ]

pub among_width : (w : ℕ) → (w ≡ 8) ⊎ ((w ≡ 16) ⊎ (w ≡ 32)) → (eqb w 8 || eqb w 16 || eqb w 32) ≡ true
among_width w (inl e) = rw e refl
among_width w (inr (inl e)) = rw e refl
among_width w (inr (inr e)) = rw e refl

pub allowed_right : (s : Settings) → Allowed s → settings_right s ≡ true
allowed_right s a =
    rw (
      among_width s.width a.width,
      le-leb 1 s.registers a.registers.0,
      le-leb s.registers most_registers a.registers.1,
      le-leb 1 s.lanes a.lanes.0,
      le-leb s.lanes s.width a.lanes.1,
      le-leb s.budget most_steps a.budget,
    ) refl

pub right_allowed : (s : Settings) → settings_right s ≡ true → Allowed s
right_allowed s e =
    let c0 : Bool = (eqb s.width 8 || eqb s.width 16 || eqb s.width 32) in
    let c1 : Bool = leb 1 s.registers in
    let c2 : Bool = leb s.registers most_registers in
    let c3 : Bool = leb 1 s.lanes in
    let c4 : Bool = leb s.lanes s.width in
    let c5 : Bool = leb s.budget most_steps in
    let r4 : (c0 && c1 && c2 && c3 && c4) ≡ true = and_left (c0 && c1 && c2 && c3 && c4) c5 e in
    let r3 : (c0 && c1 && c2 && c3) ≡ true = and_left (c0 && c1 && c2 && c3) c4 r4 in
    let r2 : (c0 && c1 && c2) ≡ true = and_left (c0 && c1 && c2) c3 r3 in
    let r1 : (c0 && c1) ≡ true = and_left (c0 && c1) c2 r2 in
    record {
      width = width_among s.width (and_left c0 c1 r1);
      registers = (leb-true 1 s.registers (and_right c0 c1 r1), leb-true s.registers most_registers (and_right (c0 && c1) c2 r2));
      lanes = (leb-true 1 s.lanes (and_right (c0 && c1 && c2) c3 r3), leb-true s.lanes s.width (and_right (c0 && c1 && c2 && c3) c4 r4));
      budget = leb-true s.budget most_steps (and_right (c0 && c1 && c2 && c3 && c4) c5 e);
    }

-- a wave is no wider than the widest
pub allowed_narrow : (s : Settings) → Allowed s → s.width ≤ widest
allowed_narrow s a = narrow s.width a.width
  where
    narrow : (w : ℕ) → (w ≡ 8) ⊎ ((w ≡ 16) ⊎ (w ≡ 32)) → w ≤ widest
    narrow w (inl e) = omega arith
    narrow w (inr (inl e)) = omega arith
    narrow w (inr (inr e)) = omega arith
