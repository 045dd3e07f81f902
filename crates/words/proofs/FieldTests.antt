-- Reading's test of the fields of an operation's words holds exactly if all is allowed that they have.
use Prim.Native.Nat.{ℕ, ◌<◌}
use native.Mathlib.Omega.{arith}
use mathlib.Core.Path.{◌≡◌, refl, sym, ap, ◌∙◌}
use mathlib.Core.Bool.{Bool, true, false, not, ◌&&◌}
use lib.Dec.{eqb, leb, ltb}
use borrow.Author.Tests.{leb-true, le-leb, lt-ltb, eqb-true, eq-eqb, ne_eqb}
use Rattle.ground.proofs.Bools.{never, and_left, and_right}
use Rattle.instructions.specs.declared.instr.Op.{Op}
use Rattle.instructions.specs.declared.forms.Need.{Need}
use Rattle.instructions.specs.declared.forms.Second.{Second}
use Rattle.instructions.specs.declared.forms.Limits.{Limits}
use Rattle.instructions.specs.Forms.{form, need_met, guard_fits, second_fits, fits}
use Rattle.words.specs.Layout.{instr_in, guard_in, spare_zero, second_spare}
use Rattle.words.specs.Layout.{rd_in, rs1_in, bit3_in, negate_in, pred_in, rs2_in, rs3_in, rs4_in, spare_in, scope_in}
use Rattle.words.specs.Rules.{Needed, SecondAllowed, Allowed}

not_both : (a b : Bool) → (a ≡ true → b ≡ true → ⊥) → not (a && b) ≡ true
not_both true true f = absurd (f refl refl)
not_both true false f = refl
not_both false b f = refl

-- ---- the predicate

need_met_lem : (need : Need) (p : ℕ) → need_met need p ≡ true → Needed need p
need_met_lem Need.Any p e = tt
need_met_lem Need.NotZero p e = λ z. never (ap not (sym (eq-eqb p 0 z)) ∙ e)
need_met_lem Need.Zero p e = eqb-true p 0 e

need_kept : (need : Need) (p : ℕ) → Needed need p → need_met need p ≡ true
need_kept Need.Any p h = refl
need_kept Need.NotZero p h = rw (ne_eqb p 0 h) refl
need_kept Need.Zero p h = eq-eqb p 0 h

-- ---- the second word

-- the parts of an instruction of both words that the test looks at, by what the second word is
abbrev tested : ℕ → ℕ → ℕ → Need → Second → Op → ℕ → ℕ → Bool
tested least rd rs1 need s o w v = spare_zero s w v && fits (form least rd rs1 need s) (instr_in s o w v)

abbrev guarded : Need → ℕ → Bool
guarded need w = guard_fits need (guard_in w)

abbrev headed : ℕ → ℕ → ℕ → Need → ℕ → Bool → Bool
headed least rd rs1 need w rest = guarded need w && (leb least (rd_in w) && (leb (rd_in w) rd && (leb (rs1_in w) rs1 && rest)))

-- what the test says of the second word
abbrev rests : Second → Op → ℕ → ℕ → Bool
rests s o w v = second_fits s (instr_in s o w v)

same_head : (least rd rs1 : ℕ) (need : Need) (s : Second) (o : Op) (w v : ℕ)
    → tested least rd rs1 need s o w v ≡ ((eqb (bit3_in w) 0 && second_spare s v) && headed least rd rs1 need w (rests s o w v))
same_head least rd rs1 need Second.Nothing o w v = refl
same_head least rd rs1 need Second.Number o w v = refl
same_head least rd rs1 need (Second.Registers a b c) o w v = refl

second_allowed : (s : Second) (o : Op) (w v : ℕ) → second_spare s v ≡ true → rests s o w v ≡ true → SecondAllowed s v
second_allowed Second.Nothing o w v e f = tt
second_allowed Second.Number o w v e f = tt
second_allowed (Second.Registers a b c) o w v e f =
    let f1 = and_right (leb (rs2_in v) a) _ f in
    let f2 = and_right (leb (rs3_in v) b) _ f1 in (
      leb-true (rs2_in v) a (and_left _ _ f),
      leb-true (rs3_in v) b (and_left _ _ f1),
      eqb-true (rs4_in v) 0 (and_left _ _ e),
      eqb-true (spare_in v) 0 (and_right (eqb (rs4_in v) 0) _ e),
      leb-true (scope_in v) c (and_left _ _ f2),
    )

second_kept : (s : Second) (o : Op) (w v : ℕ) → SecondAllowed s v → (second_spare s v ≡ true) × (rests s o w v ≡ true)
second_kept Second.Nothing o w v h = (refl, refl)
second_kept Second.Number o w v h = (refl, refl)
second_kept (Second.Registers a b c) o w v h = (
  rw (eq-eqb (rs4_in v) 0 h.2, eq-eqb (spare_in v) 0 h.3) refl,
  rw (le-leb (rs2_in v) a h.0, le-leb (rs3_in v) b h.1, le-leb (scope_in v) c h.4) refl,
)

-- ---- all fields

module _ (l : Limits) (o : Op) (w v : ℕ) where
  abbrev pub right : Bool
  right = spare_zero l.second w v && fits l (instr_in l.second o w v)

  split : right ≡ ((eqb (bit3_in w) 0 && second_spare l.second v) && headed l.least l.rd l.rs1 l.need w (rests l.second o w v))
  split = same_head l.least l.rd l.rs1 l.need l.second o w v

  pub allowed : right ≡ true → Allowed l w v
  allowed e =
      let spare = and_left (eqb (bit3_in w) 0 && second_spare l.second v) _ (sym split ∙ e) in
      let head = and_right (eqb (bit3_in w) 0 && second_spare l.second v) _ (sym split ∙ e) in
      let guard : guarded l.need w ≡ true = and_left (guarded l.need w) _ head in
      let guard' = and_right (ltb (pred_in w) 4) _ guard in
      let h1 = and_right (guarded l.need w) _ head in
      let h2 = and_right (leb l.least (rd_in w)) _ h1 in
      let h3 = and_right (leb (rd_in w) l.rd) _ h2 in
      record {
        bit3 = eqb-true (bit3_in w) 0 (and_left _ _ spare);
        form = λ p n. never (sym (rw (eq-eqb _ _ p, eq-eqb _ _ n) refl) ∙ and_left (not (eqb (pred_in w) 0 && eqb (negate_in w) 1)) _ guard');
        predicate = need_met_lem l.need (pred_in w) (and_right (not (eqb (pred_in w) 0 && eqb (negate_in w) 1)) _ guard');
        rd = (leb-true _ _ (and_left (leb l.least (rd_in w)) _ h1), leb-true _ _ (and_left (leb (rd_in w) l.rd) _ h2));
        rs1 = leb-true _ _ (and_left (leb (rs1_in w) l.rs1) _ h3);
        second = second_allowed l.second o w v (and_right (eqb (bit3_in w) 0) _ spare) (and_right (leb (rs1_in w) l.rs1) _ h3);
      }

  pub kept : Allowed l w v → right ≡ true
  kept a =
      let s = second_kept l.second o w v a.second in
      let low : pred_in w < 4 = omega arith in
      split
      ∙ rw (
        eq-eqb _ _ a.bit3,
        s.0,
        lt-ltb _ _ low,
        not_both (eqb (pred_in w) 0) (eqb (negate_in w) 1) (λ p n. a.form (eqb-true _ _ p) (eqb-true _ _ n)),
        need_kept l.need (pred_in w) a.predicate,
        le-leb _ _ a.rd.0,
        le-leb _ _ a.rd.1,
        le-leb _ _ a.rs1,
        s.1,
      ) refl
