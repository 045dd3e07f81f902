-- The sets of a wave fit, said at one lane and from the inside out: at a lane a set is 0 or 1 and a disjoint union is a sum, so that each
-- law about fitting sets is arithmetic. It says what `SetsFit` says.
use mathlib.Core.Path.{◌≡◌, refl, sym, ◌∙◌, subst}
use mathlib.Core.Bool.{false}
use mathlib.Core.List.{List, [], ◌∷◌, ◌++◌}
use mathlib.Core.Logic.{dite}
use Prim.Native.Nat.{ℕ, ◌+◌, ◌≤◌}
use native.Mathlib.Omega.{arith}
use native.Mathlib.Decide.{dec_lt}
use Rattle.lanes.specs.Sets.{bit, first}
use Rattle.lanes.proofs.Bits.{bit_le, bit_zero, first_below, first_past, set_ext}
use Rattle.lanes.specs.declared.said.Block.{Block}
use Rattle.wave.specs.Wave.{Wave, Preds}
use Rattle.wave.specs.Layout.{is_loop}
use Rattle.fits.specs.Fits.{count, asides, marks, predicates, Unions, Quiet, SetsFit}

-- at lane i, n (0 or 1) of the sets inside hold it; bs: the open blocks from there outward; l: the launched lanes, h: the halted ones
abbrev pub FitsAt : ℕ → ℕ → ℕ → ℕ → List Block → Type 0
FitsAt l h i n [] = n + bit h i ≡ bit l i
FitsAt l h i n (b ∷ bs) =
    (bit b.entered i ≡ bit b.left i + (n + bit b.aside i + bit b.again i))
    × (is_loop b ≡ false → bit b.again i ≡ 0)
    × (bit b.entered i ≤ bit l i)
    × FitsAt l h i (n + bit b.aside i + bit b.again i) bs

-- at every lane
abbrev pub FitsLanes : ℕ → Wave → Type 0
FitsLanes l w = (i : ℕ) → FitsAt l w.halted i (bit w.active i) w.path

-- each predicate is of launched lanes
pub record PredsFit (l : ℕ) (ps : Preds) : Type 0 where
  pub in1 : (i : ℕ) → bit ps.p1 i ≤ bit l i
  pub in2 : (i : ℕ) → bit ps.p2 i ≤ bit l i
  pub in3 : (i : ℕ) → bit ps.p3 i ≤ bit l i

pub count_append : (i : ℕ) (ss ts : List ℕ) → count i (ss ++ ts) ≡ count i ss + count i ts
count_append i [] ts = omega arith
count_append i (s ∷ ss) ts = omega (arith, count_append i ss ts)

-- ---- the launched lanes
module _ (l h i : ℕ) where
  -- the same at an equal number
  pub at : {m n : ℕ} (bs : List Block) → m ≡ n → FitsAt l h i m bs → FitsAt l h i n bs
  at bs e f = subst (λ (k : ℕ). FitsAt l h i k bs) e f

  -- what is active or set aside was launched, and what has halted
  pub launched : (n : ℕ) (bs : List Block) → FitsAt l h i n bs → n + bit h i ≤ bit l i
  launched n [] f = omega arith
  launched n (b ∷ bs) f = omega (arith, launched (n + bit b.aside i + bit b.again i) bs f.3)

  -- ---- from lane to whole: the lane is in as many of the sets as it was launched
  pub total : (n : ℕ) (bs : List Block) → FitsAt l h i n bs → n + bit h i + count i (asides bs) ≡ bit l i
  total n [] f = omega arith
  total n (b ∷ bs) f = omega (arith, total (n + bit b.aside i + bit b.again i) bs f.3)

  -- a lane that was not launched is in no entered or left set
  pub unmarked : (n : ℕ) (bs : List Block) → bit l i ≡ 0 → FitsAt l h i n bs → count i (marks bs) ≡ 0
  unmarked n [] z f = refl
  unmarked n (b ∷ bs) z f = omega (arith, f.0, f.2, unmarked (n + bit b.aside i + bit b.again i) bs z f.3)

  -- ---- from whole to lane
  from_whole : (inner : List ℕ) (bs : List Block) → Unions inner bs → Quiet bs → count i inner + bit h i + count i (asides bs) ≡ bit l i
      → (bit l i ≡ 0 → count i (marks bs) ≡ 0) → FitsAt l h i (count i inner) bs
  from_whole inner [] u q t m = omega arith
  from_whole inner (b ∷ bs) u q t m = (
    omega (arith, u.0 i),
    (λ e. rw (q.0 e) (bit_zero i)),
    dite (dec_lt 0 (bit l i)) (λ p. omega (arith, bit_le b.entered i)) (λ p. omega (arith, m (omega arith))),
    at bs (omega arith) (from_whole (b.aside ∷ b.again ∷ inner) bs u.1 q.1 (omega arith) (λ z. omega (arith, m z))),
  )

unions_of : (l h : ℕ) (inner : List ℕ) (bs : List Block) → ((i : ℕ) → FitsAt l h i (count i inner) bs) → Unions inner bs
unions_of l h inner [] f = tt
unions_of l h inner (b ∷ bs) f = (
  (λ i. omega (arith, (f i).0)),
  unions_of l h (b.aside ∷ b.again ∷ inner) bs (λ i. at l h i bs (omega arith) (f i).3),
)

quiet_of : (l h : ℕ) (n : ℕ → ℕ) (bs : List Block) → ((i : ℕ) → FitsAt l h i (n i) bs) → Quiet bs
quiet_of l h n [] f = tt
quiet_of l h n (b ∷ bs) f = (
  (λ e. set_ext b.again 0 (λ i. (f i).1 e ∙ sym (bit_zero i))),
  quiet_of l h (λ i. n i + bit b.aside i + bit b.again i) bs (λ i. (f i).3),
)

-- ---- both ways
pub fits_lanes : (n : ℕ) (w : Wave) (ps : Preds) → SetsFit n w ps → FitsLanes (first n) w × PredsFit (first n) ps
fits_lanes n w ps f = (
  (λ i. at (first n) w.halted i w.path (omega arith) (from_whole (first n) w.halted i (w.active ∷ []) w.path f.unions f.quiet (sum i) (outside i))),
  record {
    in1 = λ i. pred_in_lem ps.p1 i (omega arith);
    in2 = λ i. pred_in_lem ps.p2 i (omega arith);
    in3 = λ i. pred_in_lem ps.p3 i (omega arith);
  },
)
  where
    -- where a lane was not launched no set holds it
    none_at : (i : ℕ) → n ≤ i
        → bit w.active i + (bit w.halted i + (count i (asides w.path) + (count i (marks w.path) + count i (predicates ps)))) ≡ 0
    none_at i p =
        omega (arith, f.none i p, count_append i (asides w.path) (marks w.path ++ predicates ps), count_append i (marks w.path) (predicates ps))

    sum : (i : ℕ) → count i (w.active ∷ []) + bit w.halted i + count i (asides w.path) ≡ bit (first n) i
    sum i =
        dite (dec_lt i n)
        (λ p. omega (arith, f.one i p, first_below n i p))
        (λ p. omega (arith, none_at i (omega arith), first_past n i (omega arith)))

    outside : (i : ℕ) → bit (first n) i ≡ 0 → count i (marks w.path) ≡ 0
    outside i z =
        dite (dec_lt i n)
        (λ p. absurd (omega (arith, first_below n i p)))
        (λ p. omega (arith, none_at i (omega arith)))

    -- a set of the predicates holds launched lanes alone
    pred_in_lem : (s i : ℕ) → bit s i ≤ count i (predicates ps) → bit s i ≤ bit (first n) i
    pred_in_lem s i le =
        dite (dec_lt i n)
        (λ p. omega (arith, bit_le s i, first_below n i p))
        (λ p. omega (arith, none_at i (omega arith)))

pub lanes_fit : (n : ℕ) (w : Wave) (ps : Preds) → FitsLanes (first n) w → PredsFit (first n) ps → SetsFit n w ps
lanes_fit n w ps f p = record {
  one = λ i h. omega (arith, total (first n) w.halted i (bit w.active i) w.path (f i), first_below n i h);
  none = λ i h. omega (
    arith,
    total (first n) w.halted i (bit w.active i) w.path (f i),
    unmarked (first n) w.halted i (bit w.active i) w.path (first_past n i h) (f i),
    first_past n i h,
    p.in1 i,
    p.in2 i,
    p.in3 i,
    count_append i (asides w.path) (marks w.path ++ predicates ps),
    count_append i (marks w.path) (predicates ps),
  );
  unions = unions_of (first n) w.halted (w.active ∷ []) w.path (λ i. at (first n) w.halted i w.path (omega arith) (f i));
  quiet = quiet_of (first n) w.halted (λ i. bit w.active i) w.path f;
}
