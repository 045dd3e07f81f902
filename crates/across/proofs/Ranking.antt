-- The lowest number is one of the executing lanes' numbers, where a lane executes, and none is lower; and so of the highest.
use mathlib.Core.Path.{◌≡◌, refl, sym, ap, ◌∙◌}
use mathlib.Core.Bool.{Bool, true, false}
use mathlib.Core.Logic.{◌⊎◌, inl, inr, ⊎_elim, dite}
use Prim.Native.Nat.{ℕ, zero, suc, ◌^◌, ◌≤◌, ◌<◌}
use native.Mathlib.Decide.{dec_lt, ℕ_discrete}
use native.Mathlib.Omega.{arith}
use Rattle.ground.proofs.Bools.{never}
use Rattle.ground.proofs.Numbers.{cond_lt}
use Rattle.lanes.specs.Sets.{has}
use Rattle.instructions.specs.declared.instr.TwoOp.{TwoOp}
use Rattle.instructions.specs.declared.instr.WaveOp.{WaveOp}
use Rattle.arith.specs.Arith.{less, two_of}
use Rattle.arith.proofs.Ordering.{rank, less_yes, less_no, min_low, min_one, max_high, max_one}
use Rattle.arith.proofs.Bounds.{two_lt}
use Rattle.across.specs.Across.{brought, fold_below, greatest, least, lowest_of, highest_of, across_of}

-- x is the number of an executing lane below n
pub record Among (t : ℕ) (f : ℕ → ℕ) (n x : ℕ) : Type 0 where
  pub lane : ℕ
  pub below : lane < n
  pub executes : has t lane ≡ true
  pub is : x ≡ f lane

-- a choice of two numbers that passes over `idle`
record Chooses (o : TwoOp) (idle : ℕ) : Type 0 where
  idle_lt : idle < 2 ^ 32
  one_of : (a b : ℕ) → (two_of o a b ≡ a) ⊎ (two_of o a b ≡ b)
  over_left : (x : ℕ) → x < 2 ^ 32 → two_of o idle x ≡ x
  over_right : (x : ℕ) → x < 2 ^ 32 → two_of o x idle ≡ x

choose_low : Chooses TwoOp.Min greatest
choose_low =
    record {
      idle_lt = omega arith;
      one_of = min_one;
      over_left = λ x h. rw (less_no greatest x (omega arith) h (omega arith)) refl;
      over_right =
          λ x h. dite (dec_lt (rank x) (rank greatest))
          (λ l. rw (less_yes x greatest h (omega arith) l) refl)
          (λ l. rw (less_no x greatest h (omega arith) (omega arith)) (omega arith));
    }

choose_high : Chooses TwoOp.Max least
choose_high =
    record {
      idle_lt = omega arith;
      one_of = max_one;
      over_left =
          λ x h. dite (dec_lt (rank least) (rank x))
          (λ l. rw (less_yes least x (omega arith) h l) refl)
          (λ l. rw (less_no least x (omega arith) h (omega arith)) (omega arith));
      over_right = λ x h. rw (less_no x least h (omega arith) (omega arith)) refl;
    }

module _ (t : ℕ) (f : ℕ → ℕ) (low : (j : ℕ) → f j < 2 ^ 32) where
  brought_lt : (idle j : ℕ) → idle < 2 ^ 32 → brought idle t f j < 2 ^ 32
  brought_lt idle j h = cond_lt (has t j) (low j) h

  fold_lt : (o : TwoOp) (idle : ℕ) → idle < 2 ^ 32 → (n : ℕ) → fold_below o idle t f n < 2 ^ 32
  unfolding fold_below
  fold_lt o idle h zero = h
  fold_lt o idle h (suc n) = two_lt o (fold_below o idle t f n) (brought idle t f n) (fold_lt o idle h n) (brought_lt idle n h)

  -- no executing lane is below n
  abbrev Idle : ℕ → Type 0
  Idle n = (j : ℕ) → j < n → has t j ≡ true → ⊥

  module _ {o : TwoOp} {idle : ℕ} (c : Chooses o idle) where
    abbrev made : ℕ → ℕ
    made n = fold_below o idle t f n

    -- what is made is `idle` where no lane executes, and else one of the lanes' numbers
    abbrev Found : ℕ → Type 0
    Found n = (Idle n × (made n ≡ idle)) ⊎ Among t f n (made n)

    passed : (n : ℕ) → has t n ≡ false → made (suc n) ≡ made n
    unfolding fold_below
    passed n e = rw e (c.over_right (made n) (fold_lt o idle c.idle_lt n))

    joined : (n : ℕ) → has t n ≡ true → made (suc n) ≡ two_of o (made n) (f n)
    unfolding fold_below
    joined n e = rw e refl

    onward : {n x y : ℕ} → y ≡ x → Among t f n x → Among t f (suc n) y
    onward e a = record { lane = a.lane; below = omega (arith, a.below); executes = a.executes; is = e ∙ a.is }

    last : (n y : ℕ) → has t n ≡ true → y ≡ f n → Among t f (suc n) y
    last n y e h = record { lane = n; below = omega arith; executes = e; is = h }

    found : (n : ℕ) → Found n
    unfolding fold_below
    found zero = inl (λ j b u. omega arith, refl)
    found (suc n) = by (has t n) refl (found n)
      where
        idle_on : has t n ≡ false → Idle n → Idle (suc n)
        idle_on e h j b u = elim (ℕ_discrete j n) [ yes z ↦ never (sym e ∙ rw z at u) | no z ↦ h j (omega arith) u ]

        by : (b : Bool) → has t n ≡ b → Found n → Found (suc n)
        by true e before =
            ⊎_elim
            (λ z. inr (last n _ e (joined n e ∙ ap (λ (s : ℕ). two_of o s (f n)) z.1 ∙ c.over_left (f n) (low n))))
            (λ a. ⊎_elim (λ z. inr (onward (joined n e ∙ z) a)) (λ z. inr (last n _ e (joined n e ∙ z))) (c.one_of (made n) (f n)))
            before
        by false e before = ⊎_elim (λ z. inl (idle_on e z.0, passed n e ∙ z.1)) (λ a. inr (onward (passed n e) a)) before

    -- so where a lane executes it is one of the numbers
    some_among : (n k : ℕ) → k < n → has t k ≡ true → Among t f n (made n)
    some_among n k b e = ⊎_elim (λ z. absurd (z.0 k b e)) (λ a. a) (found n)

  -- it is on the right side of every executing lane's number
  lowest_rank : (n j : ℕ) → j < n → has t j ≡ true → rank (lowest_of n t f) ≤ rank (f j)
  unfolding fold_below
  lowest_rank zero j b e = absurd (omega arith)
  lowest_rank (suc n) j b e =
      let z = min_low (lowest_of n t f) (brought greatest t f n) (fold_lt TwoOp.Min greatest (omega arith) n) (brought_lt greatest n (omega arith)) in
      elim (ℕ_discrete j n) [
        | yes q ↦ let own : brought greatest t f n ≡ f j = rw (← q, e) refl in omega (arith, z.1, ap rank own)
        | no q ↦ omega (arith, z.0, lowest_rank n j (omega arith) e)
      ]

  highest_rank : (n j : ℕ) → j < n → has t j ≡ true → rank (f j) ≤ rank (highest_of n t f)
  unfolding fold_below
  highest_rank zero j b e = absurd (omega arith)
  highest_rank (suc n) j b e =
      let z = max_high (highest_of n t f) (brought least t f n) (fold_lt TwoOp.Max least (omega arith) n) (brought_lt least n (omega arith)) in
      elim (ℕ_discrete j n) [
        | yes q ↦ let own : brought least t f n ≡ f j = rw (← q, e) refl in omega (arith, z.1, ap rank own)
        | no q ↦ omega (arith, z.0, highest_rank n j (omega arith) e)
      ]

  -- ---- THEOREMS
  module _ (W k : ℕ) (lane : k < W) (executes : has t k ≡ true) where
    -- REDUCE_MIN is the number of an executing lane
    pub lowest_among : (i : ℕ) → Among t f W (across_of WaveOp.ReduceMin W t f i)
    lowest_among i = some_among choose_low W k lane executes

    -- and none has a lower one
    pub lowest_lowest : (i : ℕ) → less (f k) (across_of WaveOp.ReduceMin W t f i) ≡ false
    lowest_lowest i = less_no (f k) (lowest_of W t f) (low k) (fold_lt TwoOp.Min greatest (omega arith) W) (lowest_rank W k lane executes)

    -- REDUCE_MAX is the number of an executing lane
    pub highest_among : (i : ℕ) → Among t f W (across_of WaveOp.ReduceMax W t f i)
    highest_among i = some_among choose_high W k lane executes

    -- and none has a higher one
    pub highest_highest : (i : ℕ) → less (across_of WaveOp.ReduceMax W t f i) (f k) ≡ false
    highest_highest i = less_no (highest_of W t f) (f k) (fold_lt TwoOp.Max least (omega arith) W) (low k) (highest_rank W k lane executes)
