-- Laws of `each`: its length, each of its things, and a test of them all, one after another.
use mathlib.Core.Path.{◌≡◌, refl, sym, ap, ◌∙◌}
use Prim.Native.Nat.{ℕ, zero, suc, ◌+◌, ◌*◌, ◌-◌, ◌≤◌, ◌<◌}
use mathlib.Core.Bool.{Bool, true, false, ◌&&◌}
use native.Mathlib.Omega.{arith}
use native.Mathlib.Nat.{mul-suc}
use lib.ListN.{length, get_or}
use Rattle.std.specs.List.{list_all, range_with_len}
use Rattle.ground.specs.Tests.{all_of}
use Rattle.formats.specs.Places.{each}

pub length-each : {A : Type 0} (f : ℕ → A) (step p n : ℕ) → length (each f step p n) ≡ n
unfolding each
length-each f step p zero = refl
length-each f step p (suc n) = ap suc (length-each f step (p + step) n)

all_each_from : {A : Type 0} (t : A → Bool) (f : ℕ → A) (step p a n : ℕ)
    → list_all (λ (k : ℕ). t (f (p + step * k))) (range_with_len a n) ≡ all_of t (each f step (p + step * a) n)
unfolding each all_of
all_each_from t f step p a zero = refl
all_each_from t f step p a (suc n) =
    let m = mul-suc step a in
    let e : p + step * (a + 1) ≡ p + step * a + step = omega arith in
    ap (λ (b : Bool). t (f (p + step * a)) && b) (all_each_from t f step p (a + 1) n ∙ ap (λ (q : ℕ). all_of t (each f step q n)) e)

-- a test of each thing in turn is the test of them all
pub all_each : {A : Type 0} (t : A → Bool) (f : ℕ → A) (step p n : ℕ) → list_all (λ (k : ℕ). t (f (p + step * k))) (range_with_len 0 n) ≡ all_of t (each f step p n)
all_each t f step p n =
    let e : p + step * 0 ≡ p = omega arith in all_each_from t f step p 0 n ∙ ap (λ (q : ℕ). all_of t (each f step q n)) e

-- the test of the first, and of those behind it
all_first : {A : Type 0} (t : A → Bool) (f : ℕ → A) (step p n : ℕ) → 0 < n
    → all_of t (each f step p n) ≡ (t (f p) && all_of t (each f step (p + step) (n - 1)))
unfolding each all_of
all_first t f step p zero h = absurd (omega arith)
all_first t f step p (suc n) h = let e : n ≡ suc n - 1 = omega arith in ap (λ (k : ℕ). t (f p) && all_of t (each f step (p + step) k)) e

module _ {A : Type 0} (t : A → Bool) (f : ℕ → A) (step p n : ℕ) (h : 0 < n) where
  pub all_stop : t (f p) ≡ false → all_of t (each f step p n) ≡ false
  all_stop e = all_first t f step p n h ∙ rw e

  pub all_on : t (f p) ≡ true → all_of t (each f step p n) ≡ all_of t (each f step (p + step) (n - 1))
  all_on e = all_first t f step p n h ∙ rw e

pub all_end : {A : Type 0} (t : A → Bool) (f : ℕ → A) (step p n : ℕ) → n ≤ 0 → all_of t (each f step p n) ≡ true
unfolding each all_of
all_end t f step p zero h = refl
all_end t f step p (suc n) h = absurd (omega arith)

pub get_d_each : {A : Type 0} (f : ℕ → A) (step p n k : ℕ) (d : A) → k < n → get_or (each f step p n) k d ≡ f (p + step * k)
unfolding each
get_d_each f step p zero k d h = absurd (omega arith)
get_d_each f step p (suc n) zero d h = let e : p + step * 0 ≡ p = omega arith in ap f (sym e)
get_d_each f step p (suc n) (suc k) d h =
    let m = mul-suc step k in
    let e : p + step + step * k ≡ p + step * suc k = omega arith in
    get_d_each f step (p + step) n k d (omega arith) ∙ ap f e
