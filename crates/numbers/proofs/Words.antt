-- Numbers one behind another, put into bytes and got out of them: at each turn what is left, from where the loop stands, gives the whole.
use mathlib.Core.Path.{◌≡◌, refl, sym, ap, ap₂, ◌∙◌}
use Prim.Native.Nat.{ℕ, zero, suc, ◌+◌, ◌*◌, ◌-◌, ◌≤◌, ◌<◌, min}
use mathlib.Core.List.{List, [], ◌∷◌, ◌++◌, flat_map}
use native.Mathlib.Omega.{arith}
use native.Mathlib.Nat.{add-zero, zero-add}
use native.Mathlib.Numerals.{add-one}
use mathlib.Core.Logic.{dite}
use native.Mathlib.Decide.{dec_lt}
use lib.ListN.{length, get_or, take, drop, set, drop_of_length-le}
use lib.Seq.{drop-cons, length-take-le}
use Rattle.numbers.specs.Numbers.{bytes_of, bytes_of_all, number_at, numbers_at, Bytes, Small}
use Rattle.numbers.specs.Placed.{placed}
use Rattle.numbers.proofs.Numerals.{number_drop, number_out, number_small, small_nil, small_cons}
use Rattle.numbers.proofs.Numerals.{Stand, stand_nth, stand_rest, Holds, holds_none, holds_next}
use Rattle.numbers.proofs.Placing.{placed_append, placed_out, length-placed, placed_nil, placed_whole, placed_front}
use Rattle.numbers.proofs.Behind.{behind_one}

-- ---- put into bytes

pub put_on : (o o₁ xs : List ℕ) (p k : ℕ) → k < length xs → o₁ ≡ placed o p (bytes_of (get_or xs k 0))
    → placed o₁ (p + 4) (bytes_of_all (drop (k + 1) xs)) ≡ placed o p (bytes_of_all (drop k xs))
put_on o o₁ xs p k h e =
    rw (drop-cons xs k 0 h, add-one k) (behind_one (get_or xs k 0) (drop (suc k) xs) o o₁ _ p (p + 4) refl e refl)

pub put_done : (o xs : List ℕ) (p k : ℕ) → length xs ≤ k → o ≡ placed o p (bytes_of_all (drop k xs))
unfolding bytes_of_all flat_map
put_done o xs p k h = rw (drop_of_length-le xs {i = k} h) (sym (placed_nil o p))

-- ---- the numbers that stand from a place on

pub length_numbers : (s : List ℕ) (p n : ℕ) → length (numbers_at s p n) ≡ n
unfolding numbers_at
length_numbers s p zero = refl
length_numbers s p (suc n) = ap suc (length_numbers s (p + 4) n)

pub get_d_numbers : (s : List ℕ) (p n i : ℕ) → i < n → get_or (numbers_at s p n) i 0 ≡ number_at s (p + 4 * i)
unfolding numbers_at
get_d_numbers s p zero i h = absurd (omega arith)
get_d_numbers s p (suc n) zero h = let e : p + 4 * 0 ≡ p = omega arith in ap (number_at s) (sym e)
get_d_numbers s p (suc n) (suc i) h =
    let e : p + 4 + 4 * i ≡ p + 4 * suc i = omega arith in
    get_d_numbers s (p + 4) n i (omega arith) ∙ ap (number_at s) e

numbers_cons : (s : List ℕ) (p n : ℕ) → 0 < n → numbers_at s p n ≡ number_at s p ∷ numbers_at s (p + 4) (n - 1)
unfolding numbers_at
numbers_cons s p zero h = absurd (omega arith)
numbers_cons s p (suc n) h = let e : suc n - 1 ≡ n = omega arith in rw e

-- numbers that stand somewhere are read there
pub numbers_back : {s t : List ℕ} (xs : List ℕ) (p : ℕ) → Stand s t p xs → numbers_at s p (length xs) ≡ xs
unfolding numbers_at
numbers_back [] p h = refl
numbers_back (x ∷ xs) p h =
    ap₂ ◌∷◌ (stand_nth (x ∷ xs) h p 0 (omega arith) (omega arith)) (numbers_back xs (p + 4) (stand_rest (x ∷ []) xs h))

-- bytes are those of the numbers that are read there
pub numbers_hold : (s : List ℕ) (p n : ℕ) → Bytes s → p + 4 * n ≤ length s → Holds s p (numbers_at s p n) (p + 4 * n)
unfolding numbers_at
numbers_hold s p zero by h = let e : p + 4 * 0 ≡ p = omega arith in rw e (holds_none s p)
numbers_hold s p (suc n) by h =
    let e : p + 4 + 4 * n ≡ p + 4 * suc n = omega arith in
    let rest = rw e at (numbers_hold s (p + 4) n by (omega arith)) in
    holds_next s p (p + 4) (p + 4 * suc n) (numbers_at s (p + 4) n) by refl (omega arith) rest

pub numbers_small : (s : List ℕ) (p n : ℕ) → Bytes s → Small (numbers_at s p n)
unfolding numbers_at
numbers_small s p zero by = small_nil
numbers_small s p (suc n) by = small_cons _ _ (number_small s p by) (numbers_small s (p + 4) n by)

-- ---- got out of bytes, from where they begin or past their end

numbers_drop : (s : List ℕ) (k p n : ℕ) → numbers_at (drop k s) p n ≡ numbers_at s (k + p) n
unfolding numbers_at
numbers_drop s k p zero = refl
numbers_drop s k p (suc n) =
    let e : k + (p + 4) ≡ k + p + 4 = omega arith in
    ap₂ ◌∷◌ (number_drop s k p) (numbers_drop s k (p + 4) n ∙ ap (λ (q : ℕ). numbers_at s q n) e)

numbers_out : (s : List ℕ) (p q n : ℕ) → length s ≤ p → length s ≤ q → numbers_at s p n ≡ numbers_at s q n
unfolding numbers_at
numbers_out s p q zero h k = refl
numbers_out s p q (suc n) h k =
    ap₂ ◌∷◌ (number_out s p h ∙ sym (number_out s q k)) (numbers_out s (p + 4) (q + 4) n (omega arith) (omega arith))

numbers_from : (s : List ℕ) (p n : ℕ) → numbers_at s (min p (length s)) n ≡ numbers_at s p n
numbers_from s p n =
    dite (dec_lt p (length s))
    (λ (h : p < length s). let e : min p (length s) ≡ p = omega arith in rw e)
    (λ h. numbers_out s (min p (length s)) p n (omega arith) (omega arith))

module _ (s rest : List ℕ) (p start n : ℕ) (es : start ≡ min p (length s)) (er : rest ≡ drop start s) where
  pub get_none : (o : List ℕ) → length o ≡ n → placed o 0 (numbers_at rest (4 * 0) (n - 0)) ≡ numbers_at s p n
  get_none o l =
      let e : n - 0 ≡ n = omega arith in
      rw e
      (placed_whole o (numbers_at rest 0 n) (length_numbers rest 0 n ∙ sym l)
      ∙ ap (λ (r : List ℕ). numbers_at r 0 n) er
      ∙ numbers_drop s start 0 n
      ∙ ap (λ (q : ℕ). numbers_at s q n) (add-zero start ∙ es)
      ∙ numbers_from s p n)

pub get_on : (s o : List ℕ) (k n v : ℕ) → k < n → v ≡ number_at s (4 * k)
    → placed (set o k v) (k + 1) (numbers_at s (4 * (k + 1)) (n - (k + 1))) ≡ placed o k (numbers_at s (4 * k) (n - k))
unfolding placed
get_on s o k n v h q =
    let e : n - (k + 1) ≡ n - k - 1 = omega arith in
    let f : 4 * (k + 1) ≡ 4 * k + 4 = omega arith in
    rw (numbers_cons s (4 * k) (n - k) (omega arith), e, f, add-one k, q)

pub get_done : (s o : List ℕ) (p k n : ℕ) → n ≤ k → o ≡ placed o k (numbers_at s p (n - k))
unfolding numbers_at
get_done s o p k n h = let e : n - k ≡ 0 = omega arith in rw e (sym (placed_nil o k))

-- ---- into the front of a buffer, as many as there is room for

numbers_more : (s : List ℕ) (p m n : ℕ) → numbers_at s p (m + n) ≡ numbers_at s p m ++ numbers_at s (p + 4 * m) n
unfolding numbers_at
numbers_more s p zero n = let e : p + 4 * 0 ≡ p = omega arith in rw (e, zero-add n)
numbers_more s p (suc m) n =
    let e : suc m + n ≡ suc (m + n) = omega arith in
    let f : p + 4 + 4 * m ≡ p + 4 * suc m = omega arith in
    rw e (ap (◌∷◌ (number_at s p)) (numbers_more s (p + 4) m n ∙ ap (λ (q : ℕ). numbers_at s (p + 4) m ++ numbers_at s q n) f))

module _ (s o : List ℕ) (p n k : ℕ) (few : k ≡ min n (length o)) where
  placed_few : placed o 0 (numbers_at s p n) ≡ placed o 0 (numbers_at s p k)
  placed_few =
      dite (dec_lt (length o) n)
      (λ (h : length o < n).
      let A = numbers_at s p k in
      let B = numbers_at s (p + 4 * k) (n - k) in
      let e : n ≡ k + (n - k) = omega arith in
      let l = length_numbers s p k in
      ap (λ (m : ℕ). placed o 0 (numbers_at s p m)) e
      ∙ ap (placed o 0) (numbers_more s p k (n - k))
      ∙ placed_append A B o 0
      ∙ placed_out B (placed o 0 A) (0 + length A) (omega (arith, length-placed o 0 A)))
      (λ h. let e : n ≡ k = omega arith in ap (λ (m : ℕ). placed o 0 (numbers_at s p m)) e)

  pub get_front : (new : List ℕ) → new ≡ numbers_at s p (length (take k o)) → new ++ drop k o ≡ placed o 0 (numbers_at s p n)
  get_front new e =
      let l = length_numbers s p k in
      ap (λ (x : List ℕ). x ++ drop k o) (e ∙ ap (numbers_at s p) (length-take-le k o (omega arith)))
      ∙ ap (λ (m : ℕ). numbers_at s p k ++ drop m o) (sym l)
      ∙ sym (placed_front o (numbers_at s p k) (omega arith))
      ∙ sym placed_few
