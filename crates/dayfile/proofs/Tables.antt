-- The table of a file of bodies: row by row it says where a body stands and how long it is.
use mathlib.Core.Path.{◌≡◌, refl, sym, ap, ◌∙◌, subst}
use Prim.Native.Nat.{ℕ, zero, suc, ◌+◌, ◌-◌, ◌≤◌, ◌<◌}
use mathlib.Core.List.{List, [], ◌∷◌, ◌++◌, append_assoc, flatten}
use native.Mathlib.Omega.{arith}
use lib.ListN.{length, get_or, take, drop, length-append, length-drop}
use lib.Seq.{take_at, drop_at, drop-drop}
use Rattle.numbers.specs.Numbers.{bytes_of, bound}
use Rattle.numbers.proofs.Numerals.{length-bytes_of, number_here}
use Rattle.dayfile.specs.Day.{table_end, place_of, length_of, table}

-- row k and the body that it names, at p, taken off the front
pub record Peeled (f : List ℕ) (k p : ℕ) (b : List ℕ) (bs : List (List ℕ)) (R : List ℕ) : Type 0 where
  pub place : place_of f k ≡ p
  pub long : length_of f k ≡ length b
  pub rows : drop (table_end (k + 1)) f ≡ table (p + length b) bs ++ R
  pub rest : drop (p + length b) f ≡ flatten bs
  pub inside : p + length b ≤ length f

module _ (f : List ℕ) (small : length f < bound) where
  pub peel : (k p : ℕ) (b : List ℕ) (bs : List (List ℕ)) (R : List ℕ) → p ≤ length f
      → drop (table_end k) f ≡ table p (b ∷ bs) ++ R → drop p f ≡ flatten (b ∷ bs) → Peeled f k p b bs R
  unfolding table flatten
  peel k p b bs R hp rows rest =
      let q = table_end k in
      let T = table (p + length b) bs in
      let e1 : drop q f ≡ bytes_of p ++ (bytes_of (length b) ++ (T ++ R)) = rows ∙ simp append_assoc in
      let e2 : drop (q + 4) f ≡ bytes_of (length b) ++ (T ++ R) = sym (drop-drop 4 q f) ∙ ap (drop 4) e1 ∙ drop_at (bytes_of p) _ 4 (length-bytes_of p) in
      let e3 : drop (q + 4 + 4) f ≡ T ++ R = sym (drop-drop 4 (q + 4) f) ∙ ap (drop 4) e2 ∙ drop_at (bytes_of (length b)) _ 4 (length-bytes_of (length b)) in
      let next : q + 4 + 4 ≡ table_end (k + 1) = omega arith in
      let l : length f - p ≡ length b + length (flatten bs) = sym (length-drop p f) ∙ ap length rest ∙ length-append b (flatten bs) in
      record {
        place = number_here f q p _ (omega arith) e1;
        long = number_here f (q + 4) (length b) _ (omega arith) e2;
        rows = rw next at e3;
        rest = sym (drop-drop (length b) p f) ∙ ap (drop (length b)) rest ∙ drop_at b (flatten bs) (length b) refl;
        inside = omega arith;
      }

  -- what row m says, that of body k of those that lie from p on: it stands behind those before it
  pub record Row (m p : ℕ) (bs : List (List ℕ)) (k : ℕ) : Type 0 where
    pub place : place_of f m ≡ p + length (flatten (take k bs))
    pub long : length_of f m ≡ length (get_or bs k [])
    pub body : take (length_of f m) (drop (place_of f m) f) ≡ get_or bs k []
    pub inside : place_of f m + length_of f m ≤ length f

  pub row_of : (bs : List (List ℕ)) (j p k : ℕ) (R : List ℕ) → drop (table_end j) f ≡ table p bs ++ R → drop p f ≡ flatten bs → p ≤ length f
      → k < length bs → Row (j + k) p bs k
  unfolding flatten
  row_of [] j p k R rows rest hp hk = absurd (omega arith)
  row_of (b ∷ bs) j p zero R rows rest hp hk =
      let w = peel j p b bs R hp rows rest in
      subst (λ (m : ℕ). Row m p (b ∷ bs) 0) (omega arith)
      (record {
        place = w.place ∙ omega arith;
        long = w.long;
        body = rw (w.place, w.long, rest) (take_at b (flatten bs) (length b) refl);
        inside = omega (arith, w.inside, w.place, w.long);
      })
  row_of (b ∷ bs) j p (suc k) R rows rest hp hk =
      let w = peel j p b bs R hp rows rest in
      let r = row_of bs (j + 1) (p + length b) k R w.rows w.rest w.inside (omega arith) in
      let l = length-append b (flatten (take k bs)) in
      subst (λ (m : ℕ). Row m p (b ∷ bs) (suc k)) (omega arith)
      (record { place = r.place ∙ omega arith; long = r.long; body = r.body; inside = r.inside })
