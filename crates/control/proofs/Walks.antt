-- The walks outward over the open blocks: what is left to walk from here gives the same as the whole walk. The search for the innermost
-- loop is such a walk; after it the lanes join one of the loop's sets.
use Rattle.std.proofs.Common.{◌≡◌, ℕ, zero, suc, ◌+◌, ◌<◌, ◌≤◌, Bool, true, false, cond, List, [], ◌∷◌, map, length, get_or, take, drop, set, ◌++◌, sym, refl, ap, append_assoc, append-nil, add-one, arith, length-take, take_all, drop-cons, get_or-set_other, eq-eqb, ne_eqb}
use Rattle.std.specs.Prelude.{Some, None}
use Rattle.std.proofs.lemmas.List.{drop-set, drop_all, set_at, get_or_at, get_or-map, take_more, take-map, map-append, length-map}
use Rattle.lanes.specs.Blocks.{loop_part}
use Rattle.lanes.specs.declared.said.Block.{Block}
use Rattle.wave.specs.Layout.{is_loop, no_block, laid, block_at, opened, over}
use Rattle.control.specs.Rules.{leave, to_loop}
use Rattle.control.specs.Search.{loop_at, same}
use Rattle.wave.proofs.Laying.{length-opened, laid_first, laid_opened, set_laid, get_laid}

-- ---- a walk outward over the first i blocks: f of them, and the rest as it is
abbrev pub walked : (List Block → List Block) → ℕ → List Block → List Block
walked f i xs = laid (f (opened xs i)) (drop i xs)

-- what stands below a store is not touched
pub opened_set : (xs : List Block) (k n : ℕ) (b : Block) → n ≤ k → opened (set xs k b) n ≡ opened xs n
opened_set xs k zero b h = refl
opened_set xs k (suc n) b h = rw (get_or-set_other xs k n b no_block (omega arith), opened_set xs k n b (omega arith))

-- no loop at block i, with m blocks still to walk: the lanes t leave it, and the search goes on
pub walk_past : (t : ℕ) (xs : List Block) (i m : ℕ) → m ≡ suc i → i < length xs → ((block_at xs i).part ≡ loop_part → ⊥)
    → walked (to_loop same t) i (set xs i (leave t (block_at xs i))) ≡ walked (to_loop same t) m xs
walk_past t xs i m e h n =
    rw (e, opened_set xs i i (leave t (block_at xs i)) (omega arith), drop-set xs i (leave t (block_at xs i)) h, add-one i, ne_eqb (block_at xs i).part loop_part n)

pub number_past : (xs : List Block) (b : Block) (i m : ℕ) → m ≡ suc i → ((block_at xs i).part ≡ loop_part → ⊥)
    → loop_at (opened (set xs i b) i) ≡ loop_at (opened xs m)
number_past xs b i m e n = rw (e, opened_set xs i i b (omega arith), ne_eqb (block_at xs i).part loop_part n)

-- a loop: the search ends
pub walk_at : (t : ℕ) (xs : List Block) (i m : ℕ) → m ≡ suc i → i < length xs → (block_at xs i).part ≡ loop_part
    → xs ≡ walked (to_loop same t) m xs
walk_at t xs i m e h p = rw (e, eq-eqb (block_at xs i).part loop_part p) (sym (laid_opened xs (suc i) (omega arith)))

pub number_at : (xs : List Block) (i m : ℕ) → m ≡ suc i → (block_at xs i).part ≡ loop_part → Some i ≡ loop_at (opened xs m)
number_at xs i m e p = rw (e, eq-eqb (block_at xs i).part loop_part p) (ap Some (sym (length-opened xs i)))

pub length-to_loop : (f : Block → Block) (t : ℕ) (p : List Block) → length (to_loop f t p) ≡ length p
length-to_loop f t [] = refl
length-to_loop f t (b ∷ p) = by_case (is_loop b) (length-to_loop f t p)
  where
    by_case : (c : Bool) → length (to_loop f t p) ≡ length p → length (cond c (f b ∷ p) (leave t b ∷ to_loop f t p)) ≡ suc (length p)
    by_case true e = refl
    by_case false e = ap suc e

pub walked_none : (g : List Block → List Block) (xs : List Block) (i : ℕ) → g [] ≡ [] → i ≡ 0 → walked g i xs ≡ xs
walked_none g xs i e z = rw (z, e)

-- the end of the search: d is the depth m that was read
pub number_none : (xs ys : List Block) (i d m : ℕ) → i ≡ 0 → d ≡ m → loop_at (opened ys i) ≡ loop_at (opened xs d) → None ≡ loop_at (opened xs m)
number_none xs ys i d m z e v = let w : None ≡ loop_at (opened xs d) = rw z at v in rw e at w

-- the walk over all d open blocks lays what it makes of them over the array
pub walked_over : (t : ℕ) (xs : List Block) (d : ℕ) → walked (to_loop same t) d xs ≡ over (to_loop same t (opened xs d)) xs
walked_over t xs d = rw (length-to_loop same t (opened xs d), length-opened xs d)

-- ---- a walk inward, from the outermost block on: after i blocks they are f of themselves
pub changed_more : (f : Block → Block) (xs ys : List Block) (i : ℕ) → i < length xs → ys ≡ map f (take i xs) ++ drop i xs
    → set ys i (f (block_at ys i)) ≡ map f (take (i + 1) xs) ++ drop (i + 1) xs
changed_more f xs ys i h e =
    let n : length (map f (take i xs)) ≡ i = simp (length-map, length-take) (omega arith) in
    let d : drop i xs ≡ block_at xs i ∷ drop (i + 1) xs = rw add-one (drop-cons xs i no_block h) in
    rw (e, d, get_or_at (map f (take i xs)) (block_at xs i) (drop (i + 1) xs) no_block i n, set_at (map f (take i xs)) (block_at xs i) (drop (i + 1) xs) (f (block_at xs i)) i n, take_more xs i no_block h, map-append, append_assoc)

-- and after all d open blocks the array is laid over with what f makes of them
opened_map : (f : Block → Block) (xs : List Block) (d : ℕ) → d ≤ length xs → map f (opened xs d) ≡ opened (map f xs) d
opened_map f xs zero h = refl
opened_map f xs (suc d) h = rw (opened_map f xs d (omega arith), get_or-map f xs d no_block no_block (omega arith))

pub changed_all : (f : Block → Block) (xs ys : List Block) (d i : ℕ) → d ≤ length xs → length (take d xs) ≤ i
    → ys ≡ map f (take i (take d xs)) ++ drop i (take d xs) → ys ++ drop d xs ≡ over (map f (opened xs d)) xs
changed_all f xs ys d i h past e =
    let all : take i (take d xs) ≡ take d xs = take_all i (take d xs) past in
    let none : drop i (take d xs) ≡ [] = drop_all i (take d xs) past in
    rw (e, all, none, append-nil, opened_map f xs d h, length-opened (map f xs) d, laid_first (map f xs) (drop d xs) d (rw length-map h), take-map)

-- ---- the loop that was found is an open block
below_block : (p : List Block) (l : ℕ) (c : Bool) → Some l ≡ cond c (Some (length p)) (loop_at p) → (Some l ≡ loop_at p → l < length p) → l < suc (length p)
below_block p l true e ih = let n : l ≡ length p = cc in omega arith
below_block p l false e ih = let n : l < length p = ih e in omega arith

pub loop_below : (p : List Block) (l : ℕ) → Some l ≡ loop_at p → l < length p
loop_below [] l e = cc
loop_below (b ∷ p) l e = below_block p l (is_loop b) e (loop_below p l)

-- ---- once the lanes t have left the blocks inside it, it becomes f of itself
module _ (f : Block → Block) (t : ℕ) where
  at_block : (b : Block) (p rest : List Block) (l : ℕ) (c : Bool) → Some l ≡ cond c (Some (length p)) (loop_at p)
      → (Some l ≡ loop_at p → let ys = laid (to_loop same t p) (leave t b ∷ rest) in
      set ys l (f (get_or ys l no_block)) ≡ laid (to_loop f t p) (leave t b ∷ rest))
      → let ys = laid (cond c (b ∷ p) (leave t b ∷ to_loop same t p)) rest in
      set ys l (f (get_or ys l no_block)) ≡ laid (cond c (f b ∷ p) (leave t b ∷ to_loop f t p)) rest
  at_block b p rest l true e ih =
      let n : l ≡ length p = cc in
      let z : l ≡ length p + 0 = omega arith in
      rw (get_laid p (b ∷ rest) l 0 z) (set_laid p (b ∷ rest) l 0 (f b) z)
  at_block b p rest l false e ih = ih e

  pub aside_at : (p rest : List Block) (l : ℕ) → Some l ≡ loop_at p → let ys = laid (to_loop same t p) rest in
      set ys l (f (get_or ys l no_block)) ≡ laid (to_loop f t p) rest
  aside_at [] rest l e = cc
  aside_at (b ∷ p) rest l e = at_block b p rest l (is_loop b) e (aside_at p (leave t b ∷ rest) l)

  -- where no loop is open there is none to change
  no_loop : (b : Block) (p : List Block) (c : Bool) → None ≡ cond c (Some (length p)) (loop_at p) → (None ≡ loop_at p → to_loop same t p ≡ to_loop f t p)
      → cond c (b ∷ p) (leave t b ∷ to_loop same t p) ≡ cond c (f b ∷ p) (leave t b ∷ to_loop f t p)
  no_loop b p true e ih = cc
  no_loop b p false e ih = ap (λ (q : List Block). leave t b ∷ q) (ih e)

  pub aside_none : (p : List Block) → None ≡ loop_at p → to_loop same t p ≡ to_loop f t p
  aside_none [] e = refl
  aside_none (b ∷ p) e = no_loop b p (is_loop b) e (aside_none p)
