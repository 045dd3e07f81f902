-- The array of open blocks: laid out, read and stored to. A path that was laid out is read again as it was, and a store to one of its
-- blocks changes that block alone.
use Rattle.std.proofs.Common.{◌≡◌, ℕ, zero, suc, ◌+◌, ◌<◌, ◌≤◌, List, [], ◌∷◌, ◌++◌, length, get_or, take, drop, set, sym, refl, ap, ◌∙◌, append_assoc, arith, length-drop, take-suc, take-append-drop}
use Rattle.lanes.specs.declared.said.Block.{Block}
use Rattle.lanes.specs.Blocks.{nesting}
use Rattle.wave.specs.Layout.{no_block, laid, block_at, opened, over}

-- ---- a path that is laid out
pub length-laid : (p rest : List Block) → length (laid p rest) ≡ length p + length rest
length-laid [] rest = omega arith
length-laid (b ∷ p) rest = omega (arith, length-laid p (b ∷ rest))

pub set_laid : (p rest : List Block) (n j : ℕ) (v : Block) → n ≡ length p + j → set (laid p rest) n v ≡ laid p (set rest j v)
set_laid [] rest n j v e = ap (λ (k : ℕ). set rest k v) (omega arith)
set_laid (b ∷ p) rest n j v e = set_laid p (b ∷ rest) n (suc j) v (omega arith)

pub get_laid : (p rest : List Block) (n j : ℕ) → n ≡ length p + j → get_or (laid p rest) n no_block ≡ get_or rest j no_block
get_laid [] rest n j e = ap (λ (k : ℕ). get_or rest k no_block) (omega arith)
get_laid (b ∷ p) rest n j e = get_laid p (b ∷ rest) n (suc j) (omega arith)

pub laid_append : (p q r : List Block) → laid p (q ++ r) ≡ laid p q ++ r
laid_append [] q r = refl
laid_append (b ∷ p) q r = laid_append p (b ∷ q) r

-- ---- the first n blocks of an array
pub length-opened : (xs : List Block) (n : ℕ) → length (opened xs n) ≡ n
length-opened xs zero = refl
length-opened xs (suc n) = ap suc (length-opened xs n)

-- laid out, they are those of the array
pub laid_first : (xs rest : List Block) (n : ℕ) → n ≤ length xs → laid (opened xs n) rest ≡ take n xs ++ rest
laid_first xs rest zero h = refl
laid_first xs rest (suc n) h =
    rw (laid_first xs (block_at xs n ∷ rest) n (omega arith), take-suc xs n no_block (omega arith), append_assoc)

-- an array is its first n blocks, laid out, and the rest
pub laid_opened : (xs : List Block) (n : ℕ) → n ≤ length xs → laid (opened xs n) (drop n xs) ≡ xs
laid_opened xs n h = laid_first xs (drop n xs) n h ∙ take-append-drop n xs

-- a store to block n
pub set_opened : (xs : List Block) (n : ℕ) (b : Block) → n < length xs → set xs n b ≡ over (b ∷ opened xs n) xs
set_opened xs n b h =
    ap (λ (l : List Block). set l n b) (sym (laid_opened xs (suc n) (omega arith)))
    ∙ set_laid (opened xs n) (block_at xs n ∷ drop (suc n) xs) n 0 b (omega (arith, length-opened xs n))
    ∙ ap (λ (k : ℕ). laid (opened xs n) (b ∷ drop (suc k) xs)) (sym (length-opened xs n))

-- the path as it stands
pub over_same : (xs : List Block) (n : ℕ) → n ≤ length xs → over (opened xs n) xs ≡ xs
over_same xs n h = rw (length-opened xs n) (laid_opened xs n h)

-- ---- a path that was laid out is read again
pub opened_laid : (p rest : List Block) → opened (laid p rest) (length p) ≡ p
opened_laid [] rest = refl
opened_laid (b ∷ p) rest = rw (get_laid p (b ∷ rest) (length p) 0 (omega arith), opened_laid p (b ∷ rest))

-- the array is as long as before
pub long_over : (p xs : List Block) → length xs ≡ nesting → length p ≤ nesting → length (over p xs) ≡ nesting
long_over p xs l h = omega (arith, length-laid p (drop (length p) xs), length-drop (length p) xs)
