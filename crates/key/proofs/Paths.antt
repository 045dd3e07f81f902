-- The open blocks outermost first are the first blocks of the state's array, and their numbers, six each, its first numbers.
use mathlib.Core.Path.{◌≡◌, refl, sym, ap, ◌∙◌}
use Prim.Native.Nat.{ℕ, zero, suc, ◌+◌, ◌*◌, ◌≤◌}
use mathlib.Core.List.{List, [], ◌∷◌, ◌++◌, append_assoc, flat_map, reverse, reverse-cons}
use native.Mathlib.Omega.{arith}
use lib.ListN.{length, take, length-reverse}
use lib.Seq.{take-suc, take-append-add}
use Rattle.lanes.specs.declared.said.Block.{Block}
use Rattle.wave.specs.declared.state.State.{State}
use Rattle.wave.specs.Layout.{block_numbers, no_block, block_at, opened}
use Rattle.wave.specs.Wave.{Wave, Preds, state_of}
use Rattle.wave.proofs.Laying.{length-opened, opened_laid}
use Rattle.key.specs.Key.{blocks_of}
use Rattle.key.proofs.Numbers.{six_of}

sixes_append : (bs cs : List Block) → flat_map six_of (bs ++ cs) ≡ flat_map six_of bs ++ flat_map six_of cs
unfolding flat_map
sixes_append [] cs = refl
sixes_append (b ∷ bs) cs = ap (λ (l : List ℕ). six_of b ++ l) (sixes_append bs cs) ∙ sym (append_assoc (six_of b) (flat_map six_of bs) (flat_map six_of cs))

one_six : (b : Block) → flat_map six_of (b ∷ []) ≡ b.part ∷ b.opener ∷ b.entered ∷ b.aside ∷ b.again ∷ b.left ∷ []
unfolding flat_map
one_six b = refl

outermost_first : (xs : List Block) (n : ℕ) → n ≤ length xs → reverse (opened xs n) ≡ take n xs
outermost_first xs zero h = refl
outermost_first xs (suc n) h =
    reverse-cons (block_at xs n) (opened xs n)
    ∙ ap (λ (l : List Block). l ++ (block_at xs n ∷ [])) (outermost_first xs n (omega arith))
    ∙ sym (take-suc xs n no_block (omega arith))

pub first_blocks : (s : State) → s.hot.depth ≤ length s.blocks → take s.hot.depth s.blocks ≡ blocks_of s
unfolding blocks_of
first_blocks s h = sym (outermost_first s.blocks s.hot.depth h)

-- six numbers to a block
take_sixes : (xs : List Block) (n : ℕ) → n ≤ length xs → flat_map six_of (take n xs) ≡ take (block_numbers * n) (flat_map six_of xs)
unfolding flat_map
take_sixes xs zero h = refl
take_sixes [] (suc n) h = absurd (omega arith)
take_sixes (x ∷ xs) (suc n) h =
    let e : block_numbers * suc n ≡ 6 + block_numbers * n = omega arith in
    ap (λ (l : List ℕ). six_of x ++ l) (take_sixes xs n (omega arith))
    ∙ sym (take-append-add (six_of x) (flat_map six_of xs) (block_numbers * n))
    ∙ ap (λ (k : ℕ). take k (six_of x ++ flat_map six_of xs)) (sym e)

path_numbers_lem : (xs : List Block) (n : ℕ) → n ≤ length xs → flat_map six_of (reverse (opened xs n)) ≡ take (block_numbers * n) (flat_map six_of xs)
path_numbers_lem xs n h = ap (flat_map six_of) (outermost_first xs n h) ∙ take_sixes xs n h

pub block_numbers_lem : (s : State) → s.hot.depth ≤ length s.blocks
    → flat_map six_of (blocks_of s) ≡ take (block_numbers * s.hot.depth) (flat_map six_of s.blocks)
unfolding blocks_of
block_numbers_lem s h = path_numbers_lem s.blocks s.hot.depth h

pub length-blocks : (s : State) → length (blocks_of s) ≡ s.hot.depth
unfolding blocks_of
length-blocks s =
    length-reverse (opened s.blocks s.hot.depth)
    ∙ length-opened s.blocks s.hot.depth

-- the blocks that a body says are the wave's, outermost first
pub blocks_path : (w : Wave) (ps : Preds) → blocks_of (state_of w ps) ≡ reverse w.path
unfolding blocks_of
blocks_path w ps = ap reverse (opened_laid w.path _)
