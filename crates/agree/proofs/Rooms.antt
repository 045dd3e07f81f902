-- How long the rooms are, and the parts of them that are lent.
use Rattle.std.proofs.Common.{◌≡◌, ℕ, ◌*◌, ◌≤◌, List, [], ◌∷◌, length, take, replicate, refl, sym, arith, length-take-le}
use Rattle.std.specs.List.{flat_map}
use lib.ListN.{length-replicate, length-append}
use Rattle.lanes.specs.Blocks.{nesting}
use Rattle.lanes.specs.declared.said.Block.{Block}
use Rattle.wave.specs.declared.state.State.{State}
use Rattle.packing.specs.Words.{state_words, block_words, words_of}

-- of a room with n numbers, the first k are k
pub part_length : (n v k : ℕ) → k ≤ n → k ≡ length (take k (replicate n v))
part_length n v k h =
    let l : length (replicate n v) ≡ n = length-replicate n v in
    sym (length-take-le k (replicate n v) (omega arith))

-- the words of blocks
length-words : (bs : List Block) → length (flat_map block_words bs) ≡ 6 * length bs
length-words [] = refl
length-words (b ∷ bs) = let ih = length-words bs in omega (arith, length-append (block_words b) (flat_map block_words bs))

-- the words of a state with all the room for blocks are as many as there is room for
pub words_long : (s : State) → length s.blocks ≡ nesting → length (words_of s) ≡ state_words
unfolding words_of
words_long s e = let l = length-words s.blocks in omega arith
