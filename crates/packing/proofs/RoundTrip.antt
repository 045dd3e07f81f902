-- A state and its words undo each other.
use Rattle.std.proofs.Common.{◌≡◌, ℕ, zero, suc, ◌+◌, ◌*◌, ◌<◌, List, [], ◌∷◌, ◌++◌, map, length, sym, refl, ap, ◌∙◌, arith}
use Rattle.std.specs.List.{range_with_len, flat_map}
use Rattle.std.proofs.lemmas.List.FromFn.{fill_by_all}
use Rattle.lanes.specs.Blocks.{nesting}
use Rattle.lanes.specs.declared.said.Block.{Block}
use Rattle.wave.specs.declared.state.Hot.{Hot}
use Rattle.wave.specs.declared.state.State.{State}
use Rattle.wave.specs.Layout.{block_numbers, no_block, block_at}
use Rattle.packing.specs.Words.{hot_words, hot_in, block_in, blocks_in, state_in, block_words, words_of}

-- the words before those of the blocks
abbrev pub front_of : Hot → List ℕ
front_of h = h.place ∷ h.active ∷ h.halted ∷ h.p1 ∷ h.p2 ∷ h.p3 ∷ h.depth ∷ []

-- the block whose words stand six further on, behind those of a block
six_on : (b : Block) (ws : List ℕ) (n m : ℕ) → n ≡ block_numbers + m → block_in (block_words b ++ ws) n ≡ block_in ws m
six_on b ws n m e =
    let at : (j : ℕ) → n + j ≡ suc (suc (suc (suc (suc (suc (m + j)))))) = λ j. omega arith in
    let here : n ≡ suc (suc (suc (suc (suc (suc m))))) = omega arith in
    rw (at 1, at 2, at 3, at 4, at 5, here)

-- block k of a list of blocks is read in its words
block_read : (bs : List Block) (k : ℕ) → k < length bs → block_in (flat_map block_words bs) (block_numbers * k) ≡ block_at bs k
block_read [] k h = absurd (omega arith)
block_read (b ∷ bs) zero h = refl
block_read (b ∷ bs) (suc k) h = six_on b (flat_map block_words bs) (block_numbers * suc k) (block_numbers * k) (omega arith) ∙ block_read bs k (omega arith)

-- and behind the seven numbers
behind : (h : Hot) (ws : List ℕ) (n : ℕ) → block_in (front_of h ++ ws) (hot_words + n) ≡ block_in ws n
behind h ws n =
    let at : (j : ℕ) → 7 + n + j ≡ suc (suc (suc (suc (suc (suc (suc (n + j))))))) = λ j. omega arith in
    let here : 7 + n ≡ suc (suc (suc (suc (suc (suc (suc n)))))) = omega arith in
    rw (at 1, at 2, at 3, at 4, at 5, here)

-- the words of a state give it back
pub state_back : (s : State) → length s.blocks ≡ nesting → state_in (words_of s) ≡ s
unfolding state_in hot_in blocks_in words_of
state_back s e =
    let blocks : s.blocks ≡ map (λ (k : ℕ). block_in (words_of s) (hot_words + block_numbers * k)) (range_with_len 0 nesting) =
    fill_by_all (λ (k : ℕ). block_in (words_of s) (hot_words + block_numbers * k)) s.blocks nesting no_block e
    (λ k h. sym (behind s.hot (flat_map block_words s.blocks) (block_numbers * k) ∙ block_read s.blocks k (omega arith))) in
    λ i. record { hot = s.hot; blocks = sym blocks i }

-- two states with the same words are equal
pub one_state : (s t : State) → length s.blocks ≡ nesting → length t.blocks ≡ nesting → words_of s ≡ words_of t → s ≡ t
one_state s t a b e = sym (state_back s a) ∙ ap state_in e ∙ state_back t b
