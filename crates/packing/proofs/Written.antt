-- A state's words as they are written: those of the seven numbers, and then those of each block.
use Rattle.std.proofs.Common.{◌≡◌, ℕ, ◌+◌, ◌*◌, ◌<◌, ◌≤◌, List, ◌++◌, length, take, sym, ap, ◌∙◌, arith, take_all, length-take, length-drop, length-append}
use Rattle.std.specs.List.{flat_map}
use Rattle.std.proofs.lemmas.List.{take_more, flat_map_more}
use Rattle.std.proofs.lemmas.Slice.{take-put_mid}
use borrow.Rule.Slice.PartMut.{put_mid}
use Rattle.lanes.specs.Blocks.{nesting}
use Rattle.lanes.specs.declared.said.Block.{Block}
use Rattle.wave.specs.Layout.{block_numbers, no_block, block_at}
use Rattle.packing.specs.Words.{hot_words, state_words, block_words}

-- the words of one block more
pub written_more : (front : List ℕ) (bs : List Block) (ws six : List ℕ) (k m : ℕ) → k < length bs → length bs ≡ nesting → length ws ≡ state_words
    → take (hot_words + block_numbers * k) ws ≡ front ++ flat_map block_words (take k bs) → six ≡ block_words (block_at bs k) → m ≡ block_numbers
    → let after = put_mid (hot_words + block_numbers * k) m ws six in
    (length after ≡ state_words) × (take (hot_words + block_numbers * (k + 1)) after ≡ front ++ flat_map block_words (take (k + 1) bs))
written_more front bs ws six k m h b l e s z =
    rw (s, z) (
      simp (length-append, length-take, length-drop) (omega arith),
      take-put_mid (hot_words + block_numbers * k) block_numbers ws (block_words (block_at bs k)) (hot_words + block_numbers * (k + 1)) (omega arith) (omega arith)
          ∙ ap (λ (l : List ℕ). l ++ block_words (block_at bs k)) e
          ∙ flat_map_more block_words front (take k bs) (block_at bs k)
          ∙ ap (λ (l : List Block). front ++ flat_map block_words l) (sym (take_more bs k no_block h)),
    )

-- and of all
pub written_all : (front : List ℕ) (bs : List Block) (ws : List ℕ) (k : ℕ) → length bs ≡ nesting → nesting ≤ k → length ws ≡ state_words
    → take (hot_words + block_numbers * k) ws ≡ front ++ flat_map block_words (take k bs) → ws ≡ front ++ flat_map block_words bs
written_all front bs ws k b h l e =
    let all : take k bs ≡ bs = take_all k bs (omega arith) in
    let same : take (hot_words + block_numbers * k) ws ≡ ws = take_all _ ws (omega arith) in
    rw (same, all) at e
