-- A state's words: place, active, halted, p1, p2, p3, depth, then part, opener, entered, aside, again, left for each block.
use Rattle.std.specs.Prelude.{ℕ, ◌+◌, ◌*◌, min, List, [], ◌∷◌, map, get_or}
use Rattle.std.specs.List.{range_with_len, flat_map}
use Rattle.lanes.specs.Blocks.{nesting}
use Rattle.lanes.specs.declared.said.Block.{Block}
use Rattle.wave.specs.declared.state.Hot.{Hot}
use Rattle.wave.specs.declared.state.State.{State}
use Rattle.wave.specs.Layout.{block_numbers}

-- the words before those of the blocks, and which of them is the depth, counted from 0
abbrev pub hot_words : ℕ
hot_words = 7

abbrev pub depth_word : ℕ
depth_word = 6

-- the words of a state with this many open blocks, and with as many as there is room for
abbrev pub state_size : ℕ → ℕ
state_size depth = hot_words + block_numbers * depth

abbrev pub state_words : ℕ
state_words = state_size nesting

-- the numbers before the blocks in words, each 0 where there are not so many
unfoldable pub hot_in : List ℕ → Hot
hot_in ws =
    record {
      place = get_or ws 0 0;
      active = get_or ws 1 0;
      halted = get_or ws 2 0;
      p1 = get_or ws 3 0;
      p2 = get_or ws 4 0;
      p3 = get_or ws 5 0;
      depth = get_or ws depth_word 0;
    }

-- the block whose words begin at a place
abbrev pub block_in : List ℕ → ℕ → Block
block_in ws at =
    record {
      part = get_or ws at 0;
      opener = get_or ws (at + 1) 0;
      entered = get_or ws (at + 2) 0;
      aside = get_or ws (at + 3) 0;
      again = get_or ws (at + 4) 0;
      left = get_or ws (at + 5) 0;
    }

-- the blocks, as many as there is room for
unfoldable pub blocks_in : List ℕ → List Block
blocks_in ws = map (λ k. block_in ws (hot_words + block_numbers * k)) (range_with_len 0 nesting)

-- the state of words
unfoldable pub state_in : List ℕ → State
state_in ws = record { hot = hot_in ws; blocks = blocks_in ws }

-- the words of a block
abbrev pub block_words : Block → List ℕ
block_words b = b.part ∷ b.opener ∷ b.entered ∷ b.aside ∷ b.again ∷ b.left ∷ []

-- the words of a state
unfoldable pub words_of : State → List ℕ
words_of s =
    s.hot.place ∷ s.hot.active ∷ s.hot.halted ∷ s.hot.p1 ∷ s.hot.p2 ∷ s.hot.p3 ∷ s.hot.depth ∷ flat_map block_words s.blocks

-- how many of them count with this depth, a depth over 32 read as 32
unfoldable pub word_count : ℕ → ℕ
word_count depth = state_size (min depth nesting)
