-- Which bodies are of the layout (page 01, "The key"; kind 6 by page 02): k is the table of the kinds that one fault may have, w the bytes of a set of lanes.
use Rattle.std.specs.Prelude.{ℕ, ◌+◌, ◌*◌, List, [], ◌∷◌, map, Bool, true, cond, not, ◌&&◌, ◌||◌, leb, eqb, length, drop, Result, Ok, Err}
use Rattle.std.specs.Int.Bits.{bit_and}
use Rattle.refusals.specs.declared.Refusal.{Refusal}
use Rattle.refusals.specs.declared.Rule.{Rule}
use Rattle.refusals.specs.Table.{broken}
use Rattle.ground.specs.Tests.{one_of, all_of}
use Rattle.lanes.specs.Blocks.{nesting, before_else, loop_part}
use Rattle.lanes.specs.declared.said.Block.{Block}
use Rattle.lanes.specs.declared.said.Fault.{Fault}
use Rattle.body.specs.Body.{Parts, body_format, set_bytes, size_at}

-- ---- what the page fixes

abbrev pub last_place : ℕ
last_place = 65535

-- the kinds that one fault may have
abbrev pub Kinds : Type 0
Kinds = List (List ℕ)

unfoldable pub kind_lists : Kinds
kind_lists =
    (1 ∷ []) ∷ (2 ∷ []) ∷ (3 ∷ []) ∷ (4 ∷ []) ∷ (5 ∷ []) ∷ (1 ∷ 2 ∷ []) ∷ (1 ∷ 3 ∷ [])
    ∷ (6 ∷ []) ∷ (1 ∷ 6 ∷ []) ∷ (2 ∷ 6 ∷ []) ∷ (3 ∷ 6 ∷ []) ∷ (1 ∷ 2 ∷ 6 ∷ []) ∷ (1 ∷ 3 ∷ 6 ∷ []) ∷ []

-- the most of them
abbrev pub most_kinds : ℕ
most_kinds = 3

-- ---- lengths

-- the bytes of a fault kind with its lanes, of a block, and of the six numbers beside them
abbrev pub fault_bytes : ℕ → ℕ
fault_bytes w = 4 + w

abbrev pub block_bytes : ℕ → ℕ
block_bytes w = 8 + 4 * w

abbrev pub head_bytes : ℕ → ℕ
head_bytes w = 16 + 2 * w

-- a body with n kinds in d open blocks
abbrev pub length_of : ℕ → ℕ → ℕ → ℕ
length_of w n d = head_bytes w + fault_bytes w * n + block_bytes w * d

-- the shortest body has one kind and no block, and the longest has the most of both: 32 and 816 bytes
abbrev pub shortest : ℕ
shortest = length_of set_bytes 1 0

abbrev pub longest : ℕ
longest = length_of set_bytes most_kinds nesting

-- ---- the layout

-- lane sets that are not empty and don't overlap
unfoldable pub apart : List ℕ → Bool
apart [] = true
apart (a ∷ sets) = not (eqb a 0) && (all_of (λ (b : ℕ). eqb (bit_and a b) 0) sets && apart sets)

unfoldable pub faults_fit : Kinds → List Fault → Bool
faults_fit k fs = one_of (map (λ (f : Fault). f.kind) fs) k && apart (map (λ (f : Fault). f.lanes) fs)

-- the opener's place is at most 65,535, the part 1 to 3, and again 0 in parts 1 and 2
unfoldable pub block_fits : Block → Bool
block_fits b = leb b.opener last_place && (leb before_else b.part && (leb b.part loop_part && (eqb b.part loop_part || eqb b.again 0)))

-- what a body says is of the layout
unfoldable pub of_layout : Kinds → Parts → Bool
of_layout k p = leb p.place last_place && (faults_fit k p.faults && (leb (length p.blocks) nesting && all_of block_fits p.blocks))

-- s starts with a body of the layout
unfoldable pub starts : Kinds → ℕ → List ℕ → Bool
starts k w s = of_layout k ((body_format w).read s) && leb ((body_format w).size s) (length s)

-- b is a body of the layout
unfoldable pub is_whole : Kinds → ℕ → List ℕ → Bool
is_whole k w b = starts k w b && eqb (length b) ((body_format w).size b)

-- ---- the page's table, edition 1

abbrev pub fits_layout : Parts → Bool
fits_layout p = of_layout kind_lists p

abbrev pub starts_body : List ℕ → Bool
starts_body s = starts kind_lists set_bytes s

abbrev pub is_body : List ℕ → Bool
is_body b = is_whole kind_lists set_bytes b

-- the length of the body that starts at `at`, or refusal 14 at its first byte
unfoldable pub body_answer : List ℕ → ℕ → Result ℕ Refusal
body_answer s at = cond (starts_body (drop at s)) (Ok (size_at (drop at s))) (Err (broken Rule.NotOfLayout at))
