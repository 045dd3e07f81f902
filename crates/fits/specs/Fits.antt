-- When a handed-in state fits, with the lanes 0 to n-1 launched; its sets lane by lane.
use Rattle.std.specs.Prelude.{◌≡◌, false, List, [], ◌∷◌, ◌++◌, ℕ, ◌+◌, ◌≤◌, ◌<◌}
use Rattle.lanes.specs.Blocks.{nesting}
use Rattle.lanes.specs.Sets.{bit, widest}
use Rattle.blocks.specs.declared.item.Reading.{Reading}
use Rattle.blocks.specs.Code.{code_of}
use Rattle.blocks.specs.Open.{Open, part_number_of, opener_of}
use Rattle.std.specs.Prelude.{Some, None}
use Rattle.nesting.specs.OpenAt.{Found, open_at}
use Rattle.lanes.specs.declared.said.Block.{Block}
use Rattle.wave.specs.declared.state.Hot.{Hot}
use Rattle.wave.specs.Wave.{Wave, Preds, wave_of, preds_of}
use Rattle.wave.specs.Layout.{is_loop}

-- how many of the sets have lane i
abbrev pub count : ℕ → List ℕ → ℕ
count i [] = 0
count i (s ∷ ss) = bit s i + count i ss

-- a set is the disjoint union of others: each of its lanes is in exactly one of them, and each other lane in none
abbrev pub DisjointUnion : ℕ → List ℕ → Type 0
DisjointUnion s ss = (i : ℕ) → bit s i ≡ count i ss

-- the waiting set of each IF, the broken and continued sets of each loop
abbrev pub asides : List Block → List ℕ
asides [] = []
asides (b ∷ bs) = b.aside ∷ b.again ∷ asides bs

-- the entered and left set of each block
abbrev pub marks : List Block → List ℕ
marks [] = []
marks (b ∷ bs) = b.entered ∷ b.left ∷ marks bs

abbrev pub predicates : Preds → List ℕ
predicates ps = ps.p1 ∷ ps.p2 ∷ ps.p3 ∷ []

-- each block's entered set is the disjoint union of its left set, the active lanes and the lanes set aside in it and inside it; `inner`
-- are the active lanes and those set aside inside
abbrev pub Unions : List ℕ → List Block → Type 0
Unions inner [] = Unit
Unions inner (b ∷ bs) =
    DisjointUnion b.entered (b.left ∷ b.aside ∷ b.again ∷ inner) × Unions (b.aside ∷ b.again ∷ inner) bs

-- an IF's block has no continued lanes
abbrev pub Quiet : List Block → Type 0
Quiet [] = Unit
Quiet (b ∷ bs) = (is_loop b ≡ false → b.again ≡ 0) × Quiet bs

pub record SetsFit (n : ℕ) (w : Wave) (ps : Preds) : Type 0 where
  -- each launched lane is in exactly one of active, halted, or one block's waiting, broken or continued set
  pub one : (i : ℕ) → i < n → count i (w.active ∷ w.halted ∷ asides w.path) ≡ 1
  -- and no other lane is in any of these or in an entered, left or predicate set
  pub none : (i : ℕ) → n ≤ i
      → count i (w.active ∷ w.halted ∷ (asides w.path ++ (marks w.path ++ predicates ps))) ≡ 0
  pub unions : Unions (w.active ∷ []) w.path
  pub quiet : Quiet w.path

-- the open blocks are those that the code has open, in order, with the right half of each IF
abbrev pub Same : List Block → List Open → Type 0
Same [] [] = Unit
Same [] (x ∷ o) = ⊥
Same (b ∷ bs) [] = ⊥
Same (b ∷ bs) (x ∷ o) = (b.part ≡ part_number_of x) × (b.opener ≡ opener_of x) × Same bs o

-- the place is an instruction's first word or the end, and these blocks are open there
abbrev pub OpenThere : Found → List Block → Type 0
OpenThere None p = ⊥
OpenThere (Some o) p = Same p o

pub record WaveFits (code : List ℕ) (by : Reading) (n : ℕ) (w : Wave) (ps : Preds) : Type 0 where
  pub blocks : OpenThere (open_at (code_of code by) w.place) w.path
  pub sets : SetsFit n w ps

-- a state fits: no more lanes than the widest wave has, no more open blocks than there is room for, and the wave that it holds fits. What
-- stands past the open blocks does not count
pub record Fits (code : List ℕ) (by : Reading) (n : ℕ) (h : Hot) (xs : List Block) : Type 0 where
  pub wide : n ≤ widest
  pub deep : h.depth ≤ nesting
  pub wave : WaveFits code by n (wave_of h xs) (preds_of h)
