-- The wave and its predicates, and the numbers that hold them.
use Rattle.std.specs.Prelude.{◌≡◌, ℕ, min, List, [], length}
use Rattle.lanes.specs.Sets.{first}
use Rattle.lanes.specs.declared.said.Block.{Block}
use Rattle.wave.specs.declared.state.Hot.{Hot}
use Rattle.wave.specs.declared.state.State.{State}
use Rattle.lanes.specs.Blocks.{nesting}
use Rattle.wave.specs.Layout.{opened, over, array_of}

-- what the control instructions read and change; path: the open blocks, innermost first
pub record Wave : Type 0 where
  pub place : ℕ
  pub active : ℕ
  pub halted : ℕ
  pub path : List Block

-- each predicate is the set of the lanes at which it holds
pub record Preds : Type 0 where
  pub p1 : ℕ
  pub p2 : ℕ
  pub p3 : ℕ

-- the wave of the numbers: a depth over 32 is read as 32, and what stands past the open blocks is not read
abbrev pub wave_of : Hot → List Block → Wave
wave_of h xs =
    record { place = h.place; active = h.active; halted = h.halted; path = opened xs (min h.depth nesting) }

abbrev pub preds_of : Hot → Preds
preds_of h = record { p1 = h.p1; p2 = h.p2; p3 = h.p3 }

-- the hot numbers of a wave with its predicates
abbrev pub hot_of : Wave → Preds → Hot
hot_of w ps =
    record {
      place = w.place;
      active = w.active;
      halted = w.halted;
      p1 = ps.p1;
      p2 = ps.p2;
      p3 = ps.p3;
      depth = length w.path;
    }

-- the state that holds a wave, zeros past its open blocks; and the wave of a state
abbrev pub state_of : Wave → Preds → State
state_of w ps = record { hot = hot_of w ps; blocks = array_of w.path }

abbrev pub wave_in : State → Wave
wave_in s = wave_of s.hot s.blocks

-- a launch makes the lanes 0 to n-1 active, opens no block, and clears the predicates
abbrev pub launch : ℕ → Wave
launch n = record { place = 0; active = first n; halted = 0; path = [] }

abbrev pub clear : Preds
clear = record { p1 = 0; p2 = 0; p3 = 0 }

-- what the code holds: the hot numbers, and the lent array
pub record Held : Type 0 where
  pub hot : Hot
  pub blocks : List Block

abbrev pub held : Hot → List Block → Held
held h xs = record { hot = h; blocks = xs }

-- the same wave in numbers that it alone decides, zeros past its open blocks
abbrev pub tidied : Hot → List Block → Held
tidied h xs = held (hot_of (wave_of h xs) (preds_of h)) (array_of (wave_of h xs).path)

-- what a rule makes of it: the wave after the rule with the same predicates, its path laid over the array
abbrev pub after : (Wave → Wave) → Hot → List Block → Held
after f h xs = held (hot_of (f (wave_of h xs)) (preds_of h)) (over (f (wave_of h xs)).path xs)

-- the promise of a rule's function, which was lent xs and leaves ys
abbrev pub Does : (Wave → Wave) → Hot → List Block → Hot → List Block → Type 0
Does f h xs r ys = held r ys ≡ after f h xs
