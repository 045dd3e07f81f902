-- A test: theorems hold it to the page's words, as `Nesting` has them.
-- The check of the code, in one pass with the list of open blocks, innermost first.
-- Instruction by instruction it meets refusals 4 to 7 of the instruction itself, then 8 and 9, and at the end of the code 10.
use Rattle.std.specs.Prelude.{ℕ, zero, suc, ◌+◌, cond, List, [], ◌∷◌, length, ltb, Result, Ok, Err}
use Rattle.refusals.specs.declared.Refusal.{Refusal}
use Rattle.refusals.specs.declared.Rule.{Rule}
use Rattle.refusals.specs.Table.{broken}
use Rattle.blocks.specs.declared.item.Item.{Item}
use Rattle.blocks.specs.Code.{Code}
use Rattle.blocks.specs.declared.rules.Part.{Part}
use Rattle.blocks.specs.Open.{Open, opened_at, in_loop}
use Rattle.lanes.specs.Blocks.{nesting}

-- what a check answers: that all is well, or the refusal of the first broken rule
abbrev pub Checked : Type 0
Checked = Result (Unit {0}) Refusal

-- what comes of one instruction: the pass is over, or goes on at a place with these blocks open
pub data Next : Type 0 where
  over : Checked → Next
  go : ℕ → List Open → Next

-- refusal 8: a stray ELSE, ENDIF, ENDLOOP, BREAK or CONTINUE
abbrev pub stray : ℕ → Next
stray at = over (Err (broken Rule.Stray at))

-- IF and LOOP open a block; refusal 9: a 33rd
abbrev pub opens : Part → ℕ → List Open → Next
opens part at o = cond (ltb (length o) nesting) (go (at + 1) (opened_at part at ∷ o)) (over (Err (broken Rule.Depth at)))

-- ELSE stands directly in its IF, once
abbrev pub elses : ℕ → List Open → Next
elses at [] = stray at
elses at (opened_at Part.Before p ∷ o) = go (at + 1) (opened_at Part.After p ∷ o)
elses at (opened_at Part.After p ∷ o) = stray at
elses at (opened_at Part.Loop p ∷ o) = stray at

-- ENDIF closes an IF
abbrev pub ends_if : ℕ → List Open → Next
ends_if at [] = stray at
ends_if at (opened_at Part.Before p ∷ o) = go (at + 1) o
ends_if at (opened_at Part.After p ∷ o) = go (at + 1) o
ends_if at (opened_at Part.Loop p ∷ o) = stray at

-- ENDLOOP closes a loop
abbrev pub ends_loop : ℕ → List Open → Next
ends_loop at [] = stray at
ends_loop at (opened_at Part.Before p ∷ o) = stray at
ends_loop at (opened_at Part.After p ∷ o) = stray at
ends_loop at (opened_at Part.Loop p ∷ o) = go (at + 1) o

-- BREAK and CONTINUE stand inside some loop, at any depth of IF
abbrev pub jumps : ℕ → List Open → Next
jumps at o = cond (in_loop o) (go (at + 1) o) (stray at)

-- what an instruction at a place does to the open blocks
unfoldable pub react : Item → ℕ → List Open → Next
react (Item.Plain width) at o = go (at + width) o
react Item.If at o = opens Part.Before at o
react Item.Else at o = elses at o
react Item.Endif at o = ends_if at o
react Item.Loop at o = opens Part.Loop at o
react Item.Jump at o = jumps at o
react Item.Endloop at o = ends_loop at o

-- and one that is refused by itself ends the pass
abbrev pub meets : Result Item Refusal → ℕ → List Open → Next
meets (Ok item) at o = react item at o
meets (Err r) at o = over (Err r)

-- the end of the code; refusal 10: a block is open there
unfoldable pub ended : List Open → Checked
ended [] = Ok tt
ended (opened_at part p ∷ o) = Err (broken Rule.Unclosed p)

unfoldable pub step : Code → ℕ → List Open → Next
step code at o = cond (ltb at code.size) (meets (code.item at) at o) (over (ended o))

abbrev pub carry : {A : Type 0} → (Checked → A) → (ℕ → List Open → A) → Next → A
carry f g (over v) = f v
carry f g (go at o) = g at o

-- at most n instructions from a place on, with these blocks open
unfoldable pub scan : Code → ℕ → ℕ → List Open → Checked
scan code zero at o = ended o
scan code (suc n) at o = carry (λ v. v) (scan code n) (step code at o)

-- the rest of the pass: code has no more instructions than words
unfoldable pub run : Code → ℕ → List Open → Checked
run code at o = scan code code.size at o

-- the whole pass
abbrev pub check_of : Code → Checked
check_of code = run code 0 []
