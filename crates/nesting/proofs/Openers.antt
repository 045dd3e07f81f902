-- Each open block was opened by an IF or a LOOP where the blocks around it were open, and there are never more of them than the room for nesting.
use Prim.Native.Nat.{ℕ, ◌+◌, ◌≤◌, ◌<◌}
use native.Mathlib.Omega.{arith}
use native.Mathlib.Decide.{dec_lt}
use mathlib.Core.Path.{◌≡◌, refl, sym, ap, ◌∙◌, subst}
use mathlib.Core.Logic.{dite}
use mathlib.Core.Bool.{Bool, true, false, cond}
use mathlib.Core.List.{List, [], ◌∷◌}
use lib.ListN.{length}
use lib.Dec.{ltb}
use borrow.Author.Tests.{ltb-true}
use Rattle.lanes.specs.Blocks.{nesting}
use Rattle.refusals.specs.declared.Refusal.{Refusal}
use Rattle.refusals.specs.declared.Rule.{Rule}
use Rattle.refusals.specs.Table.{broken}
use Rattle.blocks.specs.declared.item.Item.{Item}
use Rattle.std.specs.Prelude.{Result, Ok, Err}
use Rattle.blocks.specs.Code.{Code}
use Rattle.blocks.specs.declared.rules.Part.{Part}
use Rattle.blocks.specs.Open.{Open, opened_at, in_loop}
use Rattle.blocks.specs.Scan.{Next, over, go, stray, react, meets, step}
use Rattle.std.specs.Prelude.{Some}
use Rattle.nesting.specs.OpenAt.{open_at}
use Rattle.blocks.proofs.Widths.{Fits}
use Rattle.blocks.proofs.Passes.{step_in, step_past}
use Rattle.nesting.proofs.Induction.{along, open_at_start, going_on}

-- an IF's block begins before its ELSE
abbrev pub opening : Part → Part
opening Part.Before = Part.Before
opening Part.After = Part.Before
opening Part.Loop = Part.Loop

-- the instruction that opens a block
abbrev pub opener_of : Part → Item
opener_of Part.Before = Item.If
opener_of Part.After = Item.If
opener_of Part.Loop = Item.Loop

-- a block that was opened at p, where the blocks o were open
pub record Opened (code : Code) (part : Part) (p : ℕ) (o : List Open) : Type 0 where
  pub in_code : p < code.size
  pub opener : code.item p ≡ Ok (opener_of part)
  pub here : open_at code p ≡ Some o
  pub next : open_at code (p + 1) ≡ Some (opened_at (opening part) p ∷ o)

-- each of the open blocks was opened where the blocks around it were open
unfoldable pub EachOpened : Code → List Open → Type 0
EachOpened code [] = Unit {0}
EachOpened code (opened_at part p ∷ o) = Opened code part p o × EachOpened code o

record Nested (code : Code) (at : ℕ) (o : List Open) : Type 0 where
  found : open_at code at ≡ Some o
  opened : EachOpened code o
  room : length o ≤ nesting

abbrev NextOpened : Code → Next → Type 0
NextOpened code (over v) = Unit {0}
NextOpened code (go a q) = EachOpened code q × (length q ≤ nesting)

module _ (code : Code) (fits : Fits code) where
  opens_opened : (part : Part) (at : ℕ) (o : List Open) → opening part ≡ part → at < code.size → code.item at ≡ Ok (opener_of part) → Nested code at o
      → (b : Bool) → ltb (length o) nesting ≡ b → step code at o ≡ cond b (go (at + 1) (opened_at part at ∷ o)) (over (Err (broken Rule.Depth at)))
      → NextOpened code (cond b (go (at + 1) (opened_at part at ∷ o)) (over (Err (broken Rule.Depth at))))
  unfolding EachOpened
  opens_opened part at o first h i k true b e = (
    (
      record {
        in_code = h;
        opener = i;
        here = k.found;
        next = going_on code fits at o (at + 1) (opened_at part at ∷ o) k.found e ∙ ap (λ (x : Part). Some (opened_at x at ∷ o)) (sym first);
      },
      k.opened,
    ),
    omega (arith, ltb-true (length o) nesting b),
  )
  opens_opened part at o first h i k false b e = tt

  jump_opened : (at : ℕ) (o : List Open) → Nested code at o → (b : Bool) → NextOpened code (cond b (go (at + 1) o) (stray at))
  jump_opened at o k true = (k.opened, k.room)
  jump_opened at o k false = tt

  react_opened : (i : Item) (at : ℕ) (o : List Open) → at < code.size → code.item at ≡ Ok i → Nested code at o → step code at o ≡ react i at o → NextOpened code (react i at o)
  unfolding react EachOpened
  react_opened (Item.Plain w) at o h i k e = (k.opened, k.room)
  react_opened Item.If at o h i k e = opens_opened Part.Before at o refl h i k (ltb (length o) nesting) refl e
  react_opened Item.Else at [] h i k e = tt
  react_opened Item.Else at (opened_at Part.Before p ∷ o) h i k e =
      let b : Opened code Part.Before p o = k.opened.0 in
      ((record { in_code = b.in_code; opener = b.opener; here = b.here; next = b.next }, k.opened.1), k.room)
  react_opened Item.Else at (opened_at Part.After p ∷ o) h i k e = tt
  react_opened Item.Else at (opened_at Part.Loop p ∷ o) h i k e = tt
  react_opened Item.Endif at [] h i k e = tt
  react_opened Item.Endif at (opened_at Part.Before p ∷ o) h i k e = (k.opened.1, omega (arith, k.room))
  react_opened Item.Endif at (opened_at Part.After p ∷ o) h i k e = (k.opened.1, omega (arith, k.room))
  react_opened Item.Endif at (opened_at Part.Loop p ∷ o) h i k e = tt
  react_opened Item.Loop at o h i k e = opens_opened Part.Loop at o refl h i k (ltb (length o) nesting) refl e
  react_opened Item.Jump at o h i k e = jump_opened at o k (in_loop o)
  react_opened Item.Endloop at [] h i k e = tt
  react_opened Item.Endloop at (opened_at Part.Before p ∷ o) h i k e = tt
  react_opened Item.Endloop at (opened_at Part.After p ∷ o) h i k e = tt
  react_opened Item.Endloop at (opened_at Part.Loop p ∷ o) h i k e = (k.opened.1, omega (arith, k.room))

  meets_opened : (x : Result Item Refusal) (at : ℕ) (o : List Open) → at < code.size → code.item at ≡ x → Nested code at o → step code at o ≡ meets x at o
      → NextOpened code (meets x at o)
  meets_opened (Ok i) at o h s k e = react_opened i at o h s k e
  meets_opened (Err r) at o h s k e = tt

  step_opened : (at : ℕ) (o : List Open) → Nested code at o → NextOpened code (step code at o)
  step_opened at o k =
      dite (dec_lt at code.size)
      (λ (h : at < code.size). subst (NextOpened code) (sym (step_in code at o h)) (meets_opened (code.item at) at o h refl k (step_in code at o h)))
      (λ h. subst (NextOpened code) (sym (step_past code at o (omega arith))) tt)

  nested_step : (at : ℕ) (o : List Open) (a : ℕ) (q : List Open) → Nested code at o → step code at o ≡ go a q → Nested code a q
  nested_step at o a q k e =
      let n : EachOpened code q × (length q ≤ nesting) = subst (NextOpened code) e (step_opened at o k) in
      record { found = going_on code fits at o a q k.found e; opened = n.0; room = n.1 }

  nested : (place : ℕ) (o : List Open) → open_at code place ≡ Some o → Nested code place o
  unfolding EachOpened
  nested place o e = along code (Nested code) nested_step (record { found = open_at_start code fits; opened = tt; room = omega arith }) place o e

  -- THE OPEN BLOCKS: each has its opener, an IF or a LOOP
  pub each_opened : (place : ℕ) (o : List Open) → open_at code place ≡ Some o → EachOpened code o
  each_opened place o e = (nested place o e).opened

  -- and there are no more of them than the room for nesting
  pub at_most : (place : ℕ) (o : List Open) → open_at code place ≡ Some o → length o ≤ nesting
  at_most place o e = (nested place o e).room

  -- GOING BACK to the word after LOOP keeps the open blocks
  pub going_back : (place l : ℕ) (o : List Open) → open_at code place ≡ Some (opened_at Part.Loop l ∷ o) → open_at code (l + 1) ≡ Some (opened_at Part.Loop l ∷ o)
  unfolding EachOpened
  going_back place l o e = (each_opened place (opened_at Part.Loop l ∷ o) e).0.next
