-- What a run over checked code relies on: at each place that the pass comes by, the instruction is not refused and stands where it may,
-- and where the run goes on to has just the blocks open that the instruction leaves open; at the end none is open.
-- For any code, `Induction` has the first place (`open_at_start`) and going on from a place (`going_on`), `Openers` the open blocks' openers
-- (`each_opened`), their number (`at_most`) and going back to the word after LOOP (`going_back`).
use Prim.Native.Nat.{ℕ, zero, suc, ◌+◌, ◌≤◌, ◌<◌}
use native.Mathlib.Omega.{arith}
use native.Mathlib.Decide.{dec_lt}
use mathlib.Core.Path.{◌≡◌, refl, sym, ap, ◌∙◌, subst}
use mathlib.Core.Logic.{dite}
use mathlib.Core.Bool.{Bool, true, false, cond}
use mathlib.Core.List.{List, [], ◌∷◌}
use lib.ListN.{length}
use lib.Dec.{ltb}
use borrow.Author.Tests.{ltb-true}
use Rattle.lanes.specs.Blocks.{nesting}
use Rattle.refusals.specs.declared.Refusal.{Refusal}
use Rattle.refusals.specs.declared.Rule.{Rule}
use Rattle.refusals.specs.Table.{broken}
use Rattle.blocks.specs.declared.item.Item.{Item}
use Rattle.std.specs.Prelude.{Result, Ok, Err}
use Rattle.blocks.specs.Code.{Code}
use Rattle.blocks.specs.declared.rules.Part.{Part}
use Rattle.blocks.specs.Open.{Open, opened_at, in_loop}
use Rattle.blocks.specs.Scan.{over, go, stray, ended, react, carry, run, check_of}
use Rattle.std.specs.Prelude.{Some}
use Rattle.nesting.specs.OpenAt.{open_at}
use Rattle.blocks.proofs.Refusing.{refused_not_fine}
use Rattle.blocks.proofs.Widths.{SeenInCode, Fits}
use Rattle.blocks.proofs.Passes.{step_seen, run_step, run_seen, run_refused, run_past}
use Rattle.nesting.proofs.Induction.{along, open_at_start, going_on, found_within}
use Rattle.nesting.proofs.Openers.{going_back}

-- WHERE AN INSTRUCTION MAY STAND AND LEAD, with these blocks open. Where it would be stray there is no proof.

-- ELSE: directly in an IF before its ELSE
abbrev pub ElseAllowed : Code → ℕ → List Open → Type 0
ElseAllowed code at [] = ⊥
ElseAllowed code at (opened_at Part.Before p ∷ o) = open_at code (at + 1) ≡ Some (opened_at Part.After p ∷ o)
ElseAllowed code at (opened_at Part.After p ∷ o) = ⊥
ElseAllowed code at (opened_at Part.Loop p ∷ o) = ⊥

-- ENDIF: directly in an IF
abbrev pub EndifAllowed : Code → ℕ → List Open → Type 0
EndifAllowed code at [] = ⊥
EndifAllowed code at (opened_at Part.Before p ∷ o) = open_at code (at + 1) ≡ Some o
EndifAllowed code at (opened_at Part.After p ∷ o) = open_at code (at + 1) ≡ Some o
EndifAllowed code at (opened_at Part.Loop p ∷ o) = ⊥

-- ENDLOOP: directly in a loop; one that closes goes on after ENDLOOP, one that does not goes back to the word after its LOOP
abbrev pub EndloopAllowed : Code → ℕ → List Open → Type 0
EndloopAllowed code at [] = ⊥
EndloopAllowed code at (opened_at Part.Before p ∷ o) = ⊥
EndloopAllowed code at (opened_at Part.After p ∷ o) = ⊥
EndloopAllowed code at (opened_at Part.Loop p ∷ o) = (open_at code (at + 1) ≡ Some o) × (open_at code (p + 1) ≡ Some (opened_at Part.Loop p ∷ o))

-- any instruction: a refused one nowhere, IF and LOOP where there is room, BREAK and CONTINUE inside some loop
abbrev pub Allowed : Code → Result Item Refusal → ℕ → List Open → Type 0
Allowed code (Ok (Item.Plain w)) at o = open_at code (at + w) ≡ Some o
Allowed code (Ok Item.If) at o = (length o < nesting) × (open_at code (at + 1) ≡ Some (opened_at Part.Before at ∷ o))
Allowed code (Ok Item.Else) at o = ElseAllowed code at o
Allowed code (Ok Item.Endif) at o = EndifAllowed code at o
Allowed code (Ok Item.Loop) at o = (length o < nesting) × (open_at code (at + 1) ≡ Some (opened_at Part.Loop at ∷ o))
Allowed code (Ok Item.Jump) at o = (in_loop o ≡ true) × (open_at code (at + 1) ≡ Some o)
Allowed code (Ok Item.Endloop) at o = EndloopAllowed code at o
Allowed code (Err r) at o = ⊥

-- a later place that the pass comes by
record Onwards (code : Code) (at : ℕ) : Type 0 where
  place : ℕ
  blocks : List Open
  later : at < place
  found : open_at code place ≡ Some blocks

onwards_from : (code : Code) (x : Result Item Refusal) (at : ℕ) (o : List Open) → SeenInCode at code.size x → Allowed code x at o → Onwards code at
onwards_from code (Ok (Item.Plain w)) at o ok a = record { place = at + w; blocks = o; later = omega arith; found = a }
onwards_from code (Ok Item.If) at o ok a = record { place = at + 1; blocks = opened_at Part.Before at ∷ o; later = omega arith; found = a.1 }
onwards_from code (Ok Item.Else) at [] ok a = absurd a
onwards_from code (Ok Item.Else) at (opened_at Part.Before p ∷ o) ok a = record { place = at + 1; blocks = opened_at Part.After p ∷ o; later = omega arith; found = a }
onwards_from code (Ok Item.Else) at (opened_at Part.After p ∷ o) ok a = absurd a
onwards_from code (Ok Item.Else) at (opened_at Part.Loop p ∷ o) ok a = absurd a
onwards_from code (Ok Item.Endif) at [] ok a = absurd a
onwards_from code (Ok Item.Endif) at (opened_at Part.Before p ∷ o) ok a = record { place = at + 1; blocks = o; later = omega arith; found = a }
onwards_from code (Ok Item.Endif) at (opened_at Part.After p ∷ o) ok a = record { place = at + 1; blocks = o; later = omega arith; found = a }
onwards_from code (Ok Item.Endif) at (opened_at Part.Loop p ∷ o) ok a = absurd a
onwards_from code (Ok Item.Loop) at o ok a = record { place = at + 1; blocks = opened_at Part.Loop at ∷ o; later = omega arith; found = a.1 }
onwards_from code (Ok Item.Jump) at o ok a = record { place = at + 1; blocks = o; later = omega arith; found = a.1 }
onwards_from code (Ok Item.Endloop) at [] ok a = absurd a
onwards_from code (Ok Item.Endloop) at (opened_at Part.Before p ∷ o) ok a = absurd a
onwards_from code (Ok Item.Endloop) at (opened_at Part.After p ∷ o) ok a = absurd a
onwards_from code (Ok Item.Endloop) at (opened_at Part.Loop p ∷ o) ok a = record { place = at + 1; blocks = o; later = omega arith; found = a.0 }
onwards_from code (Err r) at o ok a = absurd a

module _ (code : Code) (fits : Fits code) (checked : check_of code ≡ Ok tt) where
  -- from wherever the pass comes by, the rest of it is fine
  fine_from : (place : ℕ) (o : List Open) → open_at code place ≡ Some o → run code place o ≡ Ok tt
  fine_from place o e =
      along code (λ at q. run code at q ≡ Ok tt) (λ at o a q r f. sym (run_step code fits at o ∙ ap (carry (λ v. v) (run code)) f) ∙ r) checked place o e

  module _ (at : ℕ) (h : at < code.size) where
    leads : (i : Item) (o : List Open) (a : ℕ) (q : List Open) → code.item at ≡ Ok i → open_at code at ≡ Some o → react i at o ≡ go a q → open_at code a ≡ Some q
    leads i o a q e here f = going_on code fits at o a q here (step_seen code at o h e ∙ f)

    refused : {A : Type 0} (i : Item) (o : List Open) (r : Refusal) → code.item at ≡ Ok i → open_at code at ≡ Some o → react i at o ≡ over (Err r) → A
    refused i o r e here f =
        refused_not_fine r
        (sym (run_seen code fits at o (over (Err r)) h e f) ∙ fine_from at o here)

    opener_allowed : (i : Item) (part : Part) (o : List Open) → code.item at ≡ Ok i → open_at code at ≡ Some o → (b : Bool) → ltb (length o) nesting ≡ b
        → react i at o ≡ cond b (go (at + 1) (opened_at part at ∷ o)) (over (Err (broken Rule.Depth at))) → (length o < nesting) × (open_at code (at + 1) ≡ Some (opened_at part at ∷ o))
    opener_allowed i part o e here true b f = (ltb-true (length o) nesting b, leads i o (at + 1) (opened_at part at ∷ o) e here f)
    opener_allowed i part o e here false b f = refused i o _ e here f

    jump_allowed : (o : List Open) → code.item at ≡ Ok Item.Jump → open_at code at ≡ Some o → (b : Bool) → in_loop o ≡ b
        → react Item.Jump at o ≡ cond b (go (at + 1) o) (stray at) → (in_loop o ≡ true) × (open_at code (at + 1) ≡ Some o)
    jump_allowed o e here true b f = (b, leads Item.Jump o (at + 1) o e here f)
    jump_allowed o e here false b f = refused Item.Jump o _ e here f

    item_allowed : (i : Item) (o : List Open) → code.item at ≡ Ok i → open_at code at ≡ Some o → Allowed code (Ok i) at o
    unfolding react
    item_allowed (Item.Plain w) o e here = leads (Item.Plain w) o (at + w) o e here refl
    item_allowed Item.If o e here = opener_allowed Item.If Part.Before o e here (ltb (length o) nesting) refl refl
    item_allowed Item.Else [] e here = refused Item.Else [] _ e here refl
    item_allowed Item.Else (opened_at Part.Before p ∷ o) e here = leads Item.Else (opened_at Part.Before p ∷ o) (at + 1) (opened_at Part.After p ∷ o) e here refl
    item_allowed Item.Else (opened_at Part.After p ∷ o) e here = refused Item.Else (opened_at Part.After p ∷ o) _ e here refl
    item_allowed Item.Else (opened_at Part.Loop p ∷ o) e here = refused Item.Else (opened_at Part.Loop p ∷ o) _ e here refl
    item_allowed Item.Endif [] e here = refused Item.Endif [] _ e here refl
    item_allowed Item.Endif (opened_at Part.Before p ∷ o) e here = leads Item.Endif (opened_at Part.Before p ∷ o) (at + 1) o e here refl
    item_allowed Item.Endif (opened_at Part.After p ∷ o) e here = leads Item.Endif (opened_at Part.After p ∷ o) (at + 1) o e here refl
    item_allowed Item.Endif (opened_at Part.Loop p ∷ o) e here = refused Item.Endif (opened_at Part.Loop p ∷ o) _ e here refl
    item_allowed Item.Loop o e here = opener_allowed Item.Loop Part.Loop o e here (ltb (length o) nesting) refl refl
    item_allowed Item.Jump o e here = jump_allowed o e here (in_loop o) refl refl
    item_allowed Item.Endloop [] e here = refused Item.Endloop [] _ e here refl
    item_allowed Item.Endloop (opened_at Part.Before p ∷ o) e here = refused Item.Endloop (opened_at Part.Before p ∷ o) _ e here refl
    item_allowed Item.Endloop (opened_at Part.After p ∷ o) e here = refused Item.Endloop (opened_at Part.After p ∷ o) _ e here refl
    item_allowed Item.Endloop (opened_at Part.Loop p ∷ o) e here =
        (leads Item.Endloop (opened_at Part.Loop p ∷ o) (at + 1) o e here refl, going_back code fits at p o here)

    seen_allowed : (x : Result Item Refusal) (o : List Open) → code.item at ≡ x → open_at code at ≡ Some o → Allowed code x at o
    seen_allowed (Ok i) o e here = item_allowed i o e here
    seen_allowed (Err r) o e here = refused_not_fine r (sym (run_refused code fits at o h e) ∙ fine_from at o here)

  -- EACH INSTRUCTION of checked code that the pass comes by stands where it may, and leads to where the pass has the blocks that it leaves open
  pub allowed : (at : ℕ) (o : List Open) → open_at code at ≡ Some o → at < code.size → Allowed code (code.item at) at o
  allowed at o here h = seen_allowed at h (code.item at) o refl here

  none_of_fine : (o : List Open) → ended o ≡ Ok tt → o ≡ []
  unfolding ended
  none_of_fine [] e = refl
  none_of_fine (opened_at part p ∷ o) e = refused_not_fine (broken Rule.Unclosed p) e

  ended_at_lem : (at : ℕ) (o : List Open) → at ≡ code.size → open_at code at ≡ Some o → open_at code code.size ≡ Some []
  ended_at_lem at o e here =
      let end : open_at code code.size ≡ Some o = subst (λ (x : ℕ). open_at code x ≡ Some o) e here in
      end ∙ ap Some (none_of_fine o (sym (run_past code fits code.size o (omega arith)) ∙ fine_from code.size o end))

  to_the_end : (n at : ℕ) (o : List Open) → code.size ≤ at + n → open_at code at ≡ Some o → open_at code code.size ≡ Some []
  to_the_end zero at o h here = ended_at_lem at o (omega (arith, found_within code fits at o here)) here
  to_the_end (suc n) at o h here =
      dite (dec_lt at code.size)
      (λ (lt : at < code.size).
      let x : Onwards code at = onwards_from code (code.item at) at o (fits at lt) (allowed at o here lt) in
      to_the_end n x.place x.blocks (omega arith) x.found)
      (λ ge. ended_at_lem at o (omega (arith, found_within code fits at o here)) here)

  -- AT THE END of checked code no block is open
  pub none_at_the_end : open_at code code.size ≡ Some []
  none_at_the_end = to_the_end code.size 0 [] (omega arith) (open_at_start code fits)
