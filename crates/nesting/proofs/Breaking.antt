-- The check refuses code exactly by the first rule that it breaks, at its place: an instruction stops the pass exactly if it breaks a rule
-- with the blocks that are open there.
use Prim.Native.Nat.{ℕ, zero, suc, ◌+◌, ◌≤◌, ◌<◌}
use native.Mathlib.Omega.{arith}
use native.Mathlib.Decide.{dec_lt}
use mathlib.Core.Path.{◌≡◌, refl, sym, ap, ◌∙◌, subst}
use mathlib.Core.Logic.{◌↔◌, dite}
use mathlib.Core.Bool.{Bool, true, false, cond}
use mathlib.Core.List.{List, [], ◌∷◌}
use lib.ListN.{length}
use lib.Dec.{ltb}
use borrow.Author.Tests.{lt-ltb, le-ltb}
use Rattle.lanes.specs.Blocks.{nesting}
use Rattle.refusals.specs.declared.Refusal.{Refusal}
use Rattle.refusals.specs.declared.Rule.{Rule}
use Rattle.refusals.specs.Table.{broken}
use Rattle.blocks.specs.declared.item.Item.{Item}
use Rattle.blocks.specs.declared.item.Reading.{Reading}
use Rattle.std.specs.Prelude.{Option, Some, None, Result, Ok, Err}
use Rattle.blocks.specs.Code.{Code, code_of}
use Rattle.blocks.specs.declared.rules.Part.{Part}
use Rattle.blocks.specs.Open.{Open, opened_at, in_loop, innermost}
use Rattle.blocks.specs.Scan.{Checked, Next, over, go, stray, ended, react, meets, step, carry, run, check_of}
use Rattle.nesting.specs.Nesting.{nothing, Opened, outside, Broken, at_words, at_instruction, at_end}
use Rattle.nesting.specs.Nesting.{Misplaced, stray_else, stray_endif, stray_endloop, stray_jump, deep_if, deep_loop}
use Rattle.blocks.proofs.Widths.{Fits, code_fits}
use Rattle.nesting.proofs.Alone.{bad_if, has, has_seen}
use Rattle.blocks.proofs.Passes.{Moves, step_in, step_moves, run_step, run_seen, run_refused, run_past}
use Rattle.blocks.proofs.Refusing.{refused_not_fine, same_refusal}
use Rattle.nesting.proofs.Nested.{opened_room, Led, led_step, opened_run}

-- ---- an instruction that breaks a rule stops the pass

breaks_stops : (o : List Open) (i : Item) (r : Refusal) (at : ℕ) → Misplaced o at i r → react i at o ≡ over (Err r)
unfolding react innermost
breaks_stops [] Item.Else r at (stray_else f) = refl
breaks_stops (opened_at Part.Before p ∷ o) Item.Else r at (stray_else f) = absurd (f refl)
breaks_stops (opened_at Part.After p ∷ o) Item.Else r at (stray_else f) = refl
breaks_stops (opened_at Part.Loop p ∷ o) Item.Else r at (stray_else f) = refl
breaks_stops [] Item.Endif r at (stray_endif f g) = refl
breaks_stops (opened_at Part.Before p ∷ o) Item.Endif r at (stray_endif f g) = absurd (f refl)
breaks_stops (opened_at Part.After p ∷ o) Item.Endif r at (stray_endif f g) = absurd (g refl)
breaks_stops (opened_at Part.Loop p ∷ o) Item.Endif r at (stray_endif f g) = refl
breaks_stops [] Item.Endloop r at (stray_endloop f) = refl
breaks_stops (opened_at Part.Before p ∷ o) Item.Endloop r at (stray_endloop f) = refl
breaks_stops (opened_at Part.After p ∷ o) Item.Endloop r at (stray_endloop f) = refl
breaks_stops (opened_at Part.Loop p ∷ o) Item.Endloop r at (stray_endloop f) = absurd (f refl)
breaks_stops o Item.Jump r at (stray_jump e) = rw e refl
breaks_stops o Item.If r at (deep_if e) = rw (le-ltb (length o) nesting (omega arith)) refl
breaks_stops o Item.Loop r at (deep_loop e) = rw (le-ltb (length o) nesting (omega arith)) refl
breaks_stops o (Item.Plain w) r at h = elim h [ ]

module _ (words : List ℕ) (by : Reading) where
  abbrev kernel : Code
  kernel = code_of words by

  fits : Fits kernel
  fits = code_fits words by

  broken_refused : (r : Refusal) → Broken words by r → check_of kernel ≡ Err r
  unfolding react ended
  broken_refused r (at_words {room} {at} {o = o} x h b) =
      opened_run words by room o at x ∙ run_refused kernel fits at o h ((bad_if words by at h r).1 b)
  broken_refused r (at_instruction {room} {at} {o = o} {item = item} x h b) =
      let s = has_seen words by at item h in
      opened_run words by room o at x
      ∙ run_seen kernel fits at o (over (Err r)) s.0 s.1 (breaks_stops o item r at b)
  broken_refused r (at_end {room} {p} {part = part} {o = o} x) =
      opened_run words by room (opened_at part p ∷ o) kernel.size x
      ∙ run_past kernel fits kernel.size (opened_at part p ∷ o) (omega arith)

-- ---- and one that stops the pass breaks a rule

-- the pass is over at an instruction by a rule that it breaks: the one that refuses it, or a rule of blocks
abbrev BrokenBy : Result Item Refusal → List Open → ℕ → Refusal → Type 0
BrokenBy (Ok i) o at r = Misplaced o at i r
BrokenBy (Err q) o at r = q ≡ r

abbrev Stopped : Result Item Refusal → List Open → ℕ → Next → Type 0
Stopped x o at (over v) = (r : Refusal) × (v ≡ Err r) × BrokenBy x o at r
Stopped x o at (go a q) = Unit {0}

stopped_opening : (i : Item) (part : Part) (o : List Open) (at : ℕ) → length o ≤ nesting → (length o ≡ nesting → Misplaced o at i (broken Rule.Depth at))
    → Stopped (Ok i) o at (cond (ltb (length o) nesting) (go (at + 1) (opened_at part at ∷ o)) (over (Err (broken Rule.Depth at))))
stopped_opening i part o at l f =
    dite (dec_lt (length o) nesting)
    (λ h. rw (lt-ltb (length o) nesting h) tt)
    (λ h. rw (le-ltb (length o) nesting (omega arith)) (_, refl, f (omega arith)))

stopped_jump : (o : List Open) (at : ℕ) (b : Bool) → in_loop o ≡ b → Stopped (Ok Item.Jump) o at (cond b (go (at + 1) o) (stray at))
stopped_jump o at true e = tt
stopped_jump o at false e = (_, refl, stray_jump e)

-- the parts that a block can be directly inside of are told apart
abbrev tag : Option Part → ℕ
tag None = 0
tag (Some Part.Before) = 1
tag (Some Part.After) = 2
tag (Some Part.Loop) = 3

other : (x y : Option Part) → (tag x ≡ tag y → ⊥) → x ≡ y → ⊥
other x y f e = f (ap tag e)

stopped : (i : Item) (o : List Open) (at : ℕ) → length o ≤ nesting → Stopped (Ok i) o at (react i at o)
unfolding react innermost
stopped (Item.Plain w) o at l = tt
stopped Item.If o at l = stopped_opening Item.If Part.Before o at l deep_if
stopped Item.Else [] at l = (_, refl, stray_else (other _ _ (λ e. omega arith)))
stopped Item.Else (opened_at Part.Before p ∷ o) at l = tt
stopped Item.Else (opened_at Part.After p ∷ o) at l = (_, refl, stray_else (other _ _ (λ e. omega arith)))
stopped Item.Else (opened_at Part.Loop p ∷ o) at l = (_, refl, stray_else (other _ _ (λ e. omega arith)))
stopped Item.Endif [] at l = (_, refl, stray_endif (other _ _ (λ e. omega arith)) (other _ _ (λ e. omega arith)))
stopped Item.Endif (opened_at Part.Before p ∷ o) at l = tt
stopped Item.Endif (opened_at Part.After p ∷ o) at l = tt
stopped Item.Endif (opened_at Part.Loop p ∷ o) at l = (_, refl, stray_endif (other _ _ (λ e. omega arith)) (other _ _ (λ e. omega arith)))
stopped Item.Loop o at l = stopped_opening Item.Loop Part.Loop o at l deep_loop
stopped Item.Jump o at l = stopped_jump o at (in_loop o) refl
stopped Item.Endloop [] at l = (_, refl, stray_endloop (other _ _ (λ e. omega arith)))
stopped Item.Endloop (opened_at Part.Before p ∷ o) at l = (_, refl, stray_endloop (other _ _ (λ e. omega arith)))
stopped Item.Endloop (opened_at Part.After p ∷ o) at l = (_, refl, stray_endloop (other _ _ (λ e. omega arith)))
stopped Item.Endloop (opened_at Part.Loop p ∷ o) at l = tt

stopped_meets : (x : Result Item Refusal) (o : List Open) (at : ℕ) → length o ≤ nesting → Stopped x o at (meets x at o)
stopped_meets (Ok i) o at l = stopped i o at l
stopped_meets (Err r) o at l = (r, refl, refl)

module _ (words : List ℕ) (by : Reading) (r : Refusal) where
  abbrev code : Code
  code = kernel words by

  broken_as : (q : Refusal) → Broken words by q → ◌≡◌ {A = Checked} (Err q) (Err r) → Broken words by r
  broken_as q b e = subst (Broken words by) (same_refusal q r e) b

  by_end : (room at : ℕ) (o : List Open) → at ≡ code.size → Opened words by room o at → ended o ≡ Err r → Broken words by r
  unfolding ended
  by_end room at [] e x f = refused_not_fine r (sym f)
  by_end room at (opened_at part p ∷ o) e x f = broken_as (broken Rule.Unclosed p) (at_end (rw e at x)) f

  -- by the words alone, or by a rule of blocks
  by_rule : (room at : ℕ) (q : Refusal) (o : List Open) → Opened words by room o at → at < code.size
      → (x : Result Item Refusal) → code.item at ≡ x → BrokenBy x o at q → Broken words by q
  by_rule room at q o y h (Err p) e b = at_words y h ((bad_if words by at h q).0 (e ∙ ap Err b))
  by_rule room at q o y h (Ok i) e b = at_instruction y (has words by at h i e) b

  by_next : (at : ℕ) (o : List Open) (room : ℕ) → Opened words by room o at → at < code.size
      → ((room a : ℕ) (q : List Open) → at < a → a ≤ code.size → Opened words by room q a → run code a q ≡ Err r → Broken words by r)
      → (x : Next) → Moves at code.size x → Led words by x → Stopped (code.item at) o at x → carry (λ v. v) (run code) x ≡ Err r → Broken words by r
  by_next at o room y h further (over v) m l s f = broken_as s.0 (by_rule room at s.0 o y h (code.item at) refl s.2) (sym s.1 ∙ f)
  by_next at o room y h further (go a q) m l s f = further l.0 a q m.0 m.1 l.1 f

  first_broken : (k room at : ℕ) (o : List Open) → code.size ≤ at + k → at ≤ code.size → Opened words by room o at → run code at o ≡ Err r
      → Broken words by r
  first_broken zero room at o a b x f = by_end room at o (omega arith) x (sym (run_past code (fits words by) at o (omega arith)) ∙ f)
  first_broken (suc k) room at o a b x f =
      dite (dec_lt at code.size)
      (λ h. by_next at o room x h (λ room' a' q c d y s. first_broken k room' a' q (omega arith) d y s) (step code at o) (step_moves code (fits words by) at o)
      (led_step words by at o (room, x)) (rw (step_in code at o h) (stopped_meets (code.item at) o at (omega (arith, opened_room words by room o at x))))
      (sym (run_step code (fits words by) at o) ∙ f))
      (λ h. by_end room at o (omega arith) x (sym (run_past code (fits words by) at o (omega arith)) ∙ f))

  -- CODE IS REFUSED exactly by the first rule that it breaks, at its place
  pub refused_if : (check_of code ≡ Err r) ↔ Broken words by r
  refused_if = (first_broken code.size nesting 0 [] (omega arith) (omega arith) (outside nothing), broken_refused words by r)
