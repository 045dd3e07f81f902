-- Code passes the check exactly if its blocks nest, and the blocks open at a place are those that the code has open there: whole blocks
-- leave the open blocks as they were, and each step of the pass keeps to what the code has open.
use Prim.Native.Nat.{ℕ, zero, suc, ◌+◌, ◌<◌}
use native.Mathlib.Omega.{arith}
use native.Mathlib.Decide.{dec_lt}
use mathlib.Core.Path.{◌≡◌, refl, ap, ◌∙◌}
use mathlib.Core.Logic.{◌↔◌, dite}
use mathlib.Core.Bool.{Bool, true, false, cond}
use mathlib.Core.List.{List, [], ◌∷◌}
use lib.ListN.{length}
use lib.Dec.{ltb}
use borrow.Author.Tests.{lt-ltb, le-ltb}
use Rattle.lanes.specs.Blocks.{nesting}
use Rattle.refusals.specs.declared.Refusal.{Refusal}
use Rattle.refusals.specs.declared.Rule.{Rule}
use Rattle.refusals.specs.Table.{broken}
use Rattle.blocks.specs.declared.item.Item.{Item}
use Rattle.blocks.specs.declared.item.Reading.{Reading}
use Rattle.std.specs.Prelude.{Result, Ok, Err}
use Rattle.blocks.specs.Code.{Code, code_of}
use Rattle.blocks.specs.declared.rules.Part.{Part}
use Rattle.blocks.specs.Open.{Open, opened_at, in_loop}
use Rattle.blocks.specs.Scan.{Next, over, go, stray, ended, react, meets, step, carry, run, check_of}
use Rattle.std.specs.Prelude.{Some}
use Rattle.nesting.specs.OpenAt.{open_at}
use Rattle.nesting.specs.Nesting.{Has, Whole, nothing, plain, jump, choice, choice_of_two, loop, Nested}
use Rattle.nesting.specs.Nesting.{Opened, outside, in_first, in_second, in_body}
use Rattle.nesting.proofs.Alone.{has, has_seen}
use Rattle.blocks.proofs.Widths.{Fits, code_fits}
use Rattle.blocks.proofs.Passes.{step_in, step_seen, step_past, run_step, run_past}
use Rattle.nesting.proofs.Induction.{along, open_at_start, going_on}
use Rattle.nesting.proofs.Theorems.{none_at_the_end}

-- ---- what each step of the pass keeps, whole blocks keep

module _ (words : List ℕ) (by : Reading) (P : ℕ → List Open → Type 0)
    (kept : (at : ℕ) (o : List Open) (a : ℕ) (q : List Open) → P at o → step (code_of words by) at o ≡ go a q → P a q) where
  moved : (i : Item) (at : ℕ) (o : List Open) (a : ℕ) (q : List Open) → Has words by at i → react i at o ≡ go a q → P at o → P a q
  moved i at o a q h e p =
      let s = has_seen words by at i h in
      kept at o a q p (step_seen (code_of words by) at o s.0 s.1 ∙ e)

  entered : (i : Item) (part : Part) (at : ℕ) (o : List Open) → Has words by at i
      → react i at o ≡ cond (ltb (length o) nesting) (go (at + 1) (opened_at part at ∷ o)) (over (Err (broken Rule.Depth at))) → length o < nesting
      → P at o → P (at + 1) (opened_at part at ∷ o)
  entered i part at o h e b = moved i at o (at + 1) (opened_at part at ∷ o) h (e ∙ rw (lt-ltb (length o) nesting b) refl)

  passed : (room : ℕ) (looped : Bool) (at to : ℕ) → Whole words by room looped at to → (o : List Open) → length o + room ≡ nesting → in_loop o ≡ looped
      → P at o → P to o
  unfolding react in_loop
  passed room looped at to nothing o r l p = p
  passed room looped at to (plain w h rest) o r l p =
      passed room looped (at + w) to rest o r l (moved (Item.Plain w) at o (at + w) o h refl p)
  passed room looped at to (jump h rest) o r l p =
      passed room true (at + 1) to rest o r l (moved Item.Jump at o (at + 1) o h (rw l refl) p)
  passed (suc room) looped at to (choice end h first f rest) o r l p =
      passed (suc room) looped (end + 1) to rest o r l
      (moved Item.Endif end (opened_at Part.Before at ∷ o) (end + 1) o f refl
      (passed room looped (at + 1) end first (opened_at Part.Before at ∷ o) (omega arith) l
      (entered Item.If Part.Before at o h refl (omega arith) p)))
  passed (suc room) looped at to (choice_of_two other end h first g second f rest) o r l p =
      passed (suc room) looped (end + 1) to rest o r l
      (moved Item.Endif end (opened_at Part.After at ∷ o) (end + 1) o f refl
      (passed room looped (other + 1) end second (opened_at Part.After at ∷ o) (omega arith) l
      (moved Item.Else other (opened_at Part.Before at ∷ o) (other + 1) (opened_at Part.After at ∷ o) g refl
      (passed room looped (at + 1) other first (opened_at Part.Before at ∷ o) (omega arith) l
      (entered Item.If Part.Before at o h refl (omega arith) p)))))
  passed (suc room) looped at to (loop end h body f rest) o r l p =
      passed (suc room) looped (end + 1) to rest o r l
      (moved Item.Endloop end (opened_at Part.Loop at ∷ o) (end + 1) o f refl
      (passed room true (at + 1) end body (opened_at Part.Loop at ∷ o) (omega arith) refl
      (entered Item.Loop Part.Loop at o h refl (omega arith) p)))

  -- so it holds wherever these blocks are open
  pub at_opened : P 0 [] → (room : ℕ) (o : List Open) (at : ℕ) → Opened words by room o at → (length o + room ≡ nesting) × P at o
  unfolding react in_loop
  at_opened s room o at (outside w) = (refl, passed nesting false 0 at w [] refl refl s)
  at_opened s room (opened_at Part.Before p ∷ o) at (in_first _ x h w) =
      let z = at_opened s (suc room) o p x in (
        omega (arith, z.0),
        passed room (in_loop o) (p + 1) at w (opened_at Part.Before p ∷ o) (omega (arith, z.0)) refl
            (entered Item.If Part.Before p o h refl (omega (arith, z.0)) z.1),
      )
  at_opened s room (opened_at Part.After p ∷ o) at (in_second _ other x h w) =
      let z = at_opened s room (opened_at Part.Before p ∷ o) other x in (
        z.0,
        passed room (in_loop o) (other + 1) at w (opened_at Part.After p ∷ o) z.0 refl
            (moved Item.Else other (opened_at Part.Before p ∷ o) (other + 1) (opened_at Part.After p ∷ o) h refl z.1),
      )
  at_opened s room (opened_at Part.Loop p ∷ o) at (in_body _ x h w) =
      let z = at_opened s (suc room) o p x in (
        omega (arith, z.0),
        passed room true (p + 1) at w (opened_at Part.Loop p ∷ o) (omega (arith, z.0)) refl
            (entered Item.Loop Part.Loop p o h refl (omega (arith, z.0)) z.1),
      )

-- the room and the open blocks make up the nesting
pub opened_room : (words : List ℕ) (by : Reading) (room : ℕ) (o : List Open) (at : ℕ) → Opened words by room o at → length o + room ≡ nesting
opened_room words by room o at x = (at_opened words by (λ a q. Unit {0}) (λ at o a q p f. tt) tt room o at x).0

-- ---- each step of the pass keeps to what the code has open

module _ (words : List ℕ) (by : Reading) where
  abbrev code : Code
  code = code_of words by

  append : (room : ℕ) (looped : Bool) (at next to : ℕ) → Whole words by room looped at next → Whole words by room looped next to → Whole words by room looped at to
  append room looped at next to nothing v = v
  append room looped at next to (plain w h rest) v = plain w h (append room looped (at + w) next to rest v)
  append room looped at next to (jump h rest) v = jump h (append room true (at + 1) next to rest v)
  append (suc room) looped at next to (choice end h first f rest) v = choice end h first f (append (suc room) looped (end + 1) next to rest v)
  append (suc room) looped at next to (choice_of_two other end h first g second f rest) v =
      choice_of_two other end h first g second f (append (suc room) looped (end + 1) next to rest v)
  append (suc room) looped at next to (loop end h body f rest) v = loop end h body f (append (suc room) looped (end + 1) next to rest v)

  -- whole blocks further
  onward : (room : ℕ) (o : List Open) (at to : ℕ) → Opened words by room o at → Whole words by room (in_loop o) at to → Opened words by room o to
  unfolding in_loop
  onward room o at to (outside w) v = outside (append nesting false 0 at to w v)
  onward room (opened_at Part.Before p ∷ o) at to (in_first _ x h w) v = in_first p x h (append room (in_loop o) (p + 1) at to w v)
  onward room (opened_at Part.After p ∷ o) at to (in_second _ other x h w) v = in_second p other x h (append room (in_loop o) (other + 1) at to w v)
  onward room (opened_at Part.Loop p ∷ o) at to (in_body _ x h w) v = in_body p x h (append room true (p + 1) at to w v)

  -- a block that closes is one whole block more
  shut_first : (room p : ℕ) (o : List Open) (at : ℕ) → Opened words by room (opened_at Part.Before p ∷ o) at → Has words by at Item.Endif
      → Opened words by (suc room) o (at + 1)
  shut_first room p o at (in_first _ x h w) f = onward (suc room) o p (at + 1) x (choice at h w f nothing)

  shut_second : (room p : ℕ) (o : List Open) (at : ℕ) → Opened words by room (opened_at Part.After p ∷ o) at → Has words by at Item.Endif
      → Opened words by (suc room) o (at + 1)
  shut_second room p o at (in_second _ other (in_first _ x h w) g v) f = onward (suc room) o p (at + 1) x (choice_of_two other at h w g v f nothing)

  shut_body : (room p : ℕ) (o : List Open) (at : ℕ) → Opened words by room (opened_at Part.Loop p ∷ o) at → Has words by at Item.Endloop
      → Opened words by (suc room) o (at + 1)
  shut_body room p o at (in_body _ x h w) f = onward (suc room) o p (at + 1) x (loop at h w f nothing)

  -- where the pass goes on, these are the open blocks
  abbrev pub Led : Next → Type 0
  Led (over v) = Unit {0}
  Led (go a q) = (room : ℕ) × Opened words by room q a

  led_in : (part : Part) (at room : ℕ) (o : List Open) → length o + room ≡ nesting
      → ((inner : ℕ) → room ≡ suc inner → Opened words by inner (opened_at part at ∷ o) (at + 1))
      → Led (cond (ltb (length o) nesting) (go (at + 1) (opened_at part at ∷ o)) (over (Err (broken Rule.Depth at))))
  led_in part at zero o l f = rw (le-ltb (length o) nesting (omega arith)) tt
  led_in part at (suc room) o l f = rw (lt-ltb (length o) nesting (omega arith)) (room, f room refl)

  led_jump : (at room : ℕ) (o : List Open) → Has words by at Item.Jump → Opened words by room o at → (b : Bool) → in_loop o ≡ b
      → Led (cond b (go (at + 1) o) (stray at))
  led_jump at room o h x true e = (room, onward room o at (at + 1) x (rw e (jump h nothing)))
  led_jump at room o h x false e = tt

  -- what is seen at a place of the code
  abbrev Seen : ℕ → Item → Type 0
  Seen at i = (at < code.size) × (code.item at ≡ Ok i)

  led : (i : Item) (at room : ℕ) (o : List Open) → Seen at i → Opened words by room o at → Led (react i at o)
  unfolding react
  led (Item.Plain w) at room o h x = (room, onward room o at (at + w) x (plain w (has words by at h.0 (Item.Plain w) h.1) nothing))
  led Item.If at room o h x =
      led_in Part.Before at room o (opened_room words by room o at x)
      (λ inner e. in_first at (rw e at x) (has words by at h.0 Item.If h.1) nothing)
  led Item.Else at room [] h x = tt
  led Item.Else at room (opened_at Part.Before p ∷ o) h x = (room, in_second p at x (has words by at h.0 Item.Else h.1) nothing)
  led Item.Else at room (opened_at Part.After p ∷ o) h x = tt
  led Item.Else at room (opened_at Part.Loop p ∷ o) h x = tt
  led Item.Endif at room [] h x = tt
  led Item.Endif at room (opened_at Part.Before p ∷ o) h x = (suc room, shut_first room p o at x (has words by at h.0 Item.Endif h.1))
  led Item.Endif at room (opened_at Part.After p ∷ o) h x = (suc room, shut_second room p o at x (has words by at h.0 Item.Endif h.1))
  led Item.Endif at room (opened_at Part.Loop p ∷ o) h x = tt
  led Item.Loop at room o h x =
      led_in Part.Loop at room o (opened_room words by room o at x)
      (λ inner e. in_body at (rw e at x) (has words by at h.0 Item.Loop h.1) nothing)
  led Item.Jump at room o h x = led_jump at room o (has words by at h.0 Item.Jump h.1) x (in_loop o) refl
  led Item.Endloop at room [] h x = tt
  led Item.Endloop at room (opened_at Part.Before p ∷ o) h x = tt
  led Item.Endloop at room (opened_at Part.After p ∷ o) h x = tt
  led Item.Endloop at room (opened_at Part.Loop p ∷ o) h x = (suc room, shut_body room p o at x (has words by at h.0 Item.Endloop h.1))

  led_met : (m : Result Item Refusal) (at room : ℕ) (o : List Open) → at < code.size → code.item at ≡ m → Opened words by room o at → Led (meets m at o)
  led_met (Ok i) at room o h e x = led i at room o (h, e) x
  led_met (Err r) at room o h e x = tt

  pub led_step : (at : ℕ) (o : List Open) → ((room : ℕ) × Opened words by room o at) → Led (step code at o)
  led_step at o x =
      dite (dec_lt at code.size)
      (λ h. rw (step_in code at o h) (led_met (code.item at) at x.0 o h refl x.1))
      (λ h. rw (step_past code at o (omega arith)) tt)

module _ (words : List ℕ) (by : Reading) where
  -- the code's instructions have their words in it
  abbrev kernel : Code
  kernel = code_of words by

  fits : Fits kernel
  fits = code_fits words by

  -- THE OPEN BLOCKS at a place are those that the code has open there
  pub opened_if : (at : ℕ) (o : List Open) → (open_at kernel at ≡ Some o) ↔ ((room : ℕ) × Opened words by room o at)
  opened_if at o = (
    λ e. along kernel (λ a q. (room : ℕ) × Opened words by room q a) (λ at o a q x f. rw f at (led_step words by at o x)) (nesting, outside nothing) at o e,
    λ x. (at_opened words by (λ a q. open_at kernel a ≡ Some q) (going_on kernel fits) (open_at_start kernel fits) x.0 o at x.1).1,
  )

  -- and the pass comes there with them
  pub opened_run : (room : ℕ) (o : List Open) (at : ℕ) → Opened words by room o at → check_of kernel ≡ run kernel at o
  opened_run room o at x =
      (at_opened words by (λ a q. check_of kernel ≡ run kernel a q) (λ at o a q p f. p ∙ run_step kernel fits at o ∙ ap (carry (λ v. v) (run kernel)) f) refl
      room o at x).1

  whole_outside : (room : ℕ) → Opened words by room [] kernel.size → Nested words by
  whole_outside room (outside w) = w

  -- CODE PASSES exactly if its blocks nest
  pub passes_if : (check_of kernel ≡ Ok tt) ↔ Nested words by
  unfolding ended
  passes_if = (
    λ e. let x = (opened_if kernel.size []).0 (none_at_the_end kernel fits e) in whole_outside x.0 x.1,
    λ w. opened_run nesting [] kernel.size (outside w) ∙ run_past kernel fits kernel.size [] (omega arith),
  )
