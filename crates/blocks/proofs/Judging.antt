-- What `judge` answers, against the pass: each turn says what the pass's next step is, for every list of open blocks that fits the level.
use Prim.Native.Nat.{ℕ, zero, suc, ◌+◌, ◌-◌, ◌≤◌, ◌<◌}
use native.Mathlib.Omega.{arith}
use mathlib.Core.Path.{◌≡◌, refl, sym, ap, ◌∙◌, subst}
use mathlib.Core.Bool.{Bool, true, false, cond}
use mathlib.Core.List.{List, [], ◌∷◌}
use lib.ListN.{length}
use lib.Dec.{eqb}
use borrow.Author.Tests.{lt-ltb, le-ltb, ne_eqb}
use Rattle.std.specs.Prelude.{Option, Some, None, Ok, Err}
use Rattle.lanes.specs.Blocks.{nesting}
use Rattle.refusals.specs.declared.Rule.{Rule}
use Rattle.refusals.specs.Table.{broken}
use Rattle.blocks.specs.declared.item.Item.{Item}
use Rattle.blocks.specs.declared.rules.Part.{Part}
use Rattle.blocks.specs.declared.rules.Turn.{Turn}
use Rattle.blocks.specs.declared.rules.Turn.TheVariants.{Go, Close, Enter}
use Rattle.blocks.specs.Code.{Code}
use Rattle.blocks.specs.Open.{Open, opened_at, in_loop, loops, innermost}
use Rattle.blocks.specs.Scan.{Next, over, go, stray, opens, ended, react}
use Rattle.blocks.specs.Rules.{Judged, opening, turn_of}
use Rattle.blocks.specs.Levels.{around, InLevel}
use Rattle.blocks.proofs.Widths.{InCode, SeenInCode, Fits}

-- where a turn that goes on leads
pub record Gone (at w room : ℕ) (inside : Option Part) (l : Bool) (o : List Open) (x : Next) : Type 0 where
  pub now_open : List Open
  pub goes : x ≡ go (at + w) now_open
  pub stands : InLevel room inside l now_open
  pub round : around now_open ≡ around o
  pub at_end : ended now_open ≡ ended o
  pub loops_same : loops now_open ≡ loops o

-- where a turn that enters a block leads
pub record Entered (at room : ℕ) (part : Part) (l : Bool) (o : List Open) (x : Next) : Type 0 where
  pub now_open : List Open
  pub goes : x ≡ go (at + 1) now_open
  pub left : 1 ≤ room
  pub stands : InLevel (room - 1) (Some part) l now_open
  pub round : around now_open ≡ o
  pub at_end : ended now_open ≡ Err (broken Rule.Unclosed at)

-- what a turn says of the pass's next step x, where the blocks o are open
abbrev pub Tells : ℕ → ℕ → Bool → List Open → Next → Judged → Type 0
Tells at room l o x (Ok (Go w inside)) = Gone at w room inside l o x
Tells at room l o x (Ok Close) = x ≡ go (at + 1) (around o)
Tells at room l o x (Ok (Enter part b)) = Entered at room part b o x
Tells at room l o x (Err r) = x ≡ over (Err r)

-- the same blocks stay open
stayed : (at w room : ℕ) (o : List Open) → length o + room ≡ nesting → Gone at w room (innermost o) (in_loop o) o (go (at + w) o)
stayed at w room o h =
    record { now_open = o; goes = refl; stands = record { inside_is = refl; room_is = h; loop_is = refl }; round = refl; at_end = refl; loops_same = refl }

entered : (part : Part) (at room : ℕ) (o : List Open) → length o + room ≡ nesting
    → Tells at room (in_loop o) o (opens part at o) (opening at room part (in_loop (opened_at part at ∷ o)))
unfolding innermost around ended
entered part at zero o h = simp (le-ltb (length o) nesting (omega arith))
entered part at (suc r) o h =
    rw (ne_eqb (suc r) 0 (λ e. omega arith))
    (record {
      now_open = opened_at part at ∷ o;
      goes = simp (lt-ltb (length o) nesting (omega arith));
      left = omega arith;
      stands = record { inside_is = refl; room_is = omega arith; loop_is = refl };
      round = refl;
      at_end = refl;
    })

jumped : (b : Bool) (at room : ℕ) (o : List Open) → length o + room ≡ nesting
    → Tells at room (in_loop o) o (cond b (go (at + 1) o) (stray at)) (cond b (Ok (Go 1 (innermost o))) (Err (broken Rule.Stray at)))
jumped true at room o h = stayed at 1 room o h
jumped false at room o h = refl

judged : (i : Item) (at room : ℕ) (o : List Open) → length o + room ≡ nesting
    → Tells at room (in_loop o) o (react i at o) (turn_of i at room (innermost o) (in_loop o))
unfolding react innermost around ended in_loop loops
judged (Item.Plain w) at room o h = stayed at w room o h
judged Item.If at room o h = entered Part.Before at room o h
judged Item.Else at room [] h = refl
judged Item.Else at room (opened_at Part.Before p ∷ o) h =
    record {
      now_open = opened_at Part.After p ∷ o;
      goes = refl;
      stands = record { inside_is = refl; room_is = h; loop_is = refl };
      round = refl;
      at_end = refl;
      loops_same = refl;
    }
judged Item.Else at room (opened_at Part.After p ∷ o) h = refl
judged Item.Else at room (opened_at Part.Loop p ∷ o) h = refl
judged Item.Endif at room [] h = refl
judged Item.Endif at room (opened_at Part.Before p ∷ o) h = refl
judged Item.Endif at room (opened_at Part.After p ∷ o) h = refl
judged Item.Endif at room (opened_at Part.Loop p ∷ o) h = refl
judged Item.Loop at room o h = entered Part.Loop at room o h
judged Item.Jump at room o h = jumped (in_loop o) at room o h
judged Item.Endloop at room [] h = refl
judged Item.Endloop at room (opened_at Part.Before p ∷ o) h = refl
judged Item.Endloop at room (opened_at Part.After p ∷ o) h = refl
judged Item.Endloop at room (opened_at Part.Loop p ∷ o) h = refl

-- the same, of whatever the function was called with
pub told : (i : Item) (at room : ℕ) (inside : Option Part) (l : Bool) (o : List Open) → InLevel room inside l o → (t : Judged) → turn_of i at room inside l ≡ t
    → Tells at room l o (react i at o) t
told i at room inside l o s t e =
    subst (λ (u : Judged). Tells at room l o (react i at o) u) e
    (subst (λ (k : Option Part). Tells at room l o (react i at o) (turn_of i at room k l)) s.inside_is
    (subst (λ (b : Bool). Tells at room b o (react i at o) (turn_of i at room (innermost o) b)) s.loop_is (judged i at room o s.room_is)))

-- the turn that was judged
pub turned : {j : Judged} {u v : Turn} → Ok u ≡ j → u ≡ v → j ≡ Ok v
turned e f = sym e ∙ ap Ok f

-- what a turn needs of the numbers, whatever blocks are open
abbrev pub TurnOk : ℕ → ℕ → ℕ → Judged → Type 0
TurnOk at size room (Ok (Go w inside)) = (1 ≤ w) × (at + w ≤ size)
TurnOk at size room (Ok Close) = Unit {0}
TurnOk at size room (Ok (Enter part b)) = 1 ≤ room
TurnOk at size room (Err r) = Unit {0}

opener_ok : (at size room : ℕ) (part : Part) (l : Bool) → TurnOk at size room (opening at room part l)
opener_ok at size zero part l = tt
opener_ok at size (suc r) part l = rw (ne_eqb (suc r) 0 (λ e. omega arith)) (omega arith)

jump_ok : (b : Bool) (at size room : ℕ) (inside : Option Part) → at < size → TurnOk at size room (cond b (Ok (Go 1 inside)) (Err (broken Rule.Stray at)))
jump_ok true at size room inside h = omega arith
jump_ok false at size room inside h = tt

turn_ok : (i : Item) (at size room : ℕ) (inside : Option Part) (l : Bool) → InCode at size i → at < size → TurnOk at size room (turn_of i at room inside l)
turn_ok (Item.Plain w) at size room inside l ok h = ok
turn_ok Item.If at size room inside l ok h = opener_ok at size room Part.Before l
turn_ok Item.Else at size room None l ok h = tt
turn_ok Item.Else at size room (Some Part.Before) l ok h = omega arith
turn_ok Item.Else at size room (Some Part.After) l ok h = tt
turn_ok Item.Else at size room (Some Part.Loop) l ok h = tt
turn_ok Item.Endif at size room None l ok h = tt
turn_ok Item.Endif at size room (Some Part.Before) l ok h = tt
turn_ok Item.Endif at size room (Some Part.After) l ok h = tt
turn_ok Item.Endif at size room (Some Part.Loop) l ok h = tt
turn_ok Item.Loop at size room inside l ok h = opener_ok at size room Part.Loop true
turn_ok Item.Jump at size room inside l ok h = jump_ok l at size room inside h
turn_ok Item.Endloop at size room None l ok h = tt
turn_ok Item.Endloop at size room (Some Part.Before) l ok h = tt
turn_ok Item.Endloop at size room (Some Part.After) l ok h = tt
turn_ok Item.Endloop at size room (Some Part.Loop) l ok h = tt

-- at a place of code
pub turned_ok : (code : Code) (at room : ℕ) (inside : Option Part) (l : Bool) → Fits code → at < code.size → {i : Item} → code.item at ≡ Ok i → {t : Judged}
    → turn_of i at room inside l ≡ t → TurnOk at code.size room t
turned_ok code at room inside l fits h {i} seen e =
    subst (TurnOk at code.size room) e (turn_ok i at code.size room inside l (subst (SeenInCode at code.size) seen (fits at h)) h)

-- where no block is open, nothing closes
abbrev pub NotClose : Judged → Type 0
NotClose (Ok (Go w inside)) = Unit {0}
NotClose (Ok Close) = ⊥
NotClose (Ok (Enter part b)) = Unit {0}
NotClose (Err r) = Unit {0}

cond_not_close : (b : Bool) (x y : Judged) → NotClose x → NotClose y → NotClose (cond b x y)
cond_not_close true x y p q = p
cond_not_close false x y p q = q

pub nothing_closes : (i : Item) (at room : ℕ) (l : Bool) → NotClose (turn_of i at room None l)
nothing_closes (Item.Plain w) at room l = tt
nothing_closes Item.If at room l = cond_not_close (eqb room 0) (Err (broken Rule.Depth at)) (Ok (Enter Part.Before l)) tt tt
nothing_closes Item.Else at room l = tt
nothing_closes Item.Endif at room l = tt
nothing_closes Item.Loop at room l = cond_not_close (eqb room 0) (Err (broken Rule.Depth at)) (Ok (Enter Part.Loop true)) tt tt
nothing_closes Item.Jump at room l = cond_not_close l (Ok (Go 1 None)) (Err (broken Rule.Stray at)) tt tt
nothing_closes Item.Endloop at room l = tt
