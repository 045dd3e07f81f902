-- One instruction over the stack in its slots, against the pass's step: the laws that the needs of `advance` cite.
use Prim.Native.Nat.{ℕ, ◌+◌, ◌-◌, ◌≤◌, ◌<◌}
use native.Mathlib.Omega.{arith}
use mathlib.Core.Path.{◌≡◌, refl, sym, ap, ◌∙◌, subst}
use mathlib.Core.Bool.{Bool}
use mathlib.Core.List.{List, [], ◌∷◌}
use lib.Dec.{ltb}
use Rattle.std.specs.Prelude.{Option, Some, None, Result, Ok, Err}
use Rattle.lanes.specs.Blocks.{nesting}
use Rattle.refusals.specs.declared.Refusal.{Refusal}
use Rattle.refusals.specs.declared.Rule.{Rule}
use Rattle.refusals.specs.Table.{broken}
use Rattle.blocks.specs.declared.item.Item.{Item}
use Rattle.blocks.specs.declared.rules.Part.{Part}
use Rattle.blocks.specs.declared.rules.Turn.TheVariants.{Go, Close, Enter}
use Rattle.nesting.specs.declared.places.Stack.{Stack}
use Rattle.blocks.specs.Code.{Code}
use Rattle.blocks.specs.Open.{Open, opened_at, innermost}
use Rattle.blocks.specs.Scan.{Next, over, go, ended, react, meets, step}
use Rattle.blocks.specs.Rules.{Judged, turn_of}
use Rattle.blocks.specs.Levels.{around, InLevel}
use Rattle.nesting.specs.Stacks.{Holds, Turned, Advances}
use Rattle.blocks.proofs.Widths.{Fits}
use Rattle.blocks.proofs.Refusing.{refused_not_fine, same_place}
use Rattle.blocks.proofs.Passes.{step_in, step_past, step_seen}
use Rattle.blocks.proofs.Judging.{told, Tells, Gone, Entered, TurnOk, turned_ok}
use Rattle.nesting.proofs.Stacks.{loops_le, in_loop_is}

-- in the code, where part is the innermost block
pub record Ready (code : Code) (at : ℕ) (s : Stack) (part : Option Part) : Type 0 where
  pub fits : Fits code
  pub in_code : at < code.size
  pub inside : (o : List Open) → Holds s o → part ≡ innermost o

pub stopped : (code : Code) {at : ℕ} (o : List Open) (s : Stack) → code.size ≤ at → Advances (step code at o) None s
stopped code {at} o s h = subst (λ (x : Next). Advances x None s) (sym (step_past code at o h)) refl

-- what stands there is refused by itself
pub unseen : (code : Code) {at : ℕ} {q : Refusal} (o : List Open) (s : Stack) → at < code.size → code.item at ≡ Err q → Advances (step code at o) None s
unseen code {at} {q} o s h e =
    subst (λ (x : Next). Advances x None s) (sym (step_in code at o h ∙ ap (λ (x : Result Item Refusal). meets x at o) e)) refl

-- a block that was entered is the one that was put on the stack
entered_is : (n o : List Open) (k : Part) (at : ℕ) → innermost n ≡ Some k → around n ≡ o → ended n ≡ Err (broken Rule.Unclosed at) → n ≡ opened_at k at ∷ o
unfolding innermost around ended
entered_is [] o k at e f g = refused_not_fine (broken Rule.Unclosed at) (sym g)
entered_is (opened_at j p ∷ n) o k at e f g =
    let q : p ≡ at = same_place (broken Rule.Unclosed p) (broken Rule.Unclosed at) g in
    let i : j ≡ k = cc e in
    ap (λ (x : Part). opened_at x p ∷ n) i ∙ ap (λ (x : ℕ). opened_at k x ∷ n) q ∙ ap (λ (x : List Open). opened_at k at ∷ x) f

module _ {code : Code} {at : ℕ} {s : Stack} {part : Option Part} (j : Ready code at s part) where
  standing : (o : List Open) → Holds s o → InLevel (nesting - s.depth) part (ltb 0 s.loops) o
  standing o h =
      record {
        inside_is = sym (j.inside o h);
        room_is = omega (arith, h.depth_is, h.at_most);
        loop_is = sym (in_loop_is o) ∙ ap (ltb 0) (sym h.loops_is);
      }

  -- where an instruction is seen and judged
  module _ {i : Item} (seen : code.item at ≡ Ok i) where
    -- the step is x, so what is to be said of it is said of x
    stepped : (o : List Open) (x : Next) (r : Option ℕ) (t : Stack) → react i at o ≡ x → Advances x r t → Advances (step code at o) r t
    stepped o x r t e a = subst (λ (y : Next). Advances y r t) (sym (step_seen code at o j.in_code seen ∙ e)) a

    fine : {t : Judged} → turn_of i at (nesting - s.depth) part (ltb 0 s.loops) ≡ t → TurnOk at code.size (nesting - s.depth) t
    fine e = turned_ok code at (nesting - s.depth) part (ltb 0 s.loops) j.fits j.in_code seen e

    tells : (o : List Open) → Holds s o → {t : Judged} → turn_of i at (nesting - s.depth) part (ltb 0 s.loops) ≡ t
        → Tells at (nesting - s.depth) (ltb 0 s.loops) o (react i at o) t
    tells o h e = told i at (nesting - s.depth) part (ltb 0 s.loops) o (standing o h) _ e

    pub on_ok : {w : ℕ} {p : Option Part} → turn_of i at (nesting - s.depth) part (ltb 0 s.loops) ≡ Ok (Go w p) → (1 ≤ w) × (at + w ≤ code.size)
    on_ok e = fine e

    pub on : {w : ℕ} {p : Option Part} (r : Stack) → turn_of i at (nesting - s.depth) part (ltb 0 s.loops) ≡ Ok (Go w p)
        → ((o n : List Open) → Holds s o → Turned p o n → Holds r n) → (o : List Open) → Holds s o → Advances (step code at o) (Some (at + w)) r
    on {w} {p} r e f o h =
        let g : Gone at w (nesting - s.depth) p (ltb 0 s.loops) o (react i at o) = tells o h e in
        stepped o (go (at + w) g.now_open) (Some (at + w)) r g.goes
        (refl, f o g.now_open h (record { inside_is = g.stands.inside_is; round = g.round; at_end = g.at_end; loops_same = g.loops_same }))

    pub close : (r : Stack) → turn_of i at (nesting - s.depth) part (ltb 0 s.loops) ≡ Ok Close → ((o : List Open) → Holds s o → Holds r (around o))
        → (o : List Open) → Holds s o → Advances (step code at o) (Some (at + 1)) r
    close r e f o h = stepped o (go (at + 1) (around o)) (Some (at + 1)) r (tells o h e) (refl, f o h)

    pub enter_ok : {k : Part} {b : Bool} → turn_of i at (nesting - s.depth) part (ltb 0 s.loops) ≡ Ok (Enter k b) → (o : List Open) → Holds s o
        → (s.depth < nesting) × (s.loops < nesting)
    enter_ok e o h =
        let ok : 1 ≤ nesting - s.depth = fine e in
        omega (arith, loops_le o, h.depth_is, h.loops_is)

    pub enter : {k : Part} {b : Bool} (r : Stack) → turn_of i at (nesting - s.depth) part (ltb 0 s.loops) ≡ Ok (Enter k b)
        → ((o : List Open) → Holds s o → Holds r (opened_at k at ∷ o)) → (o : List Open) → Holds s o → Advances (step code at o) (Some (at + 1)) r
    enter {k} {b} r e f o h =
        let g : Entered at (nesting - s.depth) k b o (react i at o) = tells o h e in
        stepped o (go (at + 1) g.now_open) (Some (at + 1)) r g.goes
        (refl, subst (Holds r) (sym (entered_is g.now_open o k at g.stands.inside_is g.round g.at_end)) (f o h))

    pub stop : {q : Refusal} → turn_of i at (nesting - s.depth) part (ltb 0 s.loops) ≡ Err q → (o : List Open) → Holds s o → Advances (step code at o) None s
    stop {q} e o h = stepped o (over (Err q)) None s (tells o h e) refl
