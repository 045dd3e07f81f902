-- How far the pass has come at some turn of a level's loop, and what the turn makes of it: the laws that the needs of `level` and `check` cite.
use Prim.Native.Nat.{ℕ, ◌+◌, ◌-◌, ◌≤◌, ◌<◌}
use native.Mathlib.Omega.{arith}
use mathlib.Core.Path.{◌≡◌, refl, sym, ap, ◌∙◌, subst}
use mathlib.Core.Bool.{Bool, false}
use mathlib.Core.List.{List, [], ◌∷◌}
use Rattle.lanes.specs.Blocks.{nesting}
use Rattle.refusals.specs.declared.Refusal.{Refusal}
use Rattle.refusals.specs.declared.Rule.{Rule}
use Rattle.refusals.specs.Table.{broken}
use Rattle.blocks.specs.declared.item.Item.{Item}
use Rattle.blocks.specs.declared.rules.Part.{Part}
use Rattle.blocks.specs.declared.rules.Turn.TheVariants.{Go, Close, Enter}
use Rattle.std.specs.Prelude.{Option, Some, None, Ok, Err}
use Rattle.blocks.specs.Code.{Code}
use Rattle.blocks.specs.Open.{Open, opened_at, in_loop, innermost}
use Rattle.blocks.specs.Scan.{Next, over, go, ended, react, carry, run, check_of}
use Rattle.blocks.specs.Rules.{Judged, turn_of}
use Rattle.blocks.specs.Levels.{LevelEnd, around, InLevel, follows, LevelSays}
use Rattle.blocks.proofs.Widths.{Fits}
use Rattle.blocks.proofs.Passes.{run_seen, run_refused, run_past}
use Rattle.blocks.proofs.Refusing.{refused_not_fine}
use Rattle.blocks.proofs.Judging.{Gone, Entered, Tells, told, TurnOk, turned_ok, NotClose, nothing_closes}

-- the pass from `from` with the blocks o open comes to `at` with the same blocks open, but for an ELSE that was met
pub record Reached (code : Code) (from : ℕ) (o : List Open) (at room : ℕ) (inside : Option Part) (l : Bool) : Type 0 where
  pub now_open : List Open
  pub same : run code from o ≡ run code at now_open
  pub stands : InLevel room inside l now_open
  pub round : around now_open ≡ around o
  pub at_end : ended now_open ≡ ended o

-- the loop's invariant, for every list of blocks that fits the level
abbrev pub Along : Code → ℕ → ℕ → Option Part → Bool → ℕ → Option Part → Type 0
Along code from room inside l at part =
    (from ≤ at) × (at ≤ code.size) × ((o : List Open) → InLevel room inside l o → Reached code from o at room part l)

pub started : (code : Code) (from room : ℕ) (inside : Option Part) (l : Bool) → from ≤ code.size → Along code from room inside l from inside
started code from room inside l h = (omega arith, h, λ o s. record { now_open = o; same = refl; stands = s; round = refl; at_end = refl })

-- in a turn of the loop
pub record Here (code : Code) (from room : ℕ) (inside : Option Part) (l : Bool) (at : ℕ) (part : Option Part) : Type 0 where
  pub fits : Fits code
  pub in_code : at < code.size
  pub along : Along code from room inside l at part

innermost_of_none : (n : List Open) → ended n ≡ Ok tt → innermost n ≡ None
unfolding innermost ended
innermost_of_none [] e = refl
innermost_of_none (opened_at part p ∷ n) e = refused_not_fine (broken Rule.Unclosed p) e

module _ {code : Code} {from room : ℕ} {inside : Option Part} {l : Bool} {at : ℕ} {part : Option Part} (j : Here code from room inside l at part) where
  -- a refusal that the pass comes to is its answer
  refuses : {r : Refusal} → ((o : List Open) → Reached code from o at room part l → run code from o ≡ Err r) → LevelSays code from room inside l (Err r)
  refuses same = record { within = tt; shut = λ o s. tt; same = λ o s. same o (j.along.2 o s) }

  -- what stands there is refused by itself
  pub unseen : {r : Refusal} → code.item at ≡ Err r → LevelSays code from room inside l (Err r)
  unseen e = refuses (λ o x. x.same ∙ run_refused code j.fits at x.now_open j.in_code e)

  -- or an instruction is seen and judged
  module _ {i : Item} (seen : code.item at ≡ Ok i) where
    fine : {t : Judged} → turn_of i at room part l ≡ t → TurnOk at code.size room t
    fine e = turned_ok code at room part l j.fits j.in_code seen e

    tells : {o : List Open} (x : Reached code from o at room part l) {t : Judged} → turn_of i at room part l ≡ t
        → Tells at room l x.now_open (react i at x.now_open) t
    tells x e = told i at room part l x.now_open x.stands _ e

    ran : {o : List Open} (x : Reached code from o at room part l) (y : Next) → react i at x.now_open ≡ y → run code from o ≡ carry (λ v. v) (run code) y
    ran x y e = x.same ∙ run_seen code j.fits at x.now_open y j.in_code seen e

    -- a turn that goes on
    pub on_ok : {w : ℕ} {p : Option Part} → turn_of i at room part l ≡ Ok (Go w p) → (1 ≤ w) × (at + w ≤ code.size)
    on_ok e = fine e

    pub on : {w : ℕ} {p : Option Part} → turn_of i at room part l ≡ Ok (Go w p) → Along code from room inside l (at + w) p
    on {w} {p} e =
        let ok : (1 ≤ w) × (at + w ≤ code.size) = fine e in
        let le : from ≤ at = j.along.0 in
        (omega arith, omega arith, λ o s. there o (j.along.2 o s))
      where
        there : (o : List Open) → Reached code from o at room part l → Reached code from o (at + w) room p l
        there o x =
            let g : Gone at w room p l x.now_open (react i at x.now_open) = tells x e in
            record {
              now_open = g.now_open;
              same = ran x (go (at + w) g.now_open) g.goes;
              stands = g.stands;
              round = g.round ∙ x.round;
              at_end = g.at_end ∙ x.at_end;
            }

    -- a turn that closes the block
    pub close : turn_of i at room part l ≡ Ok Close → LevelSays code from room inside l (Ok (Some (at + 1)))
    unfolding ended
    close e =
        let lt = j.in_code in
        let le : from ≤ at = j.along.0 in
        record { within = omega arith; shut = λ o s z. shut o (j.along.2 o s) z; same = λ o s. same o (j.along.2 o s) }
      where
        same : (o : List Open) → Reached code from o at room part l → run code from o ≡ run code (at + 1) (around o)
        same o x = ran x (go (at + 1) (around x.now_open)) (tells x e) ∙ ap (run code (at + 1)) x.round

        shut : (o : List Open) → Reached code from o at room part l → o ≡ [] → ⊥
        shut o x z =
            subst NotClose e
            (subst (λ (k : Option Part). NotClose (turn_of i at room k l)) (sym (innermost_of_none x.now_open (x.at_end ∙ ap ended z)) ∙ x.stands.inside_is)
            (nothing_closes i at room l))

    -- a turn that refuses
    pub stop : {r : Refusal} → turn_of i at room part l ≡ Err r → LevelSays code from room inside l (Err r)
    stop {r} e = refuses (λ o x. ran x (over (Err r)) (tells x e))

    -- a turn that enters a block: there is room for it, and what the call for it answered
    module _ {k : Part} {b : Bool} (e : turn_of i at room part l ≡ Ok (Enter k b)) where
      pub enter_ok : 1 ≤ room
      enter_ok = fine e

      inner : {o : List Open} (x : Reached code from o at room part l) → Entered at room k b x.now_open (react i at x.now_open)
      inner x = tells x e

      module _ {y : LevelEnd} (says : LevelSays code (at + 1) (room - 1) (Some k) b y) where
        inner_run : {o : List Open} (x : Reached code from o at room part l) → run code from o ≡ follows code (inner x).now_open y
        inner_run x = ran x (go (at + 1) (inner x).now_open) (inner x).goes ∙ says.same (inner x).now_open (inner x).stands

      pub inner_ok : {next : ℕ} → LevelSays code (at + 1) (room - 1) (Some k) b (Ok (Some next)) → (at + 1 ≤ next) × (next ≤ code.size)
      inner_ok says = says.within

      pub inner_on : {next : ℕ} → LevelSays code (at + 1) (room - 1) (Some k) b (Ok (Some next)) → Along code from room inside l next part
      inner_on {next} says =
          let ok : (at + 1 ≤ next) × (next ≤ code.size) = inner_ok says in
          let le : from ≤ at = j.along.0 in
          (omega arith, omega arith, λ o s. there (j.along.2 o s))
        where
          there : {o : List Open} → Reached code from o at room part l → Reached code from o next room part l
          there x =
              record {
                now_open = x.now_open;
                same = inner_run says x ∙ ap (run code next) (inner x).round;
                stands = x.stands;
                round = x.round;
                at_end = x.at_end;
              }

      pub inner_stop : {r : Refusal} → LevelSays code (at + 1) (room - 1) (Some k) b (Err r) → LevelSays code from room inside l (Err r)
      inner_stop says = refuses (λ o x. inner_run says x)

      pub inner_end : LevelSays code (at + 1) (room - 1) (Some k) b (Ok None) → LevelSays code from room inside l (Err (broken Rule.Unclosed at))
      inner_end says = refuses (λ o x. inner_run says x ∙ (inner x).at_end)

-- the code is at its end
pub at_the_end : {code : Code} {from room : ℕ} {inside : Option Part} {l : Bool} {at : ℕ} {part : Option Part}
    → Fits code → Along code from room inside l at part → code.size ≤ at → LevelSays code from room inside l (Ok None)
at_the_end {code} {from} {room} {inside} {l} {at} {part} fits a h = record { within = tt; shut = λ o s. tt; same = λ o s. same (a.2 o s) }
  where
    same : {o : List Open} → Reached code from o at room part l → run code from o ≡ ended o
    same r = r.same ∙ run_past code fits at r.now_open h ∙ r.at_end

-- outside every block there is all the room
at_top : InLevel nesting None false []
unfolding innermost in_loop
at_top = record { inside_is = refl; room_is = refl; loop_is = refl }

-- the whole code is a level, which nothing closes
module _ {code : Code} where
  pub whole_closed : {at : ℕ} → LevelSays code 0 nesting None false (Ok (Some at)) → ⊥
  whole_closed says = says.shut [] at_top refl

  pub whole_refused : {q : Refusal} → LevelSays code 0 nesting None false (Err q) → Err q ≡ check_of code
  whole_refused says = sym (says.same [] at_top)

  pub whole_passed : (end : Option ℕ) → LevelSays code 0 nesting None false (Ok end) → Ok tt ≡ check_of code
  unfolding ended
  whole_passed (Some at) says = absurd (whole_closed says)
  whole_passed None says = sym (says.same [] at_top)
