-- Each control rule on the hot numbers and the array does what the rule says of the wave. What a rule's function has read before it looks
-- at a block is one record; the laws go from there to the function's promise.
use Rattle.std.proofs.Common.{◌≡◌, ℕ, zero, suc, ◌+◌, ◌-◌, ◌<◌, ◌≤◌, min, true, false, List, ◌∷◌, map, length, drop, set, sym, refl, ap, ◌∙◌, ap₂, arith, lt-ltb, ne_eqb}
use Rattle.std.specs.Prelude.{Some, None}
use native.Mathlib.Nat.{min-le_right}
use lib.ListN.{length-map}
use lib.Bits.{bit_or}
use Rattle.lanes.specs.Blocks.{nesting}
use Rattle.instructions.specs.declared.instr.ControlOp.{ControlOp}
use Rattle.lanes.specs.declared.said.Block.{Block}
use Rattle.wave.specs.declared.state.Hot.{Hot}
use Rattle.control.specs.declared.rules.Stepped.{Stepped}
use Rattle.wave.specs.Layout.{block_at, opened, over}
use Rattle.wave.specs.Wave.{Wave, wave_of, preds_of, hot_of, Held, held, Does}
use Rattle.wave.specs.Going.{next, goes, onward_by}
use Rattle.control.specs.Rules.{onward, turned, went_round, leave, opens, to_loop, aside_rule, else_rule, endif_rule, endloop_rule, halt_rule, barred, barrier_lanes, barrier_rule}
use Rattle.control.specs.Search.{loop_at, same, less}
use Rattle.control.specs.Control.{Given, given, giving, control_rule, fault_lanes, control_of}
use Rattle.wave.proofs.HotNumbers.{hot_at}
use Rattle.wave.proofs.Laying.{length-opened, set_opened, over_same}
use Rattle.control.proofs.Walks.{length-to_loop, aside_at, aside_none}

-- the wave of the numbers at a known depth
abbrev pub wave_at : Hot → ℕ → List Block → Wave
wave_at h d xs = record { place = h.place; active = h.active; halted = h.halted; path = opened xs d }

-- ---- going on
-- the array stays as it is
pub onward_does : (h : Hot) (size : ℕ) (xs : List Block) (r : Hot) → length xs ≡ nesting
    → ((ys : List Block) → r ≡ hot_of (onward_by size (wave_of h ys)) (preds_of h)) → Does (onward_by size) h xs r xs
onward_does h size xs r l e =
    ap₂ held (e xs) (sym (over_same xs (min h.depth nesting) (omega (arith, min-le_right h.depth nesting))))

-- ---- what a rule has read: d is the depth, p the next place
pub record Begun (h : Hot) (xs : List Block) (d p : ℕ) : Type 0 where
  pub long : length xs ≡ nesting
  pub depth : d ≡ min h.depth nesting
  pub place : p ≡ next h.place

module _ {h : Hot} {xs : List Block} {d p : ℕ} (g : Begun h xs d p) where
  room : d ≤ length xs
  room = omega (arith, g.long, g.depth, min-le_right h.depth nesting)

  -- the wave after the rule has the path r, which stands in ys
  pub becomes : (f : Wave → Wave) (at a n : ℕ) (r : List Block) (ys : List Block) → f (wave_at h d xs) ≡ goes at a r (wave_at h d xs) → n ≡ length r
      → ys ≡ over r xs → Does f h xs (hot_at h at a n) ys
  becomes f at a n r ys s l y =
      rw (l, y)
      (ap (λ (w : Wave). held (hot_of w (preds_of h)) (over w.path xs)) (sym s)
      ∙ ap (λ (m : ℕ). held (hot_of (f (wave_at h m xs)) (preds_of h)) (over (f (wave_at h m xs)).path xs)) g.depth)

  -- with the path as it was
  pub keeps : (f : Wave → Wave) (a : ℕ) → f (wave_at h d xs) ≡ goes (next h.place) a (opened xs d) (wave_at h d xs)
      → Does f h xs (hot_at h p a d) xs
  keeps f a s =
      becomes f p a d (opened xs d) xs (rw g.place s) (sym (length-opened xs d)) (sym (over_same xs d room))

  -- where no block is open
  pub none_open : (f : Wave → Wave) → d ≡ 0 → f (wave_at h 0 xs) ≡ onward (wave_at h 0 xs) → Does f h xs (hot_at h p h.active d) xs
  none_open f z s = keeps f h.active (rw z s)

  -- where there is no room for one more
  pub full : (f : Wave → Wave) (a : ℕ) (b : Block) → d ≡ nesting
      → f (wave_at h d xs) ≡ goes (next h.place) a (opens b (opened xs d)) (wave_at h d xs) → Does f h xs (hot_at h p a d) xs
  full f a b z s =
      let o : opens b (opened xs d) ≡ opened xs d = rw (length-opened xs d, z) in
      keeps f a (s ∙ rw o)

  -- where the block b is opened
  pub opened_one : (f : Wave → Wave) (a : ℕ) (b : Block) → (d ≡ nesting → ⊥)
      → f (wave_at h d xs) ≡ goes (next h.place) a (opens b (opened xs d)) (wave_at h d xs) → Does f h xs (hot_at h p a (d + 1)) (set xs d b)
  opened_one f a b z s =
      let k : d < nesting = omega (arith, z, g.depth, min-le_right h.depth nesting) in
      let o : opens b (opened xs d) ≡ b ∷ opened xs d = rw (length-opened xs d, lt-ltb d nesting k) in
      becomes f p a (d + 1) (b ∷ opened xs d) _ (rw (g.place, ← o) s) (omega (arith, length-opened xs d)) (set_opened xs d b (omega (arith, g.long)))

-- ---- where a block is open, the innermost is block d - 1
module _ {h : Hot} {xs : List Block} {p : ℕ} where
  -- ELSE
  pub turned_one : (d : ℕ) → Begun h xs d p → (d ≡ 0 → ⊥)
      → Does else_rule h xs (hot_at h p (block_at xs (d - 1)).aside d) (set xs (d - 1) (turned h.active (block_at xs (d - 1))))
  turned_one zero g n = absurd (n refl)
  turned_one (suc d) g n =
      let l = room g in
      let z : suc d - 1 ≡ d = omega arith in
      rw z
      (becomes g else_rule p _ (suc d) (turned h.active (block_at xs d) ∷ opened xs d) _ (rw (g.place)) (ap suc (sym (length-opened xs d)))
      (set_opened xs d _ (omega arith)))

  -- ENDIF
  pub closed_one : (d : ℕ) → Begun h xs d p → (d ≡ 0 → ⊥)
      → Does endif_rule h xs (hot_at h p (bit_or h.active (block_at xs (d - 1)).aside) (d - 1)) xs
  closed_one zero g n = absurd (n refl)
  closed_one (suc d) g n =
      let l = room g in
      let z : suc d - 1 ≡ d = omega arith in
      rw z
      (becomes g endif_rule p _ d (opened xs d) xs (rw g.place) (sym (length-opened xs d)) (sym (over_same xs d (omega arith))))

  -- ENDLOOP, the loop closes
  pub done_one : (d : ℕ) → Begun h xs d p → (d ≡ 0 → ⊥) → bit_or h.active (block_at xs (d - 1)).again ≡ 0
      → Does endloop_rule h xs (hot_at h p (block_at xs (d - 1)).aside (d - 1)) xs
  done_one zero g n o = absurd (n refl)
  done_one (suc d) g n o =
      let l = room g in
      let z : suc d - 1 ≡ d = omega arith in
      let none : bit_or h.active (block_at xs d).again ≡ 0 = rw z at o in
      rw z
      (becomes g endloop_rule p _ d (opened xs d) xs (rw (g.place, none)) (sym (length-opened xs d)) (sym (over_same xs d (omega arith))))

  -- ENDLOOP, it goes round
  pub round_one : (d r : ℕ) → Begun h xs d p → (d ≡ 0 → ⊥) → (bit_or h.active (block_at xs (d - 1)).again ≡ 0 → ⊥)
      → r ≡ next (block_at xs (d - 1)).opener
      → Does endloop_rule h xs (hot_at h r (bit_or h.active (block_at xs (d - 1)).again) d) (set xs (d - 1) (went_round (block_at xs (d - 1))))
  round_one zero r g n o y = absurd (n refl)
  round_one (suc d) r g n o y =
      let l = room g in
      let z : suc d - 1 ≡ d = omega arith in
      let back : r ≡ next (block_at xs d).opener = rw z at y in
      let some : bit_or h.active (block_at xs d).again ≡ 0 → ⊥ = rw z at o in
      rw z
      (becomes g endloop_rule r _ (suc d) (went_round (block_at xs d) ∷ opened xs d) _ (rw (back, ne_eqb _ _ some)) (ap suc (sym (length-opened xs d)))
      (set_opened xs d _ (omega arith)))

-- ---- lanes t that are active no more: n are the hot numbers then
-- HALT: they have left every open block
pub halted_all : (h n : Hot) (xs ys : List Block) (t : ℕ) → n ≡ less t h → ys ≡ over (map (leave t) (opened xs (min h.depth nesting))) xs
    → Does (halt_rule t) h xs
    (record { place = n.place; active = n.active; halted = bit_or h.halted t; p1 = n.p1; p2 = n.p2; p3 = n.p3; depth = n.depth }) ys
halted_all h n xs ys t e y = rw (e, y, length-map, length-opened xs (min h.depth nesting))

-- BREAK, CONTINUE: they have left the blocks inside the innermost loop, in ys, which becomes f of itself
module _ (f : Block → Block) (t : ℕ) (h n : Hot) (xs ys : List Block) (e : n ≡ less t h)
    (y : ys ≡ over (to_loop same t (opened xs (min h.depth nesting))) xs) where
  depth_same : (k : Block → Block) → length (to_loop k t (opened xs (min h.depth nesting))) ≡ min h.depth nesting
  depth_same k = length-to_loop k t (opened xs (min h.depth nesting)) ∙ length-opened xs (min h.depth nesting)

  pub set_aside : (l : ℕ) → Some l ≡ loop_at (opened xs (min h.depth nesting)) → Does (aside_rule f t) h xs n (set ys l (f (block_at ys l)))
  set_aside l at =
      rw (e, y, depth_same same, depth_same f)
      (ap (held (less t h)) (aside_at f t (opened xs (min h.depth nesting)) (drop (min h.depth nesting) xs) l at))

  pub none_aside : None ≡ loop_at (opened xs (min h.depth nesting)) → Does (aside_rule f t) h xs n ys
  none_aside at = rw (e, y, aside_none f t (opened xs (min h.depth nesting)) at, depth_same f)

-- ---- BARRIER
abbrev gives : ℕ → Held → Given
gives n x = record { barrier = n; end = x }

abbrev pub stepped : ℕ → Hot → Stepped
stepped n h = record { barrier = n; hot = h }

module _ {h : Hot} {xs : List Block} {d : ℕ} (all : ℕ) where
  pub barrier_stops : Begun h xs d (next h.place) → barred all (wave_of h xs) ≡ true
      → given (stepped h.active (hot_at h h.place h.active d)) xs ≡ giving (barrier_lanes all (wave_of h xs)) (barrier_rule all) h xs
  barrier_stops g b =
      ap₂ gives (rw b)
      (becomes g (barrier_rule all) h.place h.active d (opened xs d) xs (rw b) (sym (length-opened xs d)) (sym (over_same xs d (room g))))

  pub barrier_goes : {p : ℕ} → Begun h xs d p → barred all (wave_of h xs) ≡ false
      → given (stepped 0 (hot_at h p h.active d)) xs ≡ giving (barrier_lanes all (wave_of h xs)) (barrier_rule all) h xs
  barrier_goes g b = ap₂ gives (rw b) (keeps g (barrier_rule all) h.active (rw b))

-- ---- any of them
pub by_rule : (op v : ControlOp) (all t : ℕ) (h x : Hot) (xs ys : List Block) → op ≡ v → Does (control_rule v all t) h xs x ys
    → fault_lanes v all (wave_of h xs) ≡ 0 → given (stepped 0 x) ys ≡ control_of op all t h xs
by_rule op v all t h x xs ys o s z = rw o (ap₂ gives (sym z) s)
