-- A file that breaks no rule: what the tests say of it, and what reading it leaves in the buffers.
use mathlib.Core.Path.{◌≡◌, refl, sym, ap, ◌∙◌}
use Prim.Native.Nat.{ℕ, zero, suc, ◌+◌, ◌≤◌, ◌<◌, min}
use mathlib.Core.Bool.{Bool, true, false, ◌||◌}
use mathlib.Core.List.{List, [], ◌∷◌, ◌++◌, zip_with}
use native.Mathlib.Omega.{arith}
use lib.Dec.{leb, ltb, eqb}
use lib.ListN.{length, get_or, take, drop, length-drop}
use lib.Seq.{get_or-drop}
use borrow.Author.Tests.{leb-true, le-leb, le-ltb, eqb-true, eq-eqb}
use Rattle.numbers.specs.Numbers.{number_at, numbers_at}
use Rattle.numbers.specs.Placed.{placed}
use Rattle.numbers.proofs.Words.{length_numbers, get_front}
use Rattle.packing.specs.Words.{state_size}
use Rattle.captures.specs.declared.answer.Head.{Head}
use Rattle.captures.specs.declared.answer.Parts.{Parts}
use Rattle.captures.specs.declared.answer.Rule.{Rule}
use Rattle.captures.specs.declared.answer.Part.{Part}
use Rattle.captures.specs.declared.answer.Unreadable.{Unreadable}
use Rattle.captures.specs.Capture.{mark, edition, part_count, state_part, edition_place, settings_place, counts_place, sixth_place, header_bytes}
use Rattle.captures.specs.Capture.{counts_of, head_in, counts_in, in_order, in_parts, count_place}
use Rattle.captures.specs.Read.{settings_at, counts_at, parts_from, end_from, place_of, places_in, parts_in, depth_of, depth_place, end_place}
use Rattle.captures.specs.Read.{Verdict, fine, next, part_order, test_head, test_rooms, test_state, verdict_of, Within, filled, told, reading, judged, read_of}
use Rattle.captures.proofs.Parts.{parts_nth}
use Rattle.std.specs.Prelude.{Ok, Err}

-- ---- what the tests say

-- nothing was broken before, and this rule isn't
next_known : (v : Verdict) (h : Bool) (r : Rule) (p : ℕ) → next v h r p ≡ fine → (v ≡ fine) × (h ≡ true)
unfolding next
next_known (Ok tt) true r p e = (refl, refl)
next_known (Ok tt) false r p e = absurd cc
next_known (Err u) h r p e = absurd cc

next_so : (v : Verdict) (h : Bool) (r : Rule) (p : ℕ) → v ≡ fine → h ≡ true → next v h r p ≡ fine
unfolding next
next_so v h r p e k = rw (e, k)

within_more : (ns rooms : List ℕ) → get_or ns 0 0 ≤ get_or rooms 0 0 → Within (drop 1 ns) (drop 1 rooms) → Within ns rooms
within_more ns rooms h w zero = h
within_more ns rooms h w (suc k) =
    let e : 1 + k ≡ suc k = omega arith in
    rw (get_or-drop 1 ns k 0, get_or-drop 1 rooms k 0, e) at (w k)

within_rest : (ns rooms : List ℕ) → Within ns rooms → Within (drop 1 ns) (drop 1 rooms)
within_rest ns rooms w k =
    let e : 1 + k ≡ suc k = omega arith in
    rw (get_or-drop 1 ns k 0, get_or-drop 1 rooms k 0, e) (w (suc k))

rooms_known : (v : Verdict) (ps : List Part) (ns rooms : List ℕ) → length ns ≤ length ps → test_rooms v ps ns rooms ≡ fine → (v ≡ fine) × Within ns rooms
unfolding test_rooms
rooms_known v [] [] rooms h e = (e, λ k. omega arith)
rooms_known v [] (n ∷ ns) rooms h e = absurd (omega arith)
rooms_known v (p ∷ ps) ns rooms h e =
    let later = rooms_known (next v (leb (get_or ns 0 0) (get_or rooms 0 0)) (Rule.Room p) (count_place p)) ps (drop 1 ns) (drop 1 rooms) (omega (arith, length-drop 1 ns)) e in
    let here = next_known _ _ _ _ later.0 in
    (here.0, within_more ns rooms (leb-true _ _ here.1) later.1)

rooms_so : (v : Verdict) (ps : List Part) (ns rooms : List ℕ) → v ≡ fine → Within ns rooms → test_rooms v ps ns rooms ≡ fine
unfolding test_rooms
rooms_so v [] ns rooms e w = e
rooms_so v (p ∷ ps) ns rooms e w =
    rooms_so (next v (leb (get_or ns 0 0) (get_or rooms 0 0)) (Rule.Room p) (count_place p)) ps (drop 1 ns) (drop 1 rooms)
    (next_so v _ (Rule.Room p) (count_place p) e (le-leb _ _ (w 0))) (within_rest ns rooms w)

pub counts_long : (f : List ℕ) → length (counts_at f) ≡ part_count
unfolding counts_at
counts_long f = length_numbers f counts_place part_count

-- how many words a file's state has
abbrev pub state_count : List ℕ → ℕ
state_count f = get_or (counts_at f) state_part 0

-- the header of a file that breaks no rule, its length, and its state's depth
pub record Accepted (f rooms : List ℕ) : Type 0 where
  pub long : header_bytes ≤ length f
  pub marked : number_at f 0 ≡ mark
  pub edited : number_at f edition_place ≡ edition
  pub within : Within (counts_at f) rooms
  pub shape : (eqb (state_count f) 0 || eqb (state_count f) (state_size (depth_of (state_count f)))) ≡ true
  pub sixth : number_at f sixth_place ≡ 0
  pub whole : length f ≡ end_place f
  pub deep : (eqb (state_count f) 0 || eqb (number_at f (depth_place f)) (depth_of (state_count f))) ≡ true

module _ (f rooms : List ℕ) where
  pub accepted : verdict_of f rooms ≡ fine → Accepted f rooms
  unfolding verdict_of test_state test_head
  accepted e =
      let d = next_known _ _ _ _ e in
      let w = next_known _ _ _ _ d.0 in
      let x = next_known _ _ _ _ w.0 in
      let s = next_known _ _ _ _ x.0 in
      let r = rooms_known _ part_order (counts_at f) rooms (omega (arith, counts_long f)) s.0 in
      let l = next_known _ _ _ _ r.0 in
      let b = next_known _ _ _ _ l.0 in
      let a = next_known _ _ _ _ b.0 in
      let long : header_bytes ≤ length f = leb-true _ _ l.1 in
      record {
        long = long;
        marked = eqb-true _ _ (rw (le-ltb (length f) edition_place (omega arith)) at a.1);
        edited = eqb-true _ _ (rw (le-ltb (length f) settings_place (omega arith)) at b.1);
        within = r.1;
        shape = s.1;
        sixth = eqb-true _ _ x.1;
        whole = eqb-true _ _ w.1;
        deep = d.1;
      }

  pub is_accepted : Accepted f rooms → verdict_of f rooms ≡ fine
  unfolding verdict_of test_state test_head
  is_accepted a =
      let long = a.long in
      let m : (ltb (length f) edition_place || eqb (number_at f 0) mark) ≡ true =
      rw (le-ltb (length f) edition_place (omega arith)) (eq-eqb _ _ a.marked) in
      let d : (ltb (length f) settings_place || eqb (number_at f edition_place) edition) ≡ true =
      rw (le-ltb (length f) settings_place (omega arith)) (eq-eqb _ _ a.edited) in
      let head = next_so _ _ _ _ (next_so _ _ _ _ (next_so _ _ _ _ refl m) d) (le-leb _ _ a.long) in
      let Rooms-fine = rooms_so _ part_order (counts_at f) rooms head a.within in
      next_so _ _ _ _
      (next_so _ _ _ _ (next_so _ _ _ _ (next_so _ _ _ _ Rooms-fine a.shape) (eq-eqb _ _ a.sixth)) (eq-eqb _ _ a.whole))
      a.deep

-- ---- the words taken

-- of one part, as many as it has or as there is room for
pub part_taken : (f o : List ℕ) (at n count : ℕ) (new : List ℕ) → count ≡ min (length o) n → new ≡ numbers_at f at (length (take count o))
    → new ++ drop count o ≡ placed o 0 (numbers_at f at n)
part_taken f o at n count new ec e = get_front f o at n count (omega arith) new e

-- which is the part itself where it is read from its place
module _ (f o : List ℕ) (n : List ℕ) (en : n ≡ counts_at f) (part at count : ℕ) (low : part < part_count) where
  pub part_filled : (new : List ℕ) → at ≡ place_of n part → count ≡ min (get_or n part 0) (length o) → new ≡ numbers_at f at (length (take count o))
      → new ++ drop count o ≡ placed o 0 (get_or (parts_in f) part [])
  unfolding parts_in place_of
  part_filled new ea ec e =
      let l = counts_long f in
      get_front f o at (get_or n part 0) count ec new e
      ∙ ap (placed o 0) (rw (ea, en) (sym (parts_nth f header_bytes part (counts_at f) (omega arith))))

-- of each
module _ (f a b c d e : List ℕ) where
  pub taken : (n : Parts ℕ) → n ≡ counts_in (counts_at f) → (at : Parts ℕ) → at ≡ places_in (in_order n) → (a' b' c' d' e' : List ℕ)
      → a' ≡ placed a 0 (numbers_at f at.code n.code) → b' ≡ placed b 0 (numbers_at f at.registers n.registers)
      → c' ≡ placed c 0 (numbers_at f at.device n.device) → d' ≡ placed d 0 (numbers_at f at.local n.local)
      → e' ≡ placed e 0 (numbers_at f at.state n.state)
      → in_parts a' b' c' d' e' ≡ filled (parts_in f) (in_parts a b c d e)
  unfolding filled zip_with parts_in parts_from counts_at numbers_at counts_in places_in place_of end_from
  taken n en at ep a' b' c' d' e' ea eb ec ed ee = rw (ea, eb, ec, ed, ee, ep, en)

  pub all_filled : (a' b' c' d' e' : List ℕ) → a' ≡ placed a 0 (get_or (parts_in f) 0 []) → b' ≡ placed b 0 (get_or (parts_in f) 1 [])
      → c' ≡ placed c 0 (get_or (parts_in f) 2 []) → d' ≡ placed d 0 (get_or (parts_in f) 3 []) → e' ≡ placed e 0 (get_or (parts_in f) state_part [])
      → in_parts a' b' c' d' e' ≡ filled (parts_in f) (in_parts a b c d e)
  unfolding filled zip_with parts_in parts_from counts_at numbers_at
  all_filled a' b' c' d' e' ea eb ec ed ee = rw (ea, eb, ec, ed, ee)

-- ---- the answer

module _ (f : List ℕ) (l : List (List ℕ)) where
  pub read_broken : (u : Unreadable) → Err u ≡ verdict_of f (counts_of l) → reading (Err u) l ≡ read_of f l
  unfolding read_of judged
  read_broken u e = rw (← e)

  pub read_fine : (h : Head) (n : Parts ℕ) (m : List (List ℕ)) → fine ≡ verdict_of f (counts_of l) → m ≡ filled (parts_in f) l
      → h ≡ head_in (settings_at f) → n ≡ counts_in (counts_at f) → reading (told h n) m ≡ read_of f l
  unfolding read_of judged
  read_fine h n m e em eh en = rw (← e, em, eh, en)
