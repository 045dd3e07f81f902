-- The tests, as the code makes them.
use mathlib.Core.Path.{◌≡◌, refl, sym}
use Prim.Native.Nat.{ℕ, ◌+◌, ◌*◌, ◌/◌, ◌≤◌, ◌<◌, min}
use mathlib.Core.Bool.{Bool, true, false, ◌||◌, or-false}
use mathlib.Core.List.{List, [], ◌∷◌}
use native.Mathlib.Omega.{arith}
use lib.Dec.{ltb, leb, eqb}
use lib.ListN.{length, get_or, drop}
use borrow.Author.Tests.{ne_eqb}
use Rattle.std.specs.Prelude.{Err}
use Rattle.numbers.specs.Numbers.{bound, number_at}
use Rattle.packing.specs.Words.{hot_words, depth_word, state_size}
use Rattle.captures.specs.declared.answer.Rule.{Rule}
use Rattle.captures.specs.declared.answer.Part.{Part}
use Rattle.captures.specs.declared.answer.Unreadable.{Unreadable}
use Rattle.captures.specs.Capture.{mark, edition, part_count, state_part, state_fits}
use Rattle.captures.specs.Capture.{edition_place, settings_place, counts_place, sixth_place, header_bytes}
use Rattle.captures.specs.Read.{counts_at, place_of, Verdict, fine, broken, next, depth_of, part_order, test_head, test_rooms, test_state, verdict_of}

-- ---- a state's words

pub state_short : (s : List ℕ) → length s < hot_words → eqb (length s) 0 ≡ state_fits s
unfolding state_fits
state_short s h = rw (ne_eqb (length s) (state_size (get_or s depth_word 0)) (λ e. omega arith)) (sym (or-false (eqb (length s) 0)))

pub state_long : (s : List ℕ) → hot_words ≤ length s → eqb (length s) (state_size (get_or s depth_word 0)) ≡ state_fits s
unfolding state_fits
state_long s h = rw (ne_eqb (length s) 0 (λ e. omega arith))

pub depth_short : (n : ℕ) → n < hot_words → 0 ≡ depth_of n
unfolding depth_of
depth_short n h = omega arith

-- a state's words fit the machine's numbers
pub depth_small : (n d : ℕ) → d ≡ depth_of n → n < bound → state_size d < bound + hot_words
unfolding depth_of
depth_small n d e h = omega arith

-- ---- one test more

module _ (v : Verdict) (holds : Bool) (rule : Rule) (place : ℕ) where
  pub next_broken : (r : Rule) (p : ℕ) → v ≡ broken r p → broken r p ≡ next v holds rule place
  unfolding next
  next_broken r p e = rw e

  pub next_fine : v ≡ fine → holds ≡ true → fine ≡ next v holds rule place
  unfolding next
  next_fine e h = rw (e, h)

  pub next_not : v ≡ fine → holds ≡ false → broken rule place ≡ next v holds rule place
  unfolding next
  next_not e h = rw (e, h)

-- what was broken stays the first
pub stays : (u : Unreadable) (holds : Bool) (rule : Rule) (place : ℕ) → next (Err u) holds rule place ≡ Err u
unfolding next
stays u holds rule place = refl

pub rooms_stay : (u : Unreadable) (ps : List Part) (ns rooms : List ℕ) → test_rooms (Err u) ps ns rooms ≡ Err u
unfolding test_rooms next
rooms_stay u [] ns rooms = refl
rooms_stay u (p ∷ ps) ns rooms = rooms_stay u ps (drop 1 ns) (drop 1 rooms)

pub state_stays : (u : Unreadable) (f : List ℕ) → test_state (Err u) f ≡ Err u
unfolding test_state next
state_stays u f = refl

-- a part's room, and then those of the parts behind it
pub room_first : (v : Verdict) (p : Part) (ps : List Part) (n : ℕ) (ns : List ℕ) (room : ℕ) (rooms : List ℕ)
    → test_rooms v (p ∷ ps) (n ∷ ns) (room ∷ rooms) ≡ test_rooms (test_rooms v (p ∷ []) (n ∷ []) (room ∷ [])) ps ns rooms
unfolding test_rooms
room_first v p ps n ns room rooms = refl

-- ---- the tests one after another

module _ (f : List ℕ) (m n : ℕ) (a b c : Verdict) where
  pub head_tested : m ≡ number_at f 0 → a ≡ next fine (ltb (length f) edition_place || eqb m mark) Rule.Mark 0
      → n ≡ number_at f edition_place → b ≡ next a (ltb (length f) settings_place || eqb n edition) Rule.Edition edition_place
      → c ≡ next b (leb header_bytes (length f)) Rule.Header (4 * (length f / 4)) → c ≡ test_head f
  unfolding test_head
  head_tested em ea en eb ec = rw (ec, eb, ea, em, en)

module _ (v : Verdict) (f : List ℕ) (ns : List ℕ) (depth at end : ℕ)
    (en : ns ≡ counts_at f) (ep : depth ≡ depth_of (get_or ns state_part 0))
    (et : at ≡ place_of ns state_part + 4 * depth_word) (ee : end ≡ place_of ns part_count) where
  pub state_tested : (six least word : ℕ) (a b c d : Verdict)
      → a ≡ next v (eqb (get_or ns state_part 0) 0 || eqb (get_or ns state_part 0) (state_size depth)) Rule.StateCount (counts_place + 4 * state_part)
      → six ≡ number_at f sixth_place → b ≡ next a (eqb six 0) Rule.SixthCount sixth_place
      → least ≡ min (length f) end → c ≡ next b (eqb (length f) end) Rule.Length least
      → word ≡ number_at f at → d ≡ next c (eqb (get_or ns state_part 0) 0 || eqb word depth) Rule.Depth at → d ≡ test_state v f
  unfolding test_state
  state_tested six least word a b c d ea es eb el ec ew ed = rw (ed, ew, ec, el, eb, es, ea, et, ee, ep, en)

pub all_tested : (f : List ℕ) (ns rooms : List ℕ) (a b c : Verdict) → a ≡ test_head f → ns ≡ counts_at f → b ≡ test_rooms a part_order ns rooms
    → c ≡ test_state b f → c ≡ verdict_of f rooms
unfolding verdict_of
all_tested f ns rooms a b c ea en eb ec = rw (ec, eb, en, ea)
