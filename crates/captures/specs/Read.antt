-- Reading a capture file into lent buffers: the tests in their order, and what the file holds.
use Rattle.std.specs.Prelude.{ℕ, ◌+◌, ◌*◌, ◌-◌, ◌/◌, ◌≤◌, min, Bool, cond, Result, Ok, Err, ◌||◌, ltb, leb, eqb, length, get_or, take, drop}
use mathlib.Core.List.{List, [], ◌∷◌, zip_with}
use Rattle.numbers.specs.Numbers.{number_at, numbers_at}
use Rattle.numbers.specs.Placed.{placed}
use Rattle.wave.specs.Layout.{block_numbers}
use Rattle.packing.specs.Words.{hot_words, depth_word, state_size}
use Rattle.captures.specs.declared.answer.Parts.{Parts}
use Rattle.captures.specs.declared.answer.Part.{Part}
use Rattle.captures.specs.declared.answer.Rule.{Rule}
use Rattle.captures.specs.declared.answer.Head.{Head}
use Rattle.captures.specs.declared.answer.Capture.{Capture as Told}
use Rattle.captures.specs.declared.answer.Unreadable.{Unreadable}
use Rattle.captures.specs.Capture.{mark, edition, setting_count, part_count, state_part}
use Rattle.captures.specs.Capture.{edition_place, settings_place, counts_place, sixth_place, header_bytes}
use Rattle.captures.specs.Capture.{Capture, counts_of, head_in, counts_in, count_place}

-- ---- what a file holds

-- the settings
unfoldable pub settings_at : List ℕ → List ℕ
settings_at f = numbers_at f settings_place setting_count

-- the counts of words
unfoldable pub counts_at : List ℕ → List ℕ
counts_at f = numbers_at f counts_place part_count

-- the words of parts of these counts, one part behind another from `at` on
unfoldable pub parts_from : List ℕ → ℕ → List ℕ → List (List ℕ)
parts_from f at [] = []
parts_from f at (n ∷ ns) = numbers_at f at n ∷ parts_from f (at + 4 * n) ns

-- where they end
unfoldable pub end_from : ℕ → List ℕ → ℕ
end_from at [] = at
end_from at (n ∷ ns) = end_from (at + 4 * n) ns

-- where part k begins, with these counts; behind the last part the file ends
unfoldable pub place_of : List ℕ → ℕ → ℕ
place_of counts k = end_from header_bytes (take k counts)

-- where each part begins, by name
unfoldable pub places_in : List ℕ → Parts ℕ
places_in counts =
    record { code = place_of counts 0; registers = place_of counts 1; device = place_of counts 2; local = place_of counts 3; state = place_of counts state_part }

-- the words of each part
unfoldable pub parts_in : List ℕ → List (List ℕ)
parts_in f = parts_from f header_bytes (counts_at f)

-- the capture that a file is of
abbrev pub capture_in : List ℕ → Capture
capture_in f = record { settings = settings_at f; parts = parts_in f }

-- ---- the tests

-- nothing is broken, or the first broken rule and its place
abbrev pub Verdict : Type 0
Verdict = Result (Unit {0}) Unreadable

abbrev pub fine : Verdict
fine = Ok tt

abbrev pub broken : Rule → ℕ → Verdict
broken rule place = Err (record { rule = rule; place = place })

-- the first broken rule, after this one is tested
unfoldable pub next : Verdict → Bool → Rule → ℕ → Verdict
next (Ok _) holds rule place = cond holds fine (broken rule place)
next (Err u) holds rule place = Err u

-- mark and edition, as soon as they are there, then the whole header
unfoldable pub test_head : List ℕ → Verdict
test_head f =
    let a = next fine (ltb (length f) edition_place || eqb (number_at f 0) mark) Rule.Mark 0 in
    let b = next a (ltb (length f) settings_place || eqb (number_at f edition_place) edition) Rule.Edition edition_place in
    next b (leb header_bytes (length f)) Rule.Header (4 * (length f / 4))

-- the parts in the file's order
abbrev pub part_order : List Part
part_order = Part.Code ∷ Part.Registers ∷ Part.Device ∷ Part.Local ∷ Part.State ∷ []

-- there is room for each part's count
unfoldable pub test_rooms : Verdict → List Part → List ℕ → List ℕ → Verdict
test_rooms v [] ns rooms = v
test_rooms v (p ∷ ps) ns rooms =
    test_rooms (next v (leb (get_or ns 0 0) (get_or rooms 0 0)) (Rule.Room p) (count_place p)) ps (drop 1 ns) (drop 1 rooms)

-- the depth that a state's count gives
unfoldable pub depth_of : ℕ → ℕ
depth_of n = (n - hot_words) / block_numbers

-- where a file's state has its depth, and where the file ends
abbrev pub depth_place : List ℕ → ℕ
depth_place f = place_of (counts_at f) state_part + 4 * depth_word

abbrev pub end_place : List ℕ → ℕ
end_place f = place_of (counts_at f) part_count

-- the state's count is 0 or a state's, the sixth is 0, the file ends behind the words, and the state's depth is its count's
unfoldable pub test_state : Verdict → List ℕ → Verdict
test_state v f =
    let n = get_or (counts_at f) state_part 0 in
    let a = next v (eqb n 0 || eqb n (state_size (depth_of n))) Rule.StateCount (count_place Part.State) in
    let b = next a (eqb (number_at f sixth_place) 0) Rule.SixthCount sixth_place in
    let c = next b (eqb (length f) (end_place f)) Rule.Length (min (length f) (end_place f)) in
    next c (eqb n 0 || eqb (number_at f (depth_place f)) (depth_of n)) Rule.Depth (depth_place f)

-- all tests, in this order: the head's, the rooms', the state's
unfoldable pub verdict_of : List ℕ → List ℕ → Verdict
verdict_of f rooms = test_state (test_rooms (test_head f) part_order (counts_at f) rooms) f

-- ---- the answer

-- there is room for each count
abbrev pub Within : List ℕ → List ℕ → Type 0
Within counts rooms = (k : ℕ) → get_or counts k 0 ≤ get_or rooms k 0

-- the words of each part at the start of its lent buffer, the rest of each as it was
unfoldable pub filled : List (List ℕ) → List (List ℕ) → List (List ℕ)
filled parts lent = zip_with (λ (p l : List ℕ). placed l 0 p) parts lent

-- what is answered of a file: its settings and its counts by name, or what it breaks
abbrev pub Answer : Type 0
Answer = Result Told Unreadable

abbrev pub told : Head → Parts ℕ → Answer
told head counts = Ok (record { head = head; counts = counts })

-- an answer, and what the lent buffers hold after
pub record Reading : Type 0 where
  pub answer : Answer
  pub after : List (List ℕ)

abbrev pub reading : Answer → List (List ℕ) → Reading
reading r l = record { answer = r; after = l }

-- by the verdict: what the file holds, or the broken rule, which changes nothing
unfoldable pub judged : Verdict → List ℕ → List (List ℕ) → Reading
judged (Ok _) f l = reading (told (head_in (settings_at f)) (counts_in (counts_at f))) (filled (parts_in f) l)
judged (Err u) f l = reading (Err u) l

-- what reading answers and leaves
unfoldable pub read_of : List ℕ → List (List ℕ) → Reading
read_of f l = judged (verdict_of f (counts_of l)) f l
