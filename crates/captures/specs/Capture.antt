-- The capture file: everything that a run takes, packed as numbers of four bytes, low byte first (house).
use Rattle.std.specs.Prelude.{ℕ, ◌+◌, ◌*◌, ◌≡◌, Bool, true, ◌&&◌, ◌||◌, ltb, eqb, length, get_or}
use Rattle.std.proofs.Common.{Bor, MutBor}
use mathlib.Core.List.{List, [], ◌∷◌, ◌++◌, map, flatten}
use Rattle.ground.specs.Tests.{all_of}
use Rattle.numbers.specs.Numbers.{bound, bytes_of_all, Small}
use Rattle.packing.specs.Words.{depth_word, state_size}
use Rattle.captures.specs.declared.answer.Head.{Head}
use Rattle.captures.specs.declared.answer.Parts.{Parts}
use Rattle.captures.specs.declared.answer.Part.{Part}

-- ---- what is fixed

-- the bytes 57 43 41 50 as a number
abbrev pub mark : ℕ
mark = 0x50414357

-- the edition of the file's shape
abbrev pub edition : ℕ
edition = 1

-- how many settings there are, and how many parts
abbrev pub setting_count : ℕ
setting_count = 5

abbrev pub part_count : ℕ
part_count = 5

-- which part is the state, counted from 0
abbrev pub state_part : ℕ
state_part = 4

-- where the header's numbers stand behind the mark, four bytes each: the edition, the settings, the counts of words of each part, and a
-- sixth count
abbrev pub edition_place : ℕ
edition_place = 4

abbrev pub settings_place : ℕ
settings_place = edition_place + 4

abbrev pub counts_place : ℕ
counts_place = settings_place + 4 * setting_count

abbrev pub sixth_place : ℕ
sixth_place = counts_place + 4 * part_count

-- the bytes of the header
abbrev pub header_bytes : ℕ
header_bytes = sixth_place + 4

-- ---- a capture and its file

-- the settings of the run, and the words of each part
pub record Capture : Type 0 where
  pub settings : List ℕ
  pub parts : List (List ℕ)

-- how many words there are of each part
abbrev pub counts_of : List (List ℕ) → List ℕ
counts_of parts = map length parts

-- the numbers of a capture's file: mark, edition, settings, counts, a sixth count of 0, and the words of the parts, one part behind another
unfoldable pub numbers_of : Capture → List ℕ
numbers_of c = mark ∷ edition ∷ (c.settings ++ (counts_of c.parts ++ (0 ∷ flatten c.parts)))

-- the file of a capture
unfoldable pub capture_of : Capture → List ℕ
capture_of c = bytes_of_all (numbers_of c)

-- ---- by name

-- the settings by name, and back
unfoldable pub head_in : List ℕ → Head
head_in s = record { kernel = get_or s 0 0; width = get_or s 1 0; registers = get_or s 2 0; lanes = get_or s 3 0; budget = get_or s 4 0 }

abbrev pub settings_of : Head → List ℕ
settings_of h = h.kernel ∷ h.width ∷ h.registers ∷ h.lanes ∷ h.budget ∷ []

-- the counts by name, and one of each part in the file's order
unfoldable pub counts_in : List ℕ → Parts ℕ
counts_in n = record { code = get_or n 0 0; registers = get_or n 1 0; device = get_or n 2 0; local = get_or n 3 0; state = get_or n state_part 0 }

abbrev pub in_order : Parts ℕ → List ℕ
in_order p = p.code ∷ p.registers ∷ p.device ∷ p.local ∷ p.state ∷ []

-- where the header has a part's count
abbrev pub count_place : Part → ℕ
count_place Part.Code = counts_place
count_place Part.Registers = counts_place + 4
count_place Part.Device = counts_place + 8
count_place Part.Local = counts_place + 12
count_place Part.State = counts_place + 4 * state_part

-- the words of the parts
abbrev pub in_parts : List ℕ → List ℕ → List ℕ → List ℕ → List ℕ → List (List ℕ)
in_parts code registers device local state = code ∷ registers ∷ device ∷ local ∷ state ∷ []

-- of words that are given, of buffers as they were lent, and of buffers as they are left
abbrev pub words_in : Parts (Bor (List ℕ)) → List (List ℕ)
words_in p = in_parts p.code.now p.registers.now p.device.now p.local.now p.state.now

abbrev pub lent_in : Parts (MutBor (List ℕ)) → List (List ℕ)
lent_in p = in_parts p.code.now p.registers.now p.device.now p.local.now p.state.now

abbrev pub left_in : MutBor (List ℕ) × (MutBor (List ℕ) × (MutBor (List ℕ) × (MutBor (List ℕ) × (MutBor (List ℕ) × Unit {0})))) → List (List ℕ)
left_in p = in_parts p.0.now p.1.0.now p.1.1.0.now p.1.1.1.0.now p.1.1.1.1.0.now

-- the capture of these settings and parts
abbrev pub captured : Head → List (List ℕ) → Capture
captured head parts = record { settings = settings_of head; parts = parts }

-- ---- which captures have a file

-- no words for a launch, else as many as the depth among them says
unfoldable pub state_fits : List ℕ → Bool
state_fits s = eqb (length s) 0 || eqb (length s) (state_size (get_or s depth_word 0))

-- the state's words are a state's
abbrev pub shapely : List (List ℕ) → Bool
shapely parts = state_fits (get_or parts state_part [])

-- each count is a number of four bytes, and the state's words are a state's
unfoldable pub fits : List (List ℕ) → Bool
fits parts = all_of (λ n. ltb n bound) (counts_of parts) && shapely parts

-- a capture that a file is of: it has every setting and every part, all its numbers have four bytes, and its state's words are a state's
pub record Filed (c : Capture) : Type 0 where
  pub settings : length c.settings ≡ setting_count
  pub parts : length c.parts ≡ part_count
  pub small : Small (numbers_of c)
  pub shape : shapely c.parts ≡ true
