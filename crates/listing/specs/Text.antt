-- The text that the listing program prints for a day file (page 01, "The day file").
use Rattle.std.specs.Prelude.{ℕ, ◌+◌, cond, List, [], ◌∷◌, ◌++◌, map, ltb, eqb, length}
use Rattle.lanes.specs.declared.said.Fault.{Fault}
use Rattle.body.specs.Body.{Parts, parts_at}
use Rattle.dayfile.specs.Day.{page, bodies_of}
use Rattle.records.specs.Read.{refusal_of, firsts_of}
use Rattle.listing.specs.Decimal.{field}

-- the largest file that is listed, 64 KiB, and a buffer that holds every text
abbrev pub most_bytes : ℕ
most_bytes = 65536

abbrev pub text_room : ℕ
text_room = 176000

abbrev pub space : ℕ
space = 32

abbrev pub comma : ℕ
comma = 44

abbrev pub newline : ℕ
newline = 10

-- the kinds of a fault, a comma between two
unfoldable pub kinds_text : List ℕ → List ℕ
kinds_text [] = []
kinds_text (k ∷ []) = field k space
kinds_text (k ∷ l ∷ ks) = field k comma ++ kinds_text (l ∷ ks)

-- record i, and the first with equal bytes
unfoldable pub line : ℕ → ℕ → Parts → List ℕ
line i first p =
    field i space ++ (field first space ++ (field p.kernel space ++ (field p.place space
    ++ (kinds_text (map (λ (f : Fault). f.kind) p.faults) ++ field (length p.blocks) newline))))

-- a line for each body, the first of them record i
unfoldable pub lines : ℕ → List ℕ → List (List ℕ) → List ℕ
lines i [] bs = []
lines i (f ∷ fs) [] = []
lines i (f ∷ fs) (b ∷ bs) = line i f (parts_at b) ++ lines (i + 1) fs bs

-- how many of the records, the first of them record i, are the first with their bytes
unfoldable pub distinct : ℕ → List ℕ → ℕ
distinct i [] = 0
distinct i (f ∷ fs) = cond (eqb f i) 1 0 + distinct (i + 1) fs

-- "record first kernel place kinds depth"
abbrev pub head_text : List ℕ
head_text = 114 ∷ 101 ∷ 99 ∷ 111 ∷ 114 ∷ 100 ∷ 32 ∷ 102 ∷ 105 ∷ 114 ∷ 115 ∷ 116 ∷ 32 ∷ 107 ∷ 101 ∷ 114 ∷ 110 ∷ 101 ∷ 108 ∷ 32 ∷ 112 ∷ 108 ∷ 97 ∷ 99 ∷ 101 ∷ 32 ∷ 107 ∷ 105 ∷ 110 ∷ 100 ∷ 115 ∷ 32 ∷ 100 ∷ 101 ∷ 112 ∷ 116 ∷ 104 ∷ 10 ∷ []

-- "total "
abbrev pub total_text : List ℕ
total_text = 116 ∷ 111 ∷ 116 ∷ 97 ∷ 108 ∷ 32 ∷ []

-- "distinct "
abbrev pub distinct_text : List ℕ
distinct_text = 100 ∷ 105 ∷ 115 ∷ 116 ∷ 105 ∷ 110 ∷ 99 ∷ 116 ∷ 32 ∷ []

-- "refused "
abbrev pub refused_text : List ℕ
refused_text = 114 ∷ 101 ∷ 102 ∷ 117 ∷ 115 ∷ 101 ∷ 100 ∷ 32 ∷ []

-- "too long"
abbrev pub long_text : List ℕ
long_text = 116 ∷ 111 ∷ 111 ∷ 32 ∷ 108 ∷ 111 ∷ 110 ∷ 103 ∷ 10 ∷ []

-- the last line: the count of the records, and of those that are the first with their bytes
unfoldable pub total_line : ℕ → ℕ → List ℕ
total_line n d = total_text ++ (field n space ++ (distinct_text ++ field d newline))

-- the listing of bodies with their first equal ones
unfoldable pub table_text : List ℕ → List (List ℕ) → List ℕ
table_text fs bs = head_text ++ (lines 1 fs bs ++ total_line (length fs) (distinct 1 fs))

-- the whole text: a file over 64 KiB, a refused one, an accepted one
unfoldable pub text_of : List ℕ → List ℕ
text_of f =
    cond (ltb most_bytes (length f)) long_text
    (cond (eqb (refusal_of page f) 0) (table_text (firsts_of (bodies_of page f)) (bodies_of page f)) (refused_text ++ field (refusal_of page f) newline))
