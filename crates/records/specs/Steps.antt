-- A step of the proofs: nothing that is said to the reader rests on this file.
-- A step of reading: the walk along the table and the bodies.
use Rattle.std.specs.Prelude.{ℕ, zero, suc, ◌+◌, Bool, ◌&&◌, List, eqb, length, drop}
use Rattle.dayfile.specs.Day.{Layout, place_of, length_of}

-- n rows of the table from row k on say what the bodies are from p on to the file's end
unfoldable pub walk : Layout → ℕ → ℕ → ℕ → List ℕ → Bool
walk L zero k p f = eqb p (length f)
walk L (suc n) k p f =
    eqb (place_of f k) p
    && (L.starts (drop p f)
    && (eqb (length_of f k) (L.size (drop p f))
    && walk L n (k + 1) (p + L.size (drop p f)) f))
