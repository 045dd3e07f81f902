-- Numbers as text.
use Rattle.std.specs.Prelude.{ℕ, zero, suc, ◌+◌, ◌/◌, cond, List, [], ◌∷◌, ◌++◌, ltb}
use Rattle.io.specs.Digits.{last_digits}

-- how many decimal digits n has, at most `most`
unfoldable pub places : ℕ → ℕ → ℕ
places zero n = 0
places (suc most) n = cond (ltb n 10) 1 (1 + places most (n / 10))

-- the most digits of a number of 64 bits
abbrev pub most_places : ℕ
most_places = 20

unfoldable pub decimal : ℕ → List ℕ
decimal n = last_digits 10 (places most_places n) n

-- a number, and the character that ends it
unfoldable pub field : ℕ → ℕ → List ℕ
field n end = decimal n ++ (end ∷ [])
