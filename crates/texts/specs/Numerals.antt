-- A number as text: decimal up to seven digits, else `0x` and eight hexadecimal digits. So the count of its bytes says how it is read.
use Rattle.std.specs.Prelude.{ℕ, zero, suc, ◌+◌, ◌-◌, ◌*◌, ◌/◌, ◌%◌, cond, List, [], ◌∷◌, ◌++◌, eqb, ltb, length, drop}
use Rattle.texts.specs.Bytes.{ascii}

-- the digit d below 16: `0` to `9`, then `A` to `F`
abbrev pub glyph : ℕ → ℕ
glyph d = cond (ltb d 10) (48 + d) (55 + d)

-- the last k digits of n in base b, the most significant first
unfoldable pub digits : ℕ → ℕ → ℕ → List ℕ
digits b zero n = []
digits b (suc k) n = digits b k (n / b) ++ (glyph (n % b) ∷ [])

-- how many decimal digits n has, at most `most`
unfoldable pub places : ℕ → ℕ → ℕ
places zero n = 0
places (suc most) n = cond (ltb n 10) 1 (suc (places most (n / 10)))

-- the least number that is hexadecimal
abbrev pub hex_from : ℕ
hex_from = 10000000

unfoldable pub numeral : ℕ → List ℕ
numeral n = cond (ltb n hex_from) (digits 10 (places 7 n) n) (ascii "0x" ++ digits 16 8 n)

-- the digit that a byte is
abbrev pub digit_of : ℕ → ℕ
digit_of c = cond (ltb c 65) (c - 48) (c - 55)

-- the number of digits in base b that stand behind those of v
unfoldable pub behind : ℕ → ℕ → List ℕ → ℕ
behind b v [] = v
behind b v (c ∷ t) = behind b (v * b + digit_of c) t

-- the number of a text
unfoldable pub number_in : List ℕ → ℕ
number_in t = cond (eqb (length t) 10) (behind 16 0 (drop 2 t)) (behind 10 0 t)
