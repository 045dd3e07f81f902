-- Open blocks: the room for nesting, and the numbers of a block's parts. Page 01, "Blocks" and "The key".
use Rattle.std.specs.Prelude.{ℕ}

-- the room for nesting
abbrev pub nesting : ℕ
nesting = 32

-- a block's part: before ELSE, after it, a loop
abbrev pub before_else : ℕ
before_else = 1

abbrev pub after_else : ℕ
after_else = 2

abbrev pub loop_part : ℕ
loop_part = 3
