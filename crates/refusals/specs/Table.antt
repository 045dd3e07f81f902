-- Page 01's table of refusals: the number of each rule that can be broken.
use Rattle.std.specs.Prelude.{ℕ}
use Rattle.refusals.specs.declared.Refusal.{Refusal}
use Rattle.refusals.specs.declared.Rule.{Rule}

-- the number of a rule
abbrev pub number_of : Rule → ℕ
number_of Rule.Setting = 1
number_of Rule.LongCode = 2
number_of Rule.Buffer = 3
number_of Rule.NotCarried = 4
number_of Rule.NoSecond = 5
number_of Rule.Field = 6
number_of Rule.Register = 7
number_of Rule.Stray = 8
number_of Rule.Depth = 9
number_of Rule.Unclosed = 10
number_of Rule.State = 11
number_of Rule.NoWords = 12
number_of Rule.Short = 13
number_of Rule.NotOfLayout = 14
number_of Rule.TooMany = 15
number_of Rule.NoRecord = 16

-- a rule broken at a place
abbrev pub broken : Rule → ℕ → Refusal
broken r place = record { number = number_of r; place = place }
