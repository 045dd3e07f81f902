-- Each promise of the crate allows one answer.
use mathlib.Core.Path.{◌≡◌, sym, ◌∙◌}
use mathlib.Core.Bool.{Bool, ◌&&◌}
use mathlib.Core.List.{List}
use Prim.Native.Nat.{ℕ, min}
use lib.Bits.{bit_and, bit_or}
use lib.Dec.{ltb}
use Rattle.lanes.specs.Sets.{widest, has, without, first, only, lowest}
use Rattle.lanes.specs.EachLane.{by_lane}

pub narrowed_once : (width r q : ℕ) → r ≡ min width widest → q ≡ min width widest → r ≡ q
narrowed_once width r q a b = a ∙ sym b

pub each_once : (number width : ℕ) (r q : List ℕ) → r ≡ by_lane (min width widest) (λ i. number) → q ≡ by_lane (min width widest) (λ i. number) → r ≡ q
each_once number width r q a b = a ∙ sym b

pub has_once : (set lane : ℕ) (r q : Bool) → r ≡ has set lane → q ≡ has set lane → r ≡ q
has_once set lane r q a b = a ∙ sym b

pub union_once : (m n r q : ℕ) → r ≡ bit_or m n → q ≡ bit_or m n → r ≡ q
union_once m n r q a b = a ∙ sym b

pub meet_once : (m n r q : ℕ) → r ≡ bit_and m n → q ≡ bit_and m n → r ≡ q
meet_once m n r q a b = a ∙ sym b

pub without_once : (m n r q : ℕ) → r ≡ without m n → q ≡ without m n → r ≡ q
without_once m n r q a b = a ∙ sym b

pub first_once : (n r q : ℕ) → r ≡ first (min n widest) → q ≡ first (min n widest) → r ≡ q
first_once n r q a b = a ∙ sym b

pub only_once : (lane : ℕ) (picked : Bool) (r q : ℕ) → r ≡ only lane (picked && ltb lane widest) → q ≡ only lane (picked && ltb lane widest) → r ≡ q
only_once lane picked r q a b = a ∙ sym b

pub lowest_once : (set r q : ℕ) → r ≡ lowest widest set → q ≡ lowest widest set → r ≡ q
lowest_once set r q a b = a ∙ sym b

pub width_once : (width r q : ℕ) → r ≡ min width widest → q ≡ min width widest → r ≡ q
width_once width r q a b = a ∙ sym b
