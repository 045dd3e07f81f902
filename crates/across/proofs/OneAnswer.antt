-- Any two results that the promise of a public function allows are equal.
use mathlib.Core.Path.{◌≡◌, sym, ◌∙◌}
use mathlib.Core.List.{List}
use Prim.Native.Nat.{ℕ, min}
use lib.ListN.{get_or}
use Rattle.lanes.specs.Sets.{widest}
use Rattle.lanes.specs.EachLane.{by_lane}
use Rattle.instructions.specs.declared.instr.WaveOp.{WaveOp}
use Rattle.across.specs.Across.{across_of, shuffle_of}

pub wave_results_once : (op : WaveOp) (numbers : List ℕ) (t width : ℕ) (r q : List ℕ)
    → r ≡ by_lane (min width widest) (across_of op (min width widest) t (λ j. get_or numbers j 0))
    → q ≡ by_lane (min width widest) (across_of op (min width widest) t (λ j. get_or numbers j 0)) → r ≡ q
wave_results_once op numbers t width r q a b = a ∙ sym b

pub shuffle_results_once : (numbers named : List ℕ) (t width : ℕ) (r q : List ℕ)
    → r ≡ by_lane (min width widest) (shuffle_of (min width widest) t (λ j. get_or numbers j 0) (λ j. get_or named j 0))
    → q ≡ by_lane (min width widest) (shuffle_of (min width widest) t (λ j. get_or numbers j 0) (λ j. get_or named j 0)) → r ≡ q
shuffle_results_once numbers named t width r q a b = a ∙ sym b
