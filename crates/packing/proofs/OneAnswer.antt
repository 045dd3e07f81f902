-- Each promise of the crate allows one answer.
use mathlib.Core.Path.{◌≡◌, sym, ◌∙◌}
use Prim.Native.Nat.{ℕ}
use mathlib.Core.List.{List}
use Rattle.wave.specs.declared.state.State.{State}
use Rattle.packing.specs.Words.{state_in, words_of, word_count}

pub state_of_once : (words : List ℕ) (r q : State) → r ≡ state_in words → q ≡ state_in words → r ≡ q
state_of_once words r q a b = a ∙ sym b

pub words_of_once : (state : State) (r q : List ℕ) → r ≡ words_of state → q ≡ words_of state → r ≡ q
words_of_once state r q a b = a ∙ sym b

pub word_count_once : (depth r q : ℕ) → r ≡ word_count depth → q ≡ word_count depth → r ≡ q
word_count_once depth r q a b = a ∙ sym b
