-- Bytes compared one by one: what is left of two lists of one length is the same exactly if the lists are.
use mathlib.Core.Path.{◌≡◌, refl, sym, ap, ap₂, ◌∙◌}
use Prim.Native.Nat.{ℕ, suc, ◌+◌, ◌≤◌, ◌<◌}
use mathlib.Core.Bool.{Bool, true, false, ◌&&◌}
use mathlib.Core.List.{List}
use native.Mathlib.Numerals.{add-one}
use native.Mathlib.Omega.{arith}
use lib.Dec.{eqb}
use lib.ListN.{length, get_or, drop, drop_of_length-le}
use lib.Seq.{drop-cons}
use borrow.Author.Tests.{eq-eqb, ne_eqb}
use Rattle.ground.specs.Tests.{same_list}

pub record Comparing (xs ys : List ℕ) (k : ℕ) : Type 0 where
  pub here : k ≤ length xs
  pub long : length xs ≡ length ys
  pub rest : same_list xs ys ≡ same_list (drop k xs) (drop k ys)

pub comparing_start : {xs ys : List ℕ} → length xs ≡ length ys → Comparing xs ys 0
comparing_start e = record { here = omega arith; long = e; rest = refl }

module _ {xs ys : List ℕ} {k : ℕ} (g : Comparing xs ys k) where
  comparing_step : k < length xs → same_list xs ys ≡ (eqb (get_or xs k 0) (get_or ys k 0) && same_list (drop (suc k) xs) (drop (suc k) ys))
  unfolding same_list
  comparing_step h = g.rest ∙ ap₂ same_list (drop-cons xs k 0 h) (drop-cons ys k 0 (omega (arith, g.long)))

  pub comparing_differ : k < length xs → (get_or xs k 0 ≡ get_or ys k 0 → ⊥) → false ≡ same_list xs ys
  comparing_differ h d = sym (comparing_step h ∙ ap (λ (b : Bool). b && same_list (drop (suc k) xs) (drop (suc k) ys)) (ne_eqb _ _ d))

  pub comparing_turn : k < length xs → get_or xs k 0 ≡ get_or ys k 0 → Comparing xs ys (k + 1)
  comparing_turn h e =
      rw add-one
      (record {
        here = omega arith;
        long = g.long;
        rest = comparing_step h ∙ ap (λ (b : Bool). b && same_list (drop (suc k) xs) (drop (suc k) ys)) (eq-eqb _ _ e);
      })

  pub comparing_end : length xs ≤ k → true ≡ same_list xs ys
  unfolding same_list
  comparing_end h =
      sym (g.rest ∙ ap₂ same_list (drop_of_length-le xs {i = k} h) (drop_of_length-le ys {i = k} (omega (arith, g.long))))
