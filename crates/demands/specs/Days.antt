-- Keys that were written for histories that fault, and when two lists of them agree.
use Rattle.std.specs.Prelude.{List, [], ◌∷◌, ℕ}
use Rattle.demands.specs.Keys.{Faulted, Agree, Writes, body_of}

-- a history that faults, and the key that was written for it into the room that the writer was lent
pub record Key : Type 0 where
  pub history : Faulted
  pub room : List ℕ
  pub wrote : Writes history room

abbrev pub bytes : Key → List ℕ
bytes k = body_of k.wrote

-- as many keys, and each agrees with the one at its place
abbrev pub AllAgree : List Key → List Key → Type 0
AllAgree [] [] = Unit
AllAgree [] (k ∷ ks) = ⊥
AllAgree (k ∷ ks) [] = ⊥
AllAgree (k ∷ ks) (j ∷ js) = Agree k.history j.history × AllAgree ks js
