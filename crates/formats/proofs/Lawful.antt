-- What holds of a format: reading undoes writing whatever follows, what follows a thing changes nothing, whether it is looked at from
-- the thing or from all the bytes, and bytes are those of what they say.
use mathlib.Core.Path.{◌≡◌, sym, ap, ◌∙◌}
use Prim.Native.Nat.{ℕ, ◌≤◌}
use mathlib.Core.Bool.{true}
use mathlib.Core.List.{List, [], ◌++◌, append-nil}
use native.Mathlib.Omega.{arith}
use lib.ListN.{length, drop, drop_of_length-le}
use lib.Seq.{drop_at, get_or-drop}
use Rattle.numbers.specs.Numbers.{Bytes}
use Rattle.formats.specs.Format.{Format}

pub record Lawful {A : Type 0} (F : Format A) : Type 0 where
  pub back : (a : A) (t : List ℕ) → F.fits a ≡ true → F.read (F.write a ++ t) ≡ a
  pub taken : (a : A) (t : List ℕ) → F.fits a ≡ true → F.size (F.write a ++ t) ≡ length (F.write a)
  pub front : (s t : List ℕ) → F.size s ≤ length s → F.read (s ++ t) ≡ F.read s
  pub still : (s t : List ℕ) → F.size s ≤ length s → F.size (s ++ t) ≡ F.size s
  pub alone : (s t : List ℕ) → F.size (s ++ t) ≤ length s → (F.read s ≡ F.read (s ++ t)) × (F.size s ≡ F.size (s ++ t))
  pub held : (s : List ℕ) → Bytes s → F.size s ≤ length s → F.write (F.read s) ++ drop (F.size s) s ≡ s
  pub within : (s : List ℕ) → Bytes s → F.fits (F.read s) ≡ true

pub bytes_drop : (s : List ℕ) (k : ℕ) → Bytes s → Bytes (drop k s)
bytes_drop s k by i = rw (get_or-drop k s i 0) (by _)

-- ---- what follows from it

module _ {A : Type 0} {F : Format A} (L : Lawful F) where
  -- what stands behind a thing
  pub behind : (a : A) (t : List ℕ) → F.fits a ≡ true → drop (F.size (F.write a ++ t)) (F.write a ++ t) ≡ t
  behind a t h = drop_at (F.write a) t _ (sym (L.taken a t h))

  -- THEOREM: bytes that are taken whole are those of what they say
  pub whole : (s : List ℕ) → Bytes s → F.size s ≡ length s → F.write (F.read s) ≡ s
  whole s by e =
      let d : drop (F.size s) s ≡ [] = drop_of_length-le s {i = F.size s} (omega arith) in
      sym (append-nil (F.write (F.read s))) ∙ ap (λ (t : List ℕ). F.write (F.read s) ++ t) (sym d) ∙ L.held s by (omega arith)
