-- A body of the layout is written from parts that fit the layout, and from no others: reading undoes writing.
use mathlib.Core.Path.{◌≡◌, sym, ap, ◌∙◌}
use Prim.Native.Nat.{ℕ}
use mathlib.Core.List.{List, [], ◌++◌, append-nil}
use mathlib.Core.Bool.{true}
use native.Mathlib.Omega.{arith}
use lib.ListN.{length}
use Rattle.numbers.specs.Numbers.{Bytes}
use Rattle.formats.proofs.Lawful.{whole}
use Rattle.body.specs.Body.{Parts, body_format}
use Rattle.body.specs.Layout.{Kinds, of_layout, is_whole}
use Rattle.body.proofs.Formats.{body_lawful}
use Rattle.body.proofs.Starts.{fits_of, of_fits, starts_body_lem, body_starts}

module _ (w : ℕ) where
  -- parts for which there is room come back from their bytes, and so does their length
  pub parts_back : (t : List ℕ) (p : Parts) → (body_format w).fits p ≡ true → (body_format w).read ((body_format w).write p ++ t) ≡ p
  parts_back t p h = (body_lawful w).back p t h

  pub size_back : (t : List ℕ) (p : Parts) → (body_format w).fits p ≡ true
      → (body_format w).size ((body_format w).write p ++ t) ≡ length ((body_format w).write p)
  size_back t p h = (body_lawful w).taken p t h

  -- THEOREM: no two parts have the same bytes
  pub one_body : (p q : Parts) → (body_format w).fits p ≡ true → (body_format w).fits q ≡ true → (body_format w).write p ≡ (body_format w).write q → p ≡ q
  one_body p q hp hq e = sym (parts_back [] p hp) ∙ ap (λ (l : List ℕ). (body_format w).read (l ++ [])) e ∙ parts_back [] q hq

-- b is written from parts that fit the layout, with room for each number and set
pub record Written (k : Kinds) (w : ℕ) (b : List ℕ) : Type 0 where
  pub parts : Parts
  pub room : (body_format w).fits parts ≡ true
  pub fits : of_layout k parts ≡ true
  pub bytes : (body_format w).write parts ≡ b

module _ (k : Kinds) (w : ℕ) where
  -- THEOREM: bytes are a body of the layout exactly if parts that fit the layout give them ...
  pub body_written : (b : List ℕ) → Bytes b → is_whole k w b ≡ true → Written k w b
  body_written b by e =
      let s = body_starts k w b e in
      record {
        parts = (body_format w).read b;
        room = (body_lawful w).within b by;
        fits = of_fits k ((body_format w).read b) s.0.fits;
        bytes = whole (body_lawful w) b by (sym s.1);
      }

  pub written_body : (b : List ℕ) → Written k w b → is_whole k w b ≡ true
  written_body b x =
      let p = x.parts in
      let e : (body_format w).write p ++ [] ≡ b = append-nil ((body_format w).write p) ∙ x.bytes in
      let q : (body_format w).read b ≡ p = ap (body_format w).read (sym e) ∙ parts_back w [] p x.room in
      let z : (body_format w).size b ≡ length b = ap (body_format w).size (sym e) ∙ size_back w [] p x.room ∙ ap length x.bytes in
      starts_body_lem b (record { fits = rw q (fits_of k p x.fits); room = omega arith }) (sym z)

  -- ... and only one does
  pub written_once : (b : List ℕ) (v x : Written k w b) → v.parts ≡ x.parts
  written_once b v x = one_body w v.parts x.parts v.room x.room (v.bytes ∙ sym x.bytes)
