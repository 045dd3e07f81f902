-- Formats that always take the same number of bytes: their things stand at known places.
use mathlib.Core.Path.{◌≡◌, refl, ap, ap₂, ◌∙◌}
use Prim.Native.Nat.{ℕ, zero, suc, ◌+◌, ◌*◌}
use mathlib.Core.List.{List, [], ◌∷◌, flat_map}
use native.Mathlib.Omega.{arith}
use native.Mathlib.Nat.{mul-suc}
use lib.ListN.{length, drop, length-append}
use lib.Seq.{drop-drop}
use Rattle.formats.specs.Format.{Format, number, both, read_times, size_times, seen_as}
use Rattle.formats.specs.Places.{read_at, each}
use Rattle.formats.proofs.Digits.{length-bytes_in}

-- whatever the bytes are, the format takes w of them, and it writes as many
pub record Takes {A : Type 0} (F : Format A) (w : ℕ) : Type 0 where
  pub all : (s : List ℕ) → F.size s ≡ w
  pub long : (a : A) → length (F.write a) ≡ w

pub number_takes : (w : ℕ) → Takes (number w) w
unfolding number
number_takes w = record { all = λ s. refl; long = length-bytes_in w }

pub both_takes : {A B : Type 0} {F : Format A} {G : Format B} {v w : ℕ} → Takes F v → Takes G w → Takes (both F G) (v + w)
unfolding both
both_takes {F = F} {G = G} f g =
    record {
      all = λ s. ap₂ ◌+◌ (f.all s) (g.all (drop (F.size s) s));
      long = λ p. length-append (F.write p.0) (G.write p.1) ∙ ap₂ ◌+◌ (f.long p.0) (g.long p.1);
    }

pub seen_takes : {A B : Type 0} (to : A → B) (of : B → A) {F : Format A} {w : ℕ} → Takes F w → Takes (seen_as to of F) w
unfolding seen_as
seen_takes to of f = record { all = f.all; long = λ b. f.long (of b) }

module _ {A : Type 0} {F : Format A} {w : ℕ} (f : Takes F w) where
  pub times_take : (n : ℕ) (s : List ℕ) → size_times F n s ≡ w * n
  unfolding size_times
  times_take zero s = omega arith
  times_take (suc n) s = let e = f.all s in let ih = times_take n (drop (F.size s) s) in let m = mul-suc w n in omega arith

  pub times_long : (xs : List A) → length (flat_map F.write xs) ≡ w * length xs
  unfolding flat_map
  times_long [] = omega arith
  times_long (x ∷ xs) =
      let a = length-append (F.write x) (flat_map F.write xs) in
      let e = f.long x in
      let ih = times_long xs in
      let m = mul-suc w (length xs) in
      omega arith

  -- so many things are read w bytes apart
  pub times_places : (n : ℕ) (s : List ℕ) (p : ℕ) → read_times F n (drop p s) ≡ each (read_at F s) w p n
  unfolding read_times each read_at
  times_places zero s p = refl
  times_places (suc n) s p = rw (f.all (drop p s), drop-drop w p s) (ap (◌∷◌ (F.read (drop p s))) (times_places n s (p + w)))
