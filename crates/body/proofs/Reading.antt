-- What the code reads of a body, in edition 1, at the places of its fields.
use mathlib.Core.Path.{◌≡◌, refl, sym, ap, ◌∙◌}
use Prim.Native.Nat.{ℕ, ◌+◌, ◌*◌, ◌≤◌, ◌<◌}
use mathlib.Core.List.{List}
use mathlib.Core.Bool.{◌&&◌, ◌||◌, and_assoc}
use native.Mathlib.Omega.{arith}
use lib.Dec.{leb, eqb}
use lib.ListN.{length, get_or, get_or-eq_default}
use lib.Seq.{drop-drop}
use Rattle.numbers.specs.Numbers.{number_at}
use Rattle.formats.specs.Format.{number, both, seen_as}
use Rattle.formats.specs.Places.{read_at}
use Rattle.formats.proofs.Each.{get_d_each}
use Rattle.formats.proofs.Words.{four_value}
use Rattle.lanes.specs.declared.said.Fault.{Fault}
use Rattle.body.specs.Body.{set_bytes, fault_format, block_format, parts_at, no_fault}
use Rattle.body.specs.Layout.{last_place, block_fits}
use Rattle.lanes.specs.Blocks.{before_else, loop_part}
use Rattle.body.specs.Places.{kinds_place, count_at, depth_at, fault_at, block_at}
use Rattle.body.proofs.Places.{faults_place, count_faults, depth_blocks}

module _ (s : List ℕ) where
  pub count_read : number_at s 8 ≡ length (parts_at s).faults
  unfolding count_at
  count_read = sym (count_faults set_bytes s)

  pub depth_read : (n : ℕ) → n ≡ length (parts_at s).faults → number_at s (20 + 8 * n) ≡ length (parts_at s).blocks
  unfolding depth_at
  depth_read n e =
      let c = count_faults set_bytes s in
      let p : 20 + 8 * n ≡ kinds_place + 8 * count_at s + 4 + 4 = omega arith in
      ap (number_at s) p ∙ sym (depth_blocks set_bytes s)

  -- a fault kind, k of them behind the first
  fault_read_at : (p : ℕ) → record { kind = number_at s p; lanes = number_at s (p + 4) } ≡ fault_at set_bytes s p
  unfolding read_at fault_format seen_as both number
  fault_read_at p = sym (rw (drop-drop 4 p s, four_value s p, four_value s (p + 4)) refl)

  pub fault_read : (k kind lanes : ℕ) → k < length (parts_at s).faults → kind ≡ number_at s (12 + 8 * k) → lanes ≡ number_at s (12 + 8 * k + 4)
      → record { kind = kind; lanes = lanes } ≡ get_or (parts_at s).faults k no_fault
  fault_read k kind lanes h a b =
      let c = count_faults set_bytes s in
      (λ i. record { kind = a i; lanes = b i })
      ∙ fault_read_at (12 + 8 * k)
      ∙ sym (ap (λ (fs : List Fault). get_or fs k no_fault) (faults_place set_bytes s)
      ∙ get_d_each (fault_at set_bytes s) 8 12 (count_at s) k no_fault (omega arith))

  pub fault_past : (k : ℕ) → length (parts_at s).faults ≤ k → no_fault ≡ get_or (parts_at s).faults k no_fault
  fault_past k h = sym (get_or-eq_default (parts_at s).faults no_fault h)

  -- a block
  block_read_at : (p : ℕ)
      → block_at set_bytes s p
      ≡ record {
        part = number_at s p;
        opener = number_at s (p + 4);
        entered = number_at s (p + 8);
        aside = number_at s (p + 12);
        again = number_at s (p + 16);
        left = number_at s (p + 20);
      }
  unfolding read_at block_format seen_as both number
  block_read_at p =
      let e8 : p + 4 + 4 ≡ p + 8 = omega arith in
      let e12 : p + 8 + 4 ≡ p + 12 = omega arith in
      let e16 : p + 12 + 4 ≡ p + 16 = omega arith in
      let e20 : p + 16 + 4 ≡ p + 20 = omega arith in
      let v = four_value s in
      rw (
        drop-drop 4 p s,
        drop-drop 4 (p + 4) s,
        e8,
        drop-drop 4 (p + 8) s,
        e12,
        drop-drop 4 (p + 12) s,
        e16,
        drop-drop 4 (p + 16) s,
        e20,
        v p,
        v (p + 4),
        v (p + 8),
        v (p + 12),
        v (p + 16),
        v (p + 20),
      )

  pub block_read : (p part opener again : ℕ) → part ≡ number_at s p → opener ≡ number_at s (p + 4) → again ≡ number_at s (p + 16)
      → (((leb opener last_place && leb before_else part) && leb part loop_part) && (eqb part loop_part || eqb again 0)) ≡ block_fits (block_at set_bytes s p)
  unfolding block_fits
  block_read p part opener again a b c = rw (block_read_at p, a, b, c) (simp and_assoc)
