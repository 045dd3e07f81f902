-- Every field of a body stands where the page's order puts it, and the front says how long the body is.
use mathlib.Core.Path.{◌≡◌, ap, ◌∙◌}
use Prim.Native.Nat.{ℕ, ◌+◌, ◌*◌}
use mathlib.Core.List.{List, flat_map}
use native.Mathlib.Omega.{arith}
use lib.ListN.{length, drop, length-append}
use lib.Seq.{drop-drop}
use Rattle.numbers.specs.Numbers.{number_at}
use Rattle.formats.specs.Format.{bytes_in, number, both, counted, seen_as, value_in, size_times}
use Rattle.formats.specs.Places.{each}
use Rattle.formats.proofs.Digits.{length-bytes_in}
use Rattle.formats.proofs.Each.{length-each}
use Rattle.formats.proofs.Sizes.{times_take, times_long, times_places}
use Rattle.formats.proofs.Words.{four_value}
use Rattle.body.specs.Body.{Parts, fault_format, block_format, body_format}
use Rattle.body.specs.Layout.{fault_bytes, block_bytes, length_of}
use Rattle.body.specs.Places.{kernel_place, place_place, kinds_place, count_at, active_place, depth_place, blocks_place, depth_at, fault_at, block_at}
use Rattle.body.proofs.Formats.{fault_takes, block_takes}

sum : (w a b : ℕ) → 4 + (4 + ((4 + a) + (w + (w + (4 + b))))) ≡ 16 + 2 * w + a + b
sum w a b = omega arith

module _ (w : ℕ) (s : List ℕ) where
  pub kernel_place_lem : ((body_format w).read s).kernel ≡ number_at s kernel_place
  unfolding body_format seen_as both number
  kernel_place_lem = four_value s 0

  pub place_place_lem : ((body_format w).read s).place ≡ number_at s place_place
  unfolding body_format seen_as both number
  place_place_lem = four_value s 4

  -- ---- the fault kinds

  count_value : value_in 4 (drop 4 (drop 4 s)) ≡ count_at s
  unfolding count_at
  count_value = ap (value_in 4) (drop-drop 4 4 s) ∙ four_value s 8

  kinds_start : drop 4 (drop 4 (drop 4 s)) ≡ drop kinds_place s
  kinds_start = ap (drop 4) (drop-drop 4 4 s) ∙ drop-drop 4 8 s

  pub faults_place : ((body_format w).read s).faults ≡ each (fault_at w s) (fault_bytes w) kinds_place (count_at s)
  unfolding body_format seen_as both number counted
  faults_place = rw (count_value, kinds_start) (times_places (fault_takes w) (count_at s) s kinds_place)

  pub count_faults : length ((body_format w).read s).faults ≡ count_at s
  count_faults = ap length faults_place ∙ length-each (fault_at w s) (fault_bytes w) kinds_place (count_at s)

  -- ---- the blocks

  -- the bytes behind the fault kinds, and behind the sets
  behind_kinds : drop (4 + size_times (fault_format w) (value_in 4 (drop 4 (drop 4 s))) (drop 4 (drop 4 (drop 4 s)))) (drop 4 (drop 4 s)) ≡ drop (active_place w (count_at s)) s
  behind_kinds =
      let n = count_at s in
      let m : 8 + (4 + fault_bytes w * n) ≡ active_place w n = omega arith in
      rw (count_value, kinds_start, times_take (fault_takes w) n (drop kinds_place s), drop-drop 4 4 s)
      (drop-drop (4 + fault_bytes w * n) 8 s ∙ ap (λ (k : ℕ). drop k s) m)

  behind_sets : (u : List ℕ) → u ≡ drop (active_place w (count_at s)) s → drop w (drop w u) ≡ drop (depth_place w (count_at s)) s
  behind_sets u e =
      let a = active_place w (count_at s) in
      ap (λ (v : List ℕ). drop w (drop w v)) e ∙ ap (drop w) (drop-drop w a s) ∙ drop-drop w (a + w) s

  depth_value : (u : List ℕ) → u ≡ drop (depth_place w (count_at s)) s → value_in 4 u ≡ depth_at w s
  unfolding depth_at
  depth_value u e = ap (value_in 4) e ∙ four_value s (depth_place w (count_at s))

  blocks_start : (u : List ℕ) → u ≡ drop (depth_place w (count_at s)) s → drop 4 u ≡ drop (blocks_place w (count_at s)) s
  blocks_start u e = ap (drop 4) e ∙ drop-drop 4 (depth_place w (count_at s)) s

  pub blocks_place_lem : ((body_format w).read s).blocks ≡ each (block_at w s) (block_bytes w) (blocks_place w (count_at s)) (depth_at w s)
  unfolding body_format seen_as both number counted
  blocks_place_lem =
      let e = behind_sets _ behind_kinds in
      rw (depth_value _ e, blocks_start _ e) (times_places (block_takes w) (depth_at w s) s (blocks_place w (count_at s)))

  pub depth_blocks : length ((body_format w).read s).blocks ≡ depth_at w s
  depth_blocks = ap length blocks_place_lem ∙ length-each (block_at w s) (block_bytes w) (blocks_place w (count_at s)) (depth_at w s)

  -- ---- the length

  pub size_place : (body_format w).size s ≡ length_of w (count_at s) (depth_at w s)
  unfolding body_format seen_as both number counted
  size_place =
      let e = behind_sets _ behind_kinds in
      rw (depth_value _ e, times_take (block_takes w) (depth_at w s) _, count_value, times_take (fault_takes w) (count_at s) _)
      (sum w (fault_bytes w * count_at s) (block_bytes w * depth_at w s))

-- the bytes of parts are as many
pub length-body : (w : ℕ) (p : Parts) → length ((body_format w).write p) ≡ length_of w (length p.faults) (length p.blocks)
unfolding body_format seen_as both number counted
length-body w p =
    let fs = flat_map (fault_format w).write p.faults in
    let bs = flat_map (block_format w).write p.blocks in
    let n : (k : ℕ) → length (bytes_in 4 k) ≡ 4 = length-bytes_in 4 in
    let s : (k : ℕ) → length (bytes_in w k) ≡ w = length-bytes_in w in
    simp (length-append, n, s, times_long (fault_takes w) p.faults, times_long (block_takes w) p.blocks)
    (sum w (fault_bytes w * length p.faults) (block_bytes w * length p.blocks))
