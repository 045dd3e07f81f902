-- A body has 32 to 816 bytes, and both lengths are reached: by one kind with no open block, and by three kinds in 32 open loops.
use mathlib.Core.Path.{◌≡◌, refl}
use Prim.Native.Nat.{ℕ, ◌≤◌}
use mathlib.Core.List.{List, [], ◌∷◌, flat_map}
use mathlib.Core.Bool.{true}
use native.Mathlib.Omega.{arith}
use lib.ListN.{length, replicate}
use Rattle.ground.specs.Tests.{same_list, one_of, all_of}
use Rattle.formats.specs.Format.{bytes_in, value_in, number, both, read_times, size_times, counted, seen_as}
use Rattle.body.specs.Body.{Parts, fault_format, block_format, body_format, set_bytes, bytes_of_body}
use Rattle.body.specs.Layout.{most_kinds, shortest, longest, kind_lists, apart, faults_fit, block_fits, of_layout, starts, is_whole, is_body}
use Rattle.body.proofs.Starts.{body_starts, starts_long, page_few}

pub body_long : (b : List ℕ) → is_body b ≡ true → (shortest ≤ length b) × (length b ≤ longest)
body_long b e = let s = body_starts kind_lists set_bytes b e in let l = starts_long kind_lists set_bytes most_kinds page_few b s.0 in let n = s.1 in (omega arith, omega arith)

-- one kind, no block
abbrev unblocked : Parts
unblocked = record { kernel = 7; place = 1; faults = record { kind = 4; lanes = 1 } ∷ []; active = 3; halted = 0; blocks = [] }

-- three kinds, 32 loops in each other
abbrev loops : Parts
loops =
    record {
      kernel = 7;
      place = 65535;
      faults = record { kind = 1; lanes = 1 } ∷ record { kind = 3; lanes = 2 } ∷ record { kind = 6; lanes = 4 } ∷ [];
      active = 7;
      halted = 0;
      blocks = replicate 32 (record { part = 3; opener = 1; entered = 7; aside = 0; again = 0; left = 0 });
    }

pub shortest_reached : (is_body (bytes_of_body unblocked) ≡ true) × (length (bytes_of_body unblocked) ≡ shortest)
unfolding is_whole starts of_layout faults_fit one_of same_list kind_lists apart all_of block_fits
    body_format fault_format block_format seen_as both number counted read_times size_times bytes_in value_in flat_map
shortest_reached = (refl, refl)

pub longest_reached : (is_body (bytes_of_body loops) ≡ true) × (length (bytes_of_body loops) ≡ longest)
unfolding is_whole starts of_layout faults_fit one_of same_list kind_lists apart all_of block_fits
    body_format fault_format block_format seen_as both number counted read_times size_times bytes_in value_in flat_map
longest_reached = (refl, refl)
