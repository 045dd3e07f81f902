-- The test of the sets goes outward over the open blocks: what it has said so far and what it says of the rest is what it says of all.
use mathlib.Core.Path.{◌≡◌}
use mathlib.Core.Bool.{Bool, ◌&&◌, and_assoc}
use mathlib.Core.List.{List}
use Prim.Native.Nat.{ℕ, zero, suc, ◌-◌, ◌<◌, min}
use native.Mathlib.Omega.{arith}
use Rattle.lanes.specs.declared.said.Block.{Block}
use Rattle.wave.specs.declared.state.Hot.{Hot}
use Rattle.lanes.specs.Blocks.{nesting}
use Rattle.wave.specs.Layout.{block_at, opened}
use Rattle.wave.specs.Wave.{wave_of, preds_of}
use Rattle.fits.specs.FitsTest.{joins, within, with_aside, block_test, path_test, sets_test}

-- one block more: t is its test, and a the lanes inside the next
pub test_next : (all halted inner a : ℕ) (xs : List Block) (ok t : Bool) (i : ℕ) (b : Block) → 0 < i → b ≡ block_at xs (i - 1)
    → t ≡ block_test all inner b → a ≡ with_aside inner b
    → (ok && t && path_test all halted a (opened xs (i - 1))) ≡ (ok && path_test all halted inner (opened xs i))
test_next all halted inner a xs ok t zero b p e f g = absurd (omega arith)
test_next all halted inner a xs ok t (suc i) b p e f g =
    let z : suc i - 1 ≡ i = omega arith in
    rw (f, g, e, z) (and_assoc ok (block_test all inner (block_at xs i)) (path_test all halted (with_aside inner (block_at xs i)) (opened xs i)))

-- past the outermost block: j is the test of the halted lanes, and t1 to t3 those of the predicates
pub test_end : (h : Hot) (all inner : ℕ) (xs : List Block) (ok j t1 t2 t3 : Bool) (i d : ℕ) → i ≡ 0 → d ≡ min h.depth nesting
    → (ok && path_test all h.halted inner (opened xs i)) ≡ path_test all h.halted h.active (opened xs d)
    → j ≡ joins inner h.halted all → t1 ≡ within h.p1 all → t2 ≡ within h.p2 all → t3 ≡ within h.p3 all
    → (ok && j && t1 && t2 && t3) ≡ sets_test all (wave_of h xs) (preds_of h)
test_end h all inner xs ok j t1 t2 t3 i d z e v f a b c =
    let all_of : (ok && joins inner h.halted all) ≡ path_test all h.halted h.active (opened xs (min h.depth nesting)) =
    rw (z, e) at v in
    rw (f, a, b, c, all_of)
