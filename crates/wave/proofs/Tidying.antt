-- The blocks past the open ones are made zeros.
use Rattle.std.proofs.Common.{◌≡◌, ℕ, ◌-◌, ◌≤◌, min, List, [], ◌++◌, length, take, drop, replicate, append-nil, arith, length-take, length-drop}
use Rattle.std.proofs.lemmas.List.{drop_all}
use native.Mathlib.Nat.{min-le_right}
use borrow.Rule.Slice.PartMut.{mid_of, put_mid, post_of}
use Rattle.lanes.specs.declared.said.Block.{Block}
use Rattle.lanes.specs.Blocks.{nesting}
use Rattle.wave.specs.declared.state.Hot.{Hot}
use Rattle.wave.specs.Layout.{no_block}
use Rattle.wave.specs.Wave.{held, tidied}
use Rattle.wave.proofs.Laying.{length-opened, laid_first}
use Rattle.wave.proofs.HotNumbers.{hot_at}

-- the blocks from d on were filled
filled_rest : (d : ℕ) (xs ys : List Block) → d ≤ nesting → length xs ≡ nesting → ys ≡ replicate (length (mid_of d (nesting - d) xs)) no_block
    → put_mid d (nesting - d) xs ys ≡ take d xs ++ replicate (nesting - d) no_block
filled_rest d xs ys h l y =
    let n : length (mid_of d (nesting - d) xs) ≡ nesting - d = simp (length-take, length-drop) (omega arith) in
    let past : post_of d (nesting - d) xs ≡ [] = drop_all _ (drop d xs) (omega (arith, length-drop d xs)) in
    rw (y, n, past, append-nil)

-- a tidy array is its wave's own
pub tidy_end : (h : Hot) (xs ys : List Block) (d : ℕ) → d ≡ min h.depth nesting → length xs ≡ nesting
    → ys ≡ replicate (length (mid_of d (nesting - d) xs)) no_block
    → held (hot_at h h.place h.active d) (put_mid d (nesting - d) xs ys) ≡ tidied h xs
tidy_end h xs ys d e l y =
    let room : d ≤ nesting = omega (arith, min-le_right h.depth nesting) in
    rw (filled_rest d xs ys room l y, ← laid_first xs (replicate (nesting - d) no_block) d (omega arith), ← e, length-opened xs d)
