-- Parts that stand one behind another: where each begins and where they end, and that what is read there is the parts.
use mathlib.Core.Path.{◌≡◌, refl, sym, ap, ap₂}
use Prim.Native.Nat.{ℕ, zero, suc, ◌+◌, ◌*◌, ◌≤◌, ◌<◌}
use mathlib.Core.List.{List, [], ◌∷◌, flatten}
use native.Mathlib.Omega.{arith}
use native.Mathlib.Numerals.{add-one}
use lib.ListN.{length, get_or, take, length-append}
use lib.Seq.{take_all}
use Rattle.numbers.specs.Numbers.{numbers_at, Bytes, Small}
use Rattle.numbers.proofs.Numerals.{small_nil, small_append, Stand, stand_front, stand_rest, Holds, holds_none, holds_join}
use Rattle.numbers.proofs.Words.{length_numbers, numbers_back, numbers_hold, numbers_small}
use Rattle.captures.specs.Capture.{part_count, header_bytes, counts_of, counts_in, in_order}
use Rattle.captures.specs.Read.{counts_at, parts_from, end_from, place_of}

-- ---- where they end

pub end_above : (at : ℕ) (ns : List ℕ) → at ≤ end_from at ns
unfolding end_from
end_above at [] = omega arith
end_above at (n ∷ ns) = omega (arith, end_above (at + 4 * n) ns)

pub end_length : (at : ℕ) (ps : List (List ℕ)) → end_from at (counts_of ps) ≡ at + 4 * length (flatten ps)
unfolding end_from flatten
end_length at [] = omega arith
end_length at (p ∷ ps) = omega (arith, end_length (at + 4 * length p) ps, length-append p (flatten ps))

-- ---- where a part begins, and the file ends

end_more : (at k : ℕ) (ns : List ℕ) → end_from at (take (suc k) ns) ≡ end_from at (take k ns) + 4 * get_or ns k 0
unfolding end_from
end_more at zero [] = omega arith
end_more at (suc k) [] = omega arith
end_more at zero (n ∷ ns) = refl
end_more at (suc k) (n ∷ ns) = end_more (at + 4 * n) k ns

module _ (ns : List ℕ) where
  pub place_none : header_bytes ≡ place_of ns 0
  unfolding place_of end_from
  place_none = refl

  -- behind one part more
  pub place_more : (at k : ℕ) → at ≡ place_of ns k → at + 4 * get_or ns k 0 ≡ place_of ns (k + 1)
  unfolding place_of
  place_more at k e = rw (add-one k, e) (sym (end_more header_bytes k ns))

  -- behind all
  pub place_end : length ns ≡ part_count → place_of ns part_count ≡ end_from header_bytes ns
  unfolding place_of
  place_end l = ap (end_from header_bytes) (take_all part_count ns (omega arith))

-- the counts of a file, by name and in order
pub ordered : (f : List ℕ) → in_order (counts_in (counts_at f)) ≡ counts_at f
unfolding counts_in counts_at numbers_at
ordered f = refl

-- ---- what is read

module _ (f : List ℕ) where
  pub parts_nth : (at k : ℕ) (ns : List ℕ) → k < length ns → get_or (parts_from f at ns) k [] ≡ numbers_at f (end_from at (take k ns)) (get_or ns k 0)
  unfolding parts_from end_from
  parts_nth at k [] h = absurd (omega arith)
  parts_nth at zero (n ∷ ns) h = refl
  parts_nth at (suc k) (n ∷ ns) h = parts_nth (at + 4 * n) k ns (omega arith)

  pub length-parts : (at : ℕ) (ns : List ℕ) → length (parts_from f at ns) ≡ length ns
  unfolding parts_from
  length-parts at [] = refl
  length-parts at (n ∷ ns) = ap suc (length-parts (at + 4 * n) ns)

  pub counts_parts : (at : ℕ) (ns : List ℕ) → counts_of (parts_from f at ns) ≡ ns
  unfolding parts_from
  counts_parts at [] = refl
  counts_parts at (n ∷ ns) = ap₂ ◌∷◌ (length_numbers f at n) (counts_parts (at + 4 * n) ns)

  module _ (by : Bytes f) where
    pub parts_small : (at : ℕ) (ns : List ℕ) → Small (flatten (parts_from f at ns))
    unfolding parts_from flatten
    parts_small at [] = small_nil
    parts_small at (n ∷ ns) = small_append _ _ (numbers_small f at n by) (parts_small (at + 4 * n) ns)

    -- the bytes of a file are those of what is read
    pub parts_hold : (at : ℕ) (ns : List ℕ) → end_from at ns ≤ length f → Holds f at (flatten (parts_from f at ns)) (end_from at ns)
    unfolding parts_from end_from flatten
    parts_hold at [] h = holds_none f at
    parts_hold at (n ∷ ns) h =
        holds_join f at (at + 4 * n) (end_from (at + 4 * n) ns) _ _
        (numbers_hold f at n by (omega (arith, end_above (at + 4 * n) ns))) (parts_hold (at + 4 * n) ns h)

-- parts that stand somewhere are read there
pub parts_back : {s t : List ℕ} (ps : List (List ℕ)) (at : ℕ) → Stand s t at (flatten ps) → parts_from s at (counts_of ps) ≡ ps
unfolding parts_from flatten
parts_back [] at h = refl
parts_back (p ∷ ps) at h =
    ap₂ ◌∷◌ (numbers_back p at (stand_front p (flatten ps) h)) (parts_back ps (at + 4 * length p) (stand_rest p (flatten ps) h))
