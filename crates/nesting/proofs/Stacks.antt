-- The stack of open blocks in its slots, against the list of them: putting a block on, taking one off, turning the innermost to another part.
use Prim.Native.Nat.{ℕ, ◌+◌, ◌-◌, ◌≤◌, ◌<◌}
use native.Mathlib.Omega.{arith}
use mathlib.Core.Path.{◌≡◌, refl, sym, ap, ◌∙◌}
use mathlib.Core.List.{List, [], ◌∷◌}
use lib.ListN.{length, get_or, set, length-set, get_or-replicate}
use lib.Seq.{get_or-set_same, get_or-set_other, set-set, set-get_or}
use lib.Dec.{ltb}
use borrow.Author.Tests.{lt-ltb}
use Rattle.std.specs.Prelude.{Option, Some, None}
use Rattle.lanes.specs.Blocks.{nesting, loop_part}
use Rattle.refusals.specs.declared.Rule.{Rule}
use Rattle.refusals.specs.Table.{broken}
use Rattle.blocks.specs.declared.rules.Part.{Part}
use Rattle.nesting.specs.declared.places.OpenBlock.{OpenBlock}
use Rattle.nesting.specs.declared.places.Stack.{Stack}
use Rattle.blocks.specs.Open.{Open, opened_at, part_number, in_loop, one_if_loop, loops, innermost}
use Rattle.blocks.specs.Scan.{ended}
use Rattle.nesting.specs.OpenAt.{block_of, unused, slots, stack_of}
use Rattle.blocks.specs.Levels.{around}
use Rattle.nesting.specs.Stacks.{Holds, Turned}
use Rattle.std.proofs.lemmas.Option.{none-some}
use Rattle.blocks.proofs.Refusing.{refused_not_fine, same_place}

-- a stack that holds the blocks is their stack
pub holds_is : (s : Stack) (o : List Open) → Holds s o → s ≡ stack_of o
holds_is s o h = λ i. record { depth = h.depth_is i; loops = h.loops_is i; blocks = h.blocks_are i }

-- equal stores to equal lists
store : {xs ys : List OpenBlock} {i j : ℕ} {v w : OpenBlock} → xs ≡ ys → i ≡ j → v ≡ w → set xs i v ≡ set ys j w
store {xs} {ys} {i} {j} {v} {w} e f g =
    ap (λ (l : List OpenBlock). set l i v) e ∙ ap (λ (k : ℕ). set ys k v) f ∙ ap (λ (u : OpenBlock). set ys j u) g

-- there is a slot for each block that may be open
pub length-slots : (o : List Open) → length (slots o) ≡ nesting
unfolding slots
length-slots [] = refl
length-slots (b ∷ o) = length-set (slots o) (length o) (block_of b) ∙ length-slots o

-- past the open blocks there is none
slots_past : (o : List Open) (i : ℕ) → length o ≤ i → i < nesting → get_or (slots o) i unused ≡ unused
unfolding slots
slots_past [] i h k = get_or-replicate nesting i unused unused k
slots_past (x ∷ o) i h k =
    get_or-set_other (slots o) (length o) i (block_of x) unused (λ e. omega arith) ∙ slots_past o i (omega arith) k

-- the innermost block stands in the last slot that is filled, and the others below it
pub slots_top : (b : Open) (o : List Open) → length o < nesting → get_or (slots (b ∷ o)) (length o) unused ≡ block_of b
unfolding slots
slots_top b o h = get_or-set_same (slots o) (length o) (block_of b) unused (omega (arith, length-slots o))

-- what was put is taken away again
slots_back : (x : Open) (o : List Open) → length o < nesting → set (slots (x ∷ o)) (length o) unused ≡ slots o
unfolding slots
slots_back x o h =
    set-set (slots o) (length o) (block_of x) unused
    ∙ ap (λ (u : OpenBlock). set (slots o) (length o) u) (sym (slots_past o (length o) (omega arith) h))
    ∙ set-get_or (slots o) (length o) unused

-- a block is put on
pub push : {s : Stack} {o : List Open} (part : Part) (at : ℕ) {m : ℕ} → Holds s o → s.depth < nesting → m ≡ one_if_loop part s.loops
    → Holds (record { depth = s.depth + 1; loops = m; blocks = set s.blocks s.depth (record { part = part; opener = at }) }) (opened_at part at ∷ o)
unfolding slots loops
push part at h lt f =
    record {
      depth_is = omega (arith, h.depth_is);
      at_most = omega (arith, h.depth_is);
      loops_is = f ∙ ap (one_if_loop part) h.loops_is;
      blocks_are = store h.blocks_are h.depth_is refl;
    }

-- the block in the last slot
top_is : (s : Stack) (k : Part) (p : ℕ) (o : List Open) → Holds s (opened_at k p ∷ o)
    → get_or s.blocks (s.depth - 1) unused ≡ record { part = k; opener = p }
top_is s k p o h =
    let d : s.depth - 1 ≡ length o = omega (arith, h.depth_is) in
    ap (λ (l : List OpenBlock). get_or l (s.depth - 1) unused) h.blocks_are ∙ ap (λ (i : ℕ). get_or (slots (opened_at k p ∷ o)) i unused) d
    ∙ slots_top (opened_at k p) o h.at_most

pub none_inside : (s : Stack) (o : List Open) → Holds s o → s.depth ≡ 0 → None ≡ innermost o
unfolding innermost
none_inside s [] h e = refl
none_inside s (opened_at k p ∷ o) h e = absurd (omega (arith, h.depth_is))

pub some_inside : (s : Stack) (o : List Open) → Holds s o → (s.depth ≡ 0 → ⊥) → Some (get_or s.blocks (s.depth - 1) unused).part ≡ innermost o
unfolding innermost
some_inside s [] h ne = absurd (ne h.depth_is)
some_inside s (opened_at k p ∷ o) h ne = ap (λ (b : OpenBlock). Some b.part) (top_is s k p o h)

-- the innermost block is taken off: a loop is one loop less, an IF is not
abbrev pub less_one : Part → ℕ → ℕ
less_one Part.Before n = n
less_one Part.After n = n
less_one Part.Loop n = n - 1

one_less : (k : Part) (n : ℕ) → less_one k (one_if_loop k n) ≡ n
one_less Part.Before n = refl
one_less Part.After n = refl
one_less Part.Loop n = omega arith

-- by the part's number
one_less_loop : (k : Part) (m : ℕ) → part_number k ≡ loop_part → one_if_loop k m - 1 ≡ m
one_less_loop Part.Before m e = absurd (omega arith)
one_less_loop Part.After m e = absurd (omega arith)
one_less_loop Part.Loop m e = omega arith

less_none : (k : Part) (m : ℕ) → (part_number k ≡ loop_part → ⊥) → one_if_loop k m ≡ m
less_none Part.Before m e = refl
less_none Part.After m e = refl
less_none Part.Loop m e = absurd (e refl)

pub pop : (s : Stack) (o : List Open) {k : Part} {m : ℕ} → Holds s o → (s.depth ≡ 0 → ⊥) → (get_or s.blocks (s.depth - 1) unused).part ≡ k → m ≡ less_one k s.loops
    → Holds (record { depth = s.depth - 1; loops = m; blocks = set s.blocks (s.depth - 1) unused }) (around o)
unfolding around loops
pop s [] h ne t e = absurd (ne h.depth_is)
pop s (opened_at j p ∷ o) {k} {m} h ne t e =
    let d : s.depth - 1 ≡ length o = omega (arith, h.depth_is) in
    let lt : length o < nesting = h.at_most in
    let jk : k ≡ j = sym t ∙ ap (λ (b : OpenBlock). b.part) (top_is s j p o h) in
    record {
      depth_is = d;
      at_most = omega arith;
      loops_is = e ∙ ap (λ (x : Part). less_one x s.loops) jk ∙ ap (less_one j) h.loops_is ∙ one_less j (loops o);
      blocks_are = store h.blocks_are d refl ∙ slots_back (opened_at j p) o lt;
    }

pub pop_none : (s : Stack) (o : List Open) → Holds s o → s.depth ≡ 0 → Holds s (around o)
unfolding around
pop_none s [] h e = h
pop_none s (opened_at k p ∷ o) h e = absurd (omega (arith, h.depth_is))

-- the innermost block turns to another part; where none is open, nothing turns
pub turn_none : (s : Stack) (o n : List Open) {k : Option Part} → Holds s o → Turned k o n → s.depth ≡ 0 → Holds s n
unfolding ended
turn_none s [] [] h t e = h
turn_none s [] (opened_at j p ∷ n) h t e = refused_not_fine (broken Rule.Unclosed p) t.at_end
turn_none s (opened_at j p ∷ o) n h t e = absurd (omega (arith, h.depth_is))

-- and where none is open afterwards, none was before
pub turn_out : (s : Stack) (o n : List Open) → Holds s o → Turned None o n → Holds s n
unfolding ended innermost
turn_out s [] [] h t = h
turn_out s (opened_at j p ∷ o) [] h t = refused_not_fine (broken Rule.Unclosed p) (sym t.at_end)
turn_out s o (opened_at j p ∷ n) h t = absurd (none-some j (sym t.inside_is))

pub turn : (s : Stack) (o n : List Open) {k : Part} → Holds s o → Turned (Some k) o n → 0 < s.depth
    → Holds (record {
      depth = s.depth;
      loops = s.loops;
      blocks = set s.blocks (s.depth - 1) (record { part = k; opener = (get_or s.blocks (s.depth - 1) unused).opener });
    }) n
unfolding ended innermost around slots
turn s [] n h t lt = absurd (omega (arith, h.depth_is))
turn s (opened_at j p ∷ o) [] h t lt = refused_not_fine (broken Rule.Unclosed p) (sym t.at_end)
turn s (opened_at j p ∷ o) (opened_at i q ∷ n) {k} h t lt =
    let d : s.depth - 1 ≡ length o = omega (arith, h.depth_is) in
    let r : n ≡ o = t.round in
    let pq : p ≡ q = sym (same_place (broken Rule.Unclosed q) (broken Rule.Unclosed p) t.at_end) in
    let l : length o ≡ length n = ap length (sym r) in
    let ki : k ≡ i = cc t.inside_is in
    let b : ◌≡◌ {A = OpenBlock} (record { part = k; opener = (get_or s.blocks (s.depth - 1) unused).opener }) (record { part = i; opener = q }) =
    λ x. record { part = ki x; opener = (ap (λ (y : OpenBlock). y.opener) (top_is s j p o h) ∙ pq) x } in
    record {
      depth_is = omega (arith, h.depth_is);
      at_most = omega (arith, h.at_most);
      loops_is = h.loops_is ∙ sym t.loops_same;
      blocks_are = store h.blocks_are d b ∙ set-set (slots o) (length o) _ _ ∙ store (ap slots (sym r)) l refl;
    }

-- no more loops than blocks
pub loops_le : (o : List Open) → loops o ≤ length o
unfolding loops
loops_le [] = omega arith
loops_le (opened_at Part.Before p ∷ o) = omega (arith, loops_le o)
loops_le (opened_at Part.After p ∷ o) = omega (arith, loops_le o)
loops_le (opened_at Part.Loop p ∷ o) = omega (arith, loops_le o)

-- there is a loop exactly if their number is not 0
pub in_loop_is : (o : List Open) → ltb 0 (loops o) ≡ in_loop o
unfolding loops in_loop
in_loop_is [] = refl
in_loop_is (opened_at Part.Before p ∷ o) = in_loop_is o
in_loop_is (opened_at Part.After p ∷ o) = in_loop_is o
in_loop_is (opened_at Part.Loop p ∷ o) = lt-ltb 0 (loops o + 1) (omega arith)
