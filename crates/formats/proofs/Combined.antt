-- Formats put together of lawful ones are lawful.
use mathlib.Core.Path.{◌≡◌, refl, sym, ap, ap₂, ◌∙◌}
use Prim.Native.Nat.{ℕ, zero, suc, ◌+◌, ◌≤◌}
use mathlib.Core.Bool.{true}
use mathlib.Core.List.{List, [], ◌∷◌, ◌++◌, append_assoc, flat_map}
use native.Mathlib.Omega.{arith}
use lib.Dec.{ltb}
use lib.ListN.{length, drop, length-append, length-drop}
use lib.Seq.{drop_at, drop-drop, drop-append-le}
use borrow.Author.Tests.{ltb-true, lt-ltb}
use Rattle.ground.specs.Tests.{all_of}
use Rattle.ground.proofs.Bools.{and_left, and_right, and_both}
use Rattle.numbers.specs.Numbers.{Bytes}
use Rattle.formats.specs.Format.{Format, bound, bytes_in, value_in, both, read_times, size_times, counted, seen_as}
use Rattle.formats.proofs.Lawful.{Lawful, bytes_drop, behind}
use Rattle.formats.proofs.Digits.{length-bytes_in, value_back, value_front, value_held, value_within}

-- ---- one thing, then another

module _ {A B : Type 0} {F : Format A} {G : Format B} (K : Lawful F) (L : Lawful G) where
  -- the bytes left behind the first thing are the second's
  room : (s : List ℕ) → F.size s + G.size (drop (F.size s) s) ≤ length s → G.size (drop (F.size s) s) ≤ length (drop (F.size s) s)
  room s h = let l = length-drop (F.size s) s in omega arith

  rest : (s t : List ℕ) → F.size s + G.size (drop (F.size s) s) ≤ length s → drop (F.size (s ++ t)) (s ++ t) ≡ drop (F.size s) s ++ t
  rest s t h = rw (K.still s t (omega arith)) (drop-append-le (F.size s) s t (omega arith))

  -- looked at from all the bytes
  rest_alone : (s t : List ℕ) → F.size s ≡ F.size (s ++ t) → F.size (s ++ t) ≤ length s → drop (F.size (s ++ t)) (s ++ t) ≡ drop (F.size s) s ++ t
  rest_alone s t e h = rw (← e) (drop-append-le (F.size s) s t (omega arith))

  room_alone : (s u : List ℕ) (n : ℕ) {m : ℕ} → F.size s ≡ n → m ≡ G.size u → n + m ≤ length s → G.size u ≤ length (drop (F.size s) s)
  room_alone s u n e d h = let l = length-drop (F.size s) s in omega arith

  pub both_lawful : Lawful (both F G)
  unfolding both
  both_lawful =
      record {
        back = λ p t h.
            let r = G.write p.1 ++ t in
            let hf = and_left (F.fits p.0) (G.fits p.1) h in
            let hg = and_right (F.fits p.0) (G.fits p.1) h in
            rw (append_assoc (F.write p.0) (G.write p.1) t, behind K p.0 r hf, K.back p.0 r hf, L.back p.1 t hg);
        taken = λ p t h.
            let r = G.write p.1 ++ t in
            let hf = and_left (F.fits p.0) (G.fits p.1) h in
            let hg = and_right (F.fits p.0) (G.fits p.1) h in
            rw (append_assoc (F.write p.0) (G.write p.1) t, behind K p.0 r hf, K.taken p.0 r hf, L.taken p.1 t hg)
            (sym (length-append (F.write p.0) (G.write p.1)));
        front = λ s t h. rw (rest s t h, K.front s t (omega arith), L.front (drop (F.size s) s) t (room s h));
        still = λ s t h. rw (rest s t h, K.still s t (omega arith), L.still (drop (F.size s) s) t (room s h));
        alone = λ s t h.
            let u = drop (F.size s) s in
            let k = K.alone s t (omega arith) in
            let d : drop (F.size (s ++ t)) (s ++ t) ≡ u ++ t = rest_alone s t k.1 (omega arith) in
            let l = L.alone u t (room_alone s (u ++ t) _ k.1 (ap G.size d) h) in
            (ap₂ (λ (a : A) (b : B). (a, b)) k.0 (l.0 ∙ ap G.read (sym d)), ap₂ ◌+◌ k.1 (l.1 ∙ ap G.size (sym d)));
        held = λ s by h.
            let u = drop (F.size s) s in
            let w = F.write (F.read s) in
            append_assoc w (G.write (G.read u)) (drop (F.size s + G.size u) s)
            ∙ ap (λ (l : List ℕ). w ++ (G.write (G.read u) ++ l)) (sym (drop-drop (G.size u) (F.size s) s))
            ∙ ap (λ (l : List ℕ). w ++ l) (L.held u (bytes_drop s (F.size s) by) (room s h))
            ∙ K.held s by (omega arith);
        within = λ s by. and_both (F.fits (F.read s)) _ (K.within s by) (L.within (drop (F.size s) s) (bytes_drop s (F.size s) by));
      }

-- ---- a count, then so many things

module _ {A : Type 0} {F : Format A} (K : Lawful F) where
  times_room : (n : ℕ) (s : List ℕ) → F.size s + n ≤ length s → n ≤ length (drop (F.size s) s)
  times_room n s h = let l = length-drop (F.size s) s in omega arith

  times_back : (xs : List A) (t : List ℕ) → all_of F.fits xs ≡ true
      → (read_times F (length xs) (flat_map F.write xs ++ t) ≡ xs) × (size_times F (length xs) (flat_map F.write xs ++ t) ≡ length (flat_map F.write xs))
  unfolding all_of flat_map read_times size_times
  times_back [] t h = (refl, refl)
  times_back (x ∷ xs) t h =
      let hx = and_left (F.fits x) (all_of F.fits xs) h in
      let ih = times_back xs t (and_right (F.fits x) (all_of F.fits xs) h) in
      let r = flat_map F.write xs ++ t in
      let a = append_assoc (F.write x) (flat_map F.write xs) t in (
        rw (a, behind K x r hx, K.back x r hx, ih.0),
        rw (a, behind K x r hx, K.taken x r hx, ih.1) (sym (length-append (F.write x) (flat_map F.write xs))),
      )

  times_front : (n : ℕ) (s t : List ℕ) → size_times F n s ≤ length s
      → (read_times F n (s ++ t) ≡ read_times F n s) × (size_times F n (s ++ t) ≡ size_times F n s)
  unfolding read_times size_times
  times_front zero s t h = (refl, refl)
  times_front (suc n) s t h =
      let u = drop (F.size s) s in
      let z = K.still s t (omega arith) in
      let d = drop-append-le (F.size s) s t (omega arith) in
      let ih = times_front n u t (times_room (size_times F n u) s h) in
      (rw (z, d, K.front s t (omega arith), ih.0), rw (z, d, ih.1))

  times_alone : (n : ℕ) (s t : List ℕ) → size_times F n (s ++ t) ≤ length s
      → (read_times F n s ≡ read_times F n (s ++ t)) × (size_times F n s ≡ size_times F n (s ++ t))
  unfolding read_times size_times
  times_alone zero s t h = (refl, refl)
  times_alone (suc n) s t h =
      let u = drop (F.size s) s in
      let k = K.alone s t (omega arith) in
      let z = k.1 in
      let d : drop (F.size (s ++ t)) (s ++ t) ≡ u ++ t = rw (← z) (drop-append-le (F.size s) s t (omega arith)) in
      let e = ap (size_times F n) d in
      let l = length-drop (F.size s) s in
      let ih = times_alone n u t (omega arith) in
      (ap₂ ◌∷◌ k.0 (ih.0 ∙ ap (read_times F n) (sym d)), ap₂ ◌+◌ z (ih.1 ∙ sym e))

  times_held : (n : ℕ) (s : List ℕ) → Bytes s → size_times F n s ≤ length s → flat_map F.write (read_times F n s) ++ drop (size_times F n s) s ≡ s
  unfolding flat_map read_times size_times
  times_held zero s by h = refl
  times_held (suc n) s by h =
      let u = drop (F.size s) s in
      let w = F.write (F.read s) in
      let v = flat_map F.write (read_times F n u) in
      append_assoc w v (drop (F.size s + size_times F n u) s)
      ∙ ap (λ (l : List ℕ). w ++ (v ++ l)) (sym (drop-drop (size_times F n u) (F.size s) s))
      ∙ ap (λ (l : List ℕ). w ++ l) (times_held n u (bytes_drop s (F.size s) by) (times_room (size_times F n u) s h))
      ∙ K.held s by (omega arith)

  times_within : (n : ℕ) (s : List ℕ) → Bytes s → all_of F.fits (read_times F n s) ≡ true
  unfolding all_of read_times
  times_within zero s by = refl
  times_within (suc n) s by =
      and_both (F.fits (F.read s)) _ (K.within s by) (times_within n (drop (F.size s) s) (bytes_drop s (F.size s) by))

  length_times : (n : ℕ) (s : List ℕ) → length (read_times F n s) ≡ n
  unfolding read_times
  length_times zero s = refl
  length_times (suc n) s = ap suc (length_times n (drop (F.size s) s))

  -- a count and things were written: the count is read back, and the things stand behind it
  counted_head : (xs : List A) (t : List ℕ) → ltb (length xs) (bound 4) ≡ true
      → (value_in 4 (bytes_in 4 (length xs) ++ flat_map F.write xs ++ t) ≡ length xs)
      × (drop 4 (bytes_in 4 (length xs) ++ flat_map F.write xs ++ t) ≡ flat_map F.write xs ++ t)
  counted_head xs t h =
      let c = bytes_in 4 (length xs) in
      let m = flat_map F.write xs in
      let e = append_assoc c m t in (
        rw e (value_back 4 (length xs) (m ++ t) (ltb-true (length xs) (bound 4) h)),
        rw e (drop_at c (m ++ t) 4 (length-bytes_in 4 (length xs))),
      )

  counted_room : (s : List ℕ) (n : ℕ) (u t : List ℕ) → n ≡ value_in 4 s → u ≡ drop 4 s ++ t → 4 + size_times F n u ≤ length s
      → size_times F (value_in 4 s) (drop 4 s ++ t) ≤ length (drop 4 s)
  counted_room s n u t e d h = let l = length-drop 4 s in let z = ap₂ (size_times F) e d in omega arith

  pub counted_lawful : Lawful (counted F)
  unfolding counted
  counted_lawful =
      record {
        back = λ xs t h.
            let few = and_left (ltb (length xs) (bound 4)) (all_of F.fits xs) h in
            let each = and_right (ltb (length xs) (bound 4)) (all_of F.fits xs) h in
            let c = counted_head xs t few in
            rw (c.0, c.1, (times_back xs t each).0);
        taken = λ xs t h.
            let few = and_left (ltb (length xs) (bound 4)) (all_of F.fits xs) h in
            let each = and_right (ltb (length xs) (bound 4)) (all_of F.fits xs) h in
            let c = counted_head xs t few in
            let l = length-bytes_in 4 (length xs) in
            rw (c.0, c.1, (times_back xs t each).1, length-append (bytes_in 4 (length xs)) (flat_map F.write xs)) (omega arith);
        front = λ s t h.
            let l = length-drop 4 s in
            let e = times_front (value_in 4 s) (drop 4 s) t (omega arith) in
            rw (value_front 4 s t (omega arith), drop-append-le 4 s t (omega arith), e.0);
        still = λ s t h.
            let l = length-drop 4 s in
            let e = times_front (value_in 4 s) (drop 4 s) t (omega arith) in
            rw (value_front 4 s t (omega arith), drop-append-le 4 s t (omega arith), e.1);
        alone = λ s t h.
            let v = value_front 4 s t (omega arith) in
            let d = drop-append-le 4 s t (omega arith) in
            let l = length-drop 4 s in
            let e = times_alone (value_in 4 s) (drop 4 s) t (counted_room s (value_in 4 (s ++ t)) (drop 4 (s ++ t)) t v d h) in
            (rw (v, d) e.0, rw (v, d) (ap (◌+◌ 4) e.1));
        held = λ s by h.
            let n = value_in 4 s in
            let u = drop 4 s in
            let l = length-drop 4 s in
            let v = flat_map F.write (read_times F n u) in
            rw (length_times n u)
            (append_assoc (bytes_in 4 n) v (drop (4 + size_times F n u) s)
            ∙ ap (λ (l : List ℕ). bytes_in 4 n ++ (v ++ l)) (sym (drop-drop (size_times F n u) 4 s))
            ∙ ap (λ (l : List ℕ). bytes_in 4 n ++ l) (times_held n u (bytes_drop s 4 by) (omega arith))
            ∙ value_held 4 s by (omega arith));
        within = λ s by.
            let n = value_in 4 s in
            let few : ltb (length (read_times F n (drop 4 s))) (bound 4) ≡ true = rw (length_times n (drop 4 s)) (lt-ltb n (bound 4) (value_within 4 s by)) in
            and_both _ _ few (times_within n (drop 4 s) (bytes_drop s 4 by));
      }

-- ---- the same bytes, seen as another kind of thing

pub seen_lawful : {A B : Type 0} (to : A → B) (of : B → A) {F : Format A} → Lawful F → ((b : B) → to (of b) ≡ b) → ((a : A) → of (to a) ≡ a)
    → Lawful (seen_as to of F)
unfolding seen_as
seen_lawful {A} to of {F} K there here =
    record {
      back = λ b t h. ap to (K.back (of b) t h) ∙ there b;
      taken = λ b t h. K.taken (of b) t h;
      front = λ s t h. ap to (K.front s t h);
      still = K.still;
      alone = λ s t h. let k = K.alone s t h in (ap to k.0, k.1);
      held = λ s by h. ap (λ (a : A). F.write a ++ drop (F.size s) s) (here (F.read s)) ∙ K.held s by h;
      within = λ s by. ap F.fits (here (F.read s)) ∙ K.within s by;
    }
