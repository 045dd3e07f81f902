-- Captures and their files give each other back: what is read where the parts stand is the parts, and the bytes of what is read
-- are the file's.
use mathlib.Core.Path.{◌≡◌, refl, sym, ap, ◌∙◌}
use Prim.Native.Nat.{ℕ, ◌<◌}
use mathlib.Core.Bool.{Bool, true, ◌||◌, or-true}
use mathlib.Core.Logic.{⊎_elim}
use mathlib.Core.List.{List, [], ◌∷◌, ◌++◌, flatten, append-nil}
use native.Mathlib.Omega.{arith}
use lib.Dec.{eqb}
use lib.ListN.{length, get_or, drop, length-map}
use lib.Seq.{drop-length}
use borrow.Author.Tests.{eqb-true, eq-eqb}
use Rattle.ground.proofs.Tests.{or_cases}
use Rattle.numbers.specs.Numbers.{bytes_of_all, number_at, numbers_at, Bytes, Small}
use Rattle.numbers.proofs.Numerals.{small_cons, small_append, small_front, small_drop, Stand, stand_nth, stand_front, stand_rest, Holds, holds_join}
use Rattle.numbers.proofs.Words.{length_numbers, get_d_numbers, numbers_back, numbers_hold, numbers_small}
use Rattle.packing.specs.Words.{depth_word, state_size}
use Rattle.captures.specs.Capture.{mark, edition, setting_count, part_count, state_part, settings_place, counts_place, sixth_place, header_bytes}
use Rattle.captures.specs.Capture.{Capture, counts_of, numbers_of, capture_of, state_fits, shapely, fits, Filed}
use Rattle.captures.specs.Read.{settings_at, counts_at, end_from, place_of, parts_in, capture_in, depth_of, depth_place, end_place, Within}
use Rattle.captures.proofs.Parts.{end_above, place_end, parts_nth, length-parts, counts_parts, parts_small, parts_hold, parts_back}
use Rattle.captures.proofs.Laid.{fits_small, fits_shape, small_fits, length_capture}
use Rattle.captures.proofs.Accepted.{counts_long, state_count, Accepted}

-- ---- a state's count and depth

-- one test gives another where there are words
with_words : (n x y : ℕ) (b : Bool) → (eqb n 0 || eqb x y) ≡ true → (x ≡ y → b ≡ true) → (eqb n 0 || b) ≡ true
with_words n x y b e h =
    ⊎_elim (λ (z : eqb n 0 ≡ true). rw z) (λ z. rw (h (eqb-true x y z)) (or-true (eqb n 0))) (or_cases (eqb n 0) (eqb x y) e)

-- where `word` is read as the depth and d stands there
module _ (n d word : ℕ) (read : depth_word < n → word ≡ d) where
  -- the words of a state have a state's count ...
  shape_so : (eqb n 0 || eqb n (state_size d)) ≡ true → (eqb n 0 || eqb n (state_size (depth_of n))) ≡ true
  unfolding depth_of
  shape_so e = with_words n n (state_size d) _ e (λ w. eq-eqb n (state_size (depth_of n)) (omega arith))

  -- ... and the depth that it gives
  deep_so : (eqb n 0 || eqb n (state_size d)) ≡ true → (eqb n 0 || eqb word (depth_of n)) ≡ true
  unfolding depth_of
  deep_so e = with_words n n (state_size d) _ e (λ w. let y = read (omega arith) in eq-eqb word (depth_of n) (omega arith))

  -- words with both are a state's
  state_so : (eqb n 0 || eqb n (state_size (depth_of n))) ≡ true → (eqb n 0 || eqb word (depth_of n)) ≡ true
      → (eqb n 0 || eqb n (state_size d)) ≡ true
  state_so e k =
      ⊎_elim (λ (z : eqb n 0 ≡ true). rw z)
      (λ z.
      let w = eqb-true n (state_size (depth_of n)) z in
      with_words n word (depth_of n) _ k (λ x. let y = read (omega arith) in eq-eqb n (state_size d) (omega arith)))
      (or_cases (eqb n 0) (eqb n (state_size (depth_of n))) e)

-- the state of a file: how many words it has, and its depth
module _ (f : List ℕ) where
  abbrev state : List ℕ
  state = get_or (parts_in f) state_part []

  state_is : state ≡ numbers_at f (place_of (counts_at f) state_part) (state_count f)
  unfolding parts_in place_of
  state_is = parts_nth f header_bytes state_part (counts_at f) (omega (arith, counts_long f))

  state_long : length state ≡ state_count f
  state_long = ap length state_is ∙ length_numbers f _ _

  state_depth : depth_word < state_count f → number_at f (depth_place f) ≡ get_or state depth_word 0
  state_depth h = sym (ap (λ (l : List ℕ). get_or l depth_word 0) state_is ∙ get_d_numbers f _ _ depth_word h)

  pub counts_in_lem : counts_of (parts_in f) ≡ counts_at f
  unfolding parts_in
  counts_in_lem = counts_parts f header_bytes (counts_at f)

-- ---- from a capture to its file and back

module _ (c : Capture) (g : Filed c) where
  -- what stands in the file: the settings, the counts and a sixth, the words
  from_mark : Stand (capture_of c) [] 0 (numbers_of c)
  unfolding capture_of
  from_mark = record { small = g.small; bytes = sym (append-nil (bytes_of_all (numbers_of c))) }

  from_settings : Stand (capture_of c) [] settings_place (c.settings ++ (counts_of c.parts ++ (0 ∷ flatten c.parts)))
  unfolding numbers_of
  from_settings = stand_rest (mark ∷ edition ∷ []) _ from_mark

  from_counts : Stand (capture_of c) [] counts_place (counts_of c.parts ++ (0 ∷ flatten c.parts))
  from_counts = rw g.settings at (stand_rest c.settings _ from_settings)

  from_sixth : Stand (capture_of c) [] sixth_place (0 ∷ flatten c.parts)
  from_sixth = rw (length-map c.parts length, g.parts) at (stand_rest (counts_of c.parts) _ from_counts)

  from_words : Stand (capture_of c) [] header_bytes (flatten c.parts)
  from_words = stand_rest (0 ∷ []) _ from_sixth

  -- a capture comes back from its file
  settings_back : settings_at (capture_of c) ≡ c.settings
  unfolding settings_at
  settings_back = rw g.settings at (numbers_back c.settings settings_place (stand_front c.settings _ from_settings))

  pub counts_back : counts_at (capture_of c) ≡ counts_of c.parts
  unfolding counts_at
  counts_back =
      rw (length-map c.parts length, g.parts) at (numbers_back (counts_of c.parts) counts_place (stand_front (counts_of c.parts) _ from_counts))

  pub capture_back : capture_in (capture_of c) ≡ c
  unfolding parts_in
  capture_back = rw (settings_back, counts_back, parts_back c.parts header_bytes from_words)

  -- the file of a capture breaks no rule
  pub file_accepted : (rooms : List ℕ) → Within (counts_of c.parts) rooms → Accepted (capture_of c) rooms
  unfolding numbers_of state_fits
  file_accepted rooms w =
      let f = capture_of c in
      let fitting : shapely (parts_in f) ≡ true = ap (λ (d : Capture). shapely d.parts) capture_back ∙ g.shape in
      let shape = rw (state_long f) at fitting in
      let whole : length f ≡ end_place f = length_capture c g.settings g.parts ∙ ap (λ (n : List ℕ). place_of n part_count) (sym counts_back) in
      record {
        long = omega (arith, whole, place_end (counts_at f) (counts_long f), end_above header_bytes (counts_at f));
        marked = stand_nth (numbers_of c) from_mark 0 0 refl (omega arith);
        edited = stand_nth (numbers_of c) from_mark 4 1 refl (omega arith);
        within = rw counts_back w;
        shape = shape_so (state_count f) (get_or (state f) depth_word 0) _ (state_depth f) shape;
        sixth = stand_nth (0 ∷ flatten c.parts) from_sixth sixth_place 0 (omega arith) (omega arith);
        whole = whole;
        deep = deep_so (state_count f) (get_or (state f) depth_word 0) _ (state_depth f) shape;
      }

-- ---- from a file to its capture and back

module _ (f : List ℕ) (by : Bytes f) (rooms : List ℕ) (a : Accepted f rooms) where
  file_numbers : numbers_of (capture_in f) ≡ numbers_at f 0 13 ++ flatten (parts_in f)
  unfolding numbers_of settings_at counts_at numbers_at
  file_numbers = rw (counts_in_lem f, a.marked, a.edited, a.sixth)

  -- the bytes of a file that breaks no rule are those of its numbers
  pub file_back : capture_of (capture_in f) ≡ f
  unfolding capture_of parts_in
  file_back =
      let end = end_from header_bytes (counts_at f) in
      let whole : length f ≡ end = a.whole ∙ place_end (counts_at f) (counts_long f) in
      let words = parts_hold f by header_bytes (counts_at f) (omega arith) in
      let all : Holds f 0 (numbers_of (capture_in f)) end =
      rw file_numbers (holds_join f 0 header_bytes end _ _ (numbers_hold f 0 13 by a.long) words) in
      let none : drop end f ≡ [] = ap (λ (k : ℕ). drop k f) (sym whole) ∙ drop-length f in
      sym (all ∙ ap (λ (l : List ℕ). capture_of (capture_in f) ++ l) none ∙ append-nil (capture_of (capture_in f)))

  -- and its capture is one that a file is of
  pub file_filed : Filed (capture_in f)
  unfolding parts_in settings_at state_fits
  file_filed =
      record {
        settings = length_numbers f settings_place setting_count;
        parts = length-parts f header_bytes (counts_at f) ∙ counts_long f;
        small = rw file_numbers (small_append _ _ (numbers_small f 0 13 by) (parts_small f by header_bytes (counts_at f)));
        shape = rw (state_long f) (state_so (state_count f) _ _ (state_depth f) a.shape a.deep);
      }

-- ---- which captures are written

module _ (c : Capture) where
  pub filed_fits : Filed c → fits c.parts ≡ true
  unfolding numbers_of
  filed_fits g =
      small_fits c.parts
      (small_front (counts_of c.parts) _ (small_drop c.settings _ (small_drop (mark ∷ edition ∷ []) _ g.small)))
      g.shape

  -- a capture of words that has a file
  pub fits_filed : length c.settings ≡ setting_count → length c.parts ≡ part_count → fits c.parts ≡ true → Small c.settings
      → Small (flatten c.parts) → Filed c
  unfolding numbers_of
  fits_filed s p e h w =
      let rest = small_append (counts_of c.parts) _ (fits_small c.parts e) (small_cons 0 _ (omega arith) w) in
      record {
        settings = s;
        parts = p;
        small = small_cons mark _ (omega arith) (small_cons edition _ (omega arith) (small_append c.settings _ h rest));
        shape = fits_shape c.parts e;
      }
