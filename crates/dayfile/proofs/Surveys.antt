-- The survey of bytes that a day file is made from: its turns, and what it comes to. It takes bodies off the front, and stops at the end, at what
-- is no body, or where there is no more room.
use mathlib.Core.Path.{◌≡◌, refl, sym, ap, ◌∙◌}
use Prim.Native.Nat.{ℕ, zero, suc, ◌+◌, ◌-◌, ◌≤◌, ◌<◌}
use mathlib.Core.List.{List, [], ◌∷◌, ◌++◌, append_assoc, append-nil, flatten}
use mathlib.Core.Bool.{true, false}
use mathlib.Core.Logic.{◌⊎◌, inl, inr}
use native.Mathlib.Omega.{arith}
use native.Mathlib.Nat.{add-zero, sub-zero}
use lib.ListN.{length, take, drop, length-append, length-drop, take-append-drop}
use lib.Seq.{length-take-le, drop_at, drop-drop}
use Rattle.std.specs.Prelude.{Result, Ok, Err}
use Rattle.refusals.specs.declared.Refusal.{Refusal}
use Rattle.refusals.specs.declared.Rule.{Rule}
use Rattle.refusals.specs.Table.{broken}
use Rattle.ground.specs.Tests.{all_of}
use Rattle.ground.proofs.Bools.{and_both}
use Rattle.ground.proofs.Tests.{true_or_false}
use Rattle.dayfile.specs.Day.{most_records, Layout}
use Rattle.dayfile.specs.Make.{survey}
use Rattle.dayfile.specs.Refusals.{Begins}
use Rattle.dayfile.specs.Steps.{Lying}
use Rattle.dayfile.proofs.Layouts.{Lawful}
use Rattle.dayfile.proofs.Lists.{all_first, all_rest}

-- ---- a turn

survey_end : (L : Layout) (m p n : ℕ) (s : List ℕ) → length s ≤ 0 → survey L m p n s ≡ Ok n
unfolding survey
survey_end L zero p n [] h = refl
survey_end L zero p n (x ∷ s) h = absurd (omega arith)
survey_end L (suc m) p n [] h = refl
survey_end L (suc m) p n (x ∷ s) h = absurd (omega arith)

pub survey_many : (L : Layout) (m p n : ℕ) (s : List ℕ) → 0 < length s → m ≡ 0 → survey L m p n s ≡ Err (broken Rule.TooMany 0)
unfolding survey
survey_many L zero p n [] h e = absurd (omega arith)
survey_many L zero p n (x ∷ s) h e = refl
survey_many L (suc m) p n s h e = absurd (omega arith)

pub survey_bad : (L : Layout) (m p n : ℕ) (s : List ℕ) → 0 < length s → (m ≡ 0 → ⊥) → L.starts s ≡ false → survey L m p n s ≡ Err (broken Rule.NotOfLayout p)
unfolding survey
survey_bad L zero p n s h e r = absurd (e refl)
survey_bad L (suc m) p n [] h e r = absurd (omega arith)
survey_bad L (suc m) p n (x ∷ s) h e r = simp r

survey_on : (L : Layout) (m p n : ℕ) (s : List ℕ) → 0 < length s → (m ≡ 0 → ⊥) → L.starts s ≡ true
    → survey L m p n s ≡ survey L (m - 1) (p + L.size s) (n + 1) (drop (L.size s) s)
unfolding survey
survey_on L zero p n s h e r = absurd (e refl)
survey_on L (suc m) p n [] h e r = absurd (omega arith)
survey_on L (suc m) p n (x ∷ s) h e r = let d : suc m - 1 ≡ m = omega arith in rw (r, d)

-- n bodies are behind, and the survey of what is left, from where the loop stands, is the survey of all
pub record Surveying (L : Layout) (s : List ℕ) (at n : ℕ) : Type 0 where
  pub within : at ≤ length s
  pub all : survey L most_records 0 0 s ≡ survey L (most_records - n) at n (drop at s)

pub surveying_start : {L : Layout} {s : List ℕ} → Surveying L s 0 0
surveying_start = record { within = omega arith; all = refl }

pub surveying_end : {L : Layout} {s : List ℕ} {at n : ℕ} → Surveying L s at n → length s ≤ at → Ok n ≡ survey L most_records 0 0 s
surveying_end {L} {s} {at} {n} g h = sym (g.all ∙ survey_end L (most_records - n) at n (drop at s) (omega (arith, length-drop at s)))

module _ {L : Layout} (K : Lawful L) {s : List ℕ} {at n : ℕ} (g : Surveying L s at n) (h : at < length s) where
  some_left : 0 < length (drop at s)
  some_left = omega (arith, length-drop at s)

  pub surveying_many : most_records ≤ n → Err (broken Rule.TooMany 0) ≡ survey L most_records 0 0 s
  surveying_many e = sym (g.all ∙ survey_many L (most_records - n) at n (drop at s) some_left (omega arith))

  module _ (e : n < most_records) where
    pub surveying_bad : L.starts (drop at s) ≡ false → Err (broken Rule.NotOfLayout at) ≡ survey L most_records 0 0 s
    surveying_bad a = sym (g.all ∙ survey_bad L (most_records - n) at n (drop at s) some_left (λ z. omega arith) a)

    pub surveying_turn : {z : ℕ} → L.starts (drop at s) ≡ true → z ≡ L.size (drop at s) → Surveying L s (at + z) (n + 1)
    surveying_turn {z} a ez =
        let m : most_records - n - 1 ≡ most_records - (n + 1) = omega arith in
        record {
          within = omega (arith, (K.front (drop at s) a).0, length-drop at s);
          all =
              g.all
              ∙ survey_on L (most_records - n) at n (drop at s) some_left (λ z. omega arith) a
              ∙ rw (m, ← ez) (ap (survey L (most_records - (n + 1)) (at + z) (n + 1)) (drop-drop z at s));
        }

-- ---- what it comes to

module _ {L : Layout} (K : Lawful L) where
  some : (b r : List ℕ) → L.whole b ≡ true → 0 < length (b ++ r)
  some b r e = omega (arith, (K.long b e).0, length-append b r)

  -- a body was passed
  survey_body : (b r : List ℕ) (m p n : ℕ) → L.whole b ≡ true → (m ≡ 0 → ⊥) → survey L m p n (b ++ r) ≡ survey L (m - 1) (p + length b) (n + 1) r
  survey_body b r m p n e h =
      let w = K.followed b r e in
      survey_on L m p n (b ++ r) (some b r e) h w.0 ∙ rw (w.1, drop_at b r (length b) refl) refl

  -- so many bodies were passed
  pub survey_past : (bs : List (List ℕ)) (rest : List ℕ) (m p n : ℕ) → all_of L.whole bs ≡ true → length bs ≤ m
      → survey L m p n (flatten bs ++ rest) ≡ survey L (m - length bs) (p + length (flatten bs)) (n + length bs) rest
  unfolding flatten
  survey_past [] rest m p n e h = simp (add-zero, sub-zero)
  survey_past (b ∷ bs) rest m p n e h =
      let x : m - 1 - length bs ≡ m - suc (length bs) = omega arith in
      let y : p + length b + length (flatten bs) ≡ p + length (b ++ flatten bs) = omega (arith, length-append b (flatten bs)) in
      let k : n + 1 + length bs ≡ n + suc (length bs) = omega arith in
      ap (survey L m p n) (append_assoc b (flatten bs) rest)
      ∙ survey_body b (flatten bs ++ rest) m p n (all_first L b bs e) (λ q. omega arith)
      ∙ survey_past bs rest (m - 1) (p + length b) (n + 1) (all_rest L b bs e) (omega arith)
      ∙ rw (x, y, k) refl

  -- more bodies than there is room for
  pub survey_over : (bs : List (List ℕ)) (m p n : ℕ) → all_of L.whole bs ≡ true → m < length bs → survey L m p n (flatten bs) ≡ Err (broken Rule.TooMany 0)
  unfolding flatten
  survey_over [] m p n e h = absurd (omega arith)
  survey_over (b ∷ bs) zero p n e h = survey_many L 0 p n (b ++ flatten bs) (some b (flatten bs) (all_first L b bs e)) refl
  survey_over (b ∷ bs) (suc m) p n e h =
      survey_body b (flatten bs) (suc m) p n (all_first L b bs e) (λ q. omega arith)
      ∙ survey_over bs (suc m - 1) (p + length b) (n + 1) (all_rest L b bs e) (omega arith)

  pub survey_good : (bs : List (List ℕ)) → all_of L.whole bs ≡ true → length bs ≤ most_records
      → survey L most_records 0 0 (flatten bs) ≡ Ok (length bs)
  survey_good bs e h =
      ap (survey L most_records 0 0) (sym (append-nil (flatten bs))) ∙ survey_past bs [] most_records 0 0 e h
      ∙ survey_end L _ _ _ [] (omega arith) ∙ ap Ok (omega arith)

  -- where it stops, with room for m: behind bodies, at the end, at what is no body, or before one too many
  abbrev pub Stopped : ℕ → ℕ → ℕ → List ℕ → Result ℕ Refusal → Type 0
  Stopped m p n s (Ok k) = (bs : List (List ℕ)) × (all_of L.whole bs ≡ true) × (s ≡ flatten bs ++ []) × (length bs ≤ m) × (n + length bs ≡ k)
  Stopped m p n s (Err x) =
      ((bs : List (List ℕ)) × (rest : List ℕ) × Begins L s bs rest × (length bs < m) × (L.starts rest ≡ false)
      × (x ≡ broken Rule.NotOfLayout (p + length (flatten bs))))
      ⊎ ((bs : List (List ℕ)) × (rest : List ℕ) × Begins L s bs rest × (length bs ≡ m) × (x ≡ broken Rule.TooMany 0))

  -- at the front, where nothing is passed
  begins_none : (x : ℕ) (s : List ℕ) → Begins L (x ∷ s) [] (x ∷ s)
  unfolding all_of flatten
  begins_none x s = record { each = refl; these = refl; more = omega arith }

  -- with one body more in front
  module _ (s : List ℕ) (e : L.starts s ≡ true) where
    abbrev first : List ℕ
    first = take (L.size s) s

    these_more : (bs : List (List ℕ)) (rest : List ℕ) → drop (L.size s) s ≡ flatten bs ++ rest → s ≡ flatten (first ∷ bs) ++ rest
    unfolding flatten
    these_more bs rest t = sym (append_assoc first (flatten bs) rest ∙ ap (λ (l : List ℕ). first ++ l) (sym t) ∙ take-append-drop (L.size s) s)

    each_more : (bs : List (List ℕ)) → all_of L.whole bs ≡ true → all_of L.whole (first ∷ bs) ≡ true
    unfolding all_of
    each_more bs a = and_both (L.whole first) _ (K.front s e).1 a

    begins_more : (bs : List (List ℕ)) (rest : List ℕ) → Begins L (drop (L.size s) s) bs rest → Begins L s (first ∷ bs) rest
    begins_more bs rest b = record { each = each_more bs b.each; these = these_more bs rest b.these; more = b.more }

    stopped_more : (m p n : ℕ) (v : Result ℕ Refusal) → Stopped m (p + L.size s) (n + 1) (drop (L.size s) s) v → Stopped (suc m) p n s v
    unfolding flatten
    stopped_more m p n (Ok k) (bs, each, these, few, count) = (first ∷ bs, each_more bs each, these_more bs [] these, omega arith, omega arith)
    stopped_more m p n (Err x) (inl (bs, rest, b, few, none, is)) =
        let long = length-take-le (L.size s) s (K.front s e).0 in
        let l = length-append first (flatten bs) in
        let q : p + L.size s + length (flatten bs) ≡ p + length (first ++ flatten bs) = omega arith in
        inl (first ∷ bs, rest, begins_more bs rest b, omega arith, none, is ∙ ap (broken Rule.NotOfLayout) q)
    stopped_more m p n (Err x) (inr (bs, rest, b, many, is)) = inr (first ∷ bs, rest, begins_more bs rest b, omega arith, is)

  pub stopped : (m p n : ℕ) (s : List ℕ) → Stopped m p n s (survey L m p n s)
  unfolding survey flatten all_of
  stopped zero p n [] = ([], refl, refl, omega arith, omega arith)
  stopped zero p n (x ∷ s) = inr ([], x ∷ s, begins_none x s, refl, refl)
  stopped (suc m) p n [] = ([], refl, refl, omega arith, omega arith)
  stopped (suc m) p n (x ∷ s) =
      let z = L.size (x ∷ s) in
      elim (true_or_false (L.starts (x ∷ s))) [
        | inl e ↦ rw e (stopped_more (x ∷ s) e m p n (survey L m (p + z) (n + 1) (drop z (x ∷ s))) (stopped m (p + z) (n + 1) (drop z (x ∷ s))))
        | inr e ↦ rw e (inl ([], x ∷ s, begins_none x s, omega arith, e, ap (broken Rule.NotOfLayout) (omega arith)))
      ]

  -- THEOREM: bytes that are refused by neither 14 nor 15 are the bodies of a list
  pub good_lying : (s : List ℕ) (k : ℕ) → survey L most_records 0 0 s ≡ Ok k → Lying L k s []
  good_lying s k e = of_stopped (rw e at (stopped most_records 0 0 s))
    where
      of_stopped : Stopped most_records 0 0 s (Ok k) → Lying L k s []
      of_stopped (bs, each, these, few, count) =
          record { bodies = bs; listed = record { few = few; each = each }; count = omega arith; these = these }
