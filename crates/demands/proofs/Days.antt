-- Day files that `make` made of keys: two are the same bytes exactly if their keys agree one by one, by the theorem for two keys and the one for
-- two lists of bodies.
use mathlib.Core.Path.{◌≡◌, refl, sym, ap, ap₂, ◌∙◌}
use mathlib.Core.Bool.{true}
use mathlib.Core.Logic.{◌↔◌}
use mathlib.Core.List.{List, [], ◌∷◌, map}
use Prim.Native.Nat.{ℕ}
use native.Mathlib.Omega.{arith}
use lib.ListN.{length}
use Rattle.ground.specs.Tests.{all_of}
use Rattle.ground.proofs.Bools.{and_both}
use Rattle.body.specs.Layout.{is_body}
use Rattle.dayfile.specs.Day.{page, file_of}
use Rattle.dayfile.specs.Make.{Makes, file_in}
use Rattle.dayfile.proofs.Layouts.{page_lawful}
use Rattle.dayfile.proofs.MadeFiles.{file_is, one_list_made}
use Rattle.demands.specs.Days.{Key, bytes, AllAgree}
use Rattle.demands.proofs.Agreeing.{bodies_agree, body_of_layout}

-- keys are bodies of the layout
pub all_bodies : (ks : List Key) → all_of is_body (map bytes ks) ≡ true
unfolding all_of
all_bodies [] = refl
all_bodies (k ∷ ks) = and_both _ _ (body_of_layout k.history k.room k.wrote) (all_bodies ks)

agree_same : (ks js : List Key) → AllAgree ks js → map bytes ks ≡ map bytes js
agree_same [] [] a = refl
agree_same [] (j ∷ js) a = absurd a
agree_same (k ∷ ks) [] a = absurd a
agree_same (k ∷ ks) (j ∷ js) a =
    ap₂ ◌∷◌ ((bodies_agree k.history j.history k.room j.room k.wrote j.wrote).1 a.0) (agree_same ks js a.1)

same_agree : (ks js : List Key) → map bytes ks ≡ map bytes js → AllAgree ks js
same_agree [] [] e = tt
same_agree [] (j ∷ js) e = absurd (let z : ◌≡◌ {A = ℕ} 0 (length (map bytes (j ∷ js))) = ap length e in omega arith)
same_agree (k ∷ ks) [] e = absurd (let z : length (map bytes (k ∷ ks)) ≡ 0 = ap length e in omega arith)
same_agree (k ∷ ks) (j ∷ js) e = (
  (bodies_agree k.history j.history k.room j.room k.wrote j.wrote).0 cc,
  same_agree ks js cc,
)

-- THEOREM: two day files that were made of keys are the same bytes exactly if the keys agree one by one
pub days_agree : (ks js : List Key) {out out' : List ℕ} (w : Makes page (map bytes ks) out) (w' : Makes page (map bytes js) out')
    → (file_in w ≡ file_in w') ↔ AllAgree ks js
days_agree ks js w w' = (
  (λ e. same_agree ks js (one_list_made page_lawful (map bytes ks) (map bytes js) (all_bodies ks) (all_bodies js) w w' e)),
  (λ g. file_is page_lawful (map bytes ks) (all_bodies ks) w ∙ ap file_of (agree_same ks js g) ∙ sym (file_is page_lawful (map bytes js) (all_bodies js) w')),
)
