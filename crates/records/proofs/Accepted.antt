-- Accepted files: those that some list of bodies gives, and each is of one list.
use mathlib.Core.Path.{◌≡◌, refl, sym, ap, ◌∙◌}
use Prim.Native.Nat.{ℕ, ◌≤◌}
use mathlib.Core.List.{List}
use mathlib.Core.Bool.{Bool, true, false, cond}
use native.Mathlib.Omega.{arith}
use lib.Dec.{ltb}
use lib.ListN.{length}
use borrow.Author.Tests.{ltb-false, le-ltb}
use Rattle.refusals.specs.declared.Rule.{Rule}
use Rattle.refusals.specs.Table.{number_of}
use Rattle.ground.specs.Tests.{same_list, all_of}
use Rattle.ground.proofs.Bools.{and_left, and_right, and_both}
use Rattle.ground.proofs.Tests.{same_refl, same_true}
use Rattle.dayfile.specs.Day.{most_records, Layout, count_of, count_bytes, file_of, Listed, bodies_of}
use Rattle.dayfile.proofs.Layouts.{Lawful}
use Rattle.dayfile.proofs.Lists.{count_bodies, parted, bodies_file, one_list}
use Rattle.records.specs.Read.{is_file, refusal_of}
use Rattle.records.specs.Refusals.{Given}

-- an accepted file has passed all tests
pub record Accepted (L : Layout) (f : List ℕ) : Type 0 where
  pub long : count_bytes ≤ length f
  pub few : count_of f ≤ most_records
  pub file : is_file L f ≡ true

module _ {L : Layout} (K : Lawful L) where
  -- what the last test comes to
  pub file_given : (f : List ℕ) → count_of f ≤ most_records → is_file L f ≡ true → Given L f
  unfolding is_file
  file_given f h e =
      let A = all_of L.whole (bodies_of L f) in
      let B = same_list (file_of (bodies_of L f)) f in
      record {
        bodies = bodies_of L f;
        listed = record { few = omega (arith, count_bodies L f); each = and_left A B e };
        file = same_true (file_of (bodies_of L f)) f (and_right A B e);
      }

  pub given_bodies : (f : List ℕ) (g : Given L f) → bodies_of L f ≡ g.bodies
  given_bodies f g = ap (bodies_of L) (sym g.file) ∙ bodies_file K g.bodies g.listed

  pub given_file : (f : List ℕ) → Given L f → is_file L f ≡ true
  unfolding is_file
  given_file f g = rw (given_bodies f g) (and_both _ _ g.listed.each (rw g.file (same_refl f)))

  -- the tests, one after the other
  tested : (f : List ℕ) (a b c : Bool) → ltb (length f) count_bytes ≡ a → ltb most_records (count_of f) ≡ b → is_file L f ≡ c
      → cond a (number_of Rule.NotOfLayout) (cond b (number_of Rule.TooMany) (cond c 0 (number_of Rule.NotOfLayout))) ≡ 0 → Accepted L f
  tested f true b c ea eb ec h = absurd (omega arith)
  tested f false true c ea eb ec h = absurd (omega arith)
  tested f false false true ea eb ec h = record { long = ltb-false _ _ ea; few = ltb-false _ _ eb; file = ec }
  tested f false false false ea eb ec h = absurd (omega arith)

  pub accepted : (f : List ℕ) → refusal_of L f ≡ 0 → Accepted L f
  unfolding refusal_of
  accepted f = tested f (ltb (length f) count_bytes) (ltb most_records (count_of f)) (is_file L f) refl refl refl

  -- THEOREM: the accepted files are those that some list gives ...
  pub accepted_given : (f : List ℕ) → refusal_of L f ≡ 0 → Given L f
  accepted_given f e = let a = accepted f e in file_given f a.few a.file

  pub accepted_listed : (f : List ℕ) → refusal_of L f ≡ 0 → Listed L (bodies_of L f)
  accepted_listed f e = let g = accepted_given f e in rw (given_bodies f g) g.listed

  pub given_accepted : (f : List ℕ) → Given L f → refusal_of L f ≡ 0
  unfolding refusal_of
  given_accepted f g =
      let p = parted K f g.bodies g.listed g.file in
      let few = g.listed.few in
      let long : count_bytes ≤ length f = omega (arith, p.room) in
      let most : count_of f ≤ most_records = omega (arith, p.count) in
      simp (le-ltb (length f) count_bytes long, le-ltb most_records (count_of f) most, given_file f g)

  -- ... and exactly one does
  pub given_once : (f : List ℕ) (g h : Given L f) → g.bodies ≡ h.bodies
  given_once f g h = one_list K g.bodies h.bodies g.listed h.listed (g.file ∙ sym h.file)
