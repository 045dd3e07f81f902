-- Induction along the walk of the pass: what holds at the start, and is kept by each of its steps, holds wherever it comes by.
-- So a step from such a place leads to one, with the blocks open that the step leaves open.
use Prim.Native.Nat.{ℕ, zero, suc, ◌≤◌}
use native.Mathlib.Omega.{arith}
use mathlib.Core.Path.{◌≡◌, refl, ◌∙◌, subst}
use mathlib.Core.Bool.{Bool, true, false, cond}
use mathlib.Core.List.{List, []}
use lib.Dec.{eqb}
use borrow.Author.Tests.{eqb-true}
use Rattle.std.proofs.lemmas.Option.{none-some, same_Some}
use Rattle.blocks.specs.Code.{Code}
use Rattle.blocks.specs.Open.{Open}
use Rattle.blocks.specs.Scan.{Next, over, go, step}
use Rattle.std.specs.Prelude.{Some, None}
use Rattle.nesting.specs.OpenAt.{Found, seek, walk, open_at}
use Rattle.blocks.proofs.Widths.{Fits}
use Rattle.blocks.proofs.Passes.{Moves, step_moves}
use Rattle.nesting.proofs.Walks.{onwards, walk_here, walk_on}

module _ (code : Code) (P : ℕ → List Open → Type 0) (kept : (at : ℕ) (o : List Open) (a : ℕ) (q : List Open) → P at o → step code at o ≡ go a q → P a q) where
  onwards_keeps : (place : ℕ) (o : List Open) (f : ℕ → List Open → Found) (x : Next) → ((a : ℕ) (q : List Open) → x ≡ go a q → f a q ≡ Some o → P place o)
      → onwards f x ≡ Some o → P place o
  onwards_keeps place o f (over v) again e = absurd (none-some o e)
  onwards_keeps place o f (go a q) again e = again a q refl e

  here_keeps : (place at : ℕ) (q o : List Open) (x : Found) → P at q → (b : Bool) → eqb at place ≡ b → (x ≡ Some o → P place o) → cond b (Some q) x ≡ Some o → P place o
  here_keeps place at q o x p true e other f = subst (P place) (same_Some q o f) (subst (λ (n : ℕ). P n q) (eqb-true at place e) p)
  here_keeps place at q o x p false e other f = other f

  seek_keeps : (n place at : ℕ) (q o : List Open) → P at q → seek code place n at q ≡ Some o → P place o
  unfolding seek
  seek_keeps zero place at q o p e = here_keeps place at q o None p (eqb at place) refl (λ z. absurd (none-some o z)) e
  seek_keeps (suc n) place at q o p e =
      here_keeps place at q o (onwards (seek code place n) (step code at q)) p (eqb at place) refl
      (onwards_keeps place o (seek code place n) (step code at q) (λ a r f g. seek_keeps n place a r o (kept at q a r p f) g)) e

  pub along : P 0 [] → (place : ℕ) (o : List Open) → open_at code place ≡ Some o → P place o
  unfolding walk
  along p place o e = seek_keeps code.size place 0 [] o p e

module _ (code : Code) (fits : Fits code) where
  -- at place 0 no block is open
  pub open_at_start : open_at code 0 ≡ Some []
  open_at_start = walk_here code fits 0 0 [] refl

  -- the walk to any later place goes by this one
  abbrev Past : ℕ → List Open → Type 0
  Past at o = (x : ℕ) → at ≤ x → open_at code x ≡ walk code x at o

  past_step : (at : ℕ) (o : List Open) (a : ℕ) (q : List Open) → Past at o → step code at o ≡ go a q → Past a q
  past_step at o a q past e x h =
      let m : Moves at code.size (go a q) = subst (Moves at code.size) e (step_moves code fits at o) in
      past x (omega arith) ∙ walk_on code fits x at o (go a q) (λ z. omega arith) e

  past_of : (at : ℕ) (o : List Open) → open_at code at ≡ Some o → Past at o
  past_of at o e = along code Past past_step (λ x h. refl) at o e

  -- GOING ON keeps the open blocks
  pub going_on : (at : ℕ) (o : List Open) (a : ℕ) (q : List Open) → open_at code at ≡ Some o → step code at o ≡ go a q → open_at code a ≡ Some q
  going_on at o a q e f =
      past_step at o a q (past_of at o e) f a (omega arith) ∙ walk_here code fits a a q refl

  -- a place that the pass comes by is in the code or its end
  pub found_within : (place : ℕ) (o : List Open) → open_at code place ≡ Some o → place ≤ code.size
  found_within place o e = along code (λ a q. a ≤ code.size) (λ at o a q le f. (subst (Moves at code.size) f (step_moves code fits at o)).1) (omega arith) place o e
