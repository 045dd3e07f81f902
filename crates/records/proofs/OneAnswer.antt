-- Each promise of the crate allows one answer, and one later content of the buffer that was lent.
use Rattle.std.specs.Prelude.{Result, Ok, Err, MatchResult, Option, Some, None, MatchOption, ◌≢◌}
use Rattle.refusals.specs.declared.Refusal.{Refusal}
use Rattle.records.specs.declared.reading.Record.{Record}
use mathlib.Core.Path.{◌≡◌, refl, sym, ap, ◌∙◌}
use Prim.Native.Nat.{ℕ, ◌≤◌}
use mathlib.Core.List.{List, []}
use native.Mathlib.Omega.{arith}
use lib.ListN.{length, get_or, get_or-eq_default}
use Rattle.body.specs.declared.Body.{Body}
use Rattle.body.proofs.Reached.{body_long}
use Rattle.dayfile.specs.Day.{page, count_of, bodies_of}
use Rattle.dayfile.proofs.Lists.{count_bodies}
use Rattle.records.specs.declared.day.DayFile.{DayFile}
use Rattle.records.specs.Read.{refusal_of, of_file, read_answer, Counting, counted, firsts_in}

pub read_once : (file : List ℕ) (i : ℕ) (r q : Result Record Refusal) → r ≡ read_answer page file i → q ≡ read_answer page file i → r ≡ q
read_once file i r q a b = a ∙ sym b

pub firsts_once : (file out x y : List ℕ) (r q : Result ℕ Refusal) → counted r x ≡ firsts_in page file out → counted q y ≡ firsts_in page file out → (r ≡ q) × (x ≡ y)
firsts_once file out x y r q a b = let e = a ∙ sym b in (ap (λ (m : Counting). m.answer) e, ap (λ (m : Counting). m.out) e)

-- an accepted file is told by its bytes, and so is a body
abbrev bytes_accepted : Result DayFile Refusal → Result (List ℕ) Refusal
bytes_accepted (Ok day) = Ok day.bytes.now
bytes_accepted (Err x) = Err x

abbrev bytes_found : Option Body → Option (List ℕ)
bytes_found (Some b) = Some b.bytes.now
bytes_found None = None

module _ (file : List ℕ) where
  abbrev Accepts : Result DayFile Refusal → Type 0
  Accepts r = MatchResult r (λ (day : DayFile). day.bytes.now ≡ file) (λ (x : Refusal). (refusal_of page file ≢ 0) × (x ≡ of_file (refusal_of page file)))

  accepted : (day : DayFile) → day.bytes.now ≡ file → refusal_of page file ≡ 0
  accepted day e = rw (← e) day.accepted

  pub accept_once : (r q : Result DayFile Refusal) → Accepts r → Accepts q → bytes_accepted r ≡ bytes_accepted q
  accept_once (Ok day) (Ok other) a b = ap Ok (a ∙ sym b)
  accept_once (Ok day) (Err y) a b = absurd (b.0 (accepted day a))
  accept_once (Err x) (Ok other) a b = absurd (a.0 (accepted other b))
  accept_once (Err x) (Err y) a b = ap Err (a.1 ∙ sym b.1)

  pub count_once : (r q : ℕ) → r ≡ count_of file → q ≡ count_of file → r ≡ q
  count_once r q a b = a ∙ sym b

  module _ (k : ℕ) where
    abbrev Finds : Option Body → Type 0
    Finds r = MatchOption r (count_of file ≤ k) (λ (b : Body). b.bytes.now ≡ get_or (bodies_of page file) k [])

    -- no body is empty
    not_past : (b : Body) → count_of file ≤ k → b.bytes.now ≡ get_or (bodies_of page file) k [] → ⊥
    not_past b h e =
        let none = e ∙ get_or-eq_default (bodies_of page file) [] (omega (arith, count_bodies page file)) in
        omega (arith, (body_long b.bytes.now b.whole).0, ap length none)

    pub body_once : (r q : Option Body) → Finds r → Finds q → bytes_found r ≡ bytes_found q
    body_once (Some b) (Some c) x y = ap Some (x ∙ sym y)
    body_once (Some b) None x y = absurd (not_past b y x)
    body_once None (Some c) x y = absurd (not_past c x y)
    body_once None None x y = refl
