-- What the promises of `write` and `read` come to, said of captures.
use mathlib.Core.Path.{◌≡◌, refl, sym, ap, ◌∙◌}
use Prim.Native.Nat.{ℕ, ◌≤◌}
use mathlib.Core.List.{List, flatten}
use mathlib.Core.Bool.{true, false}
use mathlib.Core.Logic.{⊎_elim}
use native.Mathlib.Omega.{arith}
use lib.Dec.{leb}
use lib.ListN.{length, take, drop}
use lib.Seq.{take_at}
use borrow.Author.Tests.{leb-true}
use Rattle.ground.proofs.Choices.{cond_by}
use Rattle.ground.proofs.Tests.{true_or_false}
use Rattle.numbers.specs.Numbers.{Bytes, Small}
use Rattle.numbers.proofs.Placing.{placed_front}
use Rattle.refusals.specs.declared.Refusal.{Refusal}
use Rattle.refusals.specs.declared.Rule.{Rule as Page}
use Rattle.refusals.specs.Table.{broken}
use Rattle.captures.specs.declared.answer.Head.{Head}
use Rattle.captures.specs.declared.answer.Parts.{Parts}
use Rattle.captures.specs.declared.answer.Unreadable.{Unreadable}
use Rattle.std.specs.Prelude.{Result, Ok, Err}
use Rattle.captures.specs.Capture.{setting_count, part_count, Capture, counts_of, capture_of, head_in, counts_in, fits, Filed}
use Rattle.captures.specs.Write.{Writing, write_of}
use Rattle.captures.specs.Read.{Verdict, fine, capture_in, verdict_of, Within, filled, told, reading, judged, read_of}
use Rattle.captures.proofs.Laid.{write_so}
use Rattle.captures.proofs.Accepted.{accepted, is_accepted, read_fine}
use Rattle.captures.proofs.Files.{counts_in_lem, counts_back, capture_back, file_accepted, file_back, file_filed, filed_fits, fits_filed}

-- THEOREM: the file of a capture is read as that capture, wherever there is room for it ...
pub read_back : (c : Capture) → Filed c → (l : List (List ℕ)) → Within (counts_of c.parts) (counts_of l)
    → read_of (capture_of c) l ≡ reading (told (head_in c.settings) (counts_in (counts_of c.parts))) (filled c.parts l)
read_back c g l w =
    let v = is_accepted (capture_of c) (counts_of l) (file_accepted c g (counts_of l) w) in
    let back = sym (capture_back c g) in
    sym (read_fine (capture_of c) l _ _ _ (sym v) (ap (λ (d : Capture). filled d.parts l) back)
    (ap (λ (d : Capture). head_in d.settings) back) (ap counts_in (sym (counts_back c g))))

-- the front of a buffer that a file was written to
written_front : (c : Capture) (o : List ℕ) → fits c.parts ≡ true → length (capture_of c) ≤ length o
    → take (length (capture_of c)) (write_of c o).file ≡ capture_of c
written_front c o e h =
    ap (λ (x : Writing). take (length (capture_of c)) x.file) (sym (write_so c o _ _ e refl h refl))
    ∙ ap (take (length (capture_of c))) (placed_front o (capture_of c) h)
    ∙ take_at (capture_of c) (drop (length (capture_of c)) o) _ refl

-- ... and that file is what stands in a buffer that it was written to
pub write_read : (c : Capture) → Filed c → (o : List ℕ) → length (capture_of c) ≤ length o → (l : List (List ℕ)) → Within (counts_of c.parts) (counts_of l)
    → ((write_of c o).answer ≡ Ok (length (capture_of c)))
    × (read_of (take (length (capture_of c)) (write_of c o).file) l ≡ reading (told (head_in c.settings) (counts_in (counts_of c.parts))) (filled c.parts l))
write_read c g o h l w =
    let e = filed_fits c g in
    let answer = ap (λ (x : Writing). x.answer) (sym (write_so c o _ _ e refl h refl)) in
    (answer, ap (λ (f : List ℕ). read_of f l) (written_front c o e h) ∙ read_back c g l w)

-- THEOREM: no two captures have the same file
pub one_capture : (c d : Capture) → Filed c → Filed d → capture_of c ≡ capture_of d → c ≡ d
one_capture c d g h e = sym (capture_back c g) ∙ ap capture_in e ∙ capture_back d h

-- ---- accepted files

-- f is the file of a capture that there is room for
pub record Given (f rooms : List ℕ) : Type 0 where
  pub capture : Capture
  pub filed : Filed capture
  pub within : Within (counts_of capture.parts) rooms
  pub file : capture_of capture ≡ f

-- THEOREM: the files that break no rule are those of captures that there is room for ...
pub accepted_given : (f rooms : List ℕ) → Bytes f → verdict_of f rooms ≡ fine → Given f rooms
accepted_given f rooms by e =
    let a = accepted f rooms e in
    record { capture = capture_in f; filed = file_filed f by rooms a; within = rw (counts_in_lem f) a.within; file = file_back f by rooms a }

pub given_accepted : (f rooms : List ℕ) → Given f rooms → verdict_of f rooms ≡ fine
given_accepted f rooms g =
    let c = g.capture in
    ap (λ (x : List ℕ). verdict_of x rooms) (sym g.file) ∙ is_accepted (capture_of c) rooms (file_accepted c g.filed rooms g.within)

-- ... each of one capture ...
pub given_once : (f rooms : List ℕ) (g h : Given f rooms) → g.capture ≡ h.capture
given_once f rooms g h = one_capture g.capture h.capture g.filed h.filed (g.file ∙ sym h.file)

-- ... and reading answers that capture
read_tells : (v : Verdict) (f : List ℕ) (l : List (List ℕ)) (h : Head) (n : Parts ℕ) → (judged v f l).answer ≡ told h n → v ≡ fine
unfolding judged
read_tells (Ok tt) f l h n e = refl
read_tells (Err u) f l h n e = absurd cc

pub read_given : (f : List ℕ) (l : List (List ℕ)) (h : Head) (n : Parts ℕ) → Bytes f → (read_of f l).answer ≡ told h n → Given f (counts_of l)
unfolding read_of
read_given f l h n by e = accepted_given f (counts_of l) by (read_tells (verdict_of f (counts_of l)) f l h n e)

pub given_read : (f : List ℕ) (l : List (List ℕ)) (g : Given f (counts_of l))
    → read_of f l ≡ reading (told (head_in g.capture.settings) (counts_in (counts_of g.capture.parts))) (filled g.capture.parts l)
given_read f l g = ap (λ (x : List ℕ). read_of x l) (sym g.file) ∙ read_back g.capture g.filed l g.within

-- ---- written files

refused_unwritten : (r : Refusal) (n : ℕ) → ◌≡◌ {A = Result ℕ Refusal} (Err r) (Ok n) → ⊥
refused_unwritten r n e = cc

write_tells : (c : Capture) (o : List ℕ) (n : ℕ) → (write_of c o).answer ≡ Ok n
    → (fits c.parts ≡ true) × (length (capture_of c) ≤ length o) × (length (capture_of c) ≡ n)
unfolding write_of
write_tells c o n e =
    ⊎_elim
    (λ (h : fits c.parts ≡ true).
    ⊎_elim
    (λ (k : leb (length (capture_of c)) (length o) ≡ true).
    let y : ◌≡◌ {A = Result ℕ Refusal} (Ok (length (capture_of c))) (Ok n) = simp (h, k) at e in
    (h, leb-true _ _ k, cc))
    (λ (k : leb (length (capture_of c)) (length o) ≡ false). absurd (refused_unwritten (broken Page.Short 0) n (simp (h, k) at e)))
    (true_or_false (leb (length (capture_of c)) (length o))))
    (λ (h : fits c.parts ≡ false). absurd (refused_unwritten (broken Page.NotOfLayout 0) n (simp h at e)))
    (true_or_false (fits c.parts))

-- THEOREM: what was written is the file of a capture, for numbers of four bytes
pub written_given : (c : Capture) (o : List ℕ) (n : ℕ) → length c.settings ≡ setting_count → length c.parts ≡ part_count → Small c.settings
    → Small (flatten c.parts) → (write_of c o).answer ≡ Ok n → Given (take n (write_of c o).file) (counts_of c.parts)
written_given c o n s p h w e =
    let t = write_tells c o n e in
    record {
      capture = c;
      filed = fits_filed c s p t.0 h w;
      within = λ k. omega arith;
      file = sym (ap (λ (k : ℕ). take k (write_of c o).file) (sym t.2) ∙ written_front c o t.0 t.1);
    }

-- ---- refusals

-- a file that is refused changes nothing
refusal_keeps : (v : Verdict) (f : List ℕ) (l : List (List ℕ)) (u : Unreadable) → (judged v f l).answer ≡ Err u → (judged v f l).after ≡ l
unfolding judged
refusal_keeps (Ok _) f l u e = absurd cc
refusal_keeps (Err _) f l u e = refl

pub read_refused_keeps : (f : List ℕ) (l : List (List ℕ)) (u : Unreadable) → (read_of f l).answer ≡ Err u → (read_of f l).after ≡ l
unfolding read_of
read_refused_keeps f l u e = refusal_keeps (verdict_of f (counts_of l)) f l u e

-- nor does a capture that isn't written
pub write_refused_keeps : (c : Capture) (o : List ℕ) (r : Refusal) → (write_of c o).answer ≡ Err r → (write_of c o).file ≡ o
unfolding write_of
write_refused_keeps c o r =
    cond_by (λ (w : Writing). w.answer ≡ Err r → w.file ≡ o) (fits c.parts) _ _
    (λ h.
    cond_by (λ (w : Writing). w.answer ≡ Err r → w.file ≡ o) (leb (length (capture_of c)) (length o)) _ _
    (λ k e. absurd (refused_unwritten r (length (capture_of c)) (sym e)))
    (λ k e. refl))
    (λ h e. refl)
