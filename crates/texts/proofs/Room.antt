-- Every text has at most 48 bytes: each part has its most, and their sum is decided by one computation over the table. Examples has one of 48.
use mathlib.Core.Path.{◌≡◌, refl}
use mathlib.Core.Bool.{Bool, true, false}
use mathlib.Core.List.{List, [], ◌∷◌}
use Prim.Native.Nat.{ℕ, zero, suc, ◌+◌, ◌≤◌, ◌<◌, ◌^◌}
use native.Mathlib.Omega.{arith}
use lib.Dec.{leb}
use lib.ListN.{length, length-append}
use borrow.Author.Tests.{leb-true}
use Rattle.ground.specs.Tests.{all_of}
use Rattle.instructions.specs.declared.instr.Op.{Op}
use Rattle.instructions.specs.declared.instr.Instr.{Instr}
use Rattle.instructions.specs.declared.forms.Second.{Second}
use Rattle.opcodes.specs.Table.{operations}
use Rattle.instructions.specs.Forms.{limits_of, valid}
use Rattle.words.proofs.Validity.{SecondSmall, fields}
use Rattle.texts.specs.Names.{name_of}
use Rattle.texts.specs.Templates.{Kind, Item, get, template}
use Rattle.texts.specs.Text.{shown, operands, scope_text, on_text, tail_text, text_of, text_room}
use Rattle.texts.proofs.Numbers.{numeral_few, numeral_long}
use Rattle.texts.proofs.Tables.{every}
use Rattle.texts.proofs.Facts.{SecondIs, within}
use Rattle.texts.proofs.Reading.{KindFits, ItemsFit, items_fit}

-- ---- operands

abbrev kind_room : Kind → ℕ
kind_room Kind.register = 4
kind_room Kind.predicate = 4
kind_room Kind.special = 5
kind_room Kind.plain = 10

abbrev items_room : List Item → ℕ
items_room [] = 0
items_room (Item.mark m ∷ ps) = length m + items_room ps
items_room (Item.shows k f ∷ ps) = kind_room k + items_room ps

special_long : (n : ℕ) → n < 3 → length (shown Kind.special n) ≤ 5
special_long zero h = omega arith
special_long (suc zero) h = omega arith
special_long (suc (suc zero)) h = omega arith
special_long (suc (suc (suc n))) h = absurd (omega arith)

shown_long : (k : Kind) (n : ℕ) → KindFits k n → length (shown k n) ≤ kind_room k
shown_long Kind.register n h = omega (arith, numeral_few 2 n (omega arith) (omega arith))
shown_long Kind.predicate n h = omega (arith, numeral_few 2 n (omega arith) (omega arith))
shown_long Kind.special n h = special_long n h
shown_long Kind.plain n h = numeral_long n

operands_long : (ps : List Item) (i : Instr) (t : List ℕ) → ItemsFit ps i → length (operands ps i t) ≤ items_room ps + length t
unfolding operands
operands_long [] i t fit = omega arith
operands_long (Item.mark m ∷ ps) i t fit = omega (arith, length-append m (operands ps i t), operands_long ps i t fit)
operands_long (Item.shows k f ∷ ps) i t fit =
    omega (arith, length-append (shown k (get f i)) (operands ps i t), shown_long k (get f i) fit.0, operands_long ps i t fit.1)

-- ---- the scope and the predicate

abbrev scope_room : Second → ℕ
scope_room Second.Nothing = 0
scope_room Second.Number = 0
scope_room (Second.Registers x y zero) = 0
scope_room (Second.Registers x y (suc z)) = 8

scope_long : (s : ℕ) → s < 4 → length (scope_text s) ≤ 8
scope_long zero h = omega arith
scope_long (suc s) h = omega (arith, numeral_few 0 (suc s) (omega arith) (omega arith))

scope_fits : (s : Second) (i : Instr) → SecondIs s i → SecondSmall s → length (scope_text i.scope) ≤ scope_room s
scope_fits Second.Nothing i h small = rw h.2 (omega arith)
scope_fits Second.Number i h small = rw h.2 (omega arith)
scope_fits (Second.Registers x y zero) i h small = let e : i.scope ≡ 0 = omega arith in rw e (omega arith)
scope_fits (Second.Registers x y (suc z)) i h small = scope_long i.scope (omega arith)

on_long : (p : ℕ) (b : Bool) → p < 4 → length (on_text p b) ≤ 10
on_long zero b h = omega arith
on_long (suc p) true h = omega (arith, numeral_few 0 (suc p) (omega arith) (omega arith))
on_long (suc p) false h = omega (arith, numeral_few 0 (suc p) (omega arith) (omega arith))

-- ---- the whole

abbrev most : Op → ℕ
most o = length (name_of o) + (items_room (template o) + (scope_room (limits_of o).second + 10))

rooms : all_of (λ o. leb (most o) text_room) operations ≡ true
unfolding all_of
rooms = refl

pub text_room_lem : (i : Instr) → valid i ≡ true → i.number < 2 ^ 32 → length (text_of i) ≤ text_room
text_room_lem i ok n =
    let o = i.op in
    let g = i.guard in
    let h = within i ok in
    let t = tail_text i.scope g in
    let name = length-append (name_of o) (operands (template o) i t) in
    let middle = operands_long (template o) i t (items_fit o i h n) in
    let both = length-append (scope_text i.scope) (on_text g.pred g.negate) in
    let scope = scope_fits (limits_of o).second i h.second (fields i ok).room in
    let on = on_long g.pred g.negate h.pred in
    let sum = leb-true (most o) text_room (every (λ o. leb (most o) text_room) rooms o) in
    omega arith
