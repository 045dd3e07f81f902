-- The control rules of one step, with t the executing lanes.
use Rattle.std.specs.Prelude.{ℕ, Bool, cond, not, ◌&&◌, List, [], ◌∷◌, map, length, ◌==◌, bit_and, bit_or, nat_lt}
use Rattle.lanes.specs.Blocks.{nesting, before_else, after_else, loop_part}
use Rattle.lanes.specs.Sets.{without}
use Rattle.lanes.specs.declared.said.Block.{Block}
use Rattle.wave.specs.Layout.{is_loop}
use Rattle.wave.specs.Wave.{Wave}
use Rattle.wave.specs.Going.{next, goes, onward_by}

-- NOP
abbrev pub onward : Wave → Wave
onward w = onward_by 1 w

-- ---- one block
-- as IF or LOOP opens it
abbrev pub opening : ℕ → ℕ → ℕ → ℕ → Block
opening part place active aside =
    record { part = part; opener = place; entered = active; aside = aside; again = 0; left = 0 }

-- with another part, or another of its sets
abbrev pub with_part : ℕ → Block → Block
with_part n b =
    record { part = n; opener = b.opener; entered = b.entered; aside = b.aside; again = b.again; left = b.left }

abbrev pub with_aside : ℕ → Block → Block
with_aside s b =
    record { part = b.part; opener = b.opener; entered = b.entered; aside = s; again = b.again; left = b.left }

abbrev pub with_again : ℕ → Block → Block
with_again s b =
    record { part = b.part; opener = b.opener; entered = b.entered; aside = b.aside; again = s; left = b.left }

abbrev pub with_left : ℕ → Block → Block
with_left s b =
    record { part = b.part; opener = b.opener; entered = b.entered; aside = b.aside; again = b.again; left = s }

-- its second half, with the lanes active at ELSE set aside
abbrev pub turned : ℕ → Block → Block
turned a b = with_part after_else (with_aside a b)

-- gone round, with none continued
abbrev pub went_round : Block → Block
went_round b = with_again 0 b

-- left by the lanes t
abbrev pub leave : ℕ → Block → Block
leave t b = with_left (bit_or b.left t) b

-- broken, continued by the lanes t
abbrev pub broken : ℕ → Block → Block
broken t b = with_aside (bit_or b.aside t) b

abbrev pub continued : ℕ → Block → Block
continued t b = with_again (bit_or b.again t) b

-- ---- the path
-- one block more, where there is room
abbrev pub opens : Block → List Block → List Block
opens b p = cond (nat_lt (length p) nesting) (b ∷ p) p

-- the innermost open loop is changed by f, and the lanes t leave every block inside it
abbrev pub to_loop : (Block → Block) → ℕ → List Block → List Block
to_loop f t [] = []
to_loop f t (b ∷ bs) = cond (is_loop b) (f b ∷ bs) (leave t b ∷ to_loop f t bs)

-- ---- the rules
-- IF: t stays active, the rest of the active lanes wait
abbrev pub if_rule : ℕ → Wave → Wave
if_rule t w =
    goes (next w.place) (bit_and w.active t)
    (opens (opening before_else w.place w.active (without w.active t)) w.path) w

-- ELSE: active and waiting lanes change places
abbrev pub else_on : List Block → Wave → Wave
else_on [] w = onward w
else_on (b ∷ bs) w = goes (next w.place) b.aside (turned w.active b ∷ bs) w

abbrev pub else_rule : Wave → Wave
else_rule w = else_on w.path w

-- ENDIF: the waiting join the active
abbrev pub endif_on : List Block → Wave → Wave
endif_on [] w = onward w
endif_on (b ∷ bs) w = goes (next w.place) (bit_or w.active b.aside) bs w

abbrev pub endif_rule : Wave → Wave
endif_rule w = endif_on w.path w

-- LOOP: every active lane enters
abbrev pub loop_rule : Wave → Wave
loop_rule w = goes (next w.place) w.active (opens (opening loop_part w.place w.active 0) w.path) w

-- BREAK, CONTINUE: t becomes inactive and is set aside in the innermost open loop,
abbrev pub aside_rule : (Block → Block) → ℕ → Wave → Wave
aside_rule f t w = goes (next w.place) (without w.active t) (to_loop f t w.path) w

-- as broken
abbrev pub break_rule : ℕ → Wave → Wave
break_rule t w = aside_rule (broken t) t w

-- or as continued
abbrev pub continue_rule : ℕ → Wave → Wave
continue_rule t w = aside_rule (continued t) t w

-- ENDLOOP: continued lanes join the active ones. If any is active, go to the word after LOOP, with none continued. Otherwise the
-- loop closes and its broken lanes become active
abbrev pub endloop_on : List Block → Wave → Wave
endloop_on [] w = onward w
endloop_on (b ∷ bs) w =
    cond (bit_or w.active b.again == 0)
    (goes (next w.place) b.aside bs w)
    (goes (next b.opener) (bit_or w.active b.again) (went_round b ∷ bs) w)

abbrev pub endloop_rule : Wave → Wave
endloop_rule w = endloop_on w.path w

-- HALT: t halts for good, and leaves every open block
abbrev pub halt_rule : ℕ → Wave → Wave
halt_rule t w =
    record {
      place = next w.place;
      active = without w.active t;
      halted = bit_or w.halted t;
      path = map (leave t) w.path;
    }

-- BARRIER, with all the launched lanes: fault 5 where some lane is active and some launched, unhalted lane is not
abbrev pub barred : ℕ → Wave → Bool
barred all w = not (w.active == 0) && not (without all (bit_or w.active w.halted) == 0)

-- the lanes of fault 5 are the active ones
abbrev pub barrier_lanes : ℕ → Wave → ℕ
barrier_lanes all w = cond (barred all w) w.active 0

-- at a fault everything is as before the instruction
abbrev pub barrier_rule : ℕ → Wave → Wave
barrier_rule all w = cond (barred all w) w (onward w)
