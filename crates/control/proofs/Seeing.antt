-- What a caller of `control` learns: the wave that a rule leaves is the wave that is read next, since no control rule makes a path longer
-- than 32 blocks.
use Rattle.std.proofs.Common.{◌≡◌, ℕ, ◌<◌, ◌≤◌, Bool, true, false, cond, eqb, List, [], ◌∷◌, length, ap, ◌∙◌, arith, le-ltb, lt-ltb}
use native.Mathlib.Decide.{dec_lt}
use lib.ListN.{length-map}
use lib.Bits.{bit_or}
use Rattle.lanes.specs.Blocks.{nesting}
use Rattle.instructions.specs.declared.instr.ControlOp.{ControlOp}
use Rattle.instructions.specs.declared.instr.ControlOp.TheVariants.{If, Else, Endif, Loop, Break, Continue, Endloop, Halt, Barrier, Nop}
use Rattle.lanes.specs.declared.said.Block.{Block}
use Rattle.wave.specs.declared.state.Hot.{Hot}
use Rattle.control.specs.declared.rules.Stepped.{Stepped}
use Rattle.wave.specs.Wave.{Wave, wave_of, preds_of}
use Rattle.control.specs.Rules.{onward, opens, else_on, endif_on, endloop_on, barred, broken, continued}
use Rattle.control.specs.Control.{control_rule, fault_lanes, control_of, Given, given}
use Rattle.wave.proofs.Laying.{long_over}
use Rattle.control.proofs.Walks.{length-to_loop}
use Rattle.wave.proofs.View.{view, roomy}

-- ---- a rule keeps within 32 open blocks
opens_room : (b : Block) (p : List Block) → length p ≤ nesting → length (opens b p) ≤ nesting
opens_room b p h = go (dec_lt (length p) nesting)
  where
    go : Dec (length p < nesting) → length (opens b p) ≤ nesting
    go (yes k) = rw (lt-ltb (length p) nesting k) (omega arith)
    go (no k) = let m : nesting ≤ length p = omega (arith, k) in rw (le-ltb (length p) nesting m) h

either_room : (c : Bool) (v w : Wave) → length v.path ≤ nesting → length w.path ≤ nesting → length (cond c v w).path ≤ nesting
either_room true v w a b = a
either_room false v w a b = b

else_room : (p : List Block) (w : Wave) → length p ≤ nesting → length w.path ≤ nesting → length (else_on p w).path ≤ nesting
else_room [] w h k = k
else_room (b ∷ p) w h k = h

endif_room : (p : List Block) (w : Wave) → length p ≤ nesting → length w.path ≤ nesting → length (endif_on p w).path ≤ nesting
endif_room [] w h k = k
endif_room (b ∷ p) w h k = omega arith

endloop_room : (p : List Block) (w : Wave) → length p ≤ nesting → length w.path ≤ nesting → length (endloop_on p w).path ≤ nesting
endloop_room [] w h k = k
endloop_room (b ∷ p) w h k = either_room (eqb (bit_or w.active b.again) 0) _ _ (omega arith) h

pub control_room : (op : ControlOp) (all t : ℕ) (w : Wave) → length w.path ≤ nesting → length (control_rule op all t w).path ≤ nesting
unfolding control_rule
control_room If all t w h = opens_room _ w.path h
control_room Else all t w h = else_room w.path w h h
control_room Endif all t w h = endif_room w.path w h h
control_room Loop all t w h = opens_room _ w.path h
control_room Break all t w h = omega (arith, length-to_loop (broken t) t w.path)
control_room Continue all t w h = omega (arith, length-to_loop (continued t) t w.path)
control_room Endloop all t w h = endloop_room w.path w h h
control_room Halt all t w h = rw length-map h
control_room Barrier all t w h = either_room (barred all w) w (onward w) h h
control_room Nop all t w h = h

-- ---- what a caller of `control` learns, who was lent xs and left ys
pub record Seen (op : ControlOp) (all t : ℕ) (h : Hot) (xs : List Block) (r : Stepped) (ys : List Block) : Type 0 where
  pub long : length ys ≡ nesting
  pub wave : wave_of r.hot ys ≡ control_rule op all t (wave_of h xs)
  pub preds : preds_of r.hot ≡ preds_of h
  pub lanes : r.barrier ≡ fault_lanes op all (wave_of h xs)

pub seen : (op : ControlOp) (all t : ℕ) (h : Hot) (xs : List Block) (r : Stepped) (ys : List Block) → length xs ≡ nesting
    → given r ys ≡ control_of op all t h xs → Seen op all t h xs r ys
seen op all t h xs r ys l e =
    let w : Wave = control_rule op all t (wave_of h xs) in
    let k : length w.path ≤ nesting = control_room op all t (wave_of h xs) (roomy h xs) in
    record {
      long = ap (λ (g : Given). length g.end.blocks) e ∙ long_over w.path xs l k;
      wave = ap (λ (g : Given). wave_of g.end.hot g.end.blocks) e ∙ view w (preds_of h) xs k;
      preds = ap (λ (g : Given). preds_of g.end.hot) e;
      lanes = ap (λ (g : Given). g.barrier) e;
    }
