-- The invariant: the rows of the bodies that are left, put where the loop stands, give the whole table.
use native.Mathlib.Omega.{arith}
use Rattle.dayfile.proofs.Layouts.{page_lawful}
use Rattle.dayfile.proofs.Filing.{filling_start, filling_starts, filling_near, filling_turn, filling_end}
use Rattle.dayfile.proofs.making.put_table.Goals as goal

pub loop-k-init : goal.loop-k-init
loop-k-init c =
    let lying = c.requires.1 in
    (lying.bodies, filling_start page_lawful c.table_end-place.ensures lying)

pub size_at-size-requires : goal.size_at-size-requires
size_at-size-requires c = filling_starts page_lawful _ c.loop-k.invariant.1 c.loop-k-test.true

pub overflow_cast-place : goal.overflow_cast-place
overflow_cast-place c = omega (arith, filling_near page_lawful _ c.loop-k.invariant.1 c.loop-k-test.true c.size_at-size.ensures)

pub overflow_cast-size : goal.overflow_cast-size
overflow_cast-size c = omega (arith, filling_near page_lawful _ c.loop-k.invariant.1 c.loop-k-test.true c.size_at-size.ensures)

pub overflow_add-place : goal.overflow_add-place
overflow_add-place c = omega (arith, filling_near page_lawful _ c.loop-k.invariant.1 c.loop-k-test.true c.size_at-size.ensures)

pub loop-k-preserved : goal.loop-k-preserved
loop-k-preserved c =
    filling_turn page_lawful _ c.loop-k.invariant.1 c.loop-k-test.true c.size_at-size.ensures c.put_row.ensures

pub shape_of-file : goal.shape_of-file
shape_of-file c = c.loop-k.invariant.1.long

pub returns : goal.returns
returns c = filling_end page_lawful _ c.loop-k.invariant.1 c.loop-k-test.false
