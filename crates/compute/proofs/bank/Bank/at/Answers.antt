-- `compute::bank::Bank::at` meets its contract: the register stands in the buffer, and what is gathered of a lane is its register.
use native.Mathlib.Omega.{arith}
use Rattle.compute.proofs.Slots.{slot_in_lem, standing}
use Rattle.compute.proofs.Lanewise.{read_gathered}
use Rattle.compute.proofs.bank.Bank.at.Goals as goal

pub offset_bounds-self-slot : goal.offset_bounds-self-slot
offset_bounds-self-slot c =
    omega (arith, slot_in_lem (standing c.args.self.now.roomy c.requires.low) _ _ c.slot.ensures c.requires.below)

pub bounds-self-slot : goal.bounds-self-slot
bounds-self-slot c = slot_in_lem (standing c.args.self.now.roomy c.requires.low) _ _ c.slot.ensures c.requires.below

pub returns : goal.returns
returns c = read_gathered (standing c.args.self.now.roomy c.requires.low) _ _ c.slot.ensures c.requires.below
