-- The whole code is a level outside every block, which nothing closes.
use Rattle.std.proofs.Common.{◌∙◌}
use Rattle.blocks.proofs.Refusing.{handed_on}
use Rattle.blocks.proofs.Reaching.{whole_refused, whole_passed}
use Rattle.blocks.proofs.item.Code.check.Goals as goal

pub returns-in_err-level : goal.returns-in_err-level
returns-in_err-level c = handed_on _ c.from_residual.ensures.1 ∙ whole_refused c.in_err-level.ensures

pub returns : goal.returns
returns c = whole_passed _ c.in_ok-level.ensures
