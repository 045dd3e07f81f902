-- The number's bytes stand behind those that stood there.
use native.Mathlib.Omega.{arith}
use Rattle.key.proofs.Drafting.{put_number}
use Rattle.key.proofs.draft.Draft.put.Goals as goal

pub returns : goal.returns
returns c =
    rw (← c.self.view_is) (put_number c.args.n _ _ c.self.inside.bytes _ (omega arith) c.self.told c.self.invariant c.put.ensures c.min-self-inside.ensures)
