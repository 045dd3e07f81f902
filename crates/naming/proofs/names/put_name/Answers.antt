-- The name of an operation, arm by arm.
use Rattle.naming.proofs.Adding.{adds_join, adds_same}
use Rattle.naming.proofs.names.put_name.Goals as goal

pub returns-in-Special : goal.returns-in-Special
returns-in-Special c = rw c.in-Special.is c.put-in-Special.ensures

pub returns-in-Load : goal.returns-in-Load
returns-in-Load c = rw c.in-Load.is (adds_join (adds_same c.space_name.ensures c.put-in-Load.ensures) c.put-in-Load-2.ensures)

pub returns-in-Store : goal.returns-in-Store
returns-in-Store c = rw c.in-Store.is (adds_join (adds_same c.space_name-in-Store.ensures c.put-in-Store.ensures) c.put-in-Store-2.ensures)

pub returns-in-Atomic : goal.returns-in-Atomic
returns-in-Atomic c = rw c.in-Atomic.is (adds_join c.put-in-Atomic.ensures (adds_same c.atomic_name.ensures c.put-in-Atomic-2.ensures))
