use Prim.Native.Nat.{◌-◌}
use mathlib.Core.Path.{refl, ap}
use native.Mathlib.Omega.{arith}
use lib.ListN.{length}
use Rattle.ol_order.specs.Tables.{names_at}
use Rattle.ol_order.proofs.Definers.{names_on, names_cut}
use Rattle.ol_order.proofs.names.NamesIterator.next.Goals as goal

pub returns-then-self-eq0-clause-steps : goal.returns-then-self-eq0-clause-steps
unfolding names_at
returns-then-self-eq0-clause-steps c = rw c.if-self-eq0.true (refl, refl)

pub returns-in-Ok-clause-steps : goal.returns-in-Ok-clause-steps
returns-in-Ok-clause-steps c = names_on _ _ _ (omega arith) c.name-x.ensures.is c.bytes.ensures c.in-Ok.is

pub returns-in-Ok-clause-goes : goal.returns-in-Ok-clause-goes
returns-in-Ok-clause-goes c = record { on = λ _. (tt, tt, omega (arith, ap length (returns-in-Ok-clause-steps c))); keeps = tt; rests = λ _. tt }

pub returns-in-Err-clause-steps : goal.returns-in-Err-clause-steps
unfolding names_at
returns-in-Err-clause-steps c = names_cut _ _ (c.args.self.now.left.count - 1) (omega arith) c.name-x.ensures.is c.bytes.ensures c.in-Err.is

pub returns-in-Err-clause-goes : goal.returns-in-Err-clause-goes
returns-in-Err-clause-goes c = record { on = λ _. (tt, tt, omega (arith, ap length (returns-in-Err-clause-steps c))); keeps = tt; rests = λ _. tt }
