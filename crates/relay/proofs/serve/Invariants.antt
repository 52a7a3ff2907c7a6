use Rattle.relay.proofs.Runs.{Serving}
use Rattle.relay.proofs.serve.Given as goal

abbrev pub invariant-loop : goal.invariant-loop
invariant-loop l = Serving l.t l.counter l.line l.input l.session
