use native.Mathlib.Omega.{arith}
use Rattle.ol_tables.proofs.HeadsFile.{bytes_of_lem, file_stands}
use Rattle.ol_sim.proofs.Steps.{state_long, state_short, some_none}
use Rattle.ol_sim.proofs.judge.too_long.Goals as goal

pub node-requires : goal.node-requires
node-requires c = omega (arith, c.requires.2, (file_stands (bytes_of_lem c.args.file.now (λ i. omega (arith, c.type_inv.file i))) c.requires.0).few_nodes)

pub returns-then-size-gt32768 : goal.returns-then-size-gt32768
returns-then-size-gt32768 c =
    (state_long (bytes_of_lem c.args.file.now (λ i. omega (arith, c.type_inv.file i))) c.requires.0 c.requires.1 c.requires.2 c.requires.3 c.if-size-gt32768.true c.node.ensures.place, λ e. absurd (some_none e))

pub returns-else-size-gt32768 : goal.returns-else-size-gt32768
returns-else-size-gt32768 c =
    (state_short (bytes_of_lem c.args.file.now (λ i. omega (arith, c.type_inv.file i))) c.requires.0 c.requires.1 c.requires.2 c.requires.3 c.if-size-gt32768.false, λ e. c.if-size-gt32768.false)
