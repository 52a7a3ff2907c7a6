use mathlib.Core.Path.{sym, ◌∙◌}
use borrow.Author.Tests.{lt-ltb, le-ltb}
use Rattle.ieee_vectors.specs.Sweeps.{operand_of}
use Rattle.ieee_vectors.proofs.sweeps.operand.Goals as goal

pub returns-then-op-lt2 : goal.returns-then-op-lt2
unfolding operand_of
returns-then-op-lt2 c = rw (lt-ltb _ 2 c.if-op-lt2.true, c.near_tie.ensures)

pub returns-then-is_single : goal.returns-then-is_single
unfolding operand_of
returns-then-is_single c = rw (le-ltb _ 2 c.if-op-lt2.false, sym c.is_single.ensures ∙ c.if-is_single.true, c.near_tie-y.ensures)

pub returns-else-is_single : goal.returns-else-is_single
unfolding operand_of
returns-else-is_single c = rw (le-ltb _ 2 c.if-op-lt2.false, sym c.is_single.ensures ∙ c.if-is_single.false, c.near_tie-y.ensures)
