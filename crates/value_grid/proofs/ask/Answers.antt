use Rattle.value_grid.specs.Questions.{answered_at}
use Rattle.value_grid.proofs.ask.Goals as goal

pub returns-in-Binary : goal.returns-in-Binary
unfolding answered_at
returns-in-Binary c = rw c.in-Binary.is (rw (c.eval_binary.ensures, c.code.ensures, c.at-l.ensures, c.at-v.ensures) at c.agrees.ensures)

pub returns-in-Unary : goal.returns-in-Unary
unfolding answered_at
returns-in-Unary c = rw c.in-Unary.is (rw (c.eval_unary.ensures, c.code-c.ensures, c.at-v.ensures) at c.agrees-in-Unary.ensures)

pub returns-in-Cast : goal.returns-in-Cast
unfolding answered_at
returns-in-Cast c = rw c.in-Cast.is (rw (c.cast_value.ensures 0, c.code-c.ensures, c.at-v.ensures) at c.agrees-in-Cast.ensures)

pub returns-in-Store : goal.returns-in-Store
unfolding answered_at
returns-in-Store c = rw c.in-Store.is (rw (c.fit_to.ensures 0, c.code-c.ensures, c.at-v.ensures) at c.agrees-in-Store.ensures)

pub returns-in-Input : goal.returns-in-Input
unfolding answered_at
returns-in-Input c = rw c.in-Input.is (rw (c.code-c.ensures, c.at-v.ensures) at c.input_agrees.ensures)

pub returns-in-Default : goal.returns-in-Default
unfolding answered_at
returns-in-Default c = rw c.in-Default.is (rw c.code-in-Default.ensures at c.default_agrees.ensures)

pub returns-in-Cell : goal.returns-in-Cell
unfolding answered_at
returns-in-Cell c = rw c.in-Cell.is c.cell_agrees.ensures
