use Rattle.std.proofs.Common.{◌≤◌, arith}
use Rattle.ol_check.proofs.CellLaws.{small_rows}
use Rattle.ol_sim.proofs.Begins.{counted_all, counted_none, many_places}
use Rattle.ol_sim.proofs.serve.count_arrays.Goals as goal

pub count_cells-requires : goal.count_cells-requires
count_cells-requires c =
    let h = c.requires.countable in
    let many = many_places c.requires.loads in
    let front : 256 ≤ 256 = omega arith in
    (omega (arith, many, h.stands.few_nodes), λ k lt. small_rows h.stands h.row front k (omega (arith, many, lt)), omega arith)

pub returns-then-arrays : goal.returns-then-arrays
returns-then-arrays c = counted_all c.requires.countable c.count_cells.new.tab c.count_cells.auto.tab (many_places c.requires.loads) c.count_cells.ensures

pub returns-else-arrays : goal.returns-else-arrays
returns-else-arrays c = counted_none c.requires.countable c.if-arrays.false
