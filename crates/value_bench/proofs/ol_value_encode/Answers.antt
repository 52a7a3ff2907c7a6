use mathlib.Core.Path.{refl, ap, ◌∙◌}
use Rattle.ol_spec.specs.declared.Value.{Value}
use mathlib.Core.List.{◌++◌}
use native.Mathlib.Omega.{arith}
use lib.ListN.{drop}
use Rattle.ol_spec.specs.Cell.{cell}
use Rattle.value_bench.proofs.ol_value_encode.Goals as goal

pub returns-then-cells-lt9 : goal.returns-then-cells-lt9
returns-then-cells-lt9 c = record { short = (λ l. (refl, refl)); written = λ m. absurd (omega (arith, c.if-cells-lt9.true)) }

pub returns-else-cells-lt9 : goal.returns-else-cells-lt9
returns-else-cells-lt9 c =
    let s = c.args.cells.now in
    let v = c.first_value-v.ensures in
    record { short = (λ l. absurd (omega (arith, c.if-cells-lt9.false))); written = λ m. (refl, c.write_cell.ensures ∙ ap (λ (x : Value). cell x ++ drop 9 s) v) }
