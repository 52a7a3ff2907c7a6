use mathlib.Core.Path.{sym, ap, ◌∙◌}
use mathlib.Core.Bool.{Bool, false, cond}
use borrow.Author.Tests.{lt-ltb, le-ltb}
use lib.ListN.{length, take}
use Rattle.ol_spec.specs.Cell.{value_of}
use Rattle.ol_spec.specs.declared.Value.TheVariants as Val
use Rattle.value_bench.proofs.first_value.Goals as goal

pub returns-then-cells-lt9 : goal.returns-then-cells-lt9
returns-then-cells-lt9 c =
    let s = c.args.cells.now in
    ap (λ (b : Bool). cond b (Val.Bool false) (value_of (take 9 s))) (sym (lt-ltb (length s) 9 c.if-cells-lt9.true))

pub returns-else-cells-lt9 : goal.returns-else-cells-lt9
returns-else-cells-lt9 c =
    let s = c.args.cells.now in
    c.read_cell.ensures ∙ ap (λ (b : Bool). cond b (Val.Bool false) (value_of (take 9 s))) (sym (le-ltb (length s) 9 c.if-cells-lt9.false))
