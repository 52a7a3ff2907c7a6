use Prim.Native.Nat.{◌<◌}
use mathlib.Core.Path.{sym, ◌∙◌}
use native.Mathlib.Omega.{arith}
use borrow.Author.Tests.{eqb-true}
use Rattle.ol_shapes.proofs.Shaping.{few_nodes_lem}
use Rattle.ol_shapes.proofs.Zeros.{iterable_scalars}
use Rattle.ol_shapes.proofs.shapes.Shapes.iterable.Goals as goal

pub returns-then-row-eq1 : goal.returns-then-row-eq1
returns-then-row-eq1 c =
    let t = c.if-row-eq1.true in
    record {
      is = λ s slots k locals sc low.
          let few : c.args.k < 32 = omega (arith, low, few_nodes_lem sc) in
          let r = c.row-row.ensures few in
          iterable_scalars sc c.args.k c.args.inputs low r.kind (eqb-true _ 0 (sym c.is.ensures ∙ t.0)) r.inputs t.1 r.outputs t.2 (c.all_scalars.ensures few);
    }
