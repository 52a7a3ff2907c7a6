use mathlib.Core.Path.{sym, ap, ◌∙◌}
use Rattle.ol_spec.specs.Eval.{RealKind, real_kind, is_double?}
use Rattle.ol_tables.specs.At.{expr_at}
use mathlib.Core.Bool.{false}
use Rattle.ol_frame.specs.Outcomes.{common_out}
use Rattle.ol_frame.specs.Plans.{globals_in, scope_in}
use Rattle.ol_frame.proofs.RealKinds.{common_plain}
use Rattle.ol_tables.specs.Table.{consts_of}
use Rattle.ol_frame.proofs.names.chosen.Goals as goal

pub real_kind-requires : goal.real_kind-requires
real_kind-requires c =
    c.requires

pub returns-then-is_single : goal.returns-then-is_single
returns-then-is_single c =
    c.common_out.ensures ∙ ap (λ (k : RealKind). common_out (is_double? k) c.args.taken) c.real_kind.ensures

pub returns-else-is_single : goal.returns-else-is_single
returns-else-is_single c =
    let f = c.args.file.now in
    let K = real_kind (globals_in f (consts_of c.args.tab.now)) (scope_in f c.args.frame.now.node false c.args.frame.now.cells.now c.args.frame.now.cells.now) (expr_at f c.args.level c.args.at) in
    c.same_out.ensures ∙ common_plain K c.args.taken (sym c.is_single.ensures ∙ c.if-is_single.false)
