use mathlib.Core.Path.{◌∙◌}
use Rattle.std.specs.Prelude.{Some, None}
use Rattle.ol_spec.specs.Types.{fit}
use Rattle.ol_value.specs.Codes.{ty_of}
use Rattle.ol_frame.specs.Stores.{PassedOn}
use Rattle.ol_frame.proofs.Storing.{kept_back}
use Rattle.ol_tables.specs.Table.{tab_of}
use Rattle.ol_frame.proofs.copies.passed.Goals as goal

pub returns-in-Some : goal.returns-in-Some
returns-in-Some c =
    let fitted : PassedOn (tab_of c.args.tab.now) (Some c.in-Some.k) c.args.i c.args.v c.kept-in-Some.result =
    λ e. c.kept-in-Some.ensures.0 ∙ c.fit_to.ensures e ∙ (λ j. fit (ty_of (c.code_of-c.ensures j) e) (c.kept.ensures.0 j)) in
    (rw c.in-Some.is fitted, kept_back c.kept-in-Some.result c.fit_to.result c.kept-in-Some.ensures.0 c.kept-in-Some.ensures.1)

pub returns-in-None : goal.returns-in-None
returns-in-None c =
    let same : PassedOn (tab_of c.args.tab.now) None c.args.i c.args.v c.kept-in-None.result = λ e. c.kept-in-None.ensures.0 in
    (rw c.in-None.is same, kept_back c.kept-in-None.result c.args.v c.kept-in-None.ensures.0 c.kept-in-None.ensures.1)
