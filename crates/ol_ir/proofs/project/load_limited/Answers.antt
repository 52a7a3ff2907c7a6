use mathlib.Core.Path.{ap, ◌∙◌}
use lib.Seq.{sets}
use Rattle.ol_ir.proofs.Load.{load_is, load_table, load_fault_lem, load_none, not_loaded, load_places_lem, fault_places, none_places}
use Rattle.ol_ir.proofs.Onward.{erred}
use Rattle.ol_ir.proofs.project.load_limited.Goals as goal

pub returns-in_err-e : goal.returns-in_err-e
returns-in_err-e c =
    let s = c.args.file.now in
    let a = load_none s c.args.limits.now c.enums.ensures c.in_err-e.was in
    record { read = erred _ _ c.from_residual.ensures.1 ∙ a; places = λ f end g. not_loaded s f end a g; all = ap (sets c.args.starts.now 0) (none_places s c.args.limits.now c.enums.ensures c.in_err-e.was) }

pub returns-in_err-q : goal.returns-in_err-q
returns-in_err-q c =
    let s = c.args.file.now in
    let a = load_fault_lem s c.args.limits.now c.enums.ensures c.in_ok-e.was c.constants.ensures c.in_err-q.was in
    record {
      read = erred _ _ c.from_residual-in_err-q.ensures.1 ∙ a;
      places = λ f end g. not_loaded s f end a g;
      all = ap (sets c.args.starts.now 0) (fault_places s c.args.limits.now c.enums.ensures c.in_ok-e.was c.constants.ensures c.in_err-q.was);
    }

pub returns : goal.returns
returns c =
    let s = c.args.file.now in
    let l = c.args.limits.now in
    record {
      read = load_is s l c.enums.ensures c.in_ok-e.was c.constants.ensures c.in_ok-q.was c.last_nodes.ensures.nodes;
      places = load_table s l c.enums.ensures c.in_ok-e.was c.constants.ensures c.in_ok-q.was c.last_nodes.ensures.places;
      all = c.last_nodes.ensures.all ∙ ap (sets c.args.starts.now 0) (load_places_lem s l c.enums.ensures c.in_ok-e.was c.constants.ensures c.in_ok-q.was);
    }
