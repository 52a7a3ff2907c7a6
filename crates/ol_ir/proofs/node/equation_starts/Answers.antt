use mathlib.Core.Path.{sym, ap, ◌∙◌}
use lib.Seq.{sets}
use Rattle.ol_ir.proofs.Onward.{erred}
use Rattle.ol_ir.proofs.Skips.{starts_counted, starts_placed, starts_uncounted, front_refused, front_placed}
use Rattle.ol_ir.proofs.node.equation_starts.Goals as goal

pub returns-in_err-p : goal.returns-in_err-p
returns-in_err-p c =
    let s = c.args.file.now in
    record {
      many = erred _ _ c.from_residual.ensures.1 ∙ front_refused s c.args.limits c.args.enums c.args.at c.interface.ensures c.in_err-p.was;
      places = ap (sets c.args.starts.now 0) (front_placed s c.args.limits c.args.enums c.args.at c.interface.ensures c.in_err-p.was);
    }

pub returns-in_err-n : goal.returns-in_err-n
returns-in_err-n c =
    let s = c.args.file.now in
    record {
      many = erred _ _ c.from_residual-in_err-n.ensures.1 ∙ (sym c.in_err-n.was ∙ starts_counted s c.args.limits c.args.enums c.args.at c.interface.ensures c.in_ok-p.was c.count.ensures.is);
      places = ap (sets c.args.starts.now 0) (starts_uncounted s c.args.limits c.args.enums c.args.at c.interface.ensures c.in_ok-p.was c.count.ensures.is c.in_err-n.was);
    }

pub returns : goal.returns
returns c =
    let s = c.args.file.now in
    record {
      many = sym c.in_ok-n.was ∙ starts_counted s c.args.limits c.args.enums c.args.at c.interface.ensures c.in_ok-p.was c.count.ensures.is;
      places = c.equation_places.ensures ∙ ap (sets c.args.starts.now 0) (starts_placed s c.args.limits c.args.enums c.args.at c.interface.ensures c.in_ok-p.was c.count.ensures.is c.in_ok-n.was);
    }
