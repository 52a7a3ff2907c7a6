use mathlib.Core.Path.{◌∙◌, ap}
use lib.Seq.{sets}
use Rattle.ol_ir.proofs.Load.{last_more, last_done, last_fault, nodes_read_lem, nodes_fault, nodes_table, no_nodes, not_nodes, all_placed, none_placed}
use Rattle.ol_ir.proofs.Onward.{erred}
use Rattle.ol_ir.proofs.Reader.last_nodes.Goals as goal

pub returns-in_err-n : goal.returns-in_err-n
returns-in_err-n c =
    let s = c.args.self.now.file.now in
    let l = c.args.self.now.limits.now in
    let e = c.args.self.now.enums in
    let t = c.args.starts.now in
    let a = last_fault s l e c.args.at (no_nodes s l e c.args.at c.count.ensures.is c.in_err-n.was) in
    record { nodes = erred _ _ c.from_residual.ensures.1 ∙ a; places = λ ns end g. not_nodes s l e c.args.at ns end a g; all = ap (sets t 0) (none_placed s l e c.args.at c.count.ensures.is c.in_err-n.was) }

pub returns-in_err-q : goal.returns-in_err-q
returns-in_err-q c =
    let s = c.args.self.now.file.now in
    let l = c.args.self.now.limits.now in
    let e = c.args.self.now.enums in
    let t = c.args.starts.now in
    let a = last_fault s l e c.args.at (nodes_fault s l e c.args.at c.count.ensures.is c.in_ok-n.was c.nodes.ensures.next c.in_err-q.was) in
    record {
      nodes = erred _ _ c.from_residual-in_err-q.ensures.1 ∙ a;
      places = λ ns end g. not_nodes s l e c.args.at ns end a g;
      all = c.nodes.ensures.places ∙ ap (sets t 0) (all_placed s l e c.args.at c.count.ensures.is c.in_ok-n.was);
    }

pub returns-then-q-self : goal.returns-then-q-self
returns-then-q-self c =
    let s = c.args.self.now.file.now in
    let l = c.args.self.now.limits.now in
    let e = c.args.self.now.enums in
    let t = c.args.starts.now in
    let a = last_more s l e c.args.at (nodes_read_lem s l e c.args.at c.count.ensures.is c.in_ok-n.was c.nodes.ensures.next c.in_ok-q.was).1 c.if-q-self.true in
    record {
      nodes = c.refused.ensures ∙ a;
      places = λ ns end g. not_nodes s l e c.args.at ns end a g;
      all = c.nodes.ensures.places ∙ ap (sets t 0) (all_placed s l e c.args.at c.count.ensures.is c.in_ok-n.was);
    }

pub returns-else-q-self : goal.returns-else-q-self
returns-else-q-self c =
    let s = c.args.self.now.file.now in
    let l = c.args.self.now.limits.now in
    let e = c.args.self.now.enums in
    let t = c.args.starts.now in
    let w = nodes_read_lem s l e c.args.at c.count.ensures.is c.in_ok-n.was c.nodes.ensures.next c.in_ok-q.was in
    record {
      nodes = last_done s l e c.args.at w.1 c.if-q-self.false w.2;
      places = λ ns end g. c.nodes.ensures.places ∙ ap (sets t 0) (nodes_table s l e c.args.at c.count.ensures.is c.in_ok-n.was ns end g);
      all = c.nodes.ensures.places ∙ ap (sets t 0) (all_placed s l e c.args.at c.count.ensures.is c.in_ok-n.was);
    }
