use Rattle.std.proofs.Common.{ap, ◌∙◌}
use Rattle.ol_tables.specs.At.{file_at}
use Rattle.ol_check.specs.Founds.{place_of}
use Rattle.ol_sim.proofs.Chain.{no_place, refused_lem, erred, passed_by_lem}
use Rattle.ol_sim.proofs.Steps.{ring_found, few_cells, nodes_stand, planned, constants_ready}
use Rattle.ol_sim.proofs.judge.Judging.order.Goals as goal

pub orders_of-ring-requires : goal.orders_of-ring-requires
orders_of-ring-requires c =
    let l = c.requires.loads in
    record { nodes_stand = nodes_stand c.requires.order_ready l.reads l.counted l.placed; planned = planned c.requires.order_ready }

pub constants-requires : goal.constants-requires
constants-requires c =
    let o = c.orders_of-ring.ensures.orders_done _ _ c.requires.loads.reads.is in
    let no11 = no_place 11 c.err.result c.in_ok-refuse_at.ensures (ap place_of c.err.ensures.value ∙ ring_found c.orders_of-ring.result o.found) in
    constants_ready c.requires.order_ready c.orders_of-ring.new.tab c.orders_of-ring.auto.tab o c.orders_of-ring.ensures.kept c.requires.loads.bytes no11 (c.state_size-size.ensures.sized (file_at c.args.self.now.project.file.now))

pub returns : goal.returns
returns c =
    let o = c.orders_of-ring.ensures.orders_done _ _ c.requires.loads.reads.is in
    passed_by_lem (no_place 11 c.err.result c.in_ok-refuse_at.ensures (ap place_of c.err.ensures.value ∙ ring_found c.orders_of-ring.result o.found)) c.constants.ensures

pub returns-in_err-refuse_at : goal.returns-in_err-refuse_at
returns-in_err-refuse_at c =
    let o = c.orders_of-ring.ensures.orders_done _ _ c.requires.loads.reads.is in
    rw (erred c.from_residual.result c.from_residual.ensures.1) (refused_lem c.err.result c.in_err-refuse_at.ensures (ap place_of c.err.ensures.value ∙ ring_found c.orders_of-ring.result o.found))

pub state_size-size-requires : goal.state_size-size-requires
state_size-size-requires c = few_cells c.requires.order_ready.walked.sections.fit
