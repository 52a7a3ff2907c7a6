use Rattle.ol_tables.proofs.NumberLaws.{numbers_long}
use mathlib.Core.Path.{refl, sym, subst, ◌∙◌}
use native.Mathlib.Omega.{arith}
use Rattle.ol_tables.specs.At.{file_at}
use Rattle.ol_tables.proofs.HeadsFile.{bytes_of_lem}
use Rattle.ol_check.specs.NodesJudged.{NamesReady}
use Rattle.ol_check.proofs.NodeLaws.{judged_same, nodes_start_lem, nodes_turn, nodes_judged, ready_at}
use Rattle.ol_check.proofs.SizeTable.{kept_start, kept_turn, rows_kept, sizes_start, sizes_turn, sizes_done, plans_turn, types_turn, constants_turn}
use Rattle.ol_check.proofs.PlanLaws.{plans_on}
use Rattle.ol_check.proofs.nodes.judge_nodes.Goals as goal

pub loop-k-init : goal.loop-k-init
loop-k-init c =
    record { same = refl; kept = kept_start (numbers_long c.args.rows.now); going = nodes_start_lem; sized = sizes_start; planned = λ no j h. absurd (omega arith); typed = record { left = λ j l x a b. refl }; constants = record { left = λ x a b. refl } }

pub node-requires : goal.node-requires
node-requires c =
    let w = c.loop-k.invariant in
    (ready_at (rows_kept c.requires.0 w.kept) c.loop-k.k c.loop-k-test.true, subst (λ l. NamesReady l (file_at c.args.file.now)) (sym w.same) c.requires.1, plans_on c.requires.2 w.typed w.constants c.loop-k.auto.plans)

pub loop-k-preserved : goal.loop-k-preserved
loop-k-preserved c =
    let w = c.loop-k.invariant in
    let bytes = bytes_of_lem c.args.file.now (λ i. omega (arith, c.type_inv.file i)) in
    let judged = judged_same w.same c.node.ensures.2 in
    record {
      same = c.node.ensures.0 ∙ w.same;
      kept = kept_turn w.kept c.loop-k.k _ _ (omega (arith, c.loop-k-test.true, c.requires.0.few)) c.node.ensures.1;
      going = nodes_turn w.going (omega (arith, c.loop-k-test.true, c.requires.0.many)) _ _ judged;
      sized = sizes_turn c.requires.0 w.kept w.sized bytes c.loop-k-test.true _ _ judged.sized c.node.ensures.1;
      planned = plans_turn _ c.requires.0 w.sized bytes c.loop-k-test.true c.node.ensures.3 w.planned;
      typed = types_turn _ c.requires.0 bytes c.loop-k-test.true c.node.ensures.3 w.typed;
      constants = constants_turn _ c.requires.0 bytes c.loop-k-test.true c.node.ensures.3 w.constants;
    }

pub returns : goal.returns
returns c =
    let w = c.loop-k.invariant in
    (w.same, nodes_judged w.going (omega (arith, c.loop-k-test.false, c.requires.0.many)), sizes_done c.requires.0 w.kept w.sized c.loop-k.auto.k-end c.loop-k-test.false, λ no j h. w.planned no j (omega (arith, c.loop-k-test.false)), w.typed, w.constants)
