use Rattle.std.proofs.Common.{◌≤◌, arith}
use Rattle.std.specs.Prelude.{Ok, Err}
use Rattle.ol_tables.proofs.HeadsFile.{bytes_of_lem}
use Rattle.relay.proofs.Calls.{few_equations_lem}
use Rattle.relay.proofs.Tellings.{entries_fit, order_said}
use Rattle.relay.proofs.session.order.Goals as goal

pub slice_bounds-entries-end : goal.slice_bounds-entries-end
slice_bounds-entries-end c = omega (arith, c.equation_count.ensures, few_equations_lem c.args.file.now c.args.node (bytes_of_lem c.args.file.now (λ i. omega (arith, c.type_inv.file i))))

pub slice_bounds-entries-end-2 : goal.slice_bounds-entries-end-2
slice_bounds-entries-end-2 c =
    let few : c.equation_count.result ≤ 80 = omega (arith, c.equation_count.ensures, few_equations_lem c.args.file.now c.args.node (bytes_of_lem c.args.file.now (λ i. omega (arith, c.type_inv.file i)))) in
    entries_fit c.equation_count.result few

pub returns-in-Ok : goal.returns-in-Ok
returns-in-Ok c =
    let few : c.equation_count.result ≤ 80 = omega (arith, c.equation_count.ensures, few_equations_lem c.args.file.now c.args.node (bytes_of_lem c.args.file.now (λ i. omega (arith, c.type_inv.file i)))) in
    order_said c.args.file.now c.args.node c.equation_count.result c.evaluation_order.new.buffer c.evaluation_order.result (Ok tt) c.say_order.result c.say_order.new.out few c.equation_count.ensures c.evaluation_order.ensures c.in-Ok.is c.say_order.ensures.0

pub returns-in-Err : goal.returns-in-Err
returns-in-Err c =
    let few : c.equation_count.result ≤ 80 = omega (arith, c.equation_count.ensures, few_equations_lem c.args.file.now c.args.node (bytes_of_lem c.args.file.now (λ i. omega (arith, c.type_inv.file i)))) in
    order_said c.args.file.now c.args.node c.equation_count.result c.evaluation_order.new.buffer c.evaluation_order.result (Err c.in-Err.f) c.say_no_order.result c.say_no_order.new.out few c.equation_count.ensures c.evaluation_order.ensures c.in-Err.is c.say_no_order.ensures.0
