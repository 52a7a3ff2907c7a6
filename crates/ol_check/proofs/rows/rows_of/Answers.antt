use Rattle.ol_check.proofs.RowLoops.{first_place_lem, nodes_count, places_in, places_long, places_front, tables_done}
use Rattle.std.proofs.lemmas.List.{get_or-take, length-take-le}
use Rattle.ol_tables.specs.Numbers.{numbers}
use Rattle.ol_check.specs.RowsDone.{NodesStored}
use lib.ListN.{take}
use mathlib.Core.Path.{refl, sym, subst, ◌∙◌}
use native.Mathlib.Omega.{arith}
use Rattle.ol_check.proofs.Standing.{stands}
use Rattle.ol_tables.proofs.NumberLaws.{numbers_long}
use Rattle.ol_check.proofs.rows.rows_of.Goals as goal

pub enum_rows-c-requires : goal.enum_rows-c-requires
enum_rows-c-requires c =
    let st = stands c.type_inv.file c.requires.0 in
    (omega (arith, c.byte.ensures.is, st.enum_count, st.few_enums), omega arith)

pub overflow_sub-n : goal.overflow_sub-n
overflow_sub-n c =
    let st = stands c.type_inv.file c.requires.0 in
    omega (arith, first_place_lem st c.requires.1, c.entry-n.ensures)

pub slice_bounds-node_rows-end : goal.slice_bounds-node_rows-end
slice_bounds-node_rows-end c =
    let st = stands c.type_inv.file c.requires.0 in
    let many = nodes_count st c.byte.ensures (numbers_long c.args.rows.now) c.enum_rows-c.ensures c.requires.1 c.entry-n.ensures refl c.byte-2.ensures in
    let long = length-take-le c.byte-2.result c.args.places.now (omega (arith, many, places_long st c.requires.1)) in
    omega (arith, many, places_long st c.requires.1, long)

pub node_rows-requires : goal.node_rows-requires
node_rows-requires c =
    let st = stands c.type_inv.file c.requires.0 in
    let many = nodes_count st c.byte.ensures (numbers_long c.args.rows.now) c.enum_rows-c.ensures c.requires.1 c.entry-n.ensures refl c.byte-2.ensures in
    let long = length-take-le c.byte-2.result c.args.places.now (omega (arith, many, places_long st c.requires.1)) in
    (omega (arith, many, long, st.few_nodes), λ k lt. places_in st (places_front c.requires.1 many) k (omega (arith, many, long, lt)), omega (arith, c.requires.3))

pub returns : goal.returns
returns c =
    let st = stands c.type_inv.file c.requires.0 in
    let many = nodes_count st c.byte.ensures (numbers_long c.args.rows.now) c.enum_rows-c.ensures c.requires.1 c.entry-n.ensures refl c.byte-2.ensures in
    let long = length-take-le c.byte-2.result c.args.places.now (omega (arith, many, places_long st c.requires.1)) in
    let first = get_or-take c.byte-2.result c.args.places.now 0 0 (omega (arith, many, st.some_node)) in
    tables_done st c.byte.ensures (numbers_long c.args.rows.now) c.enum_rows-c.ensures (places_front c.requires.1 many) (c.entry-n.ensures ∙ sym first) refl (numbers_long c.enum_rows-c.new.rows) c.requires.2 c.requires.3 c.byte-2.ensures
    (subst (λ n. NodesStored c.args.file.now (take c.byte-2.result c.args.places.now) (numbers c.enum_rows-c.new.rows) (numbers c.node_rows.new.rows) c.args.tab.now c.node_rows.new.tab c.args.plans n) long c.node_rows.ensures)
