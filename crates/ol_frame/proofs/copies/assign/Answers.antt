use mathlib.Core.Path.{◌≡◌, refl, ap, subst, ◌∙◌}
use mathlib.Core.List.{List}
use Prim.Native.Nat.{ℕ, ◌-◌, ◌*◌}
use native.Mathlib.Omega.{arith}
use lib.ListN.{length, take, drop, length-drop}
use lib.Seq.{take_all}
use Rattle.ol_tables.specs.Table.{tab_of, rows_of}
use Rattle.ol_frame.proofs.Storing.{AssignedTo, assigned_none, assigned_turn, assigned_all, assign_room, assign_storable, under_snoc}
use Rattle.ol_frame.proofs.copies.assign.Goals as goal

-- what is lent of a list from a place on
lent : (s : List ℕ) (a : ℕ) → take (length s - a) (drop a s) ≡ drop a s
lent s a = take_all (length s - a) (drop a s) (omega (arith, length-drop a s))

pub loop-i-init : goal.loop-i-init
loop-i-init c = (refl, refl, assigned_none (tab_of c.args.tab.now) (rows_of c.args.tab.now) c.args.k c.args.at c.args.n c.args.from.now c.args.cells.now)

pub overflow_mul-i : goal.overflow_mul-i
overflow_mul-i c = omega (arith, c.loop-i-test.true, c.requires.few)

pub overflow_add-at : goal.overflow_add-at
overflow_add-at c = omega (arith, c.loop-i-test.true, c.requires.few, c.requires.small)

pub overflow_mul-q : goal.overflow_mul-q
overflow_mul-q c =
    omega (arith, assign_room c.loop-i.i c.loop-i.q c.requires c.loop-i-test.true c.loop-i.invariant.1, c.well_formed)

pub slice_bounds-store_name-count : goal.slice_bounds-store_name-count
slice_bounds-store_name-count c = omega (arith, assign_room c.loop-i.i c.loop-i.q c.requires c.loop-i-test.true c.loop-i.invariant.1)

pub slice_bounds-store_name-start : goal.slice_bounds-store_name-start
slice_bounds-store_name-start c = omega (arith, assign_room c.loop-i.i c.loop-i.q c.requires c.loop-i-test.true c.loop-i.invariant.1)

pub store_name-q-requires : goal.store_name-q-requires
store_name-q-requires c = (
  assign_storable c.loop-i.i c.loop-i.cells c.requires c.loop-i-test.true c.loop-i.invariant.0,
  omega (arith, assign_room c.loop-i.i c.loop-i.q c.requires c.loop-i-test.true c.loop-i.invariant.1, length-drop (9 * c.loop-i.q) c.args.from.now, ap length (lent c.args.from.now (9 * c.loop-i.q))),
)

pub overflow_add-q : goal.overflow_add-q
overflow_add-q c =
    omega (arith, c.store_name-q.ensures.0, assign_room c.loop-i.i c.loop-i.q c.requires c.loop-i-test.true c.loop-i.invariant.1, c.well_formed)

pub loop-i-preserved : goal.loop-i-preserved
loop-i-preserved c =
    let t = tab_of c.args.tab.now in
    let i = c.loop-i.i in (
      c.store_name-q.auto.cells ∙ c.loop-i.invariant.0,
      omega (arith, c.loop-i.invariant.1, c.store_name-q.ensures.0, under_snoc t c.args.k c.args.at i),
      assigned_turn t (rows_of c.args.tab.now) c.args.k c.args.at c.args.n c.args.from.now c.args.cells.now i c.loop-i.q c.loop-i.cells _ _ c.requires c.loop-i-test.true c.loop-i.invariant.1 c.loop-i.invariant.2 (lent c.args.from.now (9 * c.loop-i.q)) c.store_name-q.ensures.1,
    )

pub shape_of-cells : goal.shape_of-cells
shape_of-cells c = c.loop-i.invariant.0

pub returns : goal.returns
returns c =
    let t = tab_of c.args.tab.now in
    let r = rows_of c.args.tab.now in
    let e : c.loop-i.i ≡ c.args.n = omega arith in
    assigned_all t r c.args.k c.args.at c.args.n c.args.from.now c.args.cells.now c.loop-i.cells
    (subst (λ (j : ℕ). AssignedTo t r c.args.k c.args.at c.args.n j c.args.from.now c.args.cells.now c.loop-i.cells) e c.loop-i.invariant.2)
