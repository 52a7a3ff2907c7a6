use Prim.Native.Nat.{ℕ, ◌+◌}
use mathlib.Core.List.{List}
use mathlib.Core.Path.{refl}
use Rattle.std.specs.Borrow.{MutBor}
use native.Mathlib.Omega.{arith}
use Rattle.ol_check.proofs.Standing.{stands}
use Rattle.ol_check.proofs.SpanLaws.{visits_lent}
use Rattle.ol_check.proofs.NodeLaws.{sectioned}
use Rattle.ol_check.proofs.nodes.node_variables.Goals as goal

pub overflow_add-at : goal.overflow_add-at
overflow_add-at g c =
    let w = sectioned c.requires.ready (stands c.type_inv.file c.requires.ready.reads) c.node-row.ensures.place c.node-row.ensures.inputs c.node-row.ensures.outputs refl refl refl in
    omega (arith, w.inside)

pub each_variable-o-requires-clause-few : goal.each_variable-o-requires-clause-few
each_variable-o-requires-clause-few g c =
    let w = sectioned c.requires.ready (stands c.type_inv.file c.requires.ready.reads) c.node-row.ensures.place c.node-row.ensures.inputs c.node-row.ensures.outputs refl refl refl in
    (omega arith, omega (arith, w.few))

pub each_variable-o-requires-clause-near : goal.each_variable-o-requires-clause-near
each_variable-o-requires-clause-near g c =
    let w = sectioned c.requires.ready (stands c.type_inv.file c.requires.ready.reads) c.node-row.ensures.place c.node-row.ensures.inputs c.node-row.ensures.outputs refl refl refl in
    omega (arith, w.inside)

pub each_variable-o-requires-clause-taken : goal.each_variable-o-requires-clause-taken
each_variable-o-requires-clause-taken g c =
    let w = sectioned c.requires.ready (stands c.type_inv.file c.requires.ready.reads) c.node-row.ensures.place c.node-row.ensures.inputs c.node-row.ensures.outputs refl refl refl in
    λ y i p lt le n. c.requires.taken (record { ref_ptr = y.ref_ptr; ghost_name = n; now = y.now }) (0 + i) p (omega (arith, w.few))

pub overflow_add-o : goal.overflow_add-o
overflow_add-o g c =
    let w = sectioned c.requires.ready (stands c.type_inv.file c.requires.ready.reads) c.node-row.ensures.place c.node-row.ensures.inputs c.node-row.ensures.outputs c.each_variable-o.ensures.ends refl refl in
    omega (arith, w.inside, w.near, w.few)

pub each_variable-l-requires-clause-few : goal.each_variable-l-requires-clause-few
each_variable-l-requires-clause-few g c =
    let w = sectioned c.requires.ready (stands c.type_inv.file c.requires.ready.reads) c.node-row.ensures.place c.node-row.ensures.inputs c.node-row.ensures.outputs c.each_variable-o.ensures.ends refl refl in
    (omega (arith, w.few), omega (arith, w.few))

pub each_variable-l-requires-clause-near : goal.each_variable-l-requires-clause-near
each_variable-l-requires-clause-near g c =
    let w = sectioned c.requires.ready (stands c.type_inv.file c.requires.ready.reads) c.node-row.ensures.place c.node-row.ensures.inputs c.node-row.ensures.outputs c.each_variable-o.ensures.ends refl refl in
    omega (arith, w.inside, w.near, w.few)

pub each_variable-l-requires-clause-taken : goal.each_variable-l-requires-clause-taken
each_variable-l-requires-clause-taken g c =
    let w = sectioned c.requires.ready (stands c.type_inv.file c.requires.ready.reads) c.node-row.ensures.place c.node-row.ensures.inputs c.node-row.ensures.outputs c.each_variable-o.ensures.ends refl refl in
    λ y i p lt le n. c.requires.taken (record { ref_ptr = y.ref_ptr; ghost_name = n; now = y.now }) (c.node-row.result.now.inputs + i) p (omega (arith, w.few))

pub overflow_add-inputs : goal.overflow_add-inputs
overflow_add-inputs g c =
    let w = sectioned c.requires.ready (stands c.type_inv.file c.requires.ready.reads) c.node-row.ensures.place c.node-row.ensures.inputs c.node-row.ensures.outputs c.each_variable-o.ensures.ends c.each_variable-l.ensures.ends c.byte-locals.ensures.is in
    omega (arith, w.few)

pub overflow_add-l : goal.overflow_add-l
overflow_add-l g c =
    let w = sectioned c.requires.ready (stands c.type_inv.file c.requires.ready.reads) c.node-row.ensures.place c.node-row.ensures.inputs c.node-row.ensures.outputs c.each_variable-o.ensures.ends c.each_variable-l.ensures.ends c.byte-locals.ensures.is in
    omega (arith, w.inside, w.near, w.far, w.few)

pub each_variable-requires-clause-few : goal.each_variable-requires-clause-few
each_variable-requires-clause-few g c =
    let w = sectioned c.requires.ready (stands c.type_inv.file c.requires.ready.reads) c.node-row.ensures.place c.node-row.ensures.inputs c.node-row.ensures.outputs c.each_variable-o.ensures.ends c.each_variable-l.ensures.ends c.byte-locals.ensures.is in
    (omega (arith, w.few), omega (arith, w.few))

pub each_variable-requires-clause-near : goal.each_variable-requires-clause-near
each_variable-requires-clause-near g c =
    let w = sectioned c.requires.ready (stands c.type_inv.file c.requires.ready.reads) c.node-row.ensures.place c.node-row.ensures.inputs c.node-row.ensures.outputs c.each_variable-o.ensures.ends c.each_variable-l.ensures.ends c.byte-locals.ensures.is in
    omega (arith, w.inside, w.near, w.far, w.few)

pub each_variable-requires-clause-taken : goal.each_variable-requires-clause-taken
each_variable-requires-clause-taken g c =
    let w = sectioned c.requires.ready (stands c.type_inv.file c.requires.ready.reads) c.node-row.ensures.place c.node-row.ensures.inputs c.node-row.ensures.outputs c.each_variable-o.ensures.ends c.each_variable-l.ensures.ends c.byte-locals.ensures.is in
    λ y i p lt le n. c.requires.taken (record { ref_ptr = y.ref_ptr; ghost_name = n; now = y.now }) (c.node-row.result.now.inputs + c.node-row.result.now.outputs + i) p (omega (arith, w.few))

pub returns : goal.returns
returns g c =
    let post = λ (y : MutBor (List ℕ)) (i : ℕ) (p : ℕ) (y' : MutBor (List ℕ)). goal.F-post g c.args.visit y i p tt y' in
    record {
      at = c.node-row.result.now.place;
      ins = c.node-row.result.now.inputs;
      outs = c.node-row.result.now.outputs;
      locs = c.byte-locals.result;
      o = c.each_variable-o.result;
      l = c.each_variable-l.result;
      t₁ = c.each_variable-o.new.table;
      t₂ = c.each_variable-l.new.table;
      place = c.node-row.ensures.place;
      inputs = c.node-row.ensures.inputs;
      outputs = c.node-row.ensures.outputs;
      second = c.each_variable-o.ensures.ends;
      third = c.each_variable-l.ensures.ends;
      locals = c.byte-locals.ensures.is;
      first_visits = visits_lent post _ _ _ _ c.each_variable-o.ensures.visited;
      second_visits = visits_lent post _ _ _ _ c.each_variable-l.ensures.visited;
      third_visits = visits_lent post _ _ _ _ c.each_variable.ensures.visited;
    }
