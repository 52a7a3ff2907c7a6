-- Constants, equations and nodes, one by one.
use Prim.Native.Nat.{ℕ, ◌+◌, ◌*◌, ◌≤◌, ◌<◌}
use mathlib.Core.List.{List, [], map}
use mathlib.Core.Option.{Option}
use mathlib.Core.Path.{◌≡◌, sym, ap, ap₂, subst, ◌∙◌}
use native.Mathlib.Omega.{arith}
use lib.ListN.{length, get_or}
use Rattle.std.specs.Prelude.{Result, Ok}
use Rattle.ol_spec.specs.Lists.{sum}
use Rattle.ol_spec.specs.Syntax.{Constant, Node, length_in, no_node, nil}
use Rattle.ol_spec.specs.Limits.{base}
use Rattle.ol_spec.specs.Places.{constant_size, equation_size, node_size, constants_start, nodes_start, equations_start, placed_constants, placed_nodes, placed_equations}
use Rattle.ol_spec.specs.Encode.{constant_bytes}
use Rattle.ol_spec.specs.Within.{constant_fits}
use Rattle.ol_spec.specs.Step.{no_equation}
use Rattle.ol_spec.specs.Demand3.{Bytes}
use Rattle.ol_spec.specs.Admission.{Place, under, value_place, misplaced_in, constant_misplaced, node_misplaced}
use Rattle.ol_spec.proofs.RoundTrip.Items.{constant_size_lem}
use Rattle.ol_tables.specs.At.{file_at}
use Rattle.ol_tables.specs.Heads.{name_at, ty_length_at, ty_size_at}
use Rattle.ol_tables.specs.Tables.{node_of, place_of, row_at, plan_in, equation_place, array_length}
use Rattle.ol_tables.proofs.HeadsFile.{Passing, passing_start, passing_item, placed_at}
use Rattle.ol_shapes.specs.Codes.{fault_of, length_shape}
use Rattle.ol_shapes.specs.Judges.{OneJudged, ExprJudged}
use Rattle.ol_shapes.specs.Laid.{Laid, EquationJudged}
use Rattle.ol_shapes.specs.declared.places.Misplaced.{Misplaced}
use Rattle.ol_shapes.proofs.Sitting.{sits_near}
use Rattle.ol_shapes.proofs.Shaping.{length_shape_lem, variables_many}
use Rattle.ol_shapes.proofs.Naming.{locals_of}
use Rattle.ol_shapes.proofs.Laying.{no_constant, laid_stands, node_here, equation_sits, constant_here, constant_type, constant_sits, placed_pair, placed_many}

module _ {s rows slots plans : List ℕ} (l : Laid s rows slots plans) (bytes : Bytes s) where
  -- ---- the equations of a node

  module _ (k : ℕ) (low : k < length (file_at s).nodes) where
    abbrev n : Node
    n = node_of (file_at s) k

    abbrev place : ℕ
    place = place_of (placed_nodes (file_at s)) k

    pub near_place : {a : ℕ} → a ≡ row_at rows k 7 → a < 32768
    near_place e = omega (arith, e, (l.typed.row k low).place, (node_here l bytes k low).inside, (laid_stands l bytes).short)

    pub few_variables : {a : ℕ} → a ≡ row_at rows k 4 → a ≤ 112
    few_variables e =
        let h = node_here l bytes k low in
        omega (arith, e, (l.typed.row k low).variables, variables_many (node_of (file_at s) k), h.few_inputs, h.few_outputs, h.few_locals)

    pub few_equations_lem : {a : ℕ} → a ≡ row_at rows k 5 → a ≤ 80
    few_equations_lem e = omega (arith, e, (l.typed.row k low).count, (node_here l bytes k low).few_equations)

    pub equations_many : {a : ℕ} → a ≡ row_at rows k 5 → a ≡ length (node_of (file_at s) k).equations
    equations_many e = e ∙ (l.typed.row k low).count

    pub listed_many : {a : ℕ} → a ≡ row_at rows k 5 → a ≡ length (placed_equations (place_of (placed_nodes (file_at s)) k) (node_of (file_at s) k))
    listed_many e = equations_many e ∙ sym (placed_many equation_size (equations_start place n + 1) n.equations)

    -- an equation's place, as the plan tells it
    pub plan_told : (i : ℕ) → i < length (node_of (file_at s) k).equations → {a b x : ℕ} → a ≡ row_at rows k 7 → b ≡ row_at rows k 4 → x ≡ name_at plans (a + 2 * b + 2 * i) → x ≡ equation_place (file_at s) k i
    plan_told i h {a} {b} {x} ea eb ex =
        let r = l.typed.row k low in
        let at : a + 2 * b + 2 * i ≡ plan_in (file_at s) k + 2 * i = omega (arith, ea, eb, r.place, r.variables) in
        ex ∙ ap (name_at plans) at ∙ (l.nodes k low).places i h

    pub equation_found : (i : ℕ) → i < length (node_of (file_at s) k).equations → {at : ℕ} {r : Result (Unit {0}) Misplaced} → at ≡ equation_place (file_at s) k i → EquationJudged s rows slots plans k at r
        → fault_of r ≡ misplaced_in (file_at s) (locals_of s k) (get_or (placed_equations (place_of (placed_nodes (file_at s)) k) (node_of (file_at s) k)) i (0, no_equation))
    equation_found i h {at} {r} e j =
        (subst (λ a. EquationJudged s rows slots plans k a r) e j).is (get_or n.equations i no_equation) (equation_sits l bytes k low i h)
        ∙ ap (misplaced_in (file_at s) (locals_of s k)) (sym (placed_pair equation_size (0, no_equation) (equations_start place n + 1) n.equations i h))

    -- the node itself
    pub node_found : node_misplaced (file_at s) (place_of (placed_nodes (file_at s)) k, node_of (file_at s) k) ≡ node_misplaced (file_at s) (get_or (placed_nodes (file_at s)) k (0, no_node))
    node_found = ap (node_misplaced (file_at s)) (sym (placed_pair node_size (0, no_node) (nodes_start (file_at s)) (file_at s).nodes k low))

  pub nodes_many : length (placed_nodes (file_at s)) ≡ length (file_at s).nodes
  nodes_many = placed_many node_size (nodes_start (file_at s)) (file_at s).nodes

  pub constants_many : length (placed_constants (file_at s)) ≡ length (file_at s).constants
  constants_many = placed_many constant_size (constants_start (file_at s)) (file_at s).constants

  -- ---- the constants

  -- those from number i on stand at `next`
  abbrev pub ConstantsLeft : ℕ → ℕ → Type 0
  ConstantsLeft i next = Passing constant_bytes (constant_fits base (length (file_at s).enums)) constant_size s (constants_start (file_at s)) (file_at s).constants i next

  pub constants_start_lem : ConstantsLeft 0 (constants_start (file_at s))
  constants_start_lem = passing_start constant_bytes (constant_fits base (length (file_at s).enums)) constant_size (laid_stands l bytes).constants

  module _ (i next : ℕ) (p : Passing constant_bytes (constant_fits base (length (file_at s).enums)) constant_size s (constants_start (file_at s)) (file_at s).constants i next) (lt : i < length (file_at s).constants) where
    abbrev c : Constant
    c = get_or (file_at s).constants i no_constant

    abbrev here : ℕ
    here = get_or (map (λ p. p.0) (placed_constants (file_at s))) i 0

    constant_at_lem : next ≡ get_or (map (λ p. p.0) (placed_constants (file_at s))) i 0
    constant_at_lem = p.place ∙ sym (placed_at constant_size (file_at s).constants (constants_start (file_at s)) i lt)

    pub constant_near : next < 32766
    constant_near = omega (arith, constant_at_lem, sits_near (constant_sits l bytes i lt))

    length_told : ty_length_at s (next + 2) ≡ array_length (get_or (file_at s).constants i no_constant).ty
    length_told = ap (λ m. ty_length_at s (m + 2)) constant_at_lem ∙ (constant_here l bytes i lt).ty.length

    module _ {a t v : ℕ} {o : Option ℕ} {w : Place} {r : Result ℕ Misplaced} (ea : a ≡ ty_length_at s (next + 2)) (eo : o ≡ length_shape a) (ew : w ≡ under o) (et : t ≡ ty_size_at s (next + 2)) (ev : v ≡ next + 2 + t) (j : ExprJudged s rows slots plans 24 v w r) where
      value_at_lem : v ≡ value_place here c
      value_at_lem = ev ∙ ap₂ (λ x y. x + 2 + y) constant_at_lem (et ∙ ap (λ m. ty_size_at s (m + 2)) constant_at_lem ∙ (constant_here l bytes i lt).ty.size)

      place_is_lem : w ≡ under (length_in c.ty)
      place_is_lem = ew ∙ ap under (eo ∙ ap length_shape (ea ∙ length_told) ∙ length_shape_lem (length_in c.ty) (constant_type l bytes i lt))

      value_judged : OneJudged (file_at s) [] (under (length_in c.ty)) (value_place here c) c.value r
      value_judged =
          subst (λ p. OneJudged (file_at s) [] p (value_place here c) c.value r) place_is_lem
          ((subst (λ m. ExprJudged s rows slots plans 24 m w r) value_at_lem j).is 0 [] c.value nil (constant_sits l bytes i lt))

      pub constant_found : fault_of r ≡ constant_misplaced (file_at s) (get_or (placed_constants (file_at s)) i (0, no_constant))
      constant_found = value_judged.found ∙ ap (constant_misplaced (file_at s)) (sym (placed_pair constant_size (0, no_constant) (constants_start (file_at s)) (file_at s).constants i lt))

      pub constants_turn : {end : ℕ} → r ≡ Ok end → Passing constant_bytes (constant_fits base (length (file_at s).enums)) constant_size s (constants_start (file_at s)) (file_at s).constants (i + 1) end
      constants_turn {end} z =
          let e : next + constant_size c ≡ end = omega (arith, value_judged.ends end z, constant_at_lem) in
          subst (Passing constant_bytes (constant_fits base (length (file_at s).enums)) constant_size s (constants_start (file_at s)) (file_at s).constants (i + 1)) e (passing_item constant_size_lem no_constant p lt).on

  -- ---- where the counts stand

  pub counted_constants : (c : ℕ) {b : ℕ} → c + 1 ≡ constants_start (file_at s) → b ≡ get_or s c 0 → b ≡ length (file_at s).constants
  counted_constants c e q = q ∙ ap (λ m. get_or s m 0) (let z : c ≡ 1 + Rattle.ol_spec.specs.Places.section_size Rattle.ol_spec.specs.Places.enum_size (file_at s).enums = omega (arith, e) in z) ∙ (laid_stands l bytes).constant_count

  pub counted_nodes : (c : ℕ) {b : ℕ} → c + 1 ≡ nodes_start (file_at s) → b ≡ get_or s c 0 → b ≡ length (file_at s).nodes
  counted_nodes c e q = q ∙ ap (λ m. get_or s m 0) (let z : c ≡ constants_start (file_at s) + sum (map constant_size (file_at s).constants) = omega (arith, e) in z) ∙ (laid_stands l bytes).node_count
