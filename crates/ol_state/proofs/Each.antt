-- The inputs of the main node, judged one after the other.
use Prim.Native.Nat.{ℕ, suc, max, ◌+◌, ◌-◌, ◌*◌, ◌<◌, ◌≤◌}
use mathlib.Core.Bool.{Bool, true, false, ◌&&◌, and_assoc}
use mathlib.Core.List.{List, [], ◌∷◌, ◌++◌}
use mathlib.Core.Path.{◌≡◌, refl, sym, ap, ap₂, subst, ◌∙◌}
use native.Mathlib.Omega.{arith}
use lib.Dec.{T, leb, leb→le}
use lib.ListN.{length, take, drop, get_or, replicate, drop_of_length-le, length-append, length-replicate, get_or-append, get_or-map}
use lib.Seq.{drop-cons, drop-drop}
use borrow.Author.Tests.{eq-eqb, ne_eqb}
use Rattle.ol_spec.specs.Syntax.{Ty, bool, int, float32, float64, char, enum, VarTy, scalar, Variable, Node, File, main, variables, type_cells, cell_types}
use Rattle.ol_spec.specs.Cell.{value_of, good_cell}
use Rattle.ol_spec.specs.Types.{in_type}
use Rattle.ol_spec.specs.Step.{input_count}
use Rattle.ol_spec.specs.State.{good_each, good_inputs}
use Rattle.ol_spec.specs.Lists.{concat}
use Rattle.ol_spec.specs.Limits.{base}
use Rattle.ol_spec.specs.Within.{ty_fits, var_ty_fits, name_fits, variable_fits}
use Rattle.ol_spec.proofs.Tests.{T_and}
use Rattle.ol_tables.specs.Tables.{ty_code, ty_enum, element_of, array_length, var_ty_of, var_ty_at, code_at, enum_at, count_at, row_at, node_of}
use Rattle.ol_tables.proofs.Lending.{tail_of, tail_all}
use Rattle.ol_value.specs.Codes.{ty_of}
use Rattle.ol_value.proofs.TypeCodes.{int_code}
use Rattle.ol_state.specs.Known.{Known}
use Rattle.ol_state.specs.Defaults.{width_of}
use Rattle.ol_state.proofs.Fits.{all_nth}
use Rattle.ol_state.proofs.Told.{element_fits, type_cells_lem}
use Rattle.ol_state.proofs.Instances.{row_of, fits_here, main_is, few_nodes_lem}
use Rattle.ol_state.specs.Inputs.{Typed, good_input, good_some}
use Rattle.ol_state.proofs.Judged.{and_pass, and_stop}

-- a type is had back from its bytes
ty_of_lem : (n : ℕ) (t : Ty) → T (ty_fits n t) → ty_of (ty_code t) (ty_enum t) ≡ t
ty_of_lem n bool h = refl
ty_of_lem n (int c) h = let w = T_and (leb 1 c) _ h in int_code c 0 (leb→le 1 c w.0) (omega (arith, leb→le c 8 w.1))
ty_of_lem n float32 h = refl
ty_of_lem n float64 h = refl
ty_of_lem n char h = refl
ty_of_lem n (enum e) h = refl

no_variable : Variable
no_variable = record { name = 0; ty = scalar bool }

-- ---- cells of one type

-- of n cells of one type the first i are good: the others decide
pub record Some (f : File) (code e n : ℕ) (s : List ℕ) (i : ℕ) : Type 0 where
  pub most : i ≤ n
  pub left : good_some f code e n s ≡ good_some f code e (n - i) (drop (9 * i) s)

module _ (f : File) (code e n : ℕ) (s : List ℕ) where
  module _ {i : ℕ} (w : Some f code e n s i) where
    some_next : i < n → good_some f code e n s ≡ good_input f code e (take 9 (drop (9 * i) s)) && good_some f code e (n - (i + 1)) (drop (9 * (i + 1)) s)
    some_next h =
        let z : n - i ≡ suc (n - (i + 1)) = omega arith in
        let q : 9 * i + 9 ≡ 9 * (i + 1) = omega arith in
        let c = take 9 (drop (9 * i) s) in
        w.left ∙ ap (λ m. good_some f code e m (drop (9 * i) s)) z
        ∙ ap (λ l. good_input f code e c && good_some f code e (n - (i + 1)) l) (drop-drop 9 (9 * i) s ∙ ap (λ m. drop m s) q)

    module _ (h : i < n) {b : Bool} (is : b ≡ good_input f code e (take 9 (drop (9 * i) s))) where
      pub some_on : b ≡ true → Some f code e n s (i + 1)
      some_on t = record { most = omega arith; left = some_next h ∙ and_pass (sym is ∙ t) }

      pub some_stop : b ≡ false → false ≡ good_some f code e n s
      some_stop t = sym (some_next h ∙ and_stop _ (sym is ∙ t))

    pub some_done : n ≤ i → true ≡ good_some f code e n s
    some_done h = let z : n - i ≡ 0 = omega arith in sym (w.left ∙ ap (λ m. good_some f code e m (drop (9 * i) s)) z)

-- ---- cells of several types

each_append : (enums : List (List ℕ)) (ts us : List Ty) (s : List ℕ) → good_each enums (ts ++ us) s ≡ good_each enums ts s && good_each enums us (drop (9 * length ts) s)
each_append enums [] us s = refl
each_append enums (t ∷ ts) us s =
    let a = good_cell (concat enums) (take 9 s) && in_type enums t (value_of (take 9 s)) in
    let q : 9 + 9 * length ts ≡ 9 * suc (length ts) = omega arith in
    ap (λ b. a && b) (each_append enums ts us (drop 9 s)) ∙ sym (and_assoc a _ _)
    ∙ ap (λ l. a && good_each enums ts (drop 9 s) && good_each enums us l) (drop-drop (9 * length ts) 9 s ∙ ap (λ m. drop m s) q)

-- of the inputs the first i, which have so many cells, are good: the others decide
pub record Judging (f : File) (ins : List Variable) (s : List ℕ) (i cell : ℕ) : Type 0 where
  pub count : cell + length (cell_types (drop i ins)) ≡ length (cell_types ins)
  pub left : good_each f.enums (cell_types ins) s ≡ good_each f.enums (cell_types (drop i ins)) (drop (9 * cell) s)

pub judging_start : {f : File} {ins : List Variable} {s : List ℕ} → Judging f ins s 0 0
judging_start = record { count = omega arith; left = refl }

module _ {f : File} {s tab rows : List ℕ} (known : Known f s tab rows) where
  module _ (k : ℕ) (last : k + 1 ≡ length f.nodes) where
    below : k < length f.nodes
    below = omega arith

    pub few : k < 32
    few = few_nodes_lem known below

    abbrev ins : List Variable
    ins = (main f).inputs

    is_main : main f ≡ node_of f k
    is_main = main_is f k last

    same_ins : (node_of f k).inputs ≡ ins
    same_ins = ap (λ (n : Node). n.inputs) (sym is_main)

    pub inputs_told : row_at rows k 2 ≡ length ins
    inputs_told = (row_of known below).inputs ∙ ap length same_ins

    pub few_inputs_lem : row_at rows k 2 ≤ 32
    few_inputs_lem = omega (arith, (row_of known below).inputs, (fits_here known below).inputs)

    pub cells_told : count_at tab k 1 ≡ input_count (main f)
    cells_told = (known.tabled.tabs_of k below).input_cells ∙ ap (λ vs. length (cell_types vs)) same_ins

    module _ (i : ℕ) (h : i < row_at rows k 2) where
      -- input i's type
      ty : VarTy
      ty = var_ty_at (variables (node_of f k)) i

      inside : i < length (variables (node_of f k))
      inside =
          let n = node_of f k in
          omega (arith, (row_of known below).inputs, length-append (n.inputs ++ n.outputs) n.locals, length-append n.inputs n.outputs)

      ty_is : ty ≡ (get_or ins i no_variable).ty
      unfolding ty no_variable
      ty_is =
          let n = node_of f k in
          let l : i < length n.inputs = omega (arith, (row_of known below).inputs) in
          get_or-map var_ty_of (variables n) i no_variable
          ∙ ap var_ty_of (get_or-append (n.inputs ++ n.outputs) n.locals no_variable i (omega (arith, length-append n.inputs n.outputs)) ∙ get_or-append n.inputs n.outputs no_variable i l)
          ∙ ap (λ vs. var_ty_of (get_or vs i no_variable)) same_ins

      ty_fits_lem : T (var_ty_fits base (length f.enums) ty)
      unfolding ty no_variable
      ty_fits_lem =
          let v = (fits_here known below).vars in
          let w = all_nth (variable_fits base (length f.enums)) (variables (node_of f k)) no_variable i v inside in
          subst (λ t. T (var_ty_fits base (length f.enums) t)) (sym (get_or-map var_ty_of (variables (node_of f k)) i no_variable)) (T_and (name_fits (get_or (variables (node_of f k)) i no_variable).name) _ w).1

      element : T (ty_fits (length f.enums) (element_of ty))
      element = element_fits (length f.enums) ty ty_fits_lem

      module _ {b z : ℕ} (code : b ≡ code_at tab k i) (number : z ≡ enum_at tab k i) where
        told : ty_of b z ≡ element_of ty
        unfolding ty
        told =
            let t = known.tabled.tabs_of k below in
            ap₂ ty_of (code ∙ t.codes i inside) (number ∙ t.enums i inside) ∙ ty_of_lem (length f.enums) (element_of ty) element

        pub input_typed : b < 256 → z < 256 → Typed f s b z
        input_typed p q =
            record { encoded = known.encoded; within = known.within; code_small = omega arith; enum_small = omega arith; fits = subst (λ t. T (ty_fits (length f.enums) t)) (sym told) element }

        module _ {m : ℕ} (count : m ≡ width_of tab k i) where
          -- the cells of the inputs that are left: those of the first of them, and the others'
          types_next : cell_types (drop i ins) ≡ replicate m (ty_of b z) ++ cell_types (drop (i + 1) ins)
          unfolding ty
          types_next =
              let n : suc i ≡ i + 1 = omega arith in
              let v = get_or ins i no_variable in
              let e : drop i ins ≡ v ∷ drop (i + 1) ins = drop-cons ins i no_variable (omega (arith, inputs_told)) ∙ ap (λ j. v ∷ drop j ins) n in
              let c : m ≡ max (array_length ty) 1 = count ∙ ap (λ l. max l 1) ((known.tabled.tabs_of k below).lengths i inside) in
              let t : type_cells v.ty ≡ replicate m (ty_of b z) = ap type_cells (sym ty_is) ∙ type_cells_lem (length f.enums) ty ty_fits_lem ∙ (λ j. replicate (sym c j) (sym told j)) in
              ap cell_types e ∙ ap (λ l. l ++ cell_types (drop (i + 1) ins)) t

          types_length : length (cell_types (drop i ins)) ≡ m + length (cell_types (drop (i + 1) ins))
          types_length = ap length types_next ∙ length-append (replicate m (ty_of b z)) _ ∙ ap (λ l. l + length (cell_types (drop (i + 1) ins))) (length-replicate m (ty_of b z))

          module _ {r : List ℕ} {cell : ℕ} (w : Judging f ins r i cell) where
            pub input_room : cell + m ≤ input_count (main f)
            input_room = omega (arith, w.count, types_length)

            input_next : good_each f.enums (cell_types ins) r ≡ good_some f b z m (tail_of (9 * cell) r) && good_each f.enums (cell_types (drop (i + 1) ins)) (drop (9 * (cell + m)) r)
            input_next =
                let l = drop (9 * cell) r in
                let us = cell_types (drop (i + 1) ins) in
                let q : 9 * cell + 9 * length (replicate m (ty_of b z)) ≡ 9 * (cell + m) = omega (arith, length-replicate m (ty_of b z)) in
                w.left ∙ ap (λ ts. good_each f.enums ts l) types_next ∙ each_append f.enums (replicate m (ty_of b z)) us l
                ∙ (λ j. good_some f b z m (sym (tail_all (9 * cell) r) j) && good_each f.enums us ((drop-drop (9 * length (replicate m (ty_of b z))) (9 * cell) r ∙ ap (λ p. drop p r) q) j))

            module _ {g : Bool} (is : g ≡ good_some f b z m (tail_of (9 * cell) r)) where
              pub judging_on : g ≡ true → Judging f ins r (i + 1) (cell + m)
              judging_on t = record { count = omega (arith, w.count, types_length); left = input_next ∙ and_pass (sym is ∙ t) }

              pub judging_stop : g ≡ false → false ≡ good_each f.enums (cell_types ins) r
              judging_stop t = sym (input_next ∙ and_stop _ (sym is ∙ t))

    pub judging_done : {i cell : ℕ} {r : List ℕ} → Judging f ins r i cell → row_at rows k 2 ≤ i → true ≡ good_each f.enums (cell_types ins) r
    judging_done {i} {cell} {r} w h =
        sym (w.left ∙ ap (λ vs. good_each f.enums (cell_types vs) (drop (9 * cell) r)) (drop_of_length-le ins {i = i} (omega (arith, inputs_told))))

    -- a list of inputs of another length is bad, and else its cells decide
    pub inputs_length : {n : ℕ} (r : List ℕ) → n ≡ count_at tab k 1 → (length r ≡ 9 * n → ⊥) → false ≡ good_inputs f r
    unfolding good_inputs
    inputs_length r e no_such = sym (and_stop _ (ne_eqb (length r) (9 * input_count (main f)) (λ q. no_such (omega (arith, q, e, cells_told)))))

    pub inputs_each : {n : ℕ} (r : List ℕ) → n ≡ count_at tab k 1 → length r ≡ 9 * n → good_inputs f r ≡ good_each f.enums (cell_types ins) r
    unfolding good_inputs
    inputs_each r e q = and_pass (eq-eqb (length r) (9 * input_count (main f)) (omega (arith, q, e, cells_told)))
