-- How many cells and values there are: those of variables, of read cells, and after storing and fitting.
use Prim.Native.Nat.{ℕ, zero, suc, ◌+◌}
use mathlib.Core.List.{List, [], ◌∷◌, ◌++◌, map, map-append}
use mathlib.Core.Path.{◌≡◌, refl, ap, ◌∙◌}
use native.Mathlib.Omega.{arith}
use lib.ListN.{length, drop, get_or, length-append, length-drop, length-set}
use Rattle.ol_spec.specs.Lists.{concat}
use Rattle.ol_spec.specs.Syntax.{Ty, bool, Variable, Node, variables, variable_cells, variable_slots, cell_types, cell_names}
use Rattle.ol_spec.specs.Cell.{values_of}
use Rattle.ol_spec.specs.Types.{fit}
use Rattle.ol_spec.specs.Step.{cell_count, input_count, output_count, old_cells, fit_all, slots_of, put_all, assign}
use Rattle.ol_spec.specs.declared.Value.{Value}
use Rattle.ol_spec.proofs.Lists.{concat_append}

-- the cells of two lists of variables
pub types_append : (a b : List Variable) → cell_types (a ++ b) ≡ cell_types a ++ cell_types b
types_append a b = ap concat (map-append variable_cells a b) ∙ concat_append (map variable_cells a) (map variable_cells b)

pub names_append : (a b : List Variable) → cell_names (a ++ b) ≡ cell_names a ++ cell_names b
names_append a b = ap concat (map-append variable_slots a b) ∙ concat_append (map variable_slots a) (map variable_slots b)

pub cells_length : (n : Node) → cell_count n ≡ input_count n + output_count n + length (cell_types n.locals)
cells_length n =
    ap length (types_append (n.inputs ++ n.outputs) n.locals) ∙ length-append (cell_types (n.inputs ++ n.outputs)) (cell_types n.locals)
    ∙ ap (λ m. m + length (cell_types n.locals)) (ap length (types_append n.inputs n.outputs) ∙ length-append (cell_types n.inputs) (cell_types n.outputs))

pub length_values : (n : ℕ) (s : List ℕ) → length (values_of n s) ≡ n
length_values zero s = refl
length_values (suc n) s = ap suc (length_values n (drop 9 s))

-- storing
pub put_length : (n : Node) (is : List ℕ) (ws cs : List Value) → length (put_all n is ws cs) ≡ length cs
unfolding put_all
put_length n [] ws cs = refl
put_length n (i ∷ is) [] cs = refl
put_length n (i ∷ is) (w ∷ ws) cs = put_length n is ws _ ∙ length-set cs i (fit (get_or (cell_types (variables n)) i bool) w)

pub store_length : (n : Node) (xs : List ℕ) (ws cs : List Value) → length (assign n xs ws cs) ≡ length cs
store_length n xs ws cs = put_length n (slots_of n xs) ws cs

pub length_fit_all : (ts : List Ty) (ws : List Value) → length ws ≡ length ts → length (fit_all ts ws) ≡ length ts
unfolding fit_all
length_fit_all [] ws e = refl
length_fit_all (t ∷ ts) [] e = absurd (omega arith)
length_fit_all (t ∷ ts) (w ∷ ws) e = ap suc (length_fit_all ts ws (omega arith))

-- the cells that a run starts from
pub start_length : (n : Node) (ins : List Value) (r : List ℕ) → length ins ≡ input_count n → length (ins ++ drop (input_count n) (old_cells n r)) ≡ cell_count n
start_length n ins r e =
    let old = old_cells n r in
    length-append ins _ ∙ omega (arith, length-drop (input_count n) old, length_values (cell_count n) (drop 1 r), cells_length n)
