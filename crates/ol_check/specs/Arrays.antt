-- What of a file is about arrays: the types that are declared, and the expressions.
use Rattle.std.specs.Prelude.{ℕ, Bool, true, false, ◌||◌, List, [], ◌∷◌, ◌++◌, map}
use Rattle.ol_spec.specs.Lists.{concat, is_some}
use Rattle.ol_spec.specs.Syntax.{VarTy, length_in, Variable, Constant, Equation, Node, File, variables}
use Rattle.ol_spec.specs.Syntax.{Expr, bool_lit, int_lit, float_lit, char_lit, var, unary, binary, if_then_else, pre, arrow, cast, call, tuple, index, literal, map_over, fold_over}
use Rattle.ol_spec.specs.Places.{collect, placed_constants, placed_equations, placed_nodes, rhs_place}
use Rattle.ol_spec.specs.Admission.{value_place}

-- whether one of these holds, or `so_far`
unfoldable pub or_all : Bool → List Bool → Bool
or_all so_far [] = so_far
or_all so_far (b ∷ bs) = or_all (so_far || b) bs

-- ---- declared types

abbrev pub is_array : VarTy → Bool
is_array t = is_some (length_in t)

abbrev pub variable_array : Variable → Bool
variable_array v = is_array v.ty

abbrev pub constant_array : Constant → Bool
constant_array c = is_array c.ty

abbrev pub node_arrays : Node → List Bool
node_arrays n = map variable_array (variables n)

abbrev pub declared_arrays : File → List Bool
declared_arrays f = map constant_array f.constants ++ concat (map node_arrays f.nodes)

-- whether an array is declared
abbrev pub declares_arrays : File → Bool
declares_arrays f = or_all false (declared_arrays f)

-- ---- expressions

-- an index, a literal or an iterator
abbrev pub formed : Expr → Bool
formed (bool_lit b) = false
formed (int_lit i) = false
formed (float_lit b) = false
formed (char_lit c) = false
formed (var x) = false
formed (unary op e) = false
formed (binary op a b) = false
formed (if_then_else c a b) = false
formed (pre e) = false
formed (arrow a b) = false
formed (cast t e) = false
formed (call k es) = false
formed (tuple es) = false
formed (index a i) = true
formed (literal es) = true
formed (map_over k es) = true
formed (fold_over k s es) = true

abbrev pub formed_at : ℕ → Expr → List Bool
formed_at at e = formed e ∷ []

-- those of a constant, of an equation, of a node, and of all
abbrev pub constant_forms : ℕ × Constant → List Bool
constant_forms c = collect formed_at (value_place c.0 c.1) c.1.value

abbrev pub equation_forms : ℕ × Equation → List Bool
equation_forms q = collect formed_at (rhs_place q.0 q.1) q.1.rhs

abbrev pub node_forms : ℕ × Node → List Bool
node_forms n = concat (map equation_forms (placed_equations n.0 n.1))

abbrev pub forms : File → List Bool
forms f = concat (map constant_forms (placed_constants f)) ++ concat (map node_forms (placed_nodes f))

-- whether an array is declared, or an index, a literal or an iterator stands in the file
abbrev pub about_arrays : File → Bool
about_arrays f = or_all (declares_arrays f) (forms f)
