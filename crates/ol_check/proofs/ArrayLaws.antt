-- Where nothing of a file is about arrays, each of its types is a scalar's and each of its expressions has no form of arrays.
use Prim.Native.Nat.{ℕ, zero, suc, ◌<◌}
use mathlib.Core.Bool.{Bool, true, false, ◌||◌}
use mathlib.Core.List.{List, [], ◌∷◌, map}
use mathlib.Core.Path.{◌≡◌, refl}
use native.Mathlib.Omega.{arith}
use lib.ListN.{length, get_or}
use Rattle.ol_spec.specs.Lists.{concat}
use Rattle.ol_spec.specs.Syntax.{VarTy, scalar, array, Variable, Constant, Node, File, no_node, variables}
use Rattle.ol_tables.specs.Tables.{Each, node_of, array_length}
use Rattle.ol_tables.proofs.Forms.{each_append}
use Rattle.ol_check.specs.Arrays.{or_all, is_array, variable_array, constant_array, node_arrays, declared_arrays, declares_arrays, forms, about_arrays}
use Rattle.ol_check.specs.RowsDone.{no_variable, no_constant}

abbrev No : Bool → Type 0
No b = b ≡ false

or_none : (a b : Bool) → a || b ≡ false → (a ≡ false) × (b ≡ false)
or_none true b h = (h, cc)
or_none false b h = (refl, h)

pub all_none : (so_far : Bool) (bs : List Bool) → or_all so_far bs ≡ false → (so_far ≡ false) × Each No bs
unfolding or_all
all_none so_far [] h = (h, tt)
all_none so_far (b ∷ bs) h =
    let w = all_none (so_far || b) bs h in
    let v = or_none so_far b w.0 in
    (v.0, (v.1, w.1))

-- ---- what is declared

each_variable : (P : Bool → Type 0) (vs : List Variable) → Each P (map variable_array vs) → (i : ℕ) → i < length vs → P (variable_array (get_or vs i no_variable))
each_variable P [] h i lt = absurd (omega arith)
each_variable P (v ∷ vs) h zero lt = h.0
each_variable P (v ∷ vs) h (suc i) lt = each_variable P vs h.1 i (omega arith)

each_node : (P : Bool → Type 0) (ns : List Node) → Each P (concat (map node_arrays ns)) → (k : ℕ) → k < length ns → Each P (node_arrays (get_or ns k no_node))
each_node P [] h k lt = absurd (omega arith)
each_node P (n ∷ ns) h zero lt = (each_append P (node_arrays n) (concat (map node_arrays ns)) h).0
each_node P (n ∷ ns) h (suc k) lt = each_node P ns (each_append P (node_arrays n) (concat (map node_arrays ns)) h).1 k (omega arith)

each_constant : (P : Bool → Type 0) (cs : List Constant) → Each P (map constant_array cs) → (i : ℕ) → i < length cs → P (constant_array (get_or cs i no_constant))
each_constant P [] h i lt = absurd (omega arith)
each_constant P (c ∷ cs) h zero lt = h.0
each_constant P (c ∷ cs) h (suc i) lt = each_constant P cs h.1 i (omega arith)

scalar_length : (t : VarTy) → is_array t ≡ false → array_length t ≡ 0
scalar_length (scalar t) h = refl
scalar_length (array n t) h = cc

module _ (f : File) (none : declares_arrays f ≡ false) where
  parts : Each No (map constant_array f.constants) × Each No (concat (map node_arrays f.nodes))
  parts = each_append No (map constant_array f.constants) (concat (map node_arrays f.nodes)) (all_none false (declared_arrays f) none).1

  pub variable_scalar : (k : ℕ) → k < length f.nodes → (i : ℕ) → i < length (variables (node_of f k)) → array_length (get_or (variables (node_of f k)) i no_variable).ty ≡ 0
  variable_scalar k lt i low = scalar_length _ (each_variable No (variables (node_of f k)) (each_node No f.nodes parts.1 k lt) i low)

  pub constant_scalar : (i : ℕ) → i < length f.constants → array_length (get_or f.constants i no_constant).ty ≡ 0
  constant_scalar i lt = scalar_length _ (each_constant No f.constants parts.0 i lt)

-- ---- the whole file

pub nothing_of_arrays : (f : File) → about_arrays f ≡ false → (declares_arrays f ≡ false) × Each No (forms f)
nothing_of_arrays f h = all_none (declares_arrays f) (forms f) h
