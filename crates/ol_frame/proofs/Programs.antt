-- What a program's limits and the absence of 6 say of its nodes' variables and of its constants.
use Prim.Native.Nat.{ℕ, zero, suc, ◌<◌, ◌≤◌}
use mathlib.Core.Bool.{Bool, true, false, cond}
use mathlib.Core.List.Memᴰ.{not-nil as in-nil}
use mathlib.Core.List.{List, [], ◌∷◌, ◌++◌, map}
use mathlib.Core.Logic.{by_cases}
use mathlib.Core.Option.{Option, none, some}
use mathlib.Core.Path.{◌≡◌, refl, sym, subst}
use native.Mathlib.Decide.{dec_lt}
use native.Mathlib.Omega.{arith}
use lib.Dec.{T, leb, eqb, leb→le}
use lib.ListN.{length, take, length-append, get_or-eq_default}
use Rattle.ol_theory.specs.Member.{◌∈◌, Distinct}
use Rattle.ol_spec.specs.Lists.{maybe, or_else, concat, all_of}
use Rattle.ol_spec.specs.Syntax.{Ty, bool, int, float32, float64, char, enum, VarTy, scalar, array, Variable, Constant, File, name_of, constant_name, no_node, variables, variable_names, cell_types, constant_cells, length_in}
use Rattle.ol_spec.specs.Limits.{base, relay_loader}
use Rattle.ol_spec.specs.Within.{byte_fits, name_fits, count_fits, ty_fits, var_ty_fits, variable_fits, constant_fits, node_fits, section_fits, enum_fits, sections_fit, within}
use Rattle.ol_spec.specs.Shapes.{Sized, add_sized, arrays_in, constant_arrays, length_for}
use Rattle.ol_spec.specs.Admission.{constant_names}
use Rattle.ol_spec.proofs.Tests.{T_and}
use Rattle.ol_spec.proofs.MainFacts.{distinct_names, distinct_constants, variable_other}
use Rattle.ol_tables.specs.At.{file_at, node_in}
use Rattle.ol_tables.specs.Parts.{Proper}
use Rattle.ol_tables.specs.Tables.{element_of, var_ty_of, var_ty_at, first_constant_cell}
use Rattle.ol_tables.proofs.Cells.{Filled, constant_ty, variables_filled, constants_filled, few_cells, few_constant_cells}
use Rattle.ol_state.proofs.Fits.{NodeFits, fits, node_fits_lem, all_nth}
use Rattle.ol_frame.specs.Plans.{Program, Constants, known_in, width_in, long_in}
use Rattle.ol_frame.specs.Walk.{nodes_in}

-- ---- types within the limits

pub type_proper : (enums : ℕ) (t : Ty) → T (ty_fits enums t) → Proper t
type_proper enums bool f = tt
type_proper enums (int c) f = let w = T_and (leb 1 c) (leb c 8) f in (leb→le 1 c w.0, leb→le c 8 w.1)
type_proper enums float32 f = tt
type_proper enums float64 f = tt
type_proper enums char f = tt
type_proper enums (enum e) f = tt

-- a declared type's scalar type
pub element_proper : (enums : ℕ) (t : VarTy) → T (var_ty_fits base enums t) → Proper (element_of t)
element_proper enums (scalar t) f = type_proper enums t f
element_proper enums (array n t) f = type_proper enums t (T_and (count_fits 1 32 n) _ f).1

-- an array has 1 to 32 elements
abbrev pub Long : Option ℕ → Type 0
Long o = (n : ℕ) → o ≡ some n → (1 ≤ n) × (n ≤ 32)

no_some : {A B : Type 0} {x : A} → none ≡ some x → B
no_some e = let z : ◌≡◌ {A = ℕ} 0 1 = cc in absurd (omega arith)

pub type_long : (enums : ℕ) (t : VarTy) → T (var_ty_fits base enums t) → Long (length_in t)
type_long enums (scalar t) f n e = no_some e
type_long enums (array m t) f n e =
    let w = T_and (leb 1 m) (leb m 32) (T_and (byte_fits m) _ (T_and (count_fits 1 32 m) (ty_fits enums t) f).0).1 in
    let z : m ≡ n = cc in
    (omega (arith, leb→le 1 m w.0, z), omega (arith, leb→le m 32 w.1, z))

-- 0 is a scalar's length only
pub no_length : (o : Option ℕ) → Long o → maybe 0 (λ n. n) o ≡ 0 → o ≡ none
no_length none l e = refl
no_length (some n) l e = absurd (omega (arith, (l n refl).0, e))

added_long : (x y : ℕ) (o : Option ℕ) (r : List Sized) → Long o → Long (length_for x r) → Long (length_for x (add_sized y o r))
added_long x y none r l m = m
added_long x y (some k) r l m = go (eqb x y)
  where
    go : (b : Bool) → Long (cond b (some k) (length_for x r))
    go true = l
    go false = m

variables_long : (enums x : ℕ) (vs : List Variable) → T (all_of (variable_fits base enums) vs) → Long (length_for x (arrays_in vs))
variables_long enums x [] t = λ n e. no_some e
variables_long enums x (v ∷ vs) t =
    let w = T_and (variable_fits base enums v) _ t in
    added_long x v.name (length_in v.ty) (arrays_in vs) (type_long enums v.ty (T_and (name_fits v.name) _ w.0).1) (variables_long enums x vs w.1)

constants_long : (enums x : ℕ) (cs : List Constant) → T (all_of (constant_fits base enums) cs) → Long (length_for x (constant_arrays cs))
constants_long enums x [] t = λ n e. no_some e
constants_long enums x (c ∷ cs) t =
    let w = T_and (constant_fits base enums c) _ t in
    added_long x c.name (length_in c.ty) (constant_arrays cs) (type_long enums c.ty (T_and (var_ty_fits base enums c.ty) _ (T_and (name_fits c.name) _ w.0).1).0) (constants_long enums x cs w.1)

either_long : (a b : Option ℕ) → Long a → Long b → Long (or_else a b)
either_long none b l m = m
either_long (some n) b l m = l

-- ---- the constants

constants_fit : (f : File) → T (within relay_loader f) → (length f.constants ≤ 64) × T (all_of (constant_fits base (length f.enums)) f.constants)
unfolding within
constants_fit f t = go (eqb f.format 1) (T_and (maybe false (sections_fit f) (cond (eqb f.format 1) (some base) none)) _ (T_and (byte_fits f.format) _ t).1).0
  where
    go : (b : Bool) → T (maybe false (sections_fit f) (cond b (some base) none)) → (length f.constants ≤ 64) × T (all_of (constant_fits base (length f.enums)) f.constants)
    go false t = absurd t
    go true t =
        let w = T_and (section_fits 0 16 (enum_fits base) f.enums) _ t in
        let v = T_and (section_fits 0 64 (constant_fits base (length f.enums)) f.constants) _ w.1 in
        let u = T_and (count_fits 0 64 (length f.constants)) _ v.0 in
        (leb→le (length f.constants) 64 (T_and (leb 0 (length f.constants)) _ (T_and (byte_fits (length f.constants)) _ u.0).1).1, u.1)

-- the cells of the first of them
cells_first : (cs : List Constant) (i : ℕ) → first_constant_cell cs i ≤ length (concat (map constant_cells cs))
cells_first [] zero = omega arith
cells_first [] (suc i) = omega arith
cells_first (c ∷ cs) zero = omega arith
cells_first (c ∷ cs) (suc i) =
    omega (arith, cells_first cs i, length-append (constant_cells c) (concat (map constant_cells cs)), length-append (constant_cells c) (concat (map constant_cells (take i cs))))

-- ---- the variables of a node

pub record Laid (vs : List Variable) : Type 0 where
  pub few : length vs ≤ 112
  pub most : length (cell_types vs) ≤ 3584
  pub filled : Filled name_of var_ty_of vs
  pub distinct : Distinct (map name_of vs)
  pub proper : (i : ℕ) → Proper (element_of (var_ty_at vs i))
  pub long : (i : ℕ) → Long (length_in (var_ty_at vs i))

variable_proper : (enums : ℕ) (vs : List Variable) (i : ℕ) → T (all_of (variable_fits base enums) vs) → Proper (element_of (var_ty_at vs i))
variable_proper enums [] zero t = tt
variable_proper enums [] (suc i) t = tt
variable_proper enums (v ∷ vs) zero t = element_proper enums v.ty (T_and (name_fits v.name) _ (T_and (variable_fits base enums v) _ t).0).1
variable_proper enums (v ∷ vs) (suc i) t = variable_proper enums vs i (T_and (variable_fits base enums v) _ t).1

variable_long : (enums : ℕ) (vs : List Variable) (i : ℕ) → T (all_of (variable_fits base enums) vs) → Long (length_in (var_ty_at vs i))
variable_long enums [] zero t = λ n e. no_some e
variable_long enums [] (suc i) t = λ n e. no_some e
variable_long enums (v ∷ vs) zero t = type_long enums v.ty (T_and (name_fits v.name) _ (T_and (variable_fits base enums v) _ t).0).1
variable_long enums (v ∷ vs) (suc i) t = variable_long enums vs i (T_and (variable_fits base enums v) _ t).1

nothing_laid : Laid []
nothing_laid = record { few = omega arith; most = omega arith; filled = tt; distinct = tt; proper = λ i. variable_proper 0 [] i tt; long = λ i. variable_long 0 [] i tt }

module _ {file tab rows : List ℕ} (p : Program file tab rows) where
  abbrev enums : ℕ
  enums = length (file_at file).enums

  pub node_fit : (k : ℕ) → k < nodes_in file → NodeFits enums (node_in file k)
  node_fit k b = node_fits_lem {enums = enums} {n = node_in file k} (all_nth (node_fits base enums) (file_at file).nodes no_node k (fits (file_at file) p.fits).node b)

  beyond : (k : ℕ) → ¬ (k < nodes_in file) → node_in file k ≡ no_node
  beyond k h = get_or-eq_default (file_at file).nodes no_node (omega arith)

  pub laid : (k : ℕ) → Laid (variables (node_in file k))
  laid k =
      by_cases (dec_lt k (nodes_in file))
      (λ b.
      let n = node_in file k in
      let f = node_fit k b in
      let few : length (variables n) ≤ 112 = omega (arith, f.inputs, f.outputs, f.locals, length-append (n.inputs ++ n.outputs) n.locals, length-append n.inputs n.outputs) in
      record {
        few = few;
        most = omega (arith, few, few_cells enums (variables n) f.vars);
        filled = variables_filled enums (variables n) f.vars;
        distinct = distinct_names (file_at file) p.no6 k b;
        proper = λ i. variable_proper enums (variables n) i f.vars;
        long = λ i. variable_long enums (variables n) i f.vars;
      })
      (λ h. subst (λ n. Laid (variables n)) (sym (beyond k h)) nothing_laid)

  pub narrow : (k : ℕ) → width_in file k ≤ 3584
  narrow k = (laid k).most

  -- a name's array
  pub name_long : (k x : ℕ) → Long (long_in file k x)
  name_long k x =
      either_long (length_for x (arrays_in (variables (node_in file k)))) (length_for x (constant_arrays (file_at file).constants))
      (by_cases (dec_lt k (nodes_in file)) (λ b. variables_long enums x (variables (node_in file k)) (node_fit k b).vars)
      (λ h. subst (λ n. Long (length_for x (arrays_in (variables n)))) (sym (beyond k h)) (variables_long 0 x [] tt)))
      (constants_long enums x (file_at file).constants (constants_fit (file_at file) p.fits).1)

  -- constants have cells, and not too many
  pub constants_some : Filled constant_name constant_ty (file_at file).constants
  constants_some = constants_filled enums (file_at file).constants (constants_fit (file_at file) p.fits).1

  pub known_few : {consts : List ℕ} → Constants file consts → known_in consts ≤ 2048
  known_few c =
      let f = constants_fit (file_at file) p.fits in
      omega (arith, c.cells, cells_first (file_at file).constants c.count, f.0, few_constant_cells enums (file_at file).constants f.1)

  pub constants_distinct : Distinct (constant_names (file_at file))
  constants_distinct = distinct_constants (file_at file) p.no6

  -- no variable bears a constant's name
  pub names_other : (k x : ℕ) → x ∈ variable_names (node_in file k) → ¬ (x ∈ constant_names (file_at file))
  names_other k x m =
      by_cases (dec_lt k (nodes_in file)) (λ b. variable_other (file_at file) p.no6 k b x m) (λ h. absurd (in-nil (subst (λ n. x ∈ variable_names n) (beyond k h) m)))

  -- a node has an output
  pub some_output : (k : ℕ) → k < nodes_in file → 1 ≤ length (node_in file k).outputs
  some_output k b =
      let n = node_in file k in
      let ok = variable_fits base enums in
      let t = all_nth (node_fits base enums) (file_at file).nodes no_node k (fits (file_at file) p.fits).node b in
      let o = (T_and (section_fits 1 16 ok n.outputs) _ (T_and (section_fits 0 32 ok n.inputs) _ t).1).0 in
      let c = (T_and (byte_fits (length n.outputs)) _ (T_and (count_fits 1 16 (length n.outputs)) _ o).0).1 in
      leb→le 1 (length n.outputs) (T_and (leb 1 (length n.outputs)) _ c).0
