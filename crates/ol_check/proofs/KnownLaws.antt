-- What the entries of names say of cells and lengths of arrays, by the types that stand among the plans.
use Prim.Native.Nat.{ℕ, ◌+◌, ◌-◌, ◌*◌, ◌≤◌, ◌<◌}
use mathlib.Core.Bool.{Bool, true, false, cond}
use mathlib.Core.List.{List, [], ◌∷◌, map}
use mathlib.Core.Logic.{◌⊎◌, inl, inr, by_cases}
use mathlib.Core.Path.{◌≡◌, refl, sym, ap, ◌∙◌}
use native.Mathlib.Omega.{arith}
use native.Mathlib.Nat.{zero-add}
use native.Mathlib.Decide.{dec_lt}
use lib.ListN.{length, get_or, set, get_or-eq_default}
use lib.Seq.{get_or-set_same, get_or-set_other, set_out}
use lib.Dec.{leb, eqb}
use borrow.Author.Tests.{le-leb, lt-leb, ne_eqb}
use Rattle.ol_spec.specs.Syntax.{File, Node, Variable, Constant, variables, no_node, cell_types}
use Rattle.ol_tables.specs.At.{file_at}
use Rattle.ol_tables.specs.Stands.{FileStands}
use Rattle.ol_tables.proofs.HeadsFile.{node_at_lem}
use Rattle.ol_tables.specs.Tables.{Each, node_of, array_length, first_cell, first_constant_cell}
use Rattle.ol_check.specs.RowsDone.{cells_from, cells_by, no_variable, no_constant}
use Rattle.ol_check.specs.Judging.{cell_put, length_by, entry_put, entry_length, entry_cell, Known, VariableKnown, ConstantKnown, Scalars, Undeclared}
use Rattle.ol_check.specs.Entries.{declared, declare_all, variable_entries, constant_entries, variant_entry}
use Rattle.ol_check.proofs.ArrayLaws.{variable_scalar, constant_scalar}
use Rattle.ol_check.proofs.CellLaws.{cells_of_ty, cells_told, constant_cells_told, constant_fits_lem, node_told, cells_plain, constants_plain, cells_limit, first_least, constants_limit}
use Rattle.ol_check.proofs.EntryLaws.{eq_cases}

-- a length and a cell, given whether arrays are declared
length_either : (arrays : Bool) (types : List ℕ) (p i : ℕ) {n : ℕ} → get_or types (p + 2 * i + 1) 0 ≡ n → (arrays ≡ false → n ≡ 0) → length_by arrays types p i ≡ n
length_either true types p i told none = told
length_either false types p i told none = sym (none refl)

cells_either : (arrays : Bool) (types : List ℕ) (p i : ℕ) {n : ℕ} → cells_from types p i ≡ n → (arrays ≡ false → n ≡ i) → cells_by arrays types p i ≡ n
cells_either true types p i told plain = told
cells_either false types p i told plain = sym (plain refl)

-- what is stored for a Var, by its name's entry
module _ (f : File) (k : ℕ) (slots : List ℕ) (p e : ℕ) where
  pub put_none : {slots' : List ℕ} → (e ≡ 0) ⊎ ((e ≡ 0 → ⊥) × (e ≡ 255)) → slots' ≡ cell_put slots p 0 65535 → slots' ≡ entry_put f k slots p e
  unfolding entry_put
  put_none (inl z) es = es ∙ rw z refl
  put_none (inr z) es = es ∙ rw z.1 refl

  -- as the types tell, or where no array is declared
  module _ {types : List ℕ} {vs cs : ℕ} (known : Known f k types vs cs e) {arrays : Bool} (scalars : Scalars arrays f k) (nz : e ≡ 0 → ⊥) (nv : e ≡ 255 → ⊥) where
    pub put_variable : {slots' : List ℕ} → e ≤ 112 → slots' ≡ cell_put slots p (length_by arrays types vs (e - 1)) (0 + cells_by arrays types vs (e - 1)) → slots' ≡ entry_put f k slots p e
    unfolding entry_put
    put_variable {slots'} le es =
        let h = known.variable (omega arith) le in
        let len : length_by arrays types vs (e - 1) ≡ entry_length f k e =
        length_either arrays types vs (e - 1) h.length (λ q. ((scalars q).variable (e - 1) h.one).0) ∙ sym (rw (ne_eqb e 0 nz, ne_eqb e 255 nv, le-leb e 112 le) refl) in
        let cell : 0 + cells_by arrays types vs (e - 1) ≡ entry_cell f k e =
        zero-add (cells_by arrays types vs (e - 1)) ∙ cells_either arrays types vs (e - 1) h.cell (λ q. ((scalars q).variable (e - 1) h.one).1) ∙ sym (rw (ne_eqb e 0 nz, ne_eqb e 255 nv, le-leb e 112 le) refl) in
        es ∙ ap (λ m. cell_put slots p m (0 + cells_by arrays types vs (e - 1))) len ∙ ap (cell_put slots p (entry_length f k e)) cell

    pub put_constant : {slots' : List ℕ} → e < 256 → 112 < e → slots' ≡ cell_put slots p (length_by arrays types cs (e - 113)) (3584 + cells_by arrays types cs (e - 113)) → slots' ≡ entry_put f k slots p e
    unfolding entry_put
    put_constant {slots'} small gt es =
        let h = known.constant (omega arith) (omega arith) in
        let len : length_by arrays types cs (e - 113) ≡ entry_length f k e =
        length_either arrays types cs (e - 113) h.length (λ q. ((scalars q).constant (e - 113) h.one).0) ∙ sym (rw (ne_eqb e 0 nz, ne_eqb e 255 nv, lt-leb e 112 gt) refl) in
        let cell : 3584 + cells_by arrays types cs (e - 113) ≡ entry_cell f k e =
        ap (λ m. 3584 + m) (cells_either arrays types cs (e - 113) h.cell (λ q. ((scalars q).constant (e - 113) h.one).1)) ∙ sym (rw (ne_eqb e 0 nz, ne_eqb e 255 nv, lt-leb e 112 gt) refl) in
        es ∙ ap (λ m. cell_put slots p m (3584 + cells_by arrays types cs (e - 113))) len ∙ ap (cell_put slots p (entry_length f k e)) cell

-- ---- entries within bounds

-- an entry of a variable is one of so many, and an entry of a constant
pub record EntryWithin (vs cs e : ℕ) : Type 0 where
  pub variable : 1 ≤ e → e ≤ 112 → e ≤ vs
  pub constant : 113 ≤ e → e < 255 → e < 113 + cs

pub within_declared : {vs cs : ℕ} (names : List ℕ) (x e y : ℕ) → EntryWithin vs cs (get_or names y 0) → EntryWithin vs cs e → EntryWithin vs cs (get_or (declared names x e) y 0)
within_declared {vs} {cs} names x e y h k =
    go (eqb (get_or names x 0) 0)
  where
    put : EntryWithin vs cs (get_or (set names x e) y 0)
    put =
        eq_cases y x
        (λ q. by_cases (dec_lt x (length names))
        (λ lt. rw q (rw (get_or-set_same names x e 0 lt) k))
        (λ no. rw (set_out names x e (omega arith)) h))
        (λ ne. rw (get_or-set_other names x y e 0 ne) h)

    go : (b : Bool) → EntryWithin vs cs (get_or (cond b (set names x e) names) y 0)
    go true = put
    go false = h

pub within_all : {vs cs : ℕ} (ds : List (ℕ × ℕ)) (names : List ℕ) → Each (λ d. EntryWithin vs cs d.1) ds → ((y : ℕ) → EntryWithin vs cs (get_or names y 0)) → (y : ℕ) → EntryWithin vs cs (get_or (declare_all names ds) y 0)
unfolding declare_all
within_all [] names ok h y = h y
within_all (d ∷ ds) names ok h y = within_all ds (declared names d.0 d.1) ok.1 (λ z. within_declared names d.0 d.1 z (h z) ok.0) y

pub within_variables : {vs : ℕ} (cs : ℕ) (xs : List Variable) (first : ℕ) → first + length xs ≤ vs → vs ≤ 112 → Each (λ d. EntryWithin vs cs d.1) (variable_entries first xs)
within_variables cs [] first le few = tt
within_variables cs (x ∷ xs) first le few = (record { variable = λ a b. omega arith; constant = λ a b. absurd (omega arith) }, within_variables cs xs (first + 1) (omega arith) few)

pub within_constants : (vs : ℕ) {cs : ℕ} (xs : List Constant) (first : ℕ) → first + length xs ≤ cs → Each (λ d. EntryWithin vs cs d.1) (constant_entries first xs)
within_constants vs [] first le = tt
within_constants vs (x ∷ xs) first le = (record { variable = λ a b. absurd (omega arith); constant = λ a b. omega arith }, within_constants vs xs (first + 1) (omega arith))

pub within_variants : (vs cs : ℕ) (xs : List ℕ) → Each (λ d. EntryWithin vs cs d.1) (map variant_entry xs)
within_variants vs cs [] = tt
within_variants vs cs (x ∷ xs) = (record { variable = λ a b. absurd (omega arith); constant = λ a b. absurd (omega arith) }, within_variants vs cs xs)

-- an entry within bounds is known, if all within them are
pub known_from : {f : File} {k : ℕ} {types : List ℕ} {p q vs cs e : ℕ} → ((i : ℕ) → i < vs → VariableKnown f k types p i) → ((i : ℕ) → i < cs → ConstantKnown f types q i) → EntryWithin vs cs e → Known f k types p q e
known_from v c h = record { variable = λ a b. v _ (omega (arith, h.variable a b)); constant = λ a b. c _ (omega (arith, h.constant a b)) }

-- ---- the lengths that stand among the plans

module _ {s : List ℕ} (st : FileStands s (file_at s)) where
  pub variable_known : (k : ℕ) → k < length (file_at s).nodes → {types : List ℕ} {p : ℕ} → ((i : ℕ) → i < length (variables (node_of (file_at s) k)) → get_or types (p + 2 * i + 1) 0 ≡ array_length (get_or (variables (node_of (file_at s) k)) i no_variable).ty)
      → (i : ℕ) → i < length (variables (node_of (file_at s) k)) → VariableKnown (file_at s) k types p i
  variable_known k lt {types} {p} each i low =
      let n = node_of (file_at s) k in
      record { one = low; length = each i low; cell = cells_told types p (variables n) (node_told types p n (node_at_lem st k lt) each) i (omega arith) }

  pub constant_known : {types : List ℕ} {p : ℕ} (n : ℕ) → n ≤ length (file_at s).constants → ((i : ℕ) → i < n → get_or types (p + 2 * i + 1) 0 ≡ array_length (get_or (file_at s).constants i no_constant).ty)
      → (i : ℕ) → i < n → ConstantKnown (file_at s) types p i
  constant_known {types} {p} n le each i low =
      let cs = (file_at s).constants in
      record { one = omega arith; length = each i low; cell = constant_cells_told types p cs i (omega arith) (λ j h. (each j (omega arith), cells_of_ty (length (file_at s).enums) _ (constant_fits_lem st j (omega arith)))) }

  -- where no array is declared
  pub one_each : {arrays : Bool} → Undeclared arrays (file_at s) → (k : ℕ) → Scalars arrays (file_at s) k
  one_each none k e =
      record {
        variable = λ i low. by_cases (dec_lt k (length (file_at s).nodes))
            (λ lt. (variable_scalar (file_at s) (none e) k lt i low, cells_plain st (none e) k lt i (omega arith)))
            (λ no. let z : length (variables (node_of (file_at s) k)) ≡ 0 = ap (λ (n : Node). length (variables n)) (get_or-eq_default (file_at s).nodes no_node {n = k} (omega arith)) in absurd (omega arith));
        constant = λ i low. (constant_scalar (file_at s) (none e) i low, constants_plain st (none e) i (omega arith));
      }

  -- a cell has two bytes
  pub cells_small : (k e : ℕ) → entry_cell (file_at s) k e < 65536
  cells_small k e = go (eqb e 0) (eqb e 255) (leb e 112)
    where
      variables_small : first_cell (variables (node_of (file_at s) k)) (e - 1) ≤ 3584
      variables_small =
          by_cases (dec_lt k (length (file_at s).nodes))
          (λ lt. omega (arith, cells_limit (node_at_lem st k lt), first_least (variables (node_of (file_at s) k)) (e - 1)))
          (λ no. let z : length (cell_types (variables (node_of (file_at s) k))) ≡ 0 = ap (λ (n : Node). length (cell_types (variables n))) (get_or-eq_default (file_at s).nodes no_node {n = k} (omega arith)) in omega (arith, z, first_least (variables (node_of (file_at s) k)) (e - 1)))

      go : (a b c : Bool) → cond a 65535 (cond b 65535 (cond c (first_cell (variables (node_of (file_at s) k)) (e - 1)) (3584 + first_constant_cell (file_at s).constants (e - 113)))) < 65536
      go true b c = omega arith
      go false true c = omega arith
      go false false true = omega (arith, variables_small)
      go false false false = omega (arith, constants_limit st (e - 113))
