-- Faults 7 to 10 at the names and the heads of expressions, as the bytes and the tables tell them.
use Rattle.std.specs.Prelude.{ℕ, ◌+◌, ◌-◌, ◌*◌, ◌<◌, ◌≤◌, min, Bool, true, false, not, ◌&&◌, ◌||◌, cond, List, [], ◌∷◌, ◌++◌, map, ◌≡◌, length, get_or, set, take, ltb, leb, eqb}
use Rattle.std.proofs.Math.Option.{Option}
use Rattle.ol_spec.specs.Lists.{or_else, member, concat, sum}
use Rattle.ol_spec.specs.Syntax.{Expr, Exprs, nil, cons, Equation, File, variables, variable_names}
use Rattle.ol_spec.specs.Places.{collect_all, equation_size, placed, placed_names, rhs_place}
use Rattle.ol_spec.specs.Admission.{Item, first, variants, constant_names, bad_call, bad_iterator, callee_in, equation_uses, in_equation, uses_where, equation_shape, defined_by}
use Rattle.ol_tables.specs.At.{file_at}
use Rattle.ol_tables.specs.Tables.{row_at, node_of, two_at, two_put, array_length, first_cell, first_constant_cell}
use Rattle.ol_tables.specs.Stands.{Equations}
use Rattle.ol_tables.specs.Heads.{name_at, parts_at, next_at}
use Rattle.ol_tables.specs.Walks.{walk_at, skip_at}
use Rattle.ol_spec.specs.Step.{equation_sites}
use Rattle.ol_check.specs.Founds.{place_of, marked}
use Rattle.ol_check.specs.Arrays.{or_all, declares_arrays, equation_forms}
use Rattle.ol_check.specs.Spans.{names_from}
use Rattle.ol_check.specs.RowsDone.{cells_from, no_variable, no_constant}
use Rattle.ol_check.specs.Records.{site_b, callee_b}
use Rattle.ol_check.specs.declared.Faults.{Faults}

-- ---- heads

abbrev pub head_at : ℕ → Expr → List ℕ
head_at at e = at ∷ []

-- where the heads of these expressions stand, in file order
abbrev pub heads : ℕ → Exprs → List ℕ
heads at es = collect_all head_at at es

-- ---- entries: what a name with the entry e is, in node k of f

-- a variable by its index, a constant by its index, or neither
abbrev pub by_entry : {A : Type 0} → ℕ → A → (ℕ → A) → (ℕ → A) → A
by_entry e none variable constant = cond (eqb e 0) none (cond (eqb e 255) none (cond (leb e 112) (variable (e - 1)) (constant (e - 113))))

-- its array's length, 0 for a scalar, and its cell
abbrev pub entry_length : File → ℕ → ℕ → ℕ
entry_length f k e = by_entry e 0 (λ i. array_length (get_or (variables (node_of f k)) i no_variable).ty) (λ i. array_length (get_or f.constants i no_constant).ty)

abbrev pub entry_cell : File → ℕ → ℕ → ℕ
entry_cell f k e = by_entry e 65535 (λ i. first_cell (variables (node_of f k)) i) (λ i. 3584 + first_constant_cell f.constants i)

-- name number i of the node's variables or of the constants: there is one, its array's length stands among the types from p on, and the lengths before it tell its first cell
pub record VariableKnown (f : File) (k : ℕ) (types : List ℕ) (p i : ℕ) : Type 0 where
  pub one : i < length (variables (node_of f k))
  pub length : get_or types (p + 2 * i + 1) 0 ≡ array_length (get_or (variables (node_of f k)) i no_variable).ty
  pub cell : cells_from types p i ≡ first_cell (variables (node_of f k)) i

pub record ConstantKnown (f : File) (types : List ℕ) (p i : ℕ) : Type 0 where
  pub one : i < length f.constants
  pub length : get_or types (p + 2 * i + 1) 0 ≡ array_length (get_or f.constants i no_constant).ty
  pub cell : cells_from types p i ≡ first_constant_cell f.constants i

pub record Known (f : File) (k : ℕ) (types : List ℕ) (variables constants e : ℕ) : Type 0 where
  pub variable : 1 ≤ e → e ≤ 112 → VariableKnown f k types variables (e - 1)
  pub constant : 113 ≤ e → e < 255 → ConstantKnown f types constants (e - 113)

-- every entry of the table by name is known
abbrev pub Looks : File → ℕ → List ℕ → List ℕ → ℕ → ℕ → Type 0
Looks f k names types variables constants = (x : ℕ) → Known f k types variables constants (get_or names x 0)

-- each variable of the node and each constant is a scalar, and so are those before it
pub record OneEach (f : File) (k : ℕ) : Type 0 where
  pub variable : (i : ℕ) → i < length (variables (node_of f k)) → (array_length (get_or (variables (node_of f k)) i no_variable).ty ≡ 0) × (first_cell (variables (node_of f k)) i ≡ i)
  pub constant : (i : ℕ) → i < length f.constants → (array_length (get_or f.constants i no_constant).ty ≡ 0) × (first_constant_cell f.constants i ≡ i)

-- where `arrays` is false, they are; and no array is declared in the file
abbrev pub Scalars : Bool → File → ℕ → Type 0
Scalars arrays f k = arrays ≡ false → OneEach f k

abbrev pub Undeclared : Bool → File → Type 0
Undeclared arrays f = arrays ≡ false → declares_arrays f ≡ false

-- ---- 7, and the slots

-- the expression at p is a Var of a name that has no entry
abbrev pub unseen_b : List ℕ → List ℕ → ℕ → Bool
unseen_b s names p = eqb (get_or s p 0) 4 && eqb (get_or names (name_at s (p + 1)) 0) 0

abbrev pub unseen_head : List ℕ → List ℕ → ℕ → Item
unseen_head s names p = (p + 1, unseen_b s names p)

-- the slot of a name that an equation defines, by its entry
abbrev pub slot_of_entry : ℕ → ℕ
slot_of_entry e = cond (eqb e 0) 255 (cond (eqb e 255) 255 (e - 1))

-- an array's length and a cell are stored for the Var at p
abbrev pub cell_put : List ℕ → ℕ → ℕ → ℕ → List ℕ
cell_put slots p n c = two_put (set slots p n) (p + 1) c

-- the length that stands among the types from p on for name number i, given whether arrays are declared
abbrev pub length_by : Bool → List ℕ → ℕ → ℕ → ℕ
length_by arrays types p i = cond arrays (get_or types (p + 2 * i + 1) 0) 0

-- those of a name with the entry e are stored for the Var at p, in node k of f
unfoldable pub entry_put : File → ℕ → List ℕ → ℕ → ℕ → List ℕ
entry_put f k slots p e = cell_put slots p (entry_length f k e) (entry_cell f k e)

-- those of the name of the Var at p
abbrev pub var_put : List ℕ → List ℕ → ℕ → List ℕ → ℕ → List ℕ
var_put s names k slots p = entry_put (file_at s) k slots p (get_or names (name_at s (p + 1)) 0)

-- and of the expression at p, if it is a Var
abbrev pub slot_head : List ℕ → List ℕ → ℕ → List ℕ → ℕ → List ℕ
slot_head s names k slots p = cond (eqb (get_or s p 0) 4) (var_put s names k slots p) slots

unfoldable pub slot_heads : List ℕ → List ℕ → ℕ → List ℕ → List ℕ → List ℕ
slot_heads s names k slots [] = slots
slot_heads s names k slots (p ∷ ps) = slot_heads s names k (slot_head s names k slots p) ps

-- ---- arrays

-- the expression at p is an index, a literal or an iterator
abbrev pub formed_b : List ℕ → ℕ → Bool
formed_b s p = ltb 12 (get_or s p 0)

-- ---- 9

-- whether a node of the kind coded a may call one of the kind coded b
abbrev pub may_b : ℕ → ℕ → Bool
may_b a b = not (eqb b 2) && not (eqb a 0 && eqb b 1)

-- a call of node c with so many arguments, in node k, is faulted
abbrev pub bad_b : List ℕ → ℕ → ℕ → ℕ → Bool
bad_b rows k c arguments = not (ltb c k && may_b (row_at rows k 0) (row_at rows c 0) && eqb arguments (row_at rows c 2))

-- the expression at p, in node k, is a faulted call or iterator
abbrev pub called_b : List ℕ → List ℕ → ℕ → ℕ → Bool
called_b s rows k p =
    cond (eqb (get_or s p 0) 15) (bad_iterator k (get_or s (p + 2) 0)) (eqb (get_or s p 0) 11 && bad_b rows k (get_or s (p + 1) 0) (get_or s (p + 2) 0))

abbrev pub called_head : List ℕ → List ℕ → ℕ → ℕ → Item
called_head s rows k p = (p, called_b s rows k p)

-- ---- 10

-- how many outputs node c has, in a file of so many nodes
abbrev pub outputs_b : List ℕ → ℕ → ℕ → ℕ
outputs_b rows nodes c = cond (ltb c nodes) (row_at rows c 3) 0

-- how many values the expression at p has
abbrev pub arity_b : List ℕ → List ℕ → ℕ → ℕ → ℕ
arity_b s rows nodes p =
    cond (eqb (get_or s p 0) 12) (get_or s (p + 1) 0) (cond (eqb (get_or s p 0) 11) (outputs_b rows nodes (get_or s (p + 1) 0)) 1)

abbrev pub several_head : List ℕ → List ℕ → ℕ → ℕ → Item
several_head s rows nodes p = (p, ltb 1 (arity_b s rows nodes p))

-- ---- a walk

-- where a walk stands: the first fault of each number so far, whether something was about arrays so far, the bytes of the records of a node's call sites so far, and the place
pub record Findings : Type 0 where
  pub unseen : Option ℕ
  pub again : Option ℕ
  pub called : Option ℕ
  pub shaped : Option ℕ
  pub arrays : Bool
  pub size : ℕ
  pub next : ℕ

-- the same as the code holds it
abbrev pub findings : Faults → Findings
findings g =
    record { unseen = place_of g.unseen; again = place_of g.again; called = place_of g.called; shaped = place_of g.shaped; arrays = g.arrays; size = g.size; next = g.next }

-- what is found after the Var at p, and after the call, Tuple, index, literal or iterator at p in node k
abbrev pub var_found : List ℕ → List ℕ → Faults → ℕ → Faults
var_found s names g p = record g { unseen = marked g.unseen (eqb (get_or names (name_at s (p + 1)) 0) 0) (p + 1) }

abbrev pub call_found : List ℕ → List ℕ → ℕ → ℕ → Faults → ℕ → Faults
call_found s rows nodes k g p =
    record g { called = marked g.called (called_b s rows k p) p; shaped = marked g.shaped (ltb 1 (arity_b s rows nodes p)) p; arrays = g.arrays || formed_b s p }

-- a fault found so far, or the first among the items
abbrev pub found_in : Option ℕ → List Item → Option ℕ
found_in found is = or_else found (first is)

-- a sum so far, after these are added to it: exact up to the cap
abbrev pub Adds : ℕ → List ℕ → ℕ → Type 0
Adds start xs r = r ≡ min (start + sum xs) 65536

-- where the heads of so many expressions from `at` on stand, as the bytes tell
abbrev pub heads_from : List ℕ → ℕ → ℕ → List ℕ
heads_from s left at = walk_at (λ p r. p ∷ r) (λ p. []) s left at

-- so many expressions, from where the walk stood, are judged
pub record Walked (s names rows : List ℕ) (nodes k parts : ℕ) (slots slots' : List ℕ) (f r : Findings) : Type 0 where
  pub next : r.next ≡ skip_at s parts f.next
  pub slotted : slots' ≡ slot_heads s names k slots (heads_from s parts f.next)
  pub again : r.again ≡ f.again
  pub unseen : r.unseen ≡ found_in f.unseen (map (unseen_head s names) (heads_from s parts f.next))
  pub called : r.called ≡ found_in f.called (map (called_head s rows k) (heads_from s parts f.next))
  pub shaped : r.shaped ≡ found_in f.shaped (map (several_head s rows nodes) (heads_from s parts f.next))
  pub arrays : r.arrays ≡ or_all f.arrays (map (formed_b s) (heads_from s parts f.next))
  pub sized : Adds f.size (map (site_b s rows nodes) (heads_from s parts f.next)) r.size

-- the walk at a place
abbrev pub at_place : Findings → ℕ → Findings
at_place f p = record { unseen = f.unseen; again = f.again; called = f.called; shaped = f.shaped; arrays = f.arrays; size = f.size; next = p }

-- ---- what the tables say of the tree

-- a name has no entry exactly if it is not visible
abbrev pub Knows : List ℕ → List ℕ → Type 0
Knows names visible = (x : ℕ) → eqb (get_or names x 0) 0 ≡ not (member x visible)

-- In a file f: which names are visible, which calls are faulted, and how many outputs each node has
pub record Context (f : File) (k : ℕ) (names rows : List ℕ) (nodes : ℕ) (visible : List ℕ) (bad : ℕ → ℕ → Bool) : Type 0 where
  pub knows : Knows names visible
  pub calls : (c n : ℕ) → bad_b rows k c n ≡ bad c n
  pub outputs : (c : ℕ) → outputs_b rows nodes c ≡ length (callee_in f c).outputs

-- the names that are seen outside the nodes, and in node k
abbrev pub global_names : File → List ℕ
global_names f = constant_names f ++ variants f

abbrev pub seen_in : File → ℕ → List ℕ
seen_in f k = variable_names (node_of f k) ++ global_names f

-- so many equations of node k stand at `at`, and the table by name is the node's
pub record EquationsReady (s names rows : List ℕ) (nodes k many at : ℕ) : Type 0 where
  pub context : Context (file_at s) k names rows nodes (seen_in (file_at s) k) (bad_call (file_at s) k (node_of (file_at s) k))
  pub count : many ≡ length (node_of (file_at s) k).equations
  pub stand : Equations s (length (file_at s).enums) at (node_of (file_at s) k).equations

-- the slot that a name's entry gives stands at the name's place, which is inside the table of slots
pub record SlotIs (names slots : List ℕ) (p : ℕ × ℕ) : Type 0 where
  pub is : get_or slots p.0 0 ≡ slot_of_entry (get_or names p.1 0)
  pub inside : p.0 < length slots

-- ---- names that an equation defines

abbrev pub entry_item : List ℕ → ℕ × ℕ → Item
entry_item names p = (p.0, eqb (get_or names p.1 0) 0)

unfoldable pub slot_names : List ℕ → List ℕ → List (ℕ × ℕ) → List ℕ
slot_names names slots [] = slots
slot_names names slots (p ∷ ps) = slot_names names (set slots p.0 (slot_of_entry (get_or names p.1 0))) ps

-- a name with the entry e may not be defined, in a node of so many inputs: it is an input, a constant, a variant, or defined before. `defined` is by entry
abbrev pub taken_b : List Bool → ℕ → ℕ → Bool
taken_b defined inputs e = leb e inputs || (ltb 112 e || get_or defined e false)

-- the table by entry after these names are defined
unfoldable pub mark_all : List ℕ → List Bool → List (ℕ × ℕ) → List Bool
mark_all names defined [] = defined
mark_all names defined (p ∷ ps) = mark_all names (set defined (get_or names p.1 0) true) ps

-- names that are defined one after the other, and whether each may not be
unfoldable pub again_b : List ℕ → ℕ → List Bool → List (ℕ × ℕ) → List Item
again_b names inputs defined [] = []
again_b names inputs defined (p ∷ ps) = (p.0, taken_b defined inputs (get_or names p.1 0)) ∷ again_b names inputs (set defined (get_or names p.1 0) true) ps

-- so many names, from where the walk stood, are defined
pub record NamesDefined (s names : List ℕ) (inputs many : ℕ) (slots slots' : List ℕ) (defined defined' : List Bool) (f r : Findings) : Type 0 where
  pub next : r.next ≡ f.next + 2 * many
  pub unseen : r.unseen ≡ found_in f.unseen (map (entry_item names) (names_from s many f.next))
  pub again : r.again ≡ found_in f.again (again_b names inputs defined (names_from s many f.next))
  pub called : r.called ≡ f.called
  pub shaped : r.shaped ≡ f.shaped
  pub arrays : r.arrays ≡ f.arrays
  pub sized : r.size ≡ f.size
  pub slotted : slots' ≡ slot_names names slots (names_from s many f.next)
  pub marked : defined' ≡ mark_all names defined (names_from s many f.next)

-- ---- a right side, and an equation

-- several names and not several values; several values and not as many names
abbrev pub lone_b : ℕ → ℕ → Bool
lone_b names values = ltb 1 names && not (ltb 1 values)

abbrev pub other_b : ℕ → ℕ → Bool
other_b names values = ltb 1 values && not (eqb values names)

-- fault 10 of the right side at p of the equation at `at`, which has so many names
abbrev pub root_shapes : List ℕ → List ℕ → ℕ → ℕ → ℕ → ℕ → List Item
root_shapes s rows nodes at many p =
    cond (ltb p (length s)) ((at, lone_b many (arity_b s rows nodes p)) ∷ (p, other_b many (arity_b s rows nodes p)) ∷ map (several_head s rows nodes) (heads_from s (parts_at s p) (next_at s p))) []

-- the right side where the walk stood, of the equation at `at`, which has so many names
pub record RootJudged (s names rows : List ℕ) (nodes k at many : ℕ) (slots slots' : List ℕ) (f r : Findings) : Type 0 where
  pub next : r.next ≡ skip_at s 1 f.next
  pub slotted : slots' ≡ slot_heads s names k slots (heads_from s 1 f.next)
  pub again : r.again ≡ f.again
  pub unseen : r.unseen ≡ found_in f.unseen (map (unseen_head s names) (heads_from s 1 f.next))
  pub called : r.called ≡ found_in f.called (map (called_head s rows k) (heads_from s 1 f.next))
  pub shaped : r.shaped ≡ found_in f.shaped (root_shapes s rows nodes at many f.next)
  pub arrays : r.arrays ≡ or_all f.arrays (map (formed_b s) (heads_from s 1 f.next))
  pub sized : Adds f.size (map (site_b s rows nodes) (heads_from s 1 f.next)) r.size

-- the equation where the walk stood: its names are defined, then its right side is judged
pub record EquationWalked (s names rows : List ℕ) (nodes k inputs : ℕ) (slots slots' : List ℕ) (defined defined' : List Bool) (g r : Findings) : Type 0 where
  pub middle : Findings
  pub between : List ℕ
  pub named : NamesDefined s names inputs (get_or s g.next 0) slots between defined defined' (at_place g (g.next + 1)) middle
  pub rooted : RootJudged s names rows nodes k g.next (get_or s g.next 0) between slots' middle r

-- the slots after an equation's names are stored, and after those of many
unfoldable pub slot_equation : List ℕ → List ℕ → ℕ → List ℕ → ℕ × Equation → List ℕ
slot_equation s names k slots p =
    slot_heads s names k (slot_names names slots (placed_names (p.0 + 1) p.1.names)) (heads (rhs_place p.0 p.1) (cons p.1.rhs nil))

unfoldable pub slot_equations : List ℕ → List ℕ → ℕ → List ℕ → List (ℕ × Equation) → List ℕ
slot_equations s names k slots [] = slots
slot_equations s names k slots (p ∷ ps) = slot_equations s names k (slot_equation s names k slots p) ps

-- so many equations
pub record EquationsJudged (s names rows : List ℕ) (nodes k : ℕ) (f : File) (visible : List ℕ) (bad : ℕ → ℕ → Bool) (inputs at : ℕ) (qs : List Equation) (slots slots' : List ℕ) (defined defined' : List Bool) (g r : Findings) : Type 0 where
  pub unseen : r.unseen ≡ found_in g.unseen (concat (map (equation_uses visible) (placed equation_size at qs)))
  pub again : r.again ≡ found_in g.again (again_b names inputs defined (concat (map defined_by (placed equation_size at qs))))
  pub called : r.called ≡ found_in g.called (concat (map (in_equation (uses_where bad (bad_iterator k))) (placed equation_size at qs)))
  pub shaped : r.shaped ≡ found_in g.shaped (concat (map (equation_shape f) (placed equation_size at qs)))
  pub arrays : r.arrays ≡ or_all g.arrays (concat (map equation_forms (placed equation_size at qs)))
  pub slotted : slots' ≡ slot_equations s names k slots (placed equation_size at qs)
  pub marked : defined' ≡ mark_all names defined (concat (map defined_by (placed equation_size at qs)))
  pub sized : Adds g.size (map (callee_b rows nodes) (concat (map equation_sites qs))) r.size

-- ---- plans

-- the bytes of the records of the equations before number i, as the rows tell them: a sum that starts with `size`, exact up to the cap
abbrev pub size_to : List ℕ → ℕ → ℕ → List Equation → ℕ → ℕ
size_to rows nodes size qs i = min (size + sum (map (callee_b rows nodes) (concat (map equation_sites (take i qs))))) 65536

-- the plan of equations, the first of which stands at `at`, is stored from p on for the first i of them: where each stands, then the bytes of the records before it. What stands outside the plan is as before
pub record Planned (rows : List ℕ) (nodes size at : ℕ) (qs : List Equation) (p i : ℕ) (plans plans' : List ℕ) : Type 0 where
  pub places : (j : ℕ) → j < i → two_at plans' (p + 2 * j) ≡ get_or (map (λ q. q.0) (placed equation_size at qs)) j 0
  pub offsets : (j : ℕ) → j < i → two_at plans' (p + 2 * length qs + 2 * j) ≡ size_to rows nodes size qs j - size
  pub before : (x : ℕ) → x < p → get_or plans' x 0 ≡ get_or plans x 0
  pub behind : (x : ℕ) → p + 4 * length qs ≤ x → get_or plans' x 0 ≡ get_or plans x 0
