-- The tables of the ordering: the equations at their places, which equation defines a name, which equations are placed.
use Rattle.std.specs.Prelude.{ℕ, zero, suc, ◌+◌, ◌%◌, Bool, true, false, cond, List, [], ◌∷◌, ◌++◌, map, length, get_or, set, eqb, ltb, Result, Ok, Err}
use Rattle.std.specs.Prelude as Std
use Rattle.std.proofs.Math.Option.{Option, none, some}
use Rattle.ol_spec.specs.Lists.{member}
use Rattle.ol_spec.specs.Syntax.{bool_lit, Equation, Node, no_node}
use Rattle.ol_spec.specs.Read.{Read, got, fault, count_r, name_r, equation_r, node_r}
use Rattle.ol_spec.specs.Order.{reads, definer, order, unplaced}
use Rattle.ol_spec.specs.Cycle.{OrderingCall, no_order}
use Rattle.ol_tables.specs.Heads.{name_at}
use Rattle.ol_ir.specs.Walks.{on_places}
use Rattle.ol_spec.specs.declared.Limits.{Limits}

-- ---- what stands at a place: the readings, with a default where there is a fault

abbrev pub no_equation : Equation
no_equation = record { names = []; rhs = bool_lit false }

abbrev pub is_got : Read Equation → Bool
is_got (got q n) = true
is_got (fault n p) = false

abbrev pub equation_in : Read Equation → Equation
equation_in (got q n) = q
equation_in (fault n p) = no_equation

abbrev pub node_in : Read Node → Node
node_in (got n m) = n
node_in (fault n p) = no_node

unfoldable pub equation_at : List ℕ → Limits → ℕ → ℕ → Equation
equation_at s l enums at = equation_in (equation_r s l enums at)

unfoldable pub node_at : List ℕ → Limits → ℕ → ℕ → Node
node_at s l enums at = node_in (node_r s l enums at)

abbrev pub equations_at : List ℕ → Limits → ℕ → List ℕ → List Equation
equations_at s l enums starts = map (equation_at s l enums) starts

-- ---- the table of definers: entry r is the index of the last equation that defines a name of the remainder r, if one does

abbrev pub Table : Type 0
Table = List (Std.Option ℕ)

-- how many entries the table of a file's nodes has with `low`: 256 where the file has at most 256 bytes, 1,024 where it is longer
abbrev pub entries_for : List ℕ → ℕ
entries_for s = cond (ltb 256 (length s)) 1024 256

-- a name's entry, of n
abbrev pub key_of : ℕ → ℕ → ℕ
key_of n x = x % n

-- the equation with its names' entries, of n, in place of its names
abbrev pub keyed : ℕ → Equation → Equation
keyed n q = record { names = map (key_of n) q.names; rhs = q.rhs }

-- each of these entries gets i
unfoldable pub put : List ℕ → ℕ → Table → Table
put [] i table = table
put (x ∷ xs) i table = put xs i (set table x (Std.Some i))

-- the entries of each equation's names get its index, the first having the index i
unfoldable pub put_all : ℕ → List Equation → Table → Table
put_all i [] table = table
put_all i (q ∷ qs) table = put_all (suc i) qs (put q.names i table)

-- for any bytes: so many names, one after the other, up to the first that the file's end cuts off
unfoldable pub names_at : ℕ → List ℕ → ℕ → List ℕ
names_at zero s at = []
names_at (suc n) s at = name_at s at ∷ on_places (name_r s at) (names_at n s)

abbrev pub on_count : Read ℕ → (ℕ → ℕ → Table) → Table → Table
on_count (got n p) k table = k n p
on_count (fault n p) k table = table

-- the entries, of so many, of the names at each of these places get its index, the first having the index i, up to the first place at which no count of names stands
unfoldable pub put_starts : ℕ → List ℕ → ℕ → ℕ → List ℕ → Table → Table
put_starts entries s most i [] table = table
put_starts entries s most i (a ∷ starts) table = on_count (count_r s 1 most a) (λ n p. put_starts entries s most (suc i) starts (put (map (key_of entries) (names_at n s p)) i table)) table

-- as the code's Option
abbrev pub as_option : Option ℕ → Std.Option ℕ
as_option none = Std.None
as_option (some j) = Std.Some j

-- as the code's Result, in which one that is found is an error
abbrev pub as_error : Option ℕ → Result (Unit {0}) ℕ
as_error none = Ok tt
as_error (some j) = Err j

abbrev pub on_defined : Read ℕ → (ℕ → ℕ → Bool) → Bool
on_defined (got n p) k = k n p
on_defined (fault n p) k = false

-- whether the equation at the place defines the name; none does where no count of names stands
unfoldable pub defined_at : List ℕ → ℕ → ℕ → ℕ → Bool
defined_at s most at x = on_defined (count_r s 1 most at) (λ n p. member x (names_at n s p))

-- ---- the definers that equations wait for

abbrev pub with_definer : Option ℕ → List ℕ → List ℕ
with_definer none l = l
with_definer (some j) l = j ∷ l

-- the definers of these names, in turn; a name without one is left out
abbrev pub definers_of : List Equation → List ℕ → List ℕ
definers_of qs [] = []
definers_of qs (x ∷ xs) = with_definer (definer qs x) (definers_of qs xs)

-- those that the equation waits for
unfoldable pub waited : List Equation → Equation → List ℕ
waited qs q = definers_of qs (reads q.rhs)

-- those of these equations, one list behind the other
unfoldable pub waited_all : List Equation → List Equation → List ℕ
waited_all qs [] = []
waited_all qs (r ∷ rs) = waited qs r ++ waited_all qs rs

-- where each of these lists begins, the first at n, and where the last ends
unfoldable pub bounds : List Equation → ℕ → List Equation → List ℕ
bounds qs n [] = n ∷ []
bounds qs n (r ∷ rs) = n ∷ bounds qs (n + length (waited qs r)) rs

-- ---- the flags of the placed equations

-- how many are not placed
unfoldable pub waiting : List Bool → ℕ
waiting [] = 0
waiting (false ∷ l) = suc (waiting l)
waiting (true ∷ l) = waiting l

-- ---- the answer

abbrev pub order_if : Bool → List Equation → List ℕ → OrderingCall
order_if true qs buf = record { answer = (Ok tt); buffer = order qs }
order_if false qs buf = no_order 17 0 buf

abbrev pub order_unless : Option ℕ → List Equation → List ℕ → List ℕ → OrderingCall
order_unless (some i) qs starts buf = no_order 11 (get_or starts i 0) buf
order_unless none qs starts buf = order_if (eqb (length buf) (length qs)) qs buf

-- the ordering of these equations, which start at these places
unfoldable pub order_of : List Equation → List ℕ → List ℕ → OrderingCall
order_of qs starts buf = order_unless (unplaced qs) qs starts buf
