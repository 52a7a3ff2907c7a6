-- A system of equations over cells, each equation with a memory of its own: the definitions.
-- proofs/SystemProof has the theorems.
use Rattle.std.specs.Prelude.{◌≡◌, ℕ, ◌<◌, length, get_or, set}
use mathlib.Core.List.{List, [], ◌∷◌, map, filter, flat_map}
use Rattle.ol_theory.specs.Member.{◌∈◌, upto, Distinct, mem?}

-- What the evaluation of an equation gives: values, or one of two errors.
pub data Out (Cell : Type 0) : Type 0 where
  values : List Cell → Out Cell
  failed : Out Cell
  overflowed : Out Cell

-- n equations, 0 .. n-1, over cells with the slots 0 .. m-1.
pub record System (Cell Mem : Type 0) : Type 0 where
  pub n : ℕ
  pub m : ℕ
  -- the slots that equation i defines, and those that it reads in the same cycle
  pub lhs : ℕ → List ℕ
  pub reads : ℕ → List ℕ
  -- what equation i gives on cells and its memory, and its new memory
  pub eval : ℕ → List Cell → Mem → Out Cell × Mem
  pub kind : Cell → ℕ
  -- what stands for a cell or a memory that is asked for beyond the end of a list: any will do
  pub no_cell : Cell
  pub no_mem : Mem

module _ {Cell Mem : Type 0} (sys : System Cell Mem) where
  -- the cell at slot x; the memory of equation i
  abbrev pub at : List Cell → ℕ → Cell
  at p x = get_or p x sys.no_cell

  abbrev pub memory : List Mem → ℕ → Mem
  memory ms i = get_or ms i sys.no_mem

  -- the equations that equation i reads from: for each slot that it reads, those that define it
  unfoldable pub deps : ℕ → List ℕ
  deps i = flat_map (λ x. filter {p = λ d. x ∈ sys.lhs d} (λ d. mem? x (sys.lhs d)) (upto sys.n)) (sys.reads i)

-- ==== evaluation along an order

-- the cells with each value stored at its slot
unfoldable pub store : {Cell : Type 0} → List ℕ → List Cell → List Cell → List Cell
store [] vs p = p
store (x ∷ xs) [] p = p
store (x ∷ xs) (v ∷ vs) p = store xs vs (set p x v)

-- All are evaluated: the cells and the memories. Or the one that failed or overflowed, and the memories till then, with its own new one.
pub data Run (Cell Mem : Type 0) : Type 0 where
  finished : List Cell → List Mem → Run Cell Mem
  failed_at : ℕ → List Mem → Run Cell Mem
  overflowed_at : ℕ → List Mem → Run Cell Mem

-- what follows what equation i gives
unfoldable pub onward : {Cell Mem : Type 0} → ℕ → List Mem → (List Cell → Run Cell Mem) → Out Cell → Run Cell Mem
onward i ms next (values vs) = next vs
onward i ms next failed = failed_at i ms
onward i ms next overflowed = overflowed_at i ms

module _ {Cell Mem : Type 0} (sys : System Cell Mem) where
  -- Each equation of the list is evaluated on the present cells and its memory; its values and its new memory are stored.
  unfoldable pub run_eqs : List ℕ → List Cell → List Mem → Run Cell Mem
  run_eqs [] p ms = finished p ms
  run_eqs (i ∷ l) p ms =
      let r = sys.eval i p (memory sys ms i) in
      let moved = set ms i r.1 in
      onward i moved (λ vs. run_eqs l (store (sys.lhs i) vs p) moved) r.0

  -- ==== solutions

  -- p and q have the same kind at every slot
  abbrev pub SameKinds : List Cell → List Cell → Type 0
  SameKinds p q = (x : ℕ) → x < sys.m → sys.kind (at sys p x) ≡ sys.kind (at sys q x)

  -- no equation defines slot x
  abbrev pub Undefined : ℕ → Type 0
  Undefined x = (i : ℕ) → i < sys.n → ¬ (x ∈ sys.lhs i)

  -- equation i, evaluated on p and its memory, gives what p has at its slots
  abbrev pub Sat : List Cell → List Mem → ℕ → Type 0
  Sat p ms i = (sys.eval i p (memory sys ms i)).0 ≡ values (map (at sys p) (sys.lhs i))

  -- q satisfies every equation, has p₀'s kinds, and is p₀ where no equation defines it
  pub record Solution (p₀ : List Cell) (ms : List Mem) (q : List Cell) : Type 0 where
    pub size : length q ≡ sys.m
    pub kinds : SameKinds q p₀
    pub kept : (x : ℕ) → x < sys.m → Undefined x → at sys q x ≡ at sys p₀ x
    pub holds : (i : ℕ) → i < sys.n → Sat q ms i

  -- the new memories: of each equation, the second part of what it gives on q
  unfoldable pub new_mems : List Cell → List Mem → List Mem
  new_mems q ms = map (λ i. (sys.eval i q (memory sys ms i)).1) (upto sys.n)

  -- What is asked of a system. No slot is defined twice; an equation gives a value for each of its slots, and depends only on
  -- the slots that it reads and on the kinds.
  pub record Lawful : Type 0 where
    pub slots : (i : ℕ) → i < sys.n → (x : ℕ) → x ∈ sys.lhs i → x < sys.m
    pub once : (i : ℕ) → i < sys.n → Distinct (sys.lhs i)
    pub single : (i j : ℕ) → i < sys.n → j < sys.n → (x : ℕ) → x ∈ sys.lhs i → x ∈ sys.lhs j → i ≡ j
    pub arity : (i : ℕ) → i < sys.n → (p : List Cell) (s : Mem) (vs : List Cell) → length p ≡ sys.m → (sys.eval i p s).0 ≡ values vs → length vs ≡ length (sys.lhs i)
    pub local : (i : ℕ) → i < sys.n → (p q : List Cell) (s : Mem) → length p ≡ sys.m → length q ≡ sys.m
        → ((x : ℕ) → x ∈ sys.reads i → at sys p x ≡ at sys q x) → SameKinds p q → sys.eval i p s ≡ sys.eval i q s
