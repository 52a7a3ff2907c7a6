-- The addresses of calls: they rise as the calls are read, so that no two are the same; and the callees, in that order, are `callees`.
use Prim.Native.Nat.{ℕ, zero, suc, ◌+◌, ◌<◌, ◌≤◌}
use mathlib.Core.List.{List, [], ◌∷◌, ◌++◌, map, map-append}
use mathlib.Core.Logic.{by_cases}
use mathlib.Core.Path.{◌≡◌, refl, sym, ap, ap₂, subst, ◌∙◌}
use native.Mathlib.Nat.{zero-add}
use native.Mathlib.Omega.{arith}
use native.Mathlib.Decide.{dec_lt}
use lib.ListN.{length, take, get_or, length-append, length-map}
use Rattle.ol_spec.specs.Lists.{concat}
use Rattle.ol_spec.specs.Syntax.{Equation, Node, Expr, bool_lit, int_lit, float_lit, char_lit, var, unary, binary, if_then_else, pre, arrow, cast, call, tuple, index, literal, map_over, fold_over, Exprs, nil, cons}
use Rattle.ol_spec.specs.Eval.{callees, callees_all}
use Rattle.ol_spec.specs.Step.{equation_sites, no_equation}
use Rattle.ol_spec.specs.RustSim.{width, widths, Key, address}
use Rattle.ol_spec.specs.RustState.{rust_calls_in, calls_all, calls_of}

abbrev pub callee_of : ℕ × ℕ → ℕ
callee_of c = c.1

-- ---- the callees

mutual
  pub callees_are : (e : Expr) (at : ℕ) → map callee_of (rust_calls_in at e) ≡ callees e
  callees_are (bool_lit b) at = refl
  callees_are (int_lit i) at = refl
  callees_are (float_lit b) at = refl
  callees_are (char_lit c) at = refl
  callees_are (var x) at = refl
  callees_are (unary op e) at = callees_are e _
  callees_are (binary op l r) at = map-append callee_of (rust_calls_in (suc at) l) _ ∙ ap₂ ◌++◌ (callees_are l _) (callees_are r _)
  callees_are (if_then_else c t e) at =
      map-append callee_of (rust_calls_in (suc at) c) _
      ∙ ap₂ ◌++◌ (callees_are c _) (map-append callee_of (rust_calls_in (suc at + width c) t) _ ∙ ap₂ ◌++◌ (callees_are t _) (callees_are e _))
  callees_are (pre e) at = callees_are e _
  callees_are (arrow a b) at = map-append callee_of (rust_calls_in (suc at) a) _ ∙ ap₂ ◌++◌ (callees_are a _) (callees_are b _)
  callees_are (cast t e) at = callees_are e _
  callees_are (call k es) at = ap (λ l. k ∷ l) (callees_all_lem es _)
  callees_are (tuple es) at = callees_all_lem es _
  callees_are (index a i) at = map-append callee_of (rust_calls_in (suc at) a) _ ∙ ap₂ ◌++◌ (callees_are a _) (callees_are i _)
  callees_are (literal es) at = callees_all_lem es _
  callees_are (map_over k es) at = callees_all_lem es _
  callees_are (fold_over k s es) at = map-append callee_of (rust_calls_in (suc at) s) _ ∙ ap₂ ◌++◌ (callees_are s _) (callees_all_lem es _)

  pub callees_all_lem : (es : Exprs) (at : ℕ) → map callee_of (calls_all at es) ≡ callees_all es
  callees_all_lem nil at = refl
  callees_all_lem (cons e es) at = map-append callee_of (rust_calls_in at e) _ ∙ ap₂ ◌++◌ (callees_are e _) (callees_all_lem es _)

pub sites_are : (qs : List Equation) (at : ℕ) → map callee_of (calls_of at qs) ≡ concat (map equation_sites qs)
sites_are [] at = refl
sites_are (q ∷ qs) at = map-append callee_of (rust_calls_in at q.rhs) _ ∙ ap₂ ◌++◌ (callees_are q.rhs at) (sites_are qs _)

pub calls_length : (e : Expr) (at : ℕ) → length (rust_calls_in at e) ≡ length (callees e)
calls_length e at = sym (length-map (rust_calls_in at e) callee_of) ∙ ap length (callees_are e at)

-- ---- the addresses rise

abbrev Rising : ℕ → ℕ → List (ℕ × ℕ) → Type 0
Rising lo hi [] = lo ≤ hi
Rising lo hi (c ∷ cs) = (lo ≤ c.0) × Rising (suc c.0) hi cs

rising_low : (lo lo' hi : ℕ) (cs : List (ℕ × ℕ)) → lo ≤ lo' → Rising lo' hi cs → Rising lo hi cs
rising_low lo lo' hi [] h r = omega arith
rising_low lo lo' hi (c ∷ cs) h r = (omega (arith, r.0), r.1)

rising_high : (lo hi hi' : ℕ) (cs : List (ℕ × ℕ)) → hi ≤ hi' → Rising lo hi cs → Rising lo hi' cs
rising_high lo hi hi' [] h r = omega arith
rising_high lo hi hi' (c ∷ cs) h r = (r.0, rising_high (suc c.0) hi hi' cs h r.1)

rising_append : (lo mid hi : ℕ) (a b : List (ℕ × ℕ)) → Rising lo mid a → Rising mid hi b → Rising lo hi (a ++ b)
rising_append lo mid hi [] b r s = rising_low lo mid hi b r s
rising_append lo mid hi (c ∷ a) b r s = (r.0, rising_append (suc c.0) mid hi a b r.1 s)

mutual
  rising_in : (e : Expr) (at : ℕ) → Rising at (at + width e) (rust_calls_in at e)
  rising_in (bool_lit b) at = omega arith
  rising_in (int_lit i) at = omega arith
  rising_in (float_lit b) at = omega arith
  rising_in (char_lit c) at = omega arith
  rising_in (var x) at = omega arith
  rising_in (unary op e) at = rising_low at (suc at) _ (rust_calls_in (suc at) e) (omega arith) (rising_high (suc at) (suc at + width e) _ (rust_calls_in (suc at) e) (omega arith) (rising_in e (suc at)))
  rising_in (binary op l r) at =
      let i = suc at + width l in
      rising_low at (suc at) _ (rust_calls_in (suc at) l ++ rust_calls_in i r) (omega arith)
      (rising_append (suc at) i _ (rust_calls_in (suc at) l) (rust_calls_in i r) (rising_in l (suc at)) (rising_high i (i + width r) _ (rust_calls_in i r) (omega arith) (rising_in r i)))
  rising_in (if_then_else c t e) at =
      let i = suc at + width c in
      let j = i + width t in
      rising_low at (suc at) _ (rust_calls_in (suc at) c ++ (rust_calls_in i t ++ rust_calls_in j e)) (omega arith)
      (rising_append (suc at) i _ (rust_calls_in (suc at) c) (rust_calls_in i t ++ rust_calls_in j e) (rising_in c (suc at))
      (rising_append i j _ (rust_calls_in i t) (rust_calls_in j e) (rising_in t i) (rising_high j (j + width e) _ (rust_calls_in j e) (omega arith) (rising_in e j))))
  rising_in (pre e) at = rising_low at (suc at) _ (rust_calls_in (suc at) e) (omega arith) (rising_high (suc at) (suc at + width e) _ (rust_calls_in (suc at) e) (omega arith) (rising_in e (suc at)))
  rising_in (arrow a b) at =
      let i = suc at + width a in
      rising_low at (suc at) _ (rust_calls_in (suc at) a ++ rust_calls_in i b) (omega arith)
      (rising_append (suc at) i _ (rust_calls_in (suc at) a) (rust_calls_in i b) (rising_in a (suc at)) (rising_high i (i + width b) _ (rust_calls_in i b) (omega arith) (rising_in b i)))
  rising_in (cast t e) at = rising_low at (suc at) _ (rust_calls_in (suc at) e) (omega arith) (rising_high (suc at) (suc at + width e) _ (rust_calls_in (suc at) e) (omega arith) (rising_in e (suc at)))
  rising_in (call k es) at = (omega arith, rising_high (suc at) (suc at + widths es) _ (calls_all (suc at) es) (omega arith) (rising_all es (suc at)))
  rising_in (tuple es) at = rising_low at (suc at) _ (calls_all (suc at) es) (omega arith) (rising_high (suc at) (suc at + widths es) _ (calls_all (suc at) es) (omega arith) (rising_all es (suc at)))
  rising_in (index a b) at =
      let i = suc at + width a in
      rising_low at (suc at) _ (rust_calls_in (suc at) a ++ rust_calls_in i b) (omega arith)
      (rising_append (suc at) i _ (rust_calls_in (suc at) a) (rust_calls_in i b) (rising_in a (suc at)) (rising_high i (i + width b) _ (rust_calls_in i b) (omega arith) (rising_in b i)))
  rising_in (literal es) at = rising_low at (suc at) _ (calls_all (suc at) es) (omega arith) (rising_high (suc at) (suc at + widths es) _ (calls_all (suc at) es) (omega arith) (rising_all es (suc at)))
  rising_in (map_over k es) at = rising_low at (suc at) _ (calls_all (suc at) es) (omega arith) (rising_high (suc at) (suc at + widths es) _ (calls_all (suc at) es) (omega arith) (rising_all es (suc at)))
  rising_in (fold_over k s es) at =
      let i = suc at + width s in
      rising_low at (suc at) _ (rust_calls_in (suc at) s ++ calls_all i es) (omega arith)
      (rising_append (suc at) i _ (rust_calls_in (suc at) s) (calls_all i es) (rising_in s (suc at)) (rising_high i (i + widths es) _ (calls_all i es) (omega arith) (rising_all es i)))

  rising_all : (es : Exprs) (at : ℕ) → Rising at (at + widths es) (calls_all at es)
  rising_all nil at = omega arith
  rising_all (cons e es) at =
      let i = at + width e in
      rising_append at i _ (rust_calls_in at e) (calls_all i es) (rising_in e at) (rising_high i (i + widths es) _ (calls_all i es) (omega arith) (rising_all es i))

rising_of : (qs : List Equation) (at : ℕ) → (hi : ℕ) × Rising at hi (calls_of at qs)
rising_of [] at = (at, omega arith)
rising_of (q ∷ qs) at = let w = rising_of qs (at + width q.rhs) in (w.0, rising_append at (at + width q.rhs) w.0 (rust_calls_in at q.rhs) _ (rising_in q.rhs at) w.1)

-- ---- the address of the j-th call; behind the last one, numbers that no call has

abbrev pub address_at : ℕ → List (ℕ × ℕ) → ℕ → ℕ
address_at base [] j = base + j
address_at base (c ∷ cs) zero = c.0
address_at base (c ∷ cs) (suc j) = address_at (suc c.0) cs j

address_ge : (base hi : ℕ) (cs : List (ℕ × ℕ)) (j : ℕ) → Rising base hi cs → base ≤ address_at base cs j
address_ge base hi [] j r = omega arith
address_ge base hi (c ∷ cs) zero r = r.0
address_ge base hi (c ∷ cs) (suc j) r = omega (arith, r.0, address_ge (suc c.0) hi cs j r.1)

address_lt : (base hi : ℕ) (cs : List (ℕ × ℕ)) (i j : ℕ) → Rising base hi cs → i < j → address_at base cs i < address_at base cs j
address_lt base hi [] i j r h = omega arith
address_lt base hi (c ∷ cs) i zero r h = absurd (omega arith)
address_lt base hi (c ∷ cs) zero (suc j) r h = omega (arith, address_ge (suc c.0) hi cs j r.1)
address_lt base hi (c ∷ cs) (suc i) (suc j) r h = address_lt (suc c.0) hi cs i j r.1 (omega arith)

address_one : (base hi : ℕ) (cs : List (ℕ × ℕ)) → Rising base hi cs → (i j : ℕ) → address_at base cs i ≡ address_at base cs j → i ≡ j
address_one base hi cs r i j e =
    by_cases (dec_lt i j) (λ h. absurd (omega (arith, address_lt base hi cs i j r h)))
    (λ h. by_cases (dec_lt j i) (λ k. absurd (omega (arith, address_lt base hi cs j i r k))) (λ k. omega arith))

-- no two calls of a node have one address
pub addresses_differ : (n : Node) (i j : ℕ) → address_at 0 (calls_of 0 n.equations) i ≡ address_at 0 (calls_of 0 n.equations) j → i ≡ j
addresses_differ n = let w = rising_of n.equations 0 in address_one 0 w.0 (calls_of 0 n.equations) w.1

-- a node's number, and the address of each of its calls
pub record Home : Type 0 where
  pub number : ℕ
  pub addr : ℕ → ℕ
  pub one : (i j : ℕ) → addr i ≡ addr j → i ≡ j

abbrev pub home : ℕ → Node → Home
home k n = record { number = k; addr = address_at 0 (calls_of 0 n.equations); one = addresses_differ n }

-- the key of the j-th call
abbrev pub key_at : Home → ℕ → Key
key_at N j = (N.number, N.addr j)

pub same_site : (N : Home) (i j : ℕ) → key_at N i ≡ key_at N j → i ≡ j
same_site N i j e = N.one i j (ap (λ (k : Key). k.1) e)

-- ---- these calls are the j-th and the following

abbrev pub Lie : (ℕ → ℕ) → ℕ → List (ℕ × ℕ) → Type 0
Lie addr j [] = Unit {0}
Lie addr j (c ∷ cs) = (addr j ≡ c.0) × Lie addr (suc j) cs

lie_parts : (addr : ℕ → ℕ) (a b : List (ℕ × ℕ)) (j : ℕ) → Lie addr j (a ++ b) → Lie addr j a × Lie addr (j + length a) b
lie_parts addr [] b j h = (tt, subst (λ m. Lie addr m b) (omega arith) h)
lie_parts addr (c ∷ a) b j h = let w = lie_parts addr a b (suc j) h.1 in ((h.0, w.0), subst (λ m. Lie addr m b) (omega arith) w.1)

-- in an expression and in what follows it
pub lie_next : (addr : ℕ → ℕ) (e : Expr) (at : ℕ) (b : List (ℕ × ℕ)) (j : ℕ) → Lie addr j (rust_calls_in at e ++ b) → Lie addr j (rust_calls_in at e) × Lie addr (j + length (callees e)) b
lie_next addr e at b j h =
    let w = lie_parts addr (rust_calls_in at e) b j h in (w.0, subst (λ m. Lie addr (j + m) b) (calls_length e at) w.1)

lie_shift : (a b : ℕ → ℕ) (j : ℕ) (cs : List (ℕ × ℕ)) → ((i : ℕ) → b (suc i) ≡ a i) → Lie a j cs → Lie b (suc j) cs
lie_shift a b j [] h l = tt
lie_shift a b j (c ∷ cs) h l = (h j ∙ l.0, lie_shift a b (suc j) cs h l.1)

lie_address : (base : ℕ) (cs : List (ℕ × ℕ)) → Lie (address_at base cs) 0 cs
lie_address base [] = tt
lie_address base (c ∷ cs) = (refl, lie_shift (address_at (suc c.0) cs) (address_at base (c ∷ cs)) 0 cs (λ i. refl) (lie_address (suc c.0) cs))

-- the calls of equation i, behind those of the equations before it
lie_equation : (addr : ℕ → ℕ) (qs : List Equation) (at j i : ℕ) → Lie addr j (calls_of at qs)
    → Lie addr (j + length (concat (map equation_sites (take i qs)))) (rust_calls_in (at + address qs i) (get_or qs i no_equation).rhs)
lie_equation addr [] at j zero h = tt
lie_equation addr [] at j (suc i) h = tt
lie_equation addr (q ∷ qs) at j zero h =
    subst (λ m. Lie addr m (rust_calls_in (at + 0) q.rhs)) (omega arith) (subst (λ m. Lie addr j (rust_calls_in m q.rhs)) (omega arith) (lie_next addr q.rhs at _ j h).0)
lie_equation addr (q ∷ qs) at j (suc i) h =
    let w = lie_equation addr qs (at + width q.rhs) (j + length (callees q.rhs)) i (lie_next addr q.rhs at _ j h).1 in
    subst (λ m. Lie addr m (rust_calls_in (at + (width q.rhs + address qs i)) (get_or qs i no_equation).rhs))
    (omega (arith, length-append (callees q.rhs) (concat (map equation_sites (take i qs)))))
    (subst (λ m. Lie addr (j + length (callees q.rhs) + length (concat (map equation_sites (take i qs)))) (rust_calls_in m (get_or qs i no_equation).rhs)) (omega arith) w)

-- where there is no call
pub lie_none : (addr : ℕ → ℕ) (j : ℕ) (cs : List (ℕ × ℕ)) → map callee_of cs ≡ [] → Lie addr j cs
lie_none addr j [] e = tt
lie_none addr j (c ∷ cs) e = let z : ◌≡◌ {A = ℕ} 0 1 = cc in absurd (omega arith)

-- in a node: all calls, and those of equation i
pub lie_all : (k : ℕ) (n : Node) → Lie (home k n).addr 0 (calls_of 0 n.equations)
lie_all k n = lie_address 0 (calls_of 0 n.equations)

pub lie_at : (k : ℕ) (n : Node) (i : ℕ)
    → Lie (home k n).addr (length (concat (map equation_sites (take i n.equations)))) (rust_calls_in (address n.equations i) (get_or n.equations i no_equation).rhs)
lie_at k n i =
    let m = length (concat (map equation_sites (take i n.equations))) in
    let e = (get_or n.equations i no_equation).rhs in
    subst (λ x. Lie (home k n).addr x (rust_calls_in (address n.equations i) e)) (zero-add m)
    (subst (λ x. Lie (home k n).addr (0 + m) (rust_calls_in x e)) (zero-add (address n.equations i)) (lie_equation (home k n).addr n.equations 0 0 i (lie_all k n)))
