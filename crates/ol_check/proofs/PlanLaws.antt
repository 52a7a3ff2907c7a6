-- The plans: two bytes for a number.
use Prim.Native.Nat.{ℕ, zero, suc, ◌+◌, ◌-◌, ◌*◌, ◌≤◌, ◌<◌, min}
use mathlib.Core.Bool.{Bool}
use mathlib.Core.List.{List, [], ◌∷◌, ◌++◌, map}
use mathlib.Core.Logic.{by_cases}
use mathlib.Core.Path.{◌≡◌, refl, sym, ap, subst, ◌∙◌}
use native.Mathlib.Omega.{arith}
use native.Mathlib.Decide.{dec_lt}
use native.Mathlib.Numerals.{add-one}
use lib.Dec.{T}
use lib.ListN.{length, get_or, take, drop, length-append, get_or-append}
use lib.Seq.{get_or-append-add, length-take-le}
use Rattle.std.proofs.lemmas.List.{take-append-drop}
use Rattle.ol_spec.specs.Lists.{sum, concat, all_of}
use Rattle.ol_spec.specs.Syntax.{Variable, Constant, Equation, Node, File, variables, no_node}
use Rattle.ol_spec.specs.Places.{variable_size, constant_size, equation_size, node_size, nodes_start, constants_start}
use Rattle.ol_spec.specs.Limits.{base}
use Rattle.ol_spec.specs.Within.{name_fits, section_fits, equation_fits}
use Rattle.ol_spec.specs.Step.{no_equation, equation_sites, own_size}
use Rattle.ol_spec.proofs.Tests.{T_and}
use Rattle.ol_spec.proofs.RoundTrip.Parts.{here_inside}
use Rattle.ol_spec.proofs.RoundTrip.Items.{node_size_lem}
use Rattle.ol_tables.specs.At.{file_at}
use Rattle.ol_tables.specs.Tables.{node_of, two_at, two_put, plan_in, PlanOf, record_bytes, bytes_before}
use Rattle.ol_tables.specs.Stands.{NodeStands, FileStands}
use Rattle.ol_tables.proofs.HeadsFile.{section_few, placed_at, passing_item, passing_nth, node_at_lem}
use Rattle.ol_tables.proofs.Skipping.{some_size}
use Rattle.ol_tables.proofs.TableLaws.{two_same, two_other, two_length, two_kept}
use Rattle.ol_check.specs.Judging.{size_to, Planned}
use Rattle.ol_check.specs.NodesJudged.{place_in, NodeReady, NodePlanned, TypesLeft, ConstantsLeft, PlansReady}
use Rattle.ol_check.specs.Records.{callee_b}
use Rattle.ol_check.proofs.CalleeLaws.{sum_append}

-- ---- so many equations

sum_sites : (c : ℕ → ℕ) (qs : List Equation) (i : ℕ) → i < length qs
    → sum (map c (concat (map equation_sites (take (suc i) qs)))) ≡ sum (map c (concat (map equation_sites (take i qs)))) + sum (map c (equation_sites (get_or qs i no_equation)))
sum_sites c [] i lt = absurd (omega arith)
sum_sites c (q ∷ qs) zero lt = omega (arith, sum_append c (equation_sites q) [])
sum_sites c (q ∷ qs) (suc i) lt =
    omega (arith, sum_append c (equation_sites q) (concat (map equation_sites (take (suc i) qs))), sum_append c (equation_sites q) (concat (map equation_sites (take i qs))), sum_sites c qs i (omega arith))

-- the plan of the first i, and the sum so far
pub record PlanGoing (rows : List ℕ) (nodes size at : ℕ) (qs : List Equation) (p i : ℕ) (plans plans' : List ℕ) (z : ℕ) : Type 0 where
  pub planned : Planned rows nodes size at qs p i plans plans'
  pub sized : z ≡ size_to rows nodes size qs i

pub plan_start : {rows : List ℕ} {nodes size at : ℕ} {qs : List Equation} {p : ℕ} {plans : List ℕ} → size ≤ 65536 → PlanGoing rows nodes size at qs p 0 plans plans size
plan_start le =
    record {
      planned = record { places = λ j h. absurd (omega arith); offsets = λ j h. absurd (omega arith); before = λ x h. refl; behind = λ x h. refl };
      sized = omega arith;
    }

module _ {rows : List ℕ} {nodes size at : ℕ} {qs : List Equation} {p i : ℕ} {plans₀ plans : List ℕ} {z : ℕ} (g : PlanGoing rows nodes size at qs p i plans₀ plans z) where
  -- the sum does not fall below its start
  pub plan_least : size ≤ 65536 → size ≤ z
  plan_least le = omega (arith, g.sized)

  module _ {many : ℕ} (n v : ℕ) {plans₁ plans₂ : List ℕ} (em : many ≡ length qs) (lt : i < length qs) (room : p + 4 * length qs ≤ length plans) (some : 1 ≤ size) (e₁ : plans₁ ≡ two_put plans (p + 2 * i) n)
      (e₂ : plans₂ ≡ two_put plans₁ (p + 2 * many + 2 * i) v) where
    long₁ : length plans₁ ≡ length plans
    long₁ = ap length e₁ ∙ two_length plans (p + 2 * i) n

    -- all but four bytes are as before
    kept : (y : ℕ) → (y ≡ p + 2 * i → ⊥) → (y ≡ p + 2 * i + 1 → ⊥) → (y ≡ p + 2 * many + 2 * i → ⊥) → (y ≡ p + 2 * many + 2 * i + 1 → ⊥) → get_or plans₂ y 0 ≡ get_or plans y 0
    kept y a b c d = ap (λ l. get_or l y 0) e₂ ∙ two_other plans₁ (p + 2 * many + 2 * i) v y c d ∙ ap (λ l. get_or l y 0) e₁ ∙ two_other plans (p + 2 * i) n y a b

    place_put : n < 65536 → two_at plans₂ (p + 2 * i) ≡ n
    place_put low =
        two_kept plans₁ plans₂ (p + 2 * i) (ap (λ l. get_or l (p + 2 * i) 0) e₂ ∙ two_other plans₁ (p + 2 * many + 2 * i) v (p + 2 * i) (λ q. omega arith) (λ q. omega arith))
        (ap (λ l. get_or l (p + 2 * i + 1) 0) e₂ ∙ two_other plans₁ (p + 2 * many + 2 * i) v (p + 2 * i + 1) (λ q. omega arith) (λ q. omega arith))
        ∙ ap (λ l. two_at l (p + 2 * i)) e₁ ∙ two_same plans (p + 2 * i) n (omega arith) low

    offset_put : v < 65536 → two_at plans₂ (p + 2 * many + 2 * i) ≡ v
    offset_put low = ap (λ l. two_at l (p + 2 * many + 2 * i)) e₂ ∙ two_same plans₁ (p + 2 * many + 2 * i) v (omega (arith, long₁)) low

    pub plan_turn : n ≡ at + sum (map equation_size (take i qs)) → n < 65536 → v ≡ z - size → size ≤ 65536 → (z' : ℕ) → z' ≡ min (z + sum (map (callee_b rows nodes) (equation_sites (get_or qs i no_equation)))) 65536
        → PlanGoing rows nodes size at qs p (i + 1) plans₀ plans₂ z'
    plan_turn en low ev small z' ez =
        let c = callee_b rows nodes in
        let o = g.planned in
        record {
          planned = record {
            places = λ j h. by_cases (dec_lt j i)
                (λ old. two_kept plans plans₂ (p + 2 * j) (kept (p + 2 * j) (λ q. omega arith) (λ q. omega arith) (λ q. omega arith) (λ q. omega arith))
                (kept (p + 2 * j + 1) (λ q. omega arith) (λ q. omega arith) (λ q. omega arith) (λ q. omega arith)) ∙ o.places j old)
                (λ no. let e : j ≡ i = omega arith in rw e (place_put low ∙ en ∙ sym (placed_at equation_size qs at i lt)));
            offsets = λ j h. by_cases (dec_lt j i)
                (λ old. two_kept plans plans₂ (p + 2 * length qs + 2 * j) (kept (p + 2 * length qs + 2 * j) (λ q. omega arith) (λ q. omega arith) (λ q. omega arith) (λ q. omega arith))
                (kept (p + 2 * length qs + 2 * j + 1) (λ q. omega arith) (λ q. omega arith) (λ q. omega arith) (λ q. omega arith)) ∙ o.offsets j old)
                (λ no. let e : j ≡ i = omega arith in
                rw e (ap (λ m. two_at plans₂ (p + 2 * m + 2 * i)) (sym em) ∙ offset_put (omega (arith, g.sized)) ∙ ev ∙ ap (λ m. m - size) g.sized));
            before = λ x h. kept x (λ q. omega arith) (λ q. omega arith) (λ q. omega arith) (λ q. omega arith) ∙ o.before x h;
            behind = λ x h. kept x (λ q. omega arith) (λ q. omega arith) (λ q. omega arith) (λ q. omega arith) ∙ o.behind x h;
          };
          sized = rw (add-one i) (omega (arith, ez, g.sized, sum_sites c qs i lt));
        }

-- all are planned
pub plan_done : {rows : List ℕ} {nodes size at : ℕ} {qs : List Equation} {p i : ℕ} {plans₀ plans : List ℕ} {z : ℕ} (many : ℕ) → PlanGoing rows nodes size at qs p i plans₀ plans z → i ≤ many → many ≤ i → Planned rows nodes size at qs p many plans₀ plans
plan_done {rows} {nodes} {size} {at} {qs} {p} {i} {plans₀} {plans} {z} many g under over =
    let e : i ≡ many = omega arith in
    subst (λ m. Planned rows nodes size at qs p m plans₀ plans) e g.planned

-- a plan, by what its numbers are equal to
planned_as : {rows : List ℕ} {nodes size size' at at' : ℕ} {qs : List Equation} {p p' i i' : ℕ} {plans plans' : List ℕ} → size ≡ size' → at ≡ at' → p ≡ p' → i ≡ i' → Planned rows nodes size at qs p i plans plans'
    → Planned rows nodes size' at' qs p' i' plans plans'
planned_as {rows} {nodes} {size} {size'} {at} {at'} {qs} {p} {p'} {i} {i'} {plans} {plans'} ez ea ep ei w =
    subst (λ x. Planned rows nodes x at' qs p' i' plans plans') ez
    (subst (λ x. Planned rows nodes size x qs p' i' plans plans') ea (subst (λ x. Planned rows nodes size at qs x i' plans plans') ep (subst (λ x. Planned rows nodes size at qs p x plans plans') ei w)))

-- a plan that is stored behind other bytes
planned_behind : {rows : List ℕ} {nodes size at : ℕ} {qs : List Equation} {i : ℕ} (front : List ℕ) {rest rest' : List ℕ} → Planned rows nodes size at qs 0 i rest rest' → Planned rows nodes size at qs (length front) i (front ++ rest) (front ++ rest')
planned_behind {rows} {nodes} {size} {at} {qs} {i} front {rest} {rest'} w =
    let far : (x : ℕ) → get_or (front ++ rest') (length front + x) 0 ≡ get_or rest' x 0 = λ x. get_or-append-add front rest' x 0 in
    let two : (x : ℕ) → two_at (front ++ rest') (length front + x) ≡ two_at rest' x = λ x.
    let next : length front + x + 1 ≡ length front + (x + 1) = omega arith in
    ap (λ n. n * 256 + get_or (front ++ rest') (length front + x + 1) 0) (far x) ∙ ap (λ m. get_or rest' x 0 * 256 + get_or (front ++ rest') m 0) next ∙ ap (λ n. get_or rest' x 0 * 256 + n) (far (x + 1)) in
    record {
      places = λ j h. let e : length front + 2 * j ≡ length front + (0 + 2 * j) = omega arith in ap (two_at (front ++ rest')) e ∙ two (0 + 2 * j) ∙ w.places j h;
      offsets = λ j h. let e : length front + 2 * length qs + 2 * j ≡ length front + (0 + 2 * length qs + 2 * j) = omega arith in ap (two_at (front ++ rest')) e ∙ two (0 + 2 * length qs + 2 * j) ∙ w.offsets j h;
      before = λ x h. get_or-append front rest' 0 x h ∙ sym (get_or-append front rest 0 x h);
      behind = λ x h.
          let y = x - length front in
          let e : length front + y ≡ x = omega arith in
          ap (λ m. get_or (front ++ rest') m 0) (sym e) ∙ far y ∙ w.behind y (omega arith) ∙ sym (get_or-append-add front rest y 0) ∙ ap (λ m. get_or (front ++ rest) m 0) e;
    }

-- the plan of a node's equations, stored behind the types that stand before it, is the node's
pub node_planned : {s rows : List ℕ} {nodes k : ℕ} → NodeReady s rows nodes k → {plans rest plans' : List ℕ} {size m a : ℕ} → m ≡ get_or rows (k * 8 + 5) 0 → a ≡ get_or rows (k * 8 + 1) 0 → size ≡ own_size (node_of (file_at s) k)
    → (p : ℕ) → p ≡ plan_in (file_at s) k → p ≤ length plans → Planned rows nodes size a (node_of (file_at s) k).equations 0 m (drop p plans) rest → plans' ≡ take p plans ++ rest → NodePlanned rows nodes (file_at s) k plans plans'
node_planned {s} {rows} {nodes} {k} rd {plans} {rest} {plans'} em ea ez p ep le w e =
    let row = rd.row k (omega (arith, rd.low, rd.many)) in
    subst (λ l. NodePlanned rows nodes (file_at s) k l plans') (take-append-drop p plans)
    (subst (λ l. NodePlanned rows nodes (file_at s) k (take p plans ++ drop p plans) l) (sym e)
    (planned_as ez (ea ∙ row.equations) (length-take-le p plans le ∙ ep) (em ∙ row.count) (planned_behind (take p plans) w)))

-- ---- the plans of two nodes do not meet

-- a constant's type has two bytes there, and the constant more than two
constants_some : (cs : List Constant) → 2 * length cs ≤ sum (map constant_size cs)
constants_some [] = omega arith
constants_some (c ∷ cs) = omega (arith, constants_some cs)

variables_some : (vs : List Variable) → 2 * length vs ≤ sum (map variable_size vs)
variables_some [] = omega arith
variables_some (v ∷ vs) = omega (arith, variables_some vs)

equations_some : (enums : ℕ) (qs : List Equation) → T (all_of (equation_fits base enums) qs) → 4 * length qs ≤ sum (map equation_size qs)
equations_some enums [] t = omega arith
equations_some enums (q ∷ qs) t =
    let w = T_and (equation_fits base enums q) _ t in
    let one = (section_few name_fits 1 16 q.names (T_and (section_fits 1 16 name_fits q.names) _ w.0).0).0 in
    omega (arith, one, some_size q.rhs, equations_some enums qs w.1)

-- a plan is no longer than its node
pub plan_room : {s : List ℕ} {enums at : ℕ} (n : Node) → NodeStands s enums at n → 2 * length (variables n) + 4 * length n.equations ≤ node_size n
plan_room {s} {enums} n st =
    omega (arith, variables_some n.inputs, variables_some n.outputs, variables_some n.locals, length-append (n.inputs ++ n.outputs) n.locals, length-append n.inputs n.outputs, equations_some enums n.equations st.equations.fit)

sums_below : {A : Type 0} (size : A → ℕ) (d : A) (xs : List A) (j k : ℕ) → j < k → k < length xs → sum (map size (take j xs)) + size (get_or xs j d) ≤ sum (map size (take k xs))
sums_below size d [] j k less lt = absurd (omega arith)
sums_below size d (x ∷ xs) j zero less lt = absurd (omega arith)
sums_below size d (x ∷ xs) zero (suc k) less lt = omega arith
sums_below size d (x ∷ xs) (suc j) (suc k) less lt = omega (arith, sums_below size d xs j k (omega arith) (omega arith))

module _ {s : List ℕ} {f : File} (st : FileStands s f) where
  -- a node and its plan are inside the file's bytes
  pub node_inside : (k : ℕ) → k < length f.nodes → place_in f k + node_size (node_of f k) ≤ length s
  node_inside k lt =
      let it = passing_item node_size_lem no_node (passing_nth node_size_lem no_node st.nodes k (omega arith)) lt in
      omega (arith, placed_at node_size f.nodes (nodes_start f) k lt, here_inside it.here (omega (arith, node_size_lem (node_of f k))), node_size_lem (node_of f k))

  pub plan_inside : (k : ℕ) → k < length f.nodes → plan_in f k + 4 * length (node_of f k).equations ≤ length s
  plan_inside k lt = omega (arith, node_inside k lt, plan_room (node_of f k) (node_at_lem st k lt))

  -- two nodes do not meet
  pub nodes_apart : (j k : ℕ) → j < k → k < length f.nodes → place_in f j + node_size (node_of f j) ≤ place_in f k
  nodes_apart j k less lt =
      omega (arith, placed_at node_size f.nodes (nodes_start f) k lt, placed_at node_size f.nodes (nodes_start f) j (omega arith), sums_below node_size no_node f.nodes j k less lt)

  pub plans_apart : (j k : ℕ) → j < k → k < length f.nodes → plan_in f j + 4 * length (node_of f j).equations ≤ place_in f k
  plans_apart j k less lt = omega (arith, nodes_apart j k less lt, plan_room (node_of f j) (node_at_lem st j (omega arith)))

  -- the types of the constants, two bytes each, stand before the first node
  pub constants_apart : (k : ℕ) → k < length f.nodes → constants_start f + 2 * length f.constants ≤ place_in f k
  constants_apart k lt = omega (arith, placed_at node_size f.nodes (nodes_start f) k lt, constants_some f.constants)

  module _ {rows : List ℕ} {nodes k : ℕ} {plans plans' : List ℕ} (w : NodePlanned rows nodes f k plans plans') (lt : k < length f.nodes) where
    -- the plan of a node before it is left
    pub plan_kept : (j : ℕ) → j < k → PlanOf f plans j → PlanOf f plans' j
    plan_kept j less o =
        let far = plans_apart j k less lt in
        let same : (q : ℕ) → q + 1 < plan_in f k → two_at plans' q ≡ two_at plans q = λ q h. two_kept plans plans' q (w.before q (omega arith)) (w.before (q + 1) h) in
        record {
          places = λ i h. same (plan_in f j + 2 * i) (omega (arith, far)) ∙ o.places i h;
          offsets = λ few i h. same (plan_in f j + 2 * length (node_of f j).equations + 2 * i) (omega (arith, far)) ∙ o.offsets few i h;
        }

    -- the types of all nodes are left
    pub types_left : TypesLeft f plans plans'
    types_left =
        record {
          left = λ j h x a b. by_cases (dec_lt k j)
              (λ over. w.behind x (omega (arith, plans_apart k j over h)))
              (λ under. w.before x (by_cases (dec_lt j k) (λ less. omega (arith, plans_apart j k less lt, b)) (λ same. let e : j ≡ k = omega arith in omega (arith, subst (λ m. x < plan_in f m) e b))));
        }

    -- and those of the constants
    pub constants_left : ConstantsLeft f plans plans'
    constants_left = record { left = λ x a b. w.before x (omega (arith, constants_apart k lt)) }

    -- and its own is the file's
    pub plan_made : ((i : ℕ) → i < length (node_of f k).equations → record_bytes f k ≤ 32768 → size_to rows nodes (own_size (node_of f k)) (node_of f k).equations i - own_size (node_of f k) ≡ bytes_before f k i) → PlanOf f plans' k
    plan_made told = record { places = λ i h. w.places i h; offsets = λ few i h. w.offsets i h ∙ told i h few }

-- the types that are left can still be read
pub plans_on : {s : List ℕ} {constants : ℕ} {arrays : Bool} {plans plans' : List ℕ} → PlansReady s constants arrays plans → TypesLeft (file_at s) plans plans' → ConstantsLeft (file_at s) plans plans' → length plans' ≡ length plans → PlansReady s constants arrays plans'
plans_on {s} {constants} {arrays} {plans} {plans'} h types consts long =
    record {
      typed = record { room = omega (arith, h.typed.room, long); lengths = λ k lt i low. types.left k lt (place_in (file_at s) k + 2 * i + 1) (omega arith) (omega arith) ∙ h.typed.lengths k lt i low };
      place = h.place;
      lengths = λ i low. consts.left (constants_start (file_at s) + 2 * i + 1) (omega arith) (omega arith) ∙ h.lengths i low;
      scalars = h.scalars;
    }
