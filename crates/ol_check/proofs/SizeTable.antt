-- The table of record lengths, in ascending order of the nodes; the state's length and fault 13.
use Prim.Native.Nat.{ℕ, zero, suc, ◌+◌, ◌-◌, ◌*◌, ◌≤◌, ◌<◌, min}
use mathlib.Core.List.Memᴰ.{append_cases as in_append}
use mathlib.Core.List.Memᴰ.{append_left as in_left}
use mathlib.Core.List.Memᴰ.{append_right as in_right}
use mathlib.Core.List.Memᴰ.{head as here}
use mathlib.Core.List.Memᴰ.{not-nil as in_nil}
use mathlib.Core.List.Memᴰ.{tail as there}
use mathlib.Core.List.{List, [], ◌∷◌, map}
use mathlib.Core.Logic.{by_cases, ⊎_elim}
use mathlib.Core.Option.{none}
use mathlib.Core.Path.{◌≡◌, refl, sym, ap, subst, ◌∙◌}
use native.Mathlib.Omega.{arith}
use native.Mathlib.Decide.{dec_lt}
use native.Mathlib.Numerals.{add-one}
use lib.ListN.{length, get_or, set, drop, take, drop_of_length-le, length-set, get_or-eq_default}
use lib.Seq.{drop-cons, get_or-set_same, get_or-set_other}
use borrow.Author.Tests.{lt-ltb}
use Rattle.ol_theory.specs.Member.{◌∈◌}
use Rattle.ol_spec.specs.Lists.{sum, concat}
use Rattle.ol_spec.specs.Syntax.{NodeKind, Function, Operator, Imported, Equation, Node, File, no_node}
use Rattle.ol_spec.specs.Encode.{kind_code}
use Rattle.ol_spec.specs.Eval.{sites_size}
use Rattle.ol_spec.specs.Step.{cell_count, sites, equation_sites, own_size, instance_size, site_size_by, sizes_at}
use Rattle.ol_spec.specs.Admission.{fault9}
use Rattle.ol_spec.specs.Demand3.{Bytes}
use Rattle.ol_spec.proofs.Admits.{used_lower}
use Rattle.ol_spec.proofs.Forms.{sites_used}
use Rattle.ol_spec.proofs.Calls.{site_size_lem}
use Rattle.ol_tables.specs.At.{file_at}
use Rattle.ol_tables.specs.Tables.{row_at, node_of, site_bytes, first_at, Rows, record_bytes, bytes_before, PlanOf}
use Rattle.ol_tables.specs.Stands.{FileReads}
use Rattle.ol_tables.proofs.HeadsFile.{file_stands, node_at_lem}
use Rattle.ol_check.specs.RowsDone.{NodeRow}
use Rattle.ol_check.specs.Judging.{size_to}
use Rattle.ol_check.specs.NodesJudged.{RowsReady, NodePlanned, PlansBelow, TypesLeft, ConstantsLeft}
use Rattle.ol_check.specs.Records.{callee_b, instance_b, record_by}
use Rattle.ol_check.specs.Sizes.{SizesDone, NodesSized, size_node, size_nodes, last_size}
use Rattle.ol_check.proofs.CalleeLaws.{sum_append}
use Rattle.ol_check.proofs.CellLaws.{cells_limit}
use Rattle.ol_check.proofs.PlanLaws.{plan_kept, plan_made, types_left, constants_left}
use Rattle.ol_check.proofs.TabLaws.{row_of}
use Rattle.ol_check.proofs.SizeLaws.{the_main}

-- ---- sums

cap_part : (a h r c : ℕ) → min (a + min h c + r) c ≡ min (a + (h + r)) c
cap_part a h r c = omega arith

under_cap : (a x : ℕ) → a ≤ 32257 → x ≤ 32768 → min (a + x) 65536 - a ≡ x
under_cap a x h l = omega arith

-- a capped sum of capped numbers
sum_capped : (g h : ℕ → ℕ) (cap : ℕ) (ks : List ℕ) → ((c : ℕ) → c ∈ ks → g c ≡ min (h c) cap) → (a : ℕ) → min (a + sum (map g ks)) cap ≡ min (a + sum (map h ks)) cap
sum_capped g h cap [] e a = refl
sum_capped g h cap (k ∷ ks) e a =
    let q : a + (g k + sum (map g ks)) ≡ a + g k + sum (map g ks) = omega arith in
    ap (λ n. min n cap) q ∙ sum_capped g h cap ks (λ c m. e c (there m)) (a + g k)
    ∙ ap (λ n. min (a + n + sum (map h ks)) cap) (e k (here refl)) ∙ cap_part a (h k) (sum (map h ks)) cap

-- the call sites of the first equations are among those of all
sites_in : (i : ℕ) (qs : List Equation) (c : ℕ) → c ∈ concat (map equation_sites (take i qs)) → c ∈ concat (map equation_sites qs)
sites_in zero qs c m = absurd (in_nil m)
sites_in (suc i) [] c m = absurd (in_nil m)
sites_in (suc i) (q ∷ qs) c m = ⊎_elim (λ h. in_left (concat (map equation_sites qs)) h) (λ h. in_right (equation_sites q) (sites_in i qs c h)) (in_append (equation_sites q) m)

sites_least : (h : ℕ → ℕ) (i : ℕ) (qs : List Equation) → sum (map h (concat (map equation_sites (take i qs)))) ≤ sum (map h (concat (map equation_sites qs)))
sites_least h zero qs = omega arith
sites_least h (suc i) [] = omega arith
sites_least h (suc i) (q ∷ qs) = omega (arith, sites_least h i qs, sum_append h (equation_sites q) (concat (map equation_sites (take i qs))), sum_append h (equation_sites q) (concat (map equation_sites qs)))

-- ---- where 9 does not hold, callees are of lower number

module _ {s : List ℕ} (bytes : Bytes s) (reads : FileReads s) (no9 : fault9 (file_at s) ≡ none) where
  lower : (k c : ℕ) → c ∈ sites (get_or (file_at s).nodes k no_node) → c < k
  lower k c m =
      let f = file_at s in
      by_cases (dec_lt k (length f.nodes))
      (λ b. used_lower f no9 k b c (sites_used (get_or f.nodes k no_node).equations c m))
      (λ h. absurd (in_nil (subst (λ n. c ∈ sites n) (get_or-eq_default f.nodes no_node (omega arith)) m)))

  module _ (rows : List ℕ) (nodes k : ℕ) (en : nodes ≡ length (file_at s).nodes) (lt : k < nodes) (before : (j : ℕ) → j < k → row_at rows j 6 ≡ min (site_bytes (file_at s) j) 65536) where
    callee_size : (c : ℕ) → c ∈ sites (node_of (file_at s) k) → callee_b rows nodes c ≡ min (site_bytes (file_at s) c) 65536
    callee_size c m = let low = lower k c m in rw (lt-ltb c nodes (omega (arith, low))) (before c low)

    -- the bytes of the records before an equation, where those of all are far below the cap
    before_sized : (i : ℕ) → cell_count (node_of (file_at s) k) ≤ 3584 → record_bytes (file_at s) k ≤ 32768
        → size_to rows nodes (own_size (node_of (file_at s) k)) (node_of (file_at s) k).equations i - own_size (node_of (file_at s) k) ≡ bytes_before (file_at s) k i
    unfolding sites_size
    before_sized i few low =
        let n = node_of (file_at s) k in
        let part = concat (map equation_sites (take i n.equations)) in
        let told = sum_capped (callee_b rows nodes) (site_bytes (file_at s)) 65536 part (λ c m. callee_size c (sites_in i n.equations c m)) (own_size n) in
        ap (λ m. m - own_size n) told ∙ under_cap (own_size n) (sum (map (site_bytes (file_at s)) part)) (omega arith) (omega (arith, low, sites_least (site_bytes (file_at s)) i n.equations))

    by_kind : (t : NodeKind) → record_by (kind_code t) (min (instance_b rows nodes (node_of (file_at s) k)) 65536)
        ≡ min (site_size_by t (sizes_at (length (file_at s).nodes) (file_at s).nodes) (node_of (file_at s) k)) 65536
    unfolding sites_size
    by_kind Function = refl
    by_kind Operator = sum_capped (callee_b rows nodes) (site_bytes (file_at s)) 65536 (sites (node_of (file_at s) k)) callee_size (own_size (node_of (file_at s) k))
    by_kind Imported = refl

    -- a node's instance, where the records of the nodes before it are in the rows
    instance_sized : min (instance_b rows nodes (node_of (file_at s) k)) 65536 ≡ min (instance_size (sizes_at (length (file_at s).nodes) (file_at s).nodes) (node_of (file_at s) k)) 65536
    instance_sized = by_kind Operator

    -- and its record
    record_sized : record_by (kind_code (node_of (file_at s) k).kind) (min (instance_b rows nodes (node_of (file_at s) k)) 65536) ≡ min (site_bytes (file_at s) k) 65536
    record_sized = by_kind (node_of (file_at s) k).kind ∙ ap (λ m. min m 65536) (sym (site_size_lem (file_at s).nodes lower k (omega arith)))

-- ---- all nodes

-- the rows, but for the lengths of the records, are as before
pub record RowsKept (rows₀ rows : List ℕ) : Type 0 where
  pub long : length rows ≡ 272
  pub others : (m j : ℕ) → j < 8 → (j ≡ 6 → ⊥) → row_at rows m j ≡ row_at rows₀ m j
  pub above : (j : ℕ) → 256 ≤ j → get_or rows j 0 ≡ get_or rows₀ j 0

pub kept_start : {rows₀ : List ℕ} → length rows₀ ≡ 272 → RowsKept rows₀ rows₀
kept_start long = record { long = long; others = λ m j h d. refl; above = λ j h. refl }

pub kept_turn : {rows₀ rows : List ℕ} → RowsKept rows₀ rows → (k size : ℕ) (rows' : List ℕ) → k < 32 → rows' ≡ set rows (k * 8 + 6) size → RowsKept rows₀ rows'
kept_turn {rows₀} {rows} g k size rows' few er =
    record {
      long = ap length er ∙ length-set rows (k * 8 + 6) size ∙ g.long;
      others = λ m j h d. ap (λ l. get_or l (m * 8 + j) 0) er ∙ get_or-set_other rows (k * 8 + 6) (m * 8 + j) size 0 (λ q. d (omega arith)) ∙ g.others m j h d;
      above = λ j h. ap (λ l. get_or l j 0) er ∙ get_or-set_other rows (k * 8 + 6) j size 0 (λ q. omega arith) ∙ g.above j h;
    }

row_kept : {n : Node} {at k : ℕ} {rows₀ rows : List ℕ} → RowsKept rows₀ rows → NodeRow n at k rows₀ → NodeRow n at k rows
row_kept {n} {at} {k} g h =
    record {
      kind = g.others k 0 (omega arith) (λ q. omega arith) ∙ h.kind;
      equations = g.others k 1 (omega arith) (λ q. omega arith) ∙ h.equations;
      inputs = g.others k 2 (omega arith) (λ q. omega arith) ∙ h.inputs;
      outputs = g.others k 3 (omega arith) (λ q. omega arith) ∙ h.outputs;
      variables = g.others k 4 (omega arith) (λ q. omega arith) ∙ h.variables;
      count = g.others k 5 (omega arith) (λ q. omega arith) ∙ h.count;
      place = g.others k 7 (omega arith) (λ q. omega arith) ∙ h.place;
    }

pub rows_kept : {s rows₀ rows : List ℕ} {nodes : ℕ} → RowsReady s rows₀ nodes → RowsKept rows₀ rows → RowsReady s rows nodes
rows_kept rd g = record { reads = rd.reads; row = λ j lt. row_kept g (rd.row j lt); many = rd.many; few = rd.few }

-- the last size does not depend on the one before the first node
pub last_any : (a b : ℕ) (rows : List ℕ) (nodes k : ℕ) (ns : List Node) → 1 ≤ length ns → last_size a rows nodes k ns ≡ last_size b rows nodes k ns
unfolding last_size
last_any a b rows nodes k [] some = absurd (omega arith)
last_any a b rows nodes k (n ∷ ns) some = refl

-- the records of the nodes below k are in the rows, and `size` is the last one's instance
pub record SizesGoing (s rows₀ : List ℕ) (nodes size₀ : ℕ) (rows : List ℕ) (size k : ℕ) : Type 0 where
  pub stored : size_nodes rows nodes k (drop k (file_at s).nodes) ≡ size_nodes rows₀ nodes 0 (file_at s).nodes
  pub end : last_size size rows nodes k (drop k (file_at s).nodes) ≡ last_size size₀ rows₀ nodes 0 (file_at s).nodes
  pub sizes : fault9 (file_at s) ≡ none → (j : ℕ) → j < k → row_at rows j 6 ≡ min (site_bytes (file_at s) j) 65536
  pub last : fault9 (file_at s) ≡ none → 1 ≤ k → size ≡ min (instance_size (sizes_at (length (file_at s).nodes) (file_at s).nodes) (node_of (file_at s) (k - 1))) 65536

pub sizes_start : {s rows : List ℕ} {nodes size : ℕ} → SizesGoing s rows nodes size rows size 0
sizes_start = record { stored = refl; end = refl; sizes = λ no j h. absurd (omega arith); last = λ no h. absurd (omega arith) }

module _ {s rows₀ rows : List ℕ} {nodes k : ℕ} (rd : RowsReady s rows₀ nodes) (kept : RowsKept rows₀ rows) {size₁ size₀ : ℕ} (g : SizesGoing s rows₀ nodes size₁ rows size₀ k) where
  pub sizes_turn : Bytes s → k < nodes → (size : ℕ) (rows' : List ℕ) → size ≡ min (instance_b rows nodes (node_of (file_at s) k)) 65536
      → rows' ≡ set rows (k * 8 + 6) (record_by (row_at rows k 0) size) → SizesGoing s rows₀ nodes size₁ rows' size (k + 1)
  unfolding size_nodes last_size
  sizes_turn bytes lt size rows' es er =
      let f = file_at s in
      let value = record_by (row_at rows k 0) size in
      let kind : row_at rows k 0 ≡ kind_code (node_of f k).kind = ((rows_kept rd kept).row k (omega (arith, rd.many))).kind in
      let on : drop k f.nodes ≡ node_of f k ∷ drop (k + 1) f.nodes = drop-cons f.nodes k no_node (omega (arith, rd.many)) ∙ ap (λ n. node_of f k ∷ drop n f.nodes) (sym (add-one k)) in
      let row : rows' ≡ size_node rows nodes k (node_of f k) = er ∙ ap (λ n. set rows (k * 8 + 6) (record_by (row_at rows k 0) n)) es in
      record {
        stored = ap (λ l. size_nodes l nodes (k + 1) (drop (k + 1) f.nodes)) row ∙ ap (size_nodes rows nodes k) (sym on) ∙ g.stored;
        end = ap (λ l. last_size size l nodes (k + 1) (drop (k + 1) f.nodes)) row ∙ ap (λ n. last_size n (size_node rows nodes k (node_of f k)) nodes (k + 1) (drop (k + 1) f.nodes)) es
            ∙ ap (last_size size₀ rows nodes k) (sym on) ∙ g.end;
        sizes = λ no j h. by_cases (dec_lt j k)
            (λ old. ap (λ l. get_or l (j * 8 + 6) 0) er ∙ get_or-set_other rows (k * 8 + 6) (j * 8 + 6) value 0 (λ q. omega arith) ∙ g.sizes no j old)
            (λ new. let e : j ≡ k = omega arith in
            rw e (ap (λ l. get_or l (k * 8 + 6) 0) er ∙ get_or-set_same rows (k * 8 + 6) value 0 (omega (arith, rd.few, kept.long))
            ∙ ap (λ x. record_by x size) kind ∙ ap (record_by (kind_code (node_of f k).kind)) es ∙ record_sized bytes rd.reads no rows nodes k rd.many lt (g.sizes no)));
        last = λ no h.
            let e : k + 1 - 1 ≡ k = omega arith in
            es ∙ instance_sized bytes rd.reads no rows nodes k rd.many lt (g.sizes no)
            ∙ ap (λ m. min (instance_size (sizes_at (length f.nodes) f.nodes) (node_of f m)) 65536) (sym e);
      }

  pub sizes_done : k ≤ nodes → nodes ≤ k → NodesSized (file_at s) rows₀ rows size₁ size₀
  unfolding size_nodes last_size
  sizes_done under over =
      let f = file_at s in
      let here : k ≡ nodes = omega arith in
      let gone : drop k f.nodes ≡ [] = drop_of_length-le f.nodes {i = k} (omega (arith, rd.many)) in
      record {
        stored = ap (size_nodes rows nodes k) (sym gone) ∙ g.stored ∙ ap (λ n. size_nodes rows₀ n 0 f.nodes) rd.many;
        last = ap (last_size size₀ rows nodes k) (sym gone) ∙ g.end ∙ ap (λ n. last_size size₁ rows₀ n 0 f.nodes) rd.many;
        done = record { row = (rows_kept rd kept).row; others = kept.others; above = kept.above; sizes = λ no j h. g.sizes no j (omega (arith, rd.many)) };
        main = λ one no. g.last no (omega (arith, rd.many)) ∙ ap (λ m. min (instance_size (sizes_at (length f.nodes) f.nodes) (node_of f (m - 1))) 65536) here
            ∙ ap (λ n. min (instance_size (sizes_at (length f.nodes) f.nodes) n) 65536) (sym (the_main rd (omega (arith, rd.many))));
      }

-- the plans of the nodes below k + 1
pub plans_turn : {s rows₀ rows : List ℕ} {nodes k size₁ size₀ : ℕ} {plans : List ℕ} (plans' : List ℕ) → RowsReady s rows₀ nodes → SizesGoing s rows₀ nodes size₁ rows size₀ k → Bytes s → k < nodes
    → NodePlanned rows nodes (file_at s) k plans plans' → PlansBelow (file_at s) plans k → PlansBelow (file_at s) plans' (k + 1)
plans_turn {s} {rows₀} {rows} {nodes} {k} plans' rd g bytes lt w below =
    λ no j h.
    let f = file_at s in
    let st = file_stands bytes rd.reads in
    let low : k < length f.nodes = omega (arith, rd.many) in
    by_cases (dec_lt j k) (λ old. plan_kept st w low j old (below no j old))
    (λ new. let e : k ≡ j = omega arith in
    subst (PlanOf f plans') e (plan_made st w low (λ i m few. before_sized bytes rd.reads no rows nodes k rd.many lt (g.sizes no) i (cells_limit (node_at_lem st k low)) few)))

-- the types of all nodes are left
pub types_turn : {s rows₀ rows : List ℕ} {nodes k : ℕ} {plans₀ plans : List ℕ} (plans' : List ℕ) → RowsReady s rows₀ nodes → Bytes s → k < nodes → NodePlanned rows nodes (file_at s) k plans plans' → TypesLeft (file_at s) plans₀ plans → TypesLeft (file_at s) plans₀ plans'
types_turn plans' rd bytes lt w h = record { left = λ j l x a b. (types_left (file_stands bytes rd.reads) w (omega (arith, rd.many))).left j l x a b ∙ h.left j l x a b }

-- and those of the constants
pub constants_turn : {s rows₀ rows : List ℕ} {nodes k : ℕ} {plans₀ plans : List ℕ} (plans' : List ℕ) → RowsReady s rows₀ nodes → Bytes s → k < nodes → NodePlanned rows nodes (file_at s) k plans plans' → ConstantsLeft (file_at s) plans₀ plans → ConstantsLeft (file_at s) plans₀ plans'
constants_turn plans' rd bytes lt w h = record { left = λ x a b. (constants_left (file_stands bytes rd.reads) w (omega (arith, rd.many))).left x a b ∙ h.left x a b }

-- the rows are the file's
pub rows_sized : {f : File} {rows rows' : List ℕ} → length rows' ≡ 272 → ((e : ℕ) → e < length f.enums → first_at rows e ≡ get_or (get_or f.enums e []) 0 0) → SizesDone f rows rows'
    → fault9 f ≡ none → Rows f rows'
rows_sized long firsts d no9 =
    record { long = long; rows_of = λ k lt. row_of (d.row k lt) (d.sizes no9 k lt); firsts = λ e lt. d.above (256 + e) (omega arith) ∙ firsts e lt }
