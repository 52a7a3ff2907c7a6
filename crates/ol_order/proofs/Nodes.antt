-- A node's equations and a file's nodes, by the tables of their places.
use Prim.Native.Nat.{ℕ, zero, suc, ◌+◌, ◌≤◌, ◌<◌}
use mathlib.Core.Bool.{Bool, true, false}
use mathlib.Core.List.{List, [], ◌∷◌, ◌++◌, map}
use mathlib.Core.Option.{Option, none, some}
use mathlib.Core.Path.{◌≡◌, refl, sym, ap, subst, ◌∙◌}
use native.Mathlib.Omega.{arith}
use lib.ListN.{length, get_or, take, drop, replicate, get_elem?, length-map, get_or-append, length-replicate}
use lib.Seq.{sets, sets-eq, take_at}
use lib.Dec.{eqb}
use Rattle.ol_spec.specs.Syntax.{Equation, Node, File}
use Rattle.ol_spec.specs.Places.{placed, equation_size, equations_start, placed_equations, node_size, nodes_start, placed_nodes}
use Rattle.ol_spec.specs.Limits.{base, relay_loader}
use Rattle.ol_spec.specs.Read.{Read, got, fault, read_file, equation_r, node_r}
use Rattle.ol_spec.specs.Order.{unplaced}
use Rattle.ol_spec.specs.Admission.{place_at}
use Rattle.ol_spec.specs.Answers.{fault_at, sorted_fault}
use Rattle.ol_spec.specs.Cycle.{OrderingCall, no_order, order_fits, order_unless_ring, order_node, order_read, ordering}
use Rattle.ol_spec.specs.declared.Fault.{Fault}
use Rattle.ol_spec.specs.declared.Limits.{Limits}
use Rattle.ol_spec.specs.Answers.{Sorted}
use Rattle.ol_order.specs.Tables.{is_got, equation_in, node_in, equation_at, node_at, equations_at, order_if, order_unless, order_of}
use Rattle.ol_order.specs.Post.{Readable, NodeReads}
use Rattle.ol_order.specs.Counts.{equations_in, equations_of}
use Rattle.ol_ir.specs.Nexts.{Counting, counted_at, counted_of}
use Rattle.ol_ir.specs.Nodes.{equations_r}
use Rattle.ol_order.proofs.Room.{short_file}
use Rattle.ol_ir.specs.Walks.{place_of, Loading, loaded_with, loaded_of}
use Rattle.std.specs.Prelude as Std
use Rattle.ol_ir.specs.declared.Loaded.{Loaded}
use Rattle.ol_ir.specs.declared.Counted.{Counted}
use Rattle.std.specs.Prelude.{MatchResult}
use Rattle.ol_ir.proofs.Bytes.{same_ok, same_count, get_out}
use Rattle.ol_ir.proofs.Files.{file_after}
use Rattle.ol_ir.proofs.Items.{equation_read, few_equations_lem}
use Rattle.ol_ir.proofs.Load.{node_read, few_nodes_lem}
use Rattle.ol_ir.proofs.Skips.{starts_told}

-- ---- placed items

module _ {A : Type 0} where
  abbrev pub item_of : ℕ × A → A
  item_of p = p.1

  pub place_get : (ps : List (ℕ × A)) (k : ℕ) → k < length ps → (p : ℕ) × (x : A) × (get_elem? ps k ≡ some (p, x)) × (get_or (map place_of ps) k 0 ≡ p)
  place_get [] zero h = absurd (omega arith)
  place_get [] (suc k) h = absurd (omega arith)
  place_get (q ∷ ps) zero h = (q.0, q.1, refl, refl)
  place_get (q ∷ ps) (suc k) h = place_get ps k (omega arith)

  module _ (size : A → ℕ) where
    pub length_placed : (at : ℕ) (xs : List A) → length (placed size at xs) ≡ length xs
    length_placed at [] = refl
    length_placed at (x ∷ xs) = ap suc (length_placed (at + size x) xs)

    pub items_placed : (at : ℕ) (xs : List A) → map item_of (placed size at xs) ≡ xs
    items_placed at [] = refl
    items_placed at (x ∷ xs) = ap (λ l. x ∷ l) (items_placed (at + size x) xs)

-- ---- a table's front

module _ (m : ℕ) (ps : List ℕ) (h : length ps ≤ m) where
  abbrev table : List ℕ
  table = sets (replicate m 0) 0 ps

  table_is : table ≡ ps ++ drop (0 + length ps) (replicate m 0)
  table_is = sets-eq ps (replicate m 0) 0 (omega (arith, length-replicate {A = ℕ} m 0))

  pub table_front : (n : ℕ) → length ps ≡ n → take n table ≡ ps
  table_front n e = ap (take n) table_is ∙ take_at ps (drop (0 + length ps) (replicate m 0)) n e

  pub table_get : (k : ℕ) → k < length ps → get_or table k 0 ≡ get_or ps k 0
  table_get k i = ap (λ (l : List ℕ). get_or l k 0) table_is ∙ get_or-append ps (drop (0 + length ps) (replicate m 0)) 0 k i

-- ---- a node's equations

module _ (s : List ℕ) (l : Limits) (enums : ℕ) where
  at_place : (p : ℕ) (q : Equation) (m : ℕ) → equation_r s l enums p ≡ got q m → equation_at s l enums p ≡ q
  unfolding equation_at
  at_place p q m e = ap equation_in e

  equations_same : (ps : List (ℕ × Equation)) → ((i p : ℕ) (q : Equation) → get_elem? ps i ≡ some (p, q) → (m : ℕ) × (equation_r s l enums p ≡ got q m)) → equations_at s l enums (map place_of ps) ≡ map item_of ps
  equations_same [] h = refl
  equations_same (q ∷ ps) h =
      let a = h 0 q.0 q.1 refl in
      ap (λ x. x ∷ equations_at s l enums (map place_of ps)) (at_place q.0 q.1 a.0 a.1) ∙ ap (λ xs. q.1 ∷ xs) (equations_same ps (λ i p x e. h (suc i) p x e))

  module _ (at : ℕ) (n : Node) (end : ℕ) (r : node_r s l enums at ≡ got n end) where
    abbrev starts : List ℕ
    starts = map place_of (placed_equations at n)

    pub long_starts : length starts ≡ length n.equations
    long_starts = length-map (placed_equations at n) place_of ∙ length_placed equation_size (equations_start at n + 1) n.equations

    pub node_equations : equations_at s l enums starts ≡ n.equations
    node_equations = equations_same (placed_equations at n) (λ i p q e. equation_read s l enums at n end r i p q e) ∙ items_placed equation_size (equations_start at n + 1) n.equations

    pub node_readable : l.equations ≤ 80 → Readable s l enums starts
    node_readable h =
        record {
          each = λ k i.
              let g = place_get (placed_equations at n) k (omega (arith, length-map (placed_equations at n) place_of)) in
              let a = equation_read s l enums at n end r k g.0 g.1 g.2 in
              ap is_got (subst (λ p. equation_r s l enums p ≡ got g.1 a.0) (sym g.3) a.1);
          few = omega (arith, long_starts, few_equations_lem s l enums at n end r);
        }

pub place_same : (ps : List (ℕ × Equation)) (i : ℕ) → place_at ps i ≡ get_or (map place_of ps) i 0
place_same [] zero = refl
place_same [] (suc i) = refl
place_same (q ∷ ps) zero = refl
place_same (q ∷ ps) (suc i) = place_same ps i

-- the ordering of a node is that of its equations at their places
pub node_order : (at : ℕ) (n : Node) (buf : List ℕ) → order_node (some (at, n)) buf ≡ order_of n.equations (map place_of (placed_equations at n)) buf
unfolding order_of
node_order at n buf = go (unplaced n.equations)
  where
    fits : (b : Bool) → order_fits b n buf ≡ order_if b n.equations buf
    fits true = refl
    fits false = refl

    go : (o : Option ℕ) → order_unless_ring o (at, n) buf ≡ order_unless o n.equations (map place_of (placed_equations at n)) buf
    go (some i) = ap (λ p. no_order 11 p buf) (place_same (placed_equations at n) i)
    go none = fits (eqb (length buf) (length n.equations))

-- ---- what the table of a node's equations answers

module _ (s : List ℕ) (l : Limits) (enums at : ℕ) (nr : NodeReads s l enums at) where
  abbrev node : Node
  node = node_at s l enums at

  pub as_counted : {x : Counting} {k q : ℕ} → x ≡ Std.Ok (counted_at (length node.equations) (equations_start at node + 1)) → x ≡ Std.Ok (counted_at k q) → k ≡ length node.equations
  as_counted {k = k} {q} e g = same_count (sym g ∙ e)

  pub counted_few : {k : ℕ} → k ≡ length node.equations → k ≤ 80
  counted_few c = omega (arith, c, few_equations_lem s l enums at node nr.end nr.is, nr.few)

  few : length (map place_of (placed_equations at node)) ≤ 80
  few = omega (arith, long_starts s l enums at node nr.end nr.is, few_equations_lem s l enums at node nr.end nr.is, nr.few)

  -- the front of a table of their places
  pub front_is : {k : ℕ} {t : List ℕ} → k ≡ length node.equations → t ≡ sets (replicate 80 0) 0 (map place_of (placed_equations at node)) → take k t ≡ map place_of (placed_equations at node)
  front_is {k} {t} c h = ap (take k) h ∙ table_front 80 (map place_of (placed_equations at node)) few k (long_starts s l enums at node nr.end nr.is ∙ sym c)

  module _ {starts : List ℕ} (h : starts ≡ map place_of (placed_equations at node)) where
    pub front_readable : Readable s l enums starts
    front_readable = subst (Readable s l enums) (sym h) (node_readable s l enums at node nr.end nr.is nr.few)

    pub front_order : (buf : List ℕ) → order_of (equations_at s l enums starts) starts buf ≡ order_node (some (at, node)) buf
    front_order buf =
        ap (λ v. order_of (equations_at s l enums v) v buf) h
        ∙ (ap (λ qs. order_of qs (map place_of (placed_equations at node)) buf) (node_equations s l enums at node nr.end nr.is) ∙ sym (node_order at node buf))

  pub not_counted : {x : Counting} {f : Fault} {t : Type 0} → x ≡ Std.Ok (counted_at (length node.equations) (equations_start at node + 1)) → x ≡ Std.Err f → t
  not_counted {f = f} e g = let b : ◌≡◌ {A = Counting} (Std.Err f) (Std.Ok (counted_at (length node.equations) (equations_start at node + 1))) = sym g ∙ e in let z : ◌≡◌ {A = ℕ} 0 1 = cc in absurd (omega arith)

-- ---- what the table of the nodes answers

pub loaded_file : (r : Read File) (e k : ℕ) → Std.Ok (loaded_with e k) ≡ loaded_of r → (f : File) × (end : ℕ) × (r ≡ got f end) × (length f.enums ≡ e) × (length f.nodes ≡ k)
unfolding loaded_of
loaded_file (got f end) e k h = let z = same_ok h in (f, end, refl, sym (ap (λ (l : Loaded). l.enums) z), sym (ap (λ (l : Loaded). l.nodes) z))
loaded_file (fault n p) e k h = let z : ◌≡◌ {A = ℕ} 0 1 = cc in absurd (omega arith)

pub loaded_not : (r : Read File) (f : Fault) → Std.Err f ≡ loaded_of r → r ≡ fault f.number f.place
unfolding loaded_of
loaded_not (got g end) f h = let z : ◌≡◌ {A = ℕ} 0 1 = cc in absurd (omega arith)
loaded_not (fault n p) f h = let z : fault_at n p ≡ f = cc in ap (λ (v : Fault). fault v.number v.place) z

module _ (s : List ℕ) {x : Loading} (e : x ≡ loaded_of (read_file s relay_loader)) (node : ℕ) (buf : List ℕ) where
  -- the file is refused
  pub order_refused : {f : Fault} → x ≡ Std.Err f → no_order f.number f.place buf ≡ ordering relay_loader s node buf
  unfolding ordering
  order_refused {f} g = sym (ap (λ r. order_read r node buf) (loaded_not (read_file s relay_loader) f (sym g ∙ e)))

  pub count_refused : {f : Fault} → x ≡ Std.Err f → 0 ≡ equations_of (read_file s relay_loader) node
  count_refused {f} g = sym (ap (λ r. equations_of r node) (loaded_not (read_file s relay_loader) f (sym g ∙ e)))

  module _ {enums k : ℕ} (g : x ≡ Std.Ok (loaded_with enums k)) where
    abbrev loaded : (f : File) × (end : ℕ) × (read_file s relay_loader ≡ got f end) × (length f.enums ≡ enums) × (length f.nodes ≡ k)
    loaded = loaded_file (read_file s relay_loader) enums k (sym g ∙ e)

    long_nodes : length (placed_nodes loaded.0) ≡ k
    long_nodes = length_placed node_size (nodes_start loaded.0) loaded.0.nodes ∙ loaded.4

    -- the node is absent
    pub order_absent : k ≤ node → no_order 3 0 buf ≡ ordering relay_loader s node buf
    unfolding ordering
    order_absent h = sym (ap (λ r. order_read r node buf) loaded.2 ∙ ap (λ o. order_node o buf) (get_out (placed_nodes loaded.0) node (omega (arith, long_nodes))))

    pub count_absent : k ≤ node → 0 ≡ equations_of (read_file s relay_loader) node
    count_absent h = sym (ap (λ r. equations_of r node) loaded.2 ∙ ap equations_in (get_out (placed_nodes loaded.0) node (omega (arith, long_nodes))))

    pub nodes_short : length s ≤ 32768
    nodes_short = short_file s loaded.0 loaded.1 loaded.2

    pub nodes_few : k ≤ 32
    nodes_few = omega (arith, few_nodes_lem s base loaded.0 loaded.1 (file_after s loaded.0 loaded.1 loaded.2), loaded.4)

    module _ {t : List ℕ} (i : (f : File) (end : ℕ) → read_file s relay_loader ≡ got f end → t ≡ sets (replicate 32 0) 0 (map place_of (placed_nodes f))) (h : node < k) where
      abbrev entry : (p : ℕ) × (n : Node) × (get_elem? (placed_nodes loaded.0) node ≡ some (p, n)) × (get_or (map place_of (placed_nodes loaded.0)) node 0 ≡ p)
      entry = place_get (placed_nodes loaded.0) node (omega (arith, long_nodes))

      place_is : get_or t node 0 ≡ entry.0
      place_is =
          let w : length (map place_of (placed_nodes loaded.0)) ≡ k = length-map (placed_nodes loaded.0) place_of ∙ long_nodes in
          ap (λ (v : List ℕ). get_or v node 0) (i loaded.0 loaded.1 loaded.2) ∙ (table_get 32 (map place_of (placed_nodes loaded.0)) (omega (arith, w, nodes_few)) node (omega (arith, w)) ∙ entry.3)

      node_got : (l : Limits) → l ≡ base → (m : ℕ) × (node_r s l enums (get_or t node 0) ≡ got entry.1 m)
      node_got l b =
          let a = node_read s base loaded.0 loaded.1 (file_after s loaded.0 loaded.1 loaded.2) node entry.0 entry.1 entry.2 in
          (a.0, subst (λ v. node_r s v enums (get_or t node 0) ≡ got entry.1 a.0) (sym b) (subst (λ p. node_r s base enums p ≡ got entry.1 a.0) (sym place_is) (subst (λ m. node_r s base m entry.0 ≡ got entry.1 a.0) loaded.3 a.1)))

      node_is : (l : Limits) → l ≡ base → node_at s l enums (get_or t node 0) ≡ entry.1
      unfolding node_at
      node_is l b = ap node_in (node_got l b).1

      -- the node is there
      pub node_reads : (l : Limits) → l ≡ base → NodeReads s l enums (get_or t node 0)
      node_reads l b =
          let a = node_got l b in
          record { end = a.0; is = a.1 ∙ ap (λ n. got n a.0) (sym (node_is l b)); few = omega (arith, ap (λ (v : Limits). v.equations) b) }

      pub order_present : (l : Limits) → l ≡ base → order_node (some (get_or t node 0, node_at s l enums (get_or t node 0))) buf ≡ ordering relay_loader s node buf
      unfolding ordering
      order_present l b =
          ap (λ n. order_node (some (get_or t node 0, n)) buf) (node_is l b)
          ∙ (ap (λ p. order_node (some (p, entry.1)) buf) place_is ∙ sym (ap (λ r. order_read r node buf) loaded.2 ∙ ap (λ o. order_node o buf) entry.2))

      pub count_present : (l : Limits) → l ≡ base → {y : Counting} {v : ℕ} (P : Counted → Type 0) → y ≡ counted_of (equations_r s l enums (get_or t node 0)) → MatchResult y P (λ f. v ≡ 0) → ((n q : ℕ) → P (counted_at n q) → v ≡ n) → v ≡ equations_of (read_file s relay_loader) node
      count_present l b {y} {v} P u m w =
          let a = node_got l b in
          let same = w _ _ (subst (λ r. MatchResult r P (λ f. v ≡ 0)) (starts_told s l enums (get_or t node 0) entry.1 a.0 a.1 u) m) in
          same ∙ sym (ap (λ r. equations_of r node) loaded.2 ∙ ap equations_in entry.2)

-- what the ordering's call gives: the answer, the buffer, and the answer's number and place
pub as_told : {r : Sorted} {b : List ℕ} {v w : OrderingCall} → r ≡ v.answer → b ≡ v.buffer → v ≡ w
    → (r ≡ w.answer) × ((b ≡ w.buffer) × (sorted_fault r ≡ sorted_fault w.answer))
as_told p q e =
    (p ∙ ap (λ (c : OrderingCall). c.answer) e, (q ∙ ap (λ (c : OrderingCall). c.buffer) e, ap sorted_fault (p ∙ ap (λ (c : OrderingCall). c.answer) e)))
