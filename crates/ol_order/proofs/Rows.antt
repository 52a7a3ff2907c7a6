-- The orders of all nodes as bytes: what each node's equations leave, and the nodes one after the other.
use Prim.Native.Nat.{ℕ, zero, suc, ◌+◌, ◌-◌, ◌*◌, ◌/◌, ◌≤◌, ◌<◌}
use mathlib.Core.Bool.{Bool, true}
use mathlib.Core.List.{List, [], ◌∷◌, ◌++◌, append_assoc, map}
use mathlib.Core.Logic.{by_cases}
use mathlib.Core.Option.{Option, none, some}
use mathlib.Core.Path.{◌≡◌, refl, sym, ap, subst, ◌∙◌}
use native.Mathlib.Decide.{dec_le}
use native.Mathlib.Numerals.{add-one}
use native.Mathlib.Omega.{arith}
use lib.ListN.{length, get_or, set, take, drop, get_elem?, length-map, length-append, length-drop, take-append-drop, drop_of_length-le, get_or-append}
use lib.Seq.{sets, sets-eq, get_or-take, get_or-drop, get_or-append-add, get_or-set_other, length-take-le, length_front, take-set-lt, drop-set-lt, drop-append-le, drop-drop, drop-cons, ext_get_or}
use Rattle.ol_spec.specs.Lists.{maybe, or_else}
use Rattle.ol_spec.specs.Syntax.{Equation, Node, File, no_node, variables}
use Rattle.ol_spec.specs.Places.{node_size, nodes_start, placed_nodes, equation_size, equations_start, placed_equations}
use Rattle.ol_spec.specs.Limits.{base, relay_loader}
use Rattle.ol_spec.specs.Read.{got, read_file, node_r}
use Rattle.ol_spec.specs.Order.{order, unplaced}
use Rattle.ol_spec.specs.Admission.{place_at, ring_in, first_some, fault11}
use Rattle.ol_spec.specs.declared.Limits.{Limits}
use Rattle.ol_spec.proofs.Offsets.{same_item}
use Rattle.ol_order.specs.Tables.{entries_for, node_in, node_at, equations_at, waited_all}
use Rattle.ol_order.specs.Post.{NodeReads, Sorts}
use Rattle.std.specs.Prelude.{Ok, Err}
use Rattle.ol_order.proofs.Answers.{error_some, error_none}
use Rattle.ol_order.specs.Orders.{Ring, ring_place, LowNames, StartsWith, row_written, EquationsDone, starts_in, NodeDone, NodesStand, NodePlanned, Planned, OrderOf, orders_written, OrdersDone}
use Rattle.ol_order.proofs.Room.{short_file, node_room, variables_room}
use Rattle.ol_order.proofs.Nodes.{place_get, length_placed, items_placed, item_of, place_same, node_equations, counted_few}
use Rattle.ol_tables.specs.Tables.{row_at, node_of, place_of as table_place, slots_from, two_at, plans_from, plans_of, plan_in}
use Rattle.ol_ir.specs.Walks.{place_of}
use Rattle.ol_ir.proofs.Files.{file_after}
use Rattle.ol_ir.proofs.Items.{few_equations_lem}
use Rattle.ol_ir.proofs.Load.{node_read, few_nodes_lem}

-- ---- a row written in front

-- as the code copies it
pub copied_front : {v w : List ℕ} {n : ℕ} (t : List ℕ) → v ≡ w → n ≡ length w → length w ≤ length t → v ++ drop n t ≡ sets t 0 w
copied_front {w = w} {n} t e z h =
    let y : n ≡ 0 + length w = omega (arith, z) in
    ap (λ l. l ++ drop n t) e ∙ (ap (λ k. w ++ drop k t) y ∙ sym (sets-eq w t 0 (omega arith)))

front_get : (vs t : List ℕ) (j : ℕ) → length vs ≤ length t → j < length vs → get_or (sets t 0 vs) j 0 ≡ get_or vs j 0
front_get vs t j h g = ap (λ (l : List ℕ). get_or l j 0) (sets-eq vs t 0 (omega arith)) ∙ get_or-append vs (drop (0 + length vs) t) 0 j g

-- ---- what the equations leave

module _ {qs : List Equation} {space o : List ℕ} (starts before : List ℕ) where
  pub equations_ring : {first : ℕ} → Sorts qs space o (Err first) → EquationsDone qs starts before before (Err (get_or starts first 0))
  equations_ring {first} so =
      let u : unplaced qs ≡ some first = error_some (unplaced qs) so.ring in
      record {
        found = sym (ap (maybe none (λ i. some (get_or starts i 0))) u);
        order = λ e. absurd (never first (sym e ∙ u));
        few = so.few;
        written = sym (ap (maybe (sets before 0 (order qs)) (λ i. before)) u);
      }
    where
      never : (i : ℕ) → none ≡ some i → ⊥
      never i f = let z : ◌≡◌ {A = ℕ} 0 1 = cc in omega arith

  pub equations_done : {out : List ℕ} → Sorts qs space o (Ok tt) → length o ≤ length before → out ≡ sets before 0 o → EquationsDone qs starts before out (Ok tt)
  equations_done {out} so few f =
      let u : unplaced qs ≡ none = error_none (unplaced qs) so.ring in
      record {
        found = sym (ap (maybe none (λ i. some (get_or starts i 0))) u);
        order = λ e j i. ap (λ (l : List ℕ). get_or l j 0) f ∙ (front_get o before j few (omega (arith, so.long)) ∙ ap (λ (l : List ℕ). get_or l j 0) (so.order refl));
        few = so.few;
        written = f ∙ (ap (sets before 0) (so.order refl) ∙ sym (ap (maybe (sets before 0 (order qs)) (λ i. before)) u));
      }

-- ---- a part of the bytes is written

abbrev pub partly : List ℕ → List ℕ → ℕ → ℕ → List ℕ
partly o x u m = take u o ++ (x ++ drop m (drop u o))

module _ (o x : List ℕ) (u m : ℕ) (h : u ≤ length o) where
  part_inside : (j : ℕ) → j < length x → get_or (partly o x u m) (u + j) 0 ≡ get_or x j 0
  part_inside j g =
      subst (λ n. get_or (partly o x u m) (n + j) 0 ≡ get_or x j 0) (length-take-le u o h)
      (get_or-append-add (take u o) (x ++ drop m (drop u o)) j 0 ∙ get_or-append x (drop m (drop u o)) 0 j g)

  pub part_long : length x ≡ length (take m (drop u o)) → length (partly o x u m) ≡ length o
  part_long e =
      length-append (take u o) (x ++ drop m (drop u o)) ∙ omega (arith, length-take-le u o h, length_front (drop u o) x m e, length-drop u o)

part_same : (o : List ℕ) (u m : ℕ) → partly o (take m (drop u o)) u m ≡ o
part_same o u m = ap (λ (l : List ℕ). take u o ++ l) (take-append-drop m (drop u o)) ∙ take-append-drop u o

-- a row written into a part is written into the whole
part_sets : (o vs : List ℕ) (u m : ℕ) → length vs ≤ m → u + m ≤ length o → partly o (sets (take m (drop u o)) 0 vs) u m ≡ sets o u vs
part_sets o vs u m h g =
    let d = drop u o in
    let len : length (take m d) ≡ m = length-take-le m d (omega (arith, length-drop u o)) in
    let z : 0 + length vs ≡ length vs = omega arith in
    let a : sets (take m d) 0 vs ≡ vs ++ drop (length vs) (take m d) = sets-eq vs (take m d) 0 (omega (arith, len)) ∙ ap (λ k. vs ++ drop k (take m d)) z in
    let b : drop (length vs) (take m d) ++ drop m d ≡ drop (u + length vs) o =
    sym (drop-append-le (length vs) (take m d) (drop m d) (omega (arith, len))) ∙ (ap (drop (length vs)) (take-append-drop m d) ∙ drop-drop (length vs) u o) in
    ap (λ (l : List ℕ). take u o ++ (l ++ drop m d)) a
    ∙ (ap (λ (l : List ℕ). take u o ++ l) (append_assoc vs (drop (length vs) (take m d)) (drop m d) ∙ ap (λ (l : List ℕ). vs ++ l) b)
    ∙ (sym (append_assoc (take u o) vs (drop (u + length vs) o)) ∙ sym (sets-eq vs o u (omega arith))))

part_written : (qs : List Equation) (o : List ℕ) (u m : ℕ) → length (order qs) ≤ m → u + m ≤ length o → partly o (row_written qs 0 (take m (drop u o))) u m ≡ row_written qs u o
part_written qs o u m h g = by (unplaced qs)
  where
    by : (x : Option ℕ) → partly o (maybe (sets (take m (drop u o)) 0 (order qs)) (λ i. take m (drop u o)) x) u m ≡ maybe (sets o u (order qs)) (λ i. o) x
    by none = part_sets o (order qs) u m h g
    by (some i) = part_same o u m

-- 80 bytes from u on
pub part_80 : (o : List ℕ) (u : ℕ) → u + 80 ≤ length o → length (take (u + 80 - u) (drop u o)) ≡ 80
part_80 o u g =
    let z : u + 80 - u ≡ 80 = omega arith in
    rw z (length-take-le 80 (drop u o) (omega (arith, length-drop u o)))

-- ---- what a node's equations leave

some_none : (g : ℕ → ℕ) (o : Option ℕ) → maybe none (λ i. some (g i)) o ≡ none → o ≡ none
some_none g none e = refl
some_none g (some i) e = let z : ◌≡◌ {A = ℕ} 0 1 = cc in absurd (omega arith)

module _ (s : List ℕ) (l : Limits) (enums at : ℕ) (nr : NodeReads s l enums at) where
  abbrev node : Node
  node = node_at s l enums at

  module _ {starts : List ℕ} (front : starts ≡ map place_of (placed_equations at node)) where
    pub front_equations : equations_at s l enums starts ≡ node.equations
    front_equations = ap (equations_at s l enums) front ∙ node_equations s l enums at node nr.end nr.is

    -- the lists of its equations have room in a third of the file's bytes
    pub front_room : 3 * length (waited_all (equations_at s l enums starts) (equations_at s l enums starts)) ≤ length s
    front_room = subst (λ qs. 3 * length (waited_all qs qs) ≤ length s) (sym front_equations) (node_room s l enums at nr)

    pub front_lists : {lists : List ℕ} (before : List ℕ) → lists ≡ sets before 0 (waited_all (equations_at s l enums starts) (equations_at s l enums starts)) → lists ≡ sets before 0 (waited_all node.equations node.equations)
    front_lists before e = e ∙ ap (λ qs. sets before 0 (waited_all qs qs)) front_equations

    pub front_lows : {low : Bool} {n : ℕ} → (low ≡ true → LowNames n node.equations) → low ≡ true → LowNames n (equations_at s l enums starts)
    front_lows {n = n} f e = subst (LowNames n) (sym front_equations) (f e)

    ring_is : maybe none (λ i. some (get_or starts i 0)) (unplaced (equations_at s l enums starts)) ≡ ring_in (at, node)
    ring_is =
        ap (λ v. maybe none (λ i. some (get_or v i 0)) (unplaced (equations_at s l enums starts))) front
        ∙ (ap (λ qs. maybe none (λ i. some (get_or (map place_of (placed_equations at node)) i 0)) (unplaced qs)) front_equations ∙ go (unplaced node.equations))
      where
        go : (o : Option ℕ) → maybe none (λ i. some (get_or (map place_of (placed_equations at node)) i 0)) o ≡ maybe none (λ i. some (place_at (placed_equations at node) i)) o
        go none = refl
        go (some i) = ap some (sym (place_same (placed_equations at node) i))

    pub node_done : (tab x : List ℕ) {r : Ring} (u m : ℕ) → m ≡ 80 → u + 80 ≤ length tab → length x ≡ 80 → EquationsDone (equations_at s l enums starts) starts (take m (drop u tab)) x r → NodeDone at node u tab (partly tab x u m) r
    node_done tab x {r} u m z long lx d =
        let few : length (order node.equations) ≤ length node.equations = subst (λ qs. length (order qs) ≤ length qs) front_equations d.few in
        let all : length node.equations ≤ 80 = counted_few s l enums at nr refl in
        record {
          found = d.found ∙ ring_is;
          few = few;
          order = λ f j i.
              part_inside tab x u m (omega arith) j (omega arith)
              ∙ subst (λ qs. StartsWith qs x) front_equations (d.order (some_none (λ i. get_or starts i 0) (unplaced (equations_at s l enums starts)) (ring_is ∙ f))) j i;
          written = ap (λ v. partly tab v u m) (d.written ∙ ap (λ qs. row_written qs 0 (take m (drop u tab))) front_equations) ∙ part_written node.equations tab u m (omega arith) (omega arith);
        }

-- ---- what a written row leaves of the bytes

module _ (w : ℕ) where
  take_sets : (vs l : List ℕ) (u : ℕ) → u + length vs ≤ w → take w (sets l u vs) ≡ sets (take w l) u vs
  take_sets [] l u h = refl
  take_sets (v ∷ vs) l u h = take_sets vs (set l u v) (suc u) (omega arith) ∙ ap (λ (t : List ℕ). sets t (suc u) vs) (take-set-lt w l u v (omega arith))

  drop_sets : (vs l : List ℕ) (u : ℕ) → u + length vs ≤ w → drop w (sets l u vs) ≡ drop w l
  drop_sets [] l u h = refl
  drop_sets (v ∷ vs) l u h = drop_sets vs (set l u v) (suc u) (omega arith) ∙ drop-set-lt w l u v (omega arith)

sets_before : (vs l : List ℕ) (u i : ℕ) → i < u → get_or (sets l u vs) i 0 ≡ get_or l i 0
sets_before [] l u i h = refl
sets_before (v ∷ vs) l u i h = sets_before vs (set l u v) (suc u) i (omega arith) ∙ get_or-set_other l u i v 0 (λ e. omega arith)

module _ {at : ℕ} {n : Node} {u : ℕ} {before out : List ℕ} {r : Ring} (d : NodeDone at n u before out r) (w : ℕ) (h : u + length n.equations ≤ w) where
  few_order : u + length (order n.equations) ≤ w
  few_order = omega (arith, d.few)

  -- a row inside the first w bytes is a row of these
  pub done_front : NodeDone at n u (take w before) (take w out) r
  done_front =
      record {
        found = d.found;
        few = d.few;
        order = λ e j i. get_or-take w out (u + j) 0 (omega arith) ∙ d.order e j i;
        written = ap (take w) d.written ∙ by (unplaced n.equations);
      }
    where
      by : (x : Option ℕ) → take w (maybe (sets before u (order n.equations)) (λ i. before) x) ≡ maybe (sets (take w before) u (order n.equations)) (λ i. take w before) x
      by none = take_sets w (order n.equations) before u few_order
      by (some i) = refl

  -- and those behind stay
  pub done_behind : drop w out ≡ drop w before
  done_behind = ap (drop w) d.written ∙ by (unplaced n.equations)
    where
      by : (x : Option ℕ) → drop w (maybe (sets before u (order n.equations)) (λ i. before) x) ≡ drop w before
      by none = drop_sets w (order n.equations) before u few_order
      by (some i) = refl

-- ---- what a plan says

starts_long : (t : List ℕ) (plan n : ℕ) → length (starts_in t plan n) ≡ n
unfolding starts_in
starts_long t plan zero = refl
starts_long t plan (suc n) = ap suc (starts_long t (plan + 2) n)

starts_get : (t : List ℕ) (plan n i : ℕ) → i < n → get_or (starts_in t plan n) i 0 ≡ two_at t (plan + 2 * i)
unfolding starts_in
starts_get t plan zero i h = absurd (omega arith)
starts_get t plan (suc n) zero h = let z : plan ≡ plan + 2 * 0 = omega arith in ap (two_at t) z
starts_get t plan (suc n) (suc i) h = let z : plan + 2 + 2 * i ≡ plan + 2 * suc i = omega arith in starts_get t (plan + 2) n i (omega arith) ∙ ap (two_at t) z

pub starts_all_told : (t b : List ℕ) (plan n : ℕ) → length b ≡ n → ((i : ℕ) → i < n → get_or b i 0 ≡ two_at t (plan + 2 * i)) → b ≡ starts_in t plan n
starts_all_told t b plan n e h = ext_get_or 0 b (starts_in t plan n) (e ∙ sym (starts_long t plan n)) (λ i g. h i (omega arith) ∙ sym (starts_get t plan n i (omega arith)))

get_behind : (t : List ℕ) (from p q : ℕ) → p ≡ from + q → get_or t p 0 ≡ get_or (drop from t) q 0
get_behind t from p q z = ap (λ x. get_or t x 0) z ∙ sym (get_or-drop from t q 0)

two_behind : (t : List ℕ) (from p q : ℕ) → p ≡ from + q → two_at t p ≡ two_at (drop from t) q
two_behind t from p q z =
    ap (λ x. x * 256 + get_or t (p + 1) 0) (get_behind t from p q z) ∙ ap (λ x. get_or (drop from t) q 0 * 256 + x) (get_behind t from (p + 1) (q + 1) (omega arith))

-- where the bytes from 2,560 on stay, so do the plans
module _ (tab before : List ℕ) (e : drop 2560 tab ≡ drop 2560 before) (n : length tab ≡ length before) where
  plans_kept : plans_of tab ≡ plans_of before
  plans_kept =
      let p = plans_from before in
      let z : 2560 + (p - 2560) ≡ p = omega arith in
      ap (λ l. drop (slots_from + (l - slots_from) / 2) tab) n
      ∙ subst (λ q. drop q tab ≡ drop q before) z (sym (drop-drop (p - 2560) 2560 tab) ∙ (ap (drop (p - 2560)) e ∙ drop-drop (p - 2560) 2560 before))

  pub planned_kept : {s rows : List ℕ} → Planned s rows before → Planned s rows tab
  planned_kept p =
      record {
        long = omega (arith, p.long, n);
        file = λ f end rd k h.
            let q = p.file f end rd k h in
            record { variables = q.variables; count = q.count; places = λ i g. ap (λ (t : List ℕ). two_at t (plan_in f k + 2 * i)) plans_kept ∙ q.places i g };
      }

-- ---- the nodes, one after the other

module _ {s places : List ℕ} {enums : ℕ} {low : Bool} (ns : NodesStand s enums places low) where
  abbrev file : File
  file = ns.file

  long_nodes : length (placed_nodes file) ≡ length file.nodes
  long_nodes = length_placed node_size (nodes_start file) file.nodes

  pub as_many : length places ≡ length file.nodes
  as_many = ap length ns.placed ∙ (length-map (placed_nodes file) place_of ∙ long_nodes)

  pub few_places : length places ≤ 32
  few_places = omega (arith, as_many, few_nodes_lem s base file ns.end (file_after s file ns.end ns.is))

  node_item : (k : ℕ) (p : ℕ) (n : Node) → get_elem? (placed_nodes file) k ≡ some (p, n) → get_or file.nodes k no_node ≡ n
  node_item k p n e = ap (λ l. get_or l k no_node) (sym (items_placed node_size (nodes_start file) file.nodes)) ∙ go (placed_nodes file) k e
    where
      go : (ps : List (ℕ × Node)) (k : ℕ) → get_elem? ps k ≡ some (p, n) → get_or (map item_of ps) k no_node ≡ n
      go [] zero f = let z : ◌≡◌ {A = ℕ} 0 1 = cc in absurd (omega arith)
      go [] (suc k) f = let z : ◌≡◌ {A = ℕ} 0 1 = cc in absurd (omega arith)
      go (q ∷ ps) zero f = let z : q ≡ (p, n) = cc in ap item_of z
      go (q ∷ ps) (suc k) f = go ps k f

  module _ (k : ℕ) (h : k < length places) where
    abbrev entry : (p : ℕ) × (n : Node) × (get_elem? (placed_nodes file) k ≡ some (p, n)) × (get_or (map place_of (placed_nodes file)) k 0 ≡ p)
    entry = place_get (placed_nodes file) k (omega (arith, as_many, long_nodes))

    abbrev place : ℕ
    place = get_or places k 0

    place_is : place ≡ entry.0
    place_is = ap (λ l. get_or l k 0) ns.placed ∙ entry.3

    node_got : (m : ℕ) × (node_r s base enums place ≡ got entry.1 m)
    node_got =
        let a = node_read s base file ns.end (file_after s file ns.end ns.is) k entry.0 entry.1 entry.2 in
        (a.0, subst (λ p. node_r s base enums p ≡ got entry.1 a.0) (sym place_is) (subst (λ m. node_r s base m entry.0 ≡ got entry.1 a.0) ns.counted a.1))

    node_there : node_at s base enums place ≡ entry.1
    unfolding node_at
    node_there = ap node_in node_got.1

    pub node_is : node_at s base enums place ≡ get_or file.nodes k no_node
    node_is = node_there ∙ sym (node_item k entry.0 entry.1 entry.2)

    node_stands : NodeReads s base enums place
    node_stands = record { end = node_got.0; is = node_got.1 ∙ ap (λ n. got n node_got.0) (sym node_there); few = omega arith }

    pub node_reads : (l : Limits) → l ≡ base → NodeReads s l enums place
    node_reads l e = subst (λ v. NodeReads s v enums place) (sym e) node_stands

    pub node_lows : (l : Limits) → l ≡ base → {m : ℕ} → m ≡ entries_for s → low ≡ true → LowNames m (node_at s l enums place).equations
    node_lows l e {m} f t =
        subst (λ v. LowNames m (node_at s v enums place).equations) (sym e)
        (subst (λ (n : Node). LowNames m n.equations) (sym node_is) (subst (λ i. LowNames i (get_or file.nodes k no_node).equations) (sym f) (ns.lows t k (omega (arith, as_many)))))

    -- with the limits that the code has
    module _ {l : Limits} (e : l ≡ base) where
      pub done_at_base : {from : ℕ} {before out : List ℕ} {r : Ring} → NodeDone place (node_at s l enums place) from before out r → NodeDone place (node_at s base enums place) from before out r
      done_at_base {from} {before} {out} {r} = subst (λ v. NodeDone place (node_at s v enums place) from before out r) e

      pub lists_at_base : {lists : List ℕ} (before : List ℕ) → lists ≡ sets before 0 (waited_all (node_at s l enums place).equations (node_at s l enums place).equations) → lists ≡ sets before 0 (waited_all (node_at s base enums place).equations (node_at s base enums place).equations)
      lists_at_base {lists} before = subst (λ v. lists ≡ sets before 0 (waited_all (node_at s v enums place).equations (node_at s v enums place).equations)) e

    here_is : drop k (placed_nodes file) ≡ (place, get_or file.nodes k no_node) ∷ drop (suc k) (placed_nodes file)
    here_is = go (placed_nodes file) k entry.2 ∙ ap (λ (q : ℕ × Node). q ∷ drop (suc k) (placed_nodes file)) (ap (λ p. (p, entry.1)) (sym place_is) ∙ ap (λ n. (place, n)) (sym (node_item k entry.0 entry.1 entry.2)))
      where
        go : (ps : List (ℕ × Node)) (k : ℕ) → get_elem? ps k ≡ some (entry.0, entry.1) → drop k ps ≡ (entry.0, entry.1) ∷ drop (suc k) ps
        go [] zero f = let z : ◌≡◌ {A = ℕ} 0 1 = cc in absurd (omega arith)
        go [] (suc k) f = let z : ◌≡◌ {A = ℕ} 0 1 = cc in absurd (omega arith)
        go (q ∷ ps) zero f = let z : q ≡ (entry.0, entry.1) = cc in ap (λ r. r ∷ ps) z
        go (q ∷ ps) (suc k) f = go ps k f

    pub few_here : length (get_or file.nodes k no_node).equations ≤ 80
    few_here = subst (λ (n : Node). length n.equations ≤ 80) node_is (omega (arith, few_equations_lem s base enums place (node_at s base enums place) node_stands.end node_stands.is))

    pub few_read : length (node_at s base enums place).equations ≤ 80
    few_read = subst (λ (n : Node). length n.equations ≤ 80) (sym node_is) few_here

    module _ {rows tab : List ℕ} (pl : Planned s rows tab) where
      abbrev planned : NodePlanned file rows tab k
      planned = pl.file file ns.end ns.is k (omega (arith, as_many))

      -- it starts inside the file, and so do its variables
      pub place_short : place + row_at rows k 4 ≤ 32768
      place_short =
          subst (λ n. place + n ≤ 32768) (sym planned.variables)
          (subst (λ (n : Node). place + length (variables n) ≤ 32768) node_is (omega (arith, variables_room s base enums place node_stands, short_file s file ns.end ns.is)))

      place_told : table_place (placed_nodes file) k ≡ place
      place_told = sym (ap (λ l. get_or l k 0) ns.placed)

      abbrev starts : List ℕ
      starts = map place_of (placed_equations place (node_of file k))

      starts_all : length starts ≡ row_at rows k 5
      starts_all = length-map (placed_equations place (node_of file k)) place_of ∙ (length_placed equation_size (equations_start place (node_of file k) + 1) (node_of file k).equations ∙ sym planned.count)

      -- where its plan starts, with so many variables
      abbrev plan_with : ℕ → ℕ
      plan_with v = plans_from tab + place + 2 * v

      starts_told : starts_in tab (plan_with (row_at rows k 4)) (row_at rows k 5) ≡ starts
      starts_told =
          let plan = plan_with (row_at rows k 4) in
          let long = starts_long tab plan (row_at rows k 5) in
          ext_get_or 0 (starts_in tab plan (row_at rows k 5)) starts (long ∙ sym starts_all)
          (λ i h.
          starts_get tab plan (row_at rows k 5) i (omega (arith, long))
          ∙ (two_behind tab (plans_from tab) (plan + 2 * i) (plan_in file k + 2 * i) (omega (arith, place_told, planned.variables))
          ∙ (planned.places i (omega (arith, long, planned.count)) ∙ ap (λ p. get_or (map place_of (placed_equations p (node_of file k))) i 0) place_told)))

      pub plan_few : {n : ℕ} → n ≡ row_at rows k 5 → n ≤ 80
      plan_few b = omega (arith, b, planned.count, few_here)

      module _ {l : Limits} (e : l ≡ base) where
        node_same : node_at s l enums place ≡ node_of file k
        node_same = ap (λ v. node_at s v enums place) e ∙ node_is

        -- what its plan says
        pub plan_starts : {v n : ℕ} → v ≡ row_at rows k 4 → n ≡ row_at rows k 5 → starts_in tab (plan_with v) n ≡ map place_of (placed_equations place (node_at s l enums place))
        plan_starts {v} {n} a b =
            ap (λ v. starts_in tab (plan_with v) n) a
            ∙ (ap (starts_in tab (plan_with (row_at rows k 4))) b ∙ (starts_told ∙ ap (λ (n : Node). map place_of (placed_equations place n)) (sym node_same)))

  -- the nodes before k have no ring, and their orders are written
  pub record Going (before : List ℕ) (k : ℕ) (orders : List ℕ) : Type 0 where
    pub inside : k ≤ length places
    pub left : fault11 file ≡ first_some (map ring_in (drop k (placed_nodes file)))
    pub done : (i : ℕ) → i < k → OrderOf file orders i
    pub rest : orders_written 0 file.nodes before ≡ orders_written k (drop k file.nodes) orders

  pub going_start : {orders : List ℕ} → Going orders 0 orders
  unfolding fault11
  going_start = record { inside = omega arith; left = refl; done = λ i g. absurd (omega arith); rest = refl }

  module _ {before : List ℕ} {k : ℕ} {orders : List ℕ} (go : Going before k orders) where
    module _ (h : k < length places) {out : List ℕ} {r : Ring} (d : NodeDone (get_or places k 0) (node_at s base enums (get_or places k 0)) (k * 80) orders out r) where
      abbrev here_node : Node
      here_node = get_or file.nodes k no_node

      abbrev here_equations : List Equation
      here_equations = here_node.equations

      done_here : NodeDone (get_or places k 0) here_node (k * 80) orders out r
      done_here = subst (λ (n : Node). NodeDone (get_or places k 0) n (k * 80) orders out r) (node_is k h) d

      -- what is still to be written, by whether this node has a ring
      rest_here : orders_written 0 file.nodes before ≡ maybe (orders_written (suc k) (drop (suc k) file.nodes) (sets orders (k * 80) (order here_equations))) (λ i. orders) (unplaced here_equations)
      unfolding orders_written
      rest_here = go.rest ∙ ap (λ ps. orders_written k ps orders) (drop-cons file.nodes k no_node (omega (arith, as_many)))

      out_at : (o : Option ℕ) → unplaced here_equations ≡ o → out ≡ maybe (sets orders (k * 80) (order here_equations)) (λ i. orders) o
      out_at o u = done_here.written ∙ ap (maybe (sets orders (k * 80) (order here_equations)) (λ i. orders)) u

      rest_at : (o : Option ℕ) → unplaced here_equations ≡ o → orders_written 0 file.nodes before ≡ maybe (orders_written (suc k) (drop (suc k) file.nodes) (sets orders (k * 80) (order here_equations))) (λ i. orders) o
      rest_at o u = rest_here ∙ ap (maybe (orders_written (suc k) (drop (suc k) file.nodes) (sets orders (k * 80) (order here_equations))) (λ i. orders)) u

      -- the row of a node with a ring stays
      ring_stays : (p : ℕ) → ring_in (get_or places k 0, here_node) ≡ some p → out ≡ orders_written 0 file.nodes before
      ring_stays p f = by (unplaced here_equations) refl
        where
          by : (o : Option ℕ) → unplaced here_equations ≡ o → out ≡ orders_written 0 file.nodes before
          by none u = let a : none ≡ some p = sym (ap (maybe none (λ i. some (place_at (placed_equations (get_or places k 0) here_node) i))) u) ∙ f in let z : ◌≡◌ {A = ℕ} 0 1 = cc in absurd (omega arith)
          by (some i) u = out_at (some i) u ∙ sym (rest_at (some i) u)

      ring_left : fault11 file ≡ or_else (ring_in (get_or places k 0, here_node)) (first_some (map ring_in (drop (suc k) (placed_nodes file))))
      ring_left = go.left ∙ ap (λ ps. first_some (map ring_in ps)) (here_is k h)

      pub going_ring : {p : ℕ} (f : File) (end : ℕ) → read_file s relay_loader ≡ got f end → r ≡ Err p → OrdersDone f before out (Err p)
      going_ring {p} f end rd g =
          let a : some p ≡ ring_in (get_or places k 0, here_node) = ap ring_place (sym g) ∙ done_here.found in
          let b : fault11 file ≡ some p = ring_left ∙ ap (λ o. or_else o (first_some (map ring_in (drop (suc k) (placed_nodes file))))) (sym a) in
          subst (λ v. OrdersDone v before out (Err p)) (same_item (sym ns.is ∙ rd)) (record { found = sym b; written = ring_stays p (sym a); order = λ n. absurd (never p (sym n ∙ b)) })
        where
          never : (i : ℕ) → none ≡ some i → ⊥
          never i f = let z : ◌≡◌ {A = ℕ} 0 1 = cc in omega arith

      pub going_on : r ≡ Ok tt → Going before (k + 1) out
      going_on g =
          let a : none ≡ ring_in (get_or places k 0, here_node) = ap ring_place (sym g) ∙ done_here.found in
          let u : unplaced here_equations ≡ none = some_none (λ i. place_at (placed_equations (get_or places k 0) here_node) i) (unplaced here_equations) (sym a) in
          let w : out ≡ sets orders (k * 80) (order here_equations) = out_at none u in
          record {
            inside = omega arith;
            rest = rw (add-one k) (rest_at none u ∙ ap (orders_written (suc k) (drop (suc k) file.nodes)) (sym w));
            left = rw add-one (ring_left ∙ ap (λ o. or_else o (first_some (map ring_in (drop (suc k) (placed_nodes file))))) (sym a));
            done = λ i u j v.
                by_cases (dec_le k i) (λ x.
                let ki : i ≡ k = omega arith in
                subst (λ n. (j : ℕ) → j < length (get_or file.nodes n no_node).equations → get_or out (n * 80 + j) 0 ≡ get_or (order (get_or file.nodes n no_node).equations) j 0) (sym ki) (done_here.order (sym a)) j v)
                (λ x. ap (λ (l : List ℕ). get_or l (i * 80 + j) 0) w ∙ (sets_before (order here_equations) orders (k * 80) (i * 80 + j) (omega (arith, few_here i (omega arith))) ∙ go.done i (omega arith) j v));
          }

    none_left : length places ≤ k → orders_written k (drop k file.nodes) orders ≡ orders
    unfolding orders_written
    none_left h = ap (λ ps. orders_written k ps orders) (drop_of_length-le file.nodes {i = k} (omega (arith, as_many)))

    pub going_done : length places ≤ k → (f : File) (end : ℕ) → read_file s relay_loader ≡ got f end → OrdersDone f before orders (Ok tt)
    going_done h f end rd =
        let z : fault11 file ≡ none = go.left ∙ ap (λ ps. first_some (map ring_in ps)) (drop_of_length-le (placed_nodes file) {i = k} (omega (arith, as_many, long_nodes))) in
        subst (λ v. OrdersDone v before orders (Ok tt)) (same_item (sym ns.is ∙ rd)) (record { found = sym z; written = sym (go.rest ∙ none_left h); order = λ n k g. go.done k (omega (arith, as_many)) })
