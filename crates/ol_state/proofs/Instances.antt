-- A node's record: where its equations stand, what the tables say of it, and the walk over its call sites with the bytes of their records.
use Prim.Native.Nat.{ℕ, zero, suc, ◌+◌, ◌-◌, ◌*◌, ◌<◌, ◌≤◌}
use mathlib.Core.List.Memᴰ.{head as here}
use mathlib.Core.List.Memᴰ.{tail as there}
use mathlib.Core.List.{List, [], ◌∷◌, map}
use mathlib.Core.Path.{◌≡◌, refl, sym, ap, ap₂, subst, ◌∙◌}
use native.Mathlib.Omega.{arith}
use native.Mathlib.Nat.{zero-add}
use lib.ListN.{length, take, drop, get_or, length-drop}
use lib.Seq.{length-take-le}
use Rattle.ol_theory.specs.Member.{◌∈◌}
use Rattle.ol_spec.specs.Lists.{sum}
use Rattle.ol_spec.specs.Syntax.{NodeKind, Function, Operator, Imported, Node, File, variables, cell_types, no_node, last_of, main}
use Rattle.ol_spec.specs.Cell.{cells}
use Rattle.ol_spec.specs.Types.{defaults}
use Rattle.ol_spec.specs.Places.{placed, node_size, constant_size, constants_start, placed_nodes, equations_start}
use Rattle.ol_spec.specs.Encode.{encode, kind_code, node_bytes}
use Rattle.ol_spec.specs.Limits.{base}
use Rattle.ol_spec.specs.Within.{node_fits}
use Rattle.ol_spec.specs.Eval.{sites_size}
use Rattle.ol_spec.specs.Step.{sites, cell_count, own_size, sizes_at, site_size_by}
use Rattle.ol_spec.proofs.ReadFacts.{All}
use Rattle.ol_spec.proofs.Segments.{sites_cons}
use Rattle.ol_spec.proofs.Calls.{site_size_lem}
use Rattle.ol_spec.proofs.RoundTrip.Parts.{Here, here_back}
use Rattle.ol_spec.proofs.RoundTrip.Placed.{NodeHere, node_here, file_here}
use Rattle.ol_tables.specs.Tables.{RowOf, code_at, enum_at, length_at, count_at, row_at, node_of, site_bytes, place_of, size_cap}
use Rattle.ol_tables.proofs.HeadLaws.{here_first}
use Rattle.ol_state.specs.Known.{Counted, Known, Sited}
use Rattle.ol_state.specs.Ahead.{ahead}
use Rattle.ol_state.specs.Defaults.{widths_at, cells_at, own_count, own_cells}
use Rattle.ol_state.proofs.Fits.{fits, NodeFits, node_fits_lem, all_nth}
use Rattle.ol_state.proofs.Told.{Stored, cells_told, count_told}
use Rattle.ol_state.proofs.Walk.{ahead_equations, equations_stand}

-- ---- the node of a number

nth_placed : (Q : ℕ → Node → Type 0) (at : ℕ) (ns : List Node) (k : ℕ) → k < length ns → All (λ p. Q p.0 p.1) (placed node_size at ns) → Q (place_of (placed node_size at ns) k) (get_or ns k no_node)
nth_placed Q at [] k h a = absurd (omega arith)
nth_placed Q at (n ∷ ns) zero h a = a.0
nth_placed Q at (n ∷ ns) (suc k) h a = nth_placed Q (at + node_size n) ns k (omega arith) a.1

-- the bytes of call sites' records
abbrev pub sizes_of : File → List ℕ
sizes_of f = sizes_at (length f.nodes) f.nodes

module _ {f : File} {s tab rows : List ℕ} (known : Known f s tab rows) {k : ℕ} (below : k < length f.nodes) where
  pub row_of : RowOf f rows k
  row_of = known.rowed.rows_of k below

  pub fits_here : NodeFits (length f.enums) (node_of f k)
  fits_here = node_fits_lem (all_nth (node_fits base (length f.enums)) f.nodes no_node k (fits f known.within).node below)

  node_at_lem : NodeHere s (place_of (placed_nodes f) k) (node_of f k)
  node_at_lem =
      nth_placed (λ at n. NodeHere s at n) _ f.nodes k below
      (subst (λ l. All (λ p. NodeHere l p.0 p.1) (placed_nodes f)) known.encoded (each (encode f) (placed_nodes f) (file_here f).nodes.1))
    where
      each : (s : List ℕ) (ps : List (ℕ × Node)) → All (λ p. Here s p.0 (node_bytes p.1)) ps → All (λ p. NodeHere s p.0 p.1) ps
      each s [] a = tt
      each s (p ∷ ps) a = (node_here p.0 p.1 a.0, each s ps a.1)

  pub few_nodes_lem : k < 32
  few_nodes_lem = omega (arith, (fits f known.within).nodes)

  -- the walk over its call sites starts
  pub sites_start : sites (node_of f k) ≡ ahead s (row_at rows k 1) (row_at rows k 5) 0
  sites_start =
      let n = node_of f k in
      let at = equations_start (place_of (placed_nodes f) k) n in
      sym (equations_stand s (length f.enums) (at + 1) n.equations (here_back (length n.equations ∷ []) _ node_at_lem.equations) fits_here.equations)
      ∙ sym (ahead_equations s (at + 1) (length n.equations))
      ∙ ap₂ (λ p m. ahead s p m 0) (sym row_of.equations) (sym row_of.count)

  -- the types of its variables stand in the table
  stored : Stored tab k (variables (node_of f k)) 0
  stored =
      let t = known.tabled.tabs_of k below in
      record {
        codes = λ j h. ap (code_at tab k) (zero-add j) ∙ t.codes j h;
        numbers = λ j h. ap (enum_at tab k) (zero-add j) ∙ t.enums j h;
        lengths = λ j h. ap (length_at tab k) (zero-add j) ∙ t.lengths j h;
      }

  -- its default cells
  pub default_cells_lem : own_cells tab rows k ≡ cells (defaults f.enums (cell_types (variables (node_of f k))))
  default_cells_lem =
      let fs = fits f known.within in
      ap (cells_at tab rows k 0) row_of.variables ∙ cells_told f.enums rows known.rowed.firsts fs.variants tab k (variables (node_of f k)) 0 fits_here.vars stored

  -- how many cells it has: by the lengths of its variables, and by its number in the table
  pub own_count_lem : own_count tab rows k ≡ cell_count (node_of f k)
  own_count_lem =
      let fs = fits f known.within in
      ap (widths_at tab k 0) row_of.variables ∙ count_told f.enums rows known.rowed.firsts fs.variants tab k (variables (node_of f k)) 0 fits_here.vars stored

  pub cells_counted : count_at tab k 3 ≡ own_count tab rows k
  cells_counted = (known.tabled.tabs_of k below).cells ∙ sym own_count_lem

  pub own_size_lem : 1 + 9 * own_count tab rows k ≡ own_size (node_of f k)
  own_size_lem = ap (λ n. 1 + 9 * n) own_count_lem

  -- an Operator, or not
  pub is_operator_lem : row_at rows k 0 ≡ 1 → (node_of f k).kind ≡ Operator
  is_operator_lem e = go (node_of f k).kind (sym row_of.kind ∙ e)
    where
      go : (t : NodeKind) → kind_code t ≡ 1 → t ≡ Operator
      go Function q = absurd (omega arith)
      go Operator q = refl
      go Imported q = absurd (omega arith)

  pub no_operator : (row_at rows k 0 ≡ 1 → ⊥) → (node_of f k).kind ≡ Operator → ⊥
  no_operator no_one e = no_one (row_of.kind ∙ ap kind_code e)

  -- the bytes of its record
  pub operator_size : (node_of f k).kind ≡ Operator → site_bytes f k ≡ own_size (node_of f k) + sites_size (sizes_of f) (sites (node_of f k))
  operator_size e = site_size_lem f.nodes known.lower k below ∙ ap (λ t. site_size_by t (sizes_of f) (node_of f k)) e

  pub own_room : (node_of f k).kind ≡ Operator → 1 + 9 * own_count tab rows k ≤ site_bytes f k
  own_room e = omega (arith, own_size_lem, operator_size e)

  pub no_size_lem : ((node_of f k).kind ≡ Operator → ⊥) → site_bytes f k ≡ 0
  no_size_lem other = site_size_lem f.nodes known.lower k below ∙ go (node_of f k).kind other
    where
      go : (t : NodeKind) → (t ≡ Operator → ⊥) → site_size_by t (sizes_of f) (node_of f k) ≡ 0
      go Function q = refl
      go Operator q = absurd (q refl)
      go Imported q = refl

  pub size_told : site_bytes f k ≤ size_cap → row_at rows k 6 ≡ site_bytes f k
  size_told h = row_of.size ∙ omega arith

-- ---- the main node

pub counted : {f : File} {s tab rows : List ℕ} → Known f s tab rows → Counted f s rows
counted known = record { encoded = known.encoded; within = known.within; rowed = known.rowed }

pub record Count (f : File) (s rows : List ℕ) : Type 0 where
  pub after : 1 ≤ row_at rows 0 7
  pub is : get_or s (row_at rows 0 7 - 1) 0 ≡ length f.nodes
  pub some : 1 ≤ length f.nodes

-- the nodes' count stands before the first node
pub nodes_count : {f : File} {s rows : List ℕ} → Counted f s rows → Count f s rows
nodes_count {f} {s} {rows} c =
    let some = (fits f c.within).some in
    let at = constants_start f + sum (map constant_size f.constants) in
    let p : row_at rows 0 7 ≡ at + 1 = (c.rowed.rows_of 0 (omega arith)).place ∙ first f.nodes (at + 1) some in
    let q : at ≡ row_at rows 0 7 - 1 = omega arith in
    let h = subst (λ l. Here l at (length f.nodes ∷ [])) c.encoded (file_here f).nodes.0 in
    record { after = omega arith; is = ap (λ n. get_or s n 0) (sym q) ∙ here_first (length f.nodes) [] h; some = some }
  where
    first : (ns : List Node) (at : ℕ) → 1 ≤ length ns → place_of (placed node_size at ns) 0 ≡ at
    first [] at h = absurd (omega arith)
    first (n ∷ ns) at h = refl

-- the main node is the last one
pub main_is : (f : File) (k : ℕ) → k + 1 ≡ length f.nodes → main f ≡ node_of f k
main_is f k e = go f.nodes k e
  where
    go : (ns : List Node) (k : ℕ) → k + 1 ≡ length ns → last_of ns ≡ get_or ns k no_node
    go [] k e = absurd (omega arith)
    go (n ∷ []) zero e = refl
    go (n ∷ []) (suc k) e = absurd (omega arith)
    go (n ∷ m ∷ ns) zero e = absurd (omega arith)
    go (n ∷ m ∷ ns) (suc k) e = go (m ∷ ns) k (omega arith)

-- ---- the walk over the records of its call sites

-- the call sites that are left, of these nodes, are of nodes of lower numbers, and their records fill a list with so many bytes from `used` on
pub record Rest (f : File) (k total used : ℕ) (cs : List ℕ) : Type 0 where
  pub lower : (c : ℕ) → c ∈ cs → c < k
  pub room : used + sites_size (sizes_of f) cs ≡ total

-- the next of them, of node c
pub record Turn (f : File) (rows : List ℕ) (k total used c : ℕ) (cs : List ℕ) : Type 0 where
  pub lower : c < k
  pub size : row_at rows c 6 ≡ site_bytes f c
  pub room : used + row_at rows c 6 ≤ total
  pub next : Rest f k total (used + row_at rows c 6) cs

module _ {f : File} {s tab rows : List ℕ} (known : Known f s tab rows) {k : ℕ} (below : k < length f.nodes) where
  pub rest_start : {total : ℕ} {cs : List ℕ} → (node_of f k).kind ≡ Operator → total ≡ site_bytes f k → cs ≡ ahead s (row_at rows k 1) (row_at rows k 5) 0 → Rest f k total (1 + 9 * own_count tab rows k) cs
  rest_start {total} {cs} o e a =
      let l : cs ≡ sites (node_of f k) = a ∙ sym (sites_start known below) in
      record {
        lower = λ c m. known.lower k c (subst (λ (ks : List ℕ). c ∈ ks) l m);
        room = ap (λ ks. 1 + 9 * own_count tab rows k + sites_size (sizes_of f) ks) l ∙ omega (arith, own_size_lem known below, operator_size known below o, e);
      }

  module _ {total used : ℕ} {all : List ℕ} (rest : Rest f k total used all) (small : total ≤ size_cap) {c : ℕ} {cs : List ℕ} (is : all ≡ c ∷ cs) where
    pub next_turn : Turn f rows k total used c cs
    next_turn =
        let low = rest.lower c (subst (λ (ks : List ℕ). c ∈ ks) (sym is) (here refl)) in
        let q : sites_size (sizes_of f) all ≡ site_bytes f c + sites_size (sizes_of f) cs = ap (sites_size (sizes_of f)) is ∙ sites_cons (sizes_of f) c cs in
        let size = size_told known {k = c} (omega arith) (omega (arith, rest.room)) in
        record {
          lower = low;
          size = size;
          room = omega (arith, rest.room);
          next = record { lower = λ d x. rest.lower d (subst (λ (ks : List ℕ). d ∈ ks) (sym is) (there x)); room = omega (arith, rest.room) };
        }

-- the part of a list that is the record of the next call site
module _ {f : File} {s tab rows : List ℕ} (known : Known f s tab rows) {k : ℕ} (below : k < length f.nodes) {total used c : ℕ} {cs : List ℕ} (t : Turn f rows k total used c cs) (small : total ≤ size_cap) {z : ℕ} (size : z ≡ row_at rows c 6) (l : List ℕ) (long : length l ≡ total) where
  pub part_room : used + z ≤ length l
  part_room = omega (arith, t.room)

  pub part_long : length (take (used + z - used) (drop used l)) ≡ z
  part_long = let m : used + z - used ≡ z = omega arith in rw m (length-take-le z (drop used l) (omega (arith, part_room, length-drop used l)))

  pub part_sited : Sited f s tab rows c (take (used + z - used) (drop used l))
  part_sited = record { known = known; below = omega (arith, t.lower); sized = part_long ∙ size ∙ t.size; small = omega (arith, part_long, t.room) }

-- none are left: all bytes are used
pub all_used : {f : File} {k total used : ℕ} {cs : List ℕ} → Rest f k total used cs → cs ≡ [] → used ≡ total
unfolding sites_size
all_used {f} rest e = let q = ap (sites_size (sizes_of f)) e in omega (arith, rest.room, q)
