-- The declarations of a node, of all nodes and of a whole file, sorted; and the highest name.
use Prim.Native.Nat.{ℕ, max, ◌+◌, ◌≤◌, ◌<◌}
use mathlib.Core.Bool.{Bool, false}
use mathlib.Core.List.{List, [], ◌∷◌, ◌++◌, map, map-append}
use mathlib.Core.Path.{◌≡◌, refl, sym, ap, subst, ◌∙◌}
use native.Mathlib.Omega.{arith}
use native.Mathlib.Numerals.{add-one}
use lib.ListN.{length, get_or, drop, drop_of_length-le}
use lib.Seq.{drop-cons}
use Rattle.std.specs.Prelude.{None}
use Rattle.ol_spec.specs.Lists.{concat, sum, or_else}
use Rattle.ol_spec.specs.Syntax.{Variable, Node, File, no_node}
use Rattle.ol_spec.specs.Places.{placed, placed_enums, placed_constants, placed_nodes, constant_size, variable_size, node_size, nodes_start, constants_start, outputs_start, locals_start}
use Rattle.ol_spec.specs.Admission.{Sort, variable, constant, Declared, numbered, declared_at, declared_as, placed_variable_name, placed_constant_name, enum_declares, node_declares, declared}
use Rattle.ol_spec.proofs.Admitted.{length_placed}
use Rattle.ol_tables.specs.At.{file_at}
use Rattle.ol_tables.specs.Stands.{Variables, FileStands}
use Rattle.ol_tables.specs.Tables.{Each, node_of, row_at}
use Rattle.ol_tables.specs.Heads.{Byte}
use Rattle.ol_check.specs.Founds.{place_of}
use Rattle.ol_check.specs.Spans.{end_from, behind_variable, variables_from}
use Rattle.ol_check.specs.NodesJudged.{place_in, NodeReady, RowsReady}
use Rattle.ol_check.specs.Clashing.{clash_in, over_all, Walks, arrays_from, VariablesSorted, enums_from, ConstantsAt, DeclaredReady, FileSorted}
use Rattle.ol_check.specs.declared.rows.Sections.{Sections}
use Rattle.ol_check.specs.declared.clash.Sorting.{Sorting}
use Rattle.ol_check.specs.declared.clash.Sorter.{Sorter}
use Rattle.ol_tables.proofs.Forms.{each_map}
use Rattle.ol_check.proofs.SpanLaws.{variables_listed, variables_end}
use Rattle.ol_check.proofs.NodeLaws.{ready_row, ready_node, nodes_on}
use Rattle.ol_check.proofs.ClashLaws.{clash_is}
use Rattle.ol_check.proofs.ClashLoops.{Left, left_all, left_on, left_none, sorts_two, of_variable, enums_listed, arrays_listed}
use Rattle.ol_check.specs.Arrays.{or_all, variable_array, constant_array, node_arrays, declared_arrays}

-- ---- a node

pub as_append : (u : Sort) (a b : List (ℕ × Variable)) → declared_as u (map placed_variable_name (a ++ b)) ≡ declared_as u (map placed_variable_name a) ++ declared_as u (map placed_variable_name b)
as_append u [] b = refl
as_append u (p ∷ a) b = ap (λ l. declared_at u (placed_variable_name p) ∷ l) (as_append u a b)

-- the variables of a section that stands in the file
section_walks : {s : List ℕ} (k enums : ℕ) {count at p r : ℕ} {v v' : Sorter} (vs : List Variable) → VariablesSorted s (18 + k) count p v v' r → count ≡ length vs → p ≡ at → Variables s enums at vs
    → Walks (declared_as (variable k) (map placed_variable_name (placed variable_size at vs))) (map variable_array vs) v v' × (r ≡ at + sum (map variable_size vs))
section_walks {s} k enums {count} {at} {p} {r} {v} {v'} vs w ec ep there = (
  subst (λ bs. Walks (declared_as (variable k) (map placed_variable_name (placed variable_size at vs))) bs v v') (ap (λ n. arrays_from s n p) ec ∙ ap (arrays_from s (length vs)) ep ∙ arrays_listed enums vs there)
      (subst (λ ds. Walks ds (arrays_from s count p) v v')
      (ap (λ u. declared_as u (variables_from s count p)) (of_variable k) ∙ ap (λ n. declared_as (variable k) (variables_from s n p)) ec ∙ ap (λ q. declared_as (variable k) (variables_from s (length vs) q)) ep ∙ ap (declared_as (variable k)) (variables_listed enums vs there)) w.walks),
  w.ends ∙ ap (λ n. end_from (behind_variable s) n p) ec ∙ ap (end_from (behind_variable s) (length vs)) ep ∙ variables_end enums vs there,
)

module _ {s rows : List ℕ} {nodes k : ℕ} (rd : NodeReady s rows nodes k) (st : FileStands s (file_at s)) {at : ℕ} (ea : at ≡ row_at rows k 7) where
  pub place_is : at ≡ place_in (file_at s) k
  place_is = ea ∙ (ready_row rd st).place

  pub place_in_lem : at < length s
  place_in_lem = omega (arith, place_is, (ready_node rd st).inside)

  pub node_walks : {is os ls o l r : ℕ} {v v₁ v₂ v₃ : Sorter} → Byte s (at + 1) is → VariablesSorted s (18 + k) is (at + 2) v v₁ o → Byte s o os → VariablesSorted s (18 + k) os (o + 1) v₁ v₂ l
      → Byte s l ls → VariablesSorted s (18 + k) ls (l + 1) v₂ v₃ r → Walks (node_declares (k, (place_in (file_at s) k, node_of (file_at s) k))) (node_arrays (node_of (file_at s) k)) v v₃
  node_walks {is} {os} {ls} {o} {l} {r} {v} {v₁} {v₂} {v₃} bi r₁ bo r₂ bl r₃ =
      let n = node_of (file_at s) k in
      let p = place_in (file_at s) k in
      let ns = ready_node rd st in
      let m = length (file_at s).enums in
      let u = variable k in
      let w₁ = section_walks k m {at = p + 2} n.inputs r₁ (bi.is ∙ ap (λ q. get_or s (q + 1) 0) place_is ∙ ns.input_count) (ap (λ q. q + 2) place_is) ns.inputs in
      let eo : o ≡ outputs_start p n = w₁.1 ∙ omega arith in
      let w₂ = section_walks k m {at = outputs_start p n + 1} n.outputs r₂ (bo.is ∙ ap (λ q. get_or s q 0) eo ∙ ns.output_count) (ap (λ q. q + 1) eo) ns.outputs in
      let el : l ≡ locals_start p n = w₂.1 ∙ omega arith in
      let w₃ = section_walks k m {at = locals_start p n + 1} n.locals r₃ (bl.is ∙ ap (λ q. get_or s q 0) el ∙ ns.local_count) (ap (λ q. q + 1) el) ns.locals in
      let all = sorts_two (sorts_two w₁.0 w₂.0) w₃.0 in
      let a = placed variable_size (p + 2) n.inputs in
      let b = placed variable_size (outputs_start p n + 1) n.outputs in
      let c = placed variable_size (locals_start p n + 1) n.locals in
      let same : declared_as u (map placed_variable_name a) ++ declared_as u (map placed_variable_name b) ++ declared_as u (map placed_variable_name c) ≡ node_declares (k, (p, n)) =
      ap (λ x. x ++ declared_as u (map placed_variable_name c)) (sym (as_append u a b)) ∙ sym (as_append u (a ++ b) c) in
      let types : map variable_array n.inputs ++ map variable_array n.outputs ++ map variable_array n.locals ≡ node_arrays n =
      ap (λ x. x ++ map variable_array n.locals) (sym (map-append variable_array n.inputs n.outputs)) ∙ sym (map-append variable_array (n.inputs ++ n.outputs) n.locals) in
      subst (λ bs. Walks (node_declares (k, (p, n))) bs v v₃) types (subst (λ ds. Walks ds (map variable_array n.inputs ++ map variable_array n.outputs ++ map variable_array n.locals) v v₃) same all)

-- ---- all nodes

-- the variables of the nodes from number k on
abbrev pub nodes_from : File → ℕ → List Declared
nodes_from f k = concat (map node_declares (numbered k (drop k (placed_nodes f))))

-- and whether these are arrays
abbrev pub types_on : File → ℕ → List Bool
types_on f k = concat (map node_arrays (drop k f.nodes))

pub record NodesGoing (f : File) (v₀ v : Sorter) (k : ℕ) : Type 0 where
  pub left : Left (nodes_from f k) (types_on f k) v (nodes_from f 0) (types_on f 0) v₀

module _ {f : File} {v₀ : Sorter} where
  pub nodes_start_lem : NodesGoing f v₀ v₀ 0
  nodes_start_lem = record { left = left_all }

  module _ {v : Sorter} {k : ℕ} (w : NodesGoing f v₀ v k) where
    pub nodes_turn : k < length f.nodes → {v' : Sorter} → Walks (node_declares (k, (place_in f k, node_of f k))) (node_arrays (node_of f k)) v v' → NodesGoing f v₀ v' (k + 1)
    nodes_turn lt {v'} one =
        let x : ℕ × Node = (place_in f k, node_of f k) in
        let rest = drop (k + 1) (placed_nodes f) in
        let counted : numbered k (drop k (placed_nodes f)) ≡ (k, x) ∷ numbered (k + 1) rest = ap (numbered k) (nodes_on f k lt) ∙ ap (λ n. (k, x) ∷ numbered n rest) (sym (add-one k)) in
        record {
          left = left_on (node_declares (k, x)) (node_arrays (node_of f k))
              (subst (λ l. Left (node_declares (k, x) ++ concat (map node_declares (numbered (k + 1) rest))) (concat (map node_arrays l)) v (nodes_from f 0) (types_on f 0) v₀) (drop-cons f.nodes k no_node lt ∙ ap (λ n. node_of f k ∷ drop n f.nodes) (sym (add-one k)))
              (subst (λ l. Left (concat (map node_declares l)) (types_on f k) v (nodes_from f 0) (types_on f 0) v₀) counted w.left)) one;
        }

    pub nodes_done : length f.nodes ≤ k → Walks (concat (map node_declares (numbered 0 (placed_nodes f)))) (concat (map node_arrays f.nodes)) v₀ v
    nodes_done over =
        let empty : drop k (placed_nodes f) ≡ [] = drop_of_length-le (placed_nodes f) {i = k} (omega (arith, length_placed node_size (nodes_start f) f.nodes)) in
        left_none (subst (λ l. Left [] (concat (map node_arrays l)) v (nodes_from f 0) (types_on f 0) v₀) (drop_of_length-le f.nodes {i = k} over)
        (subst (λ l. Left (concat (map node_declares (numbered k l))) (types_on f k) v (nodes_from f 0) (types_on f 0) v₀) empty w.left))

-- ---- the file

-- no clash, no name and no array
abbrev no_marks : Sorting
no_marks = record { found = None; highest = 0; arrays = false }

pub marks_are : {m : Sorting} → m.found ≡ None → m.highest ≡ 0 → m.arrays ≡ false → m ≡ no_marks
marks_are {m} a b c =
    ap (λ o. record { found = o; highest = m.highest; arrays = m.arrays }) a ∙ ap (λ n. record { found = None; highest = n; arrays = m.arrays }) b ∙ ap (λ q. record { found = None; highest = 0; arrays = q }) c

module _ {s rows : List ℕ} {c : Sections} (rd : DeclaredReady s rows c) (st : FileStands s (file_at s)) where
  pub nodes_ready : {n : ℕ} → Byte s c.nodes n → RowsReady s rows n
  nodes_ready b =
      let place : c.nodes ≡ constants_start (file_at s) + sum (map constant_size (file_at s).constants) = omega (arith, rd.sections.nodes) in
      let many = b.is ∙ ap (λ p. get_or s p 0) place ∙ st.node_count in
      record { reads = rd.reads; row = rd.row; many = many; few = omega (arith, st.few_nodes) }

  pub enums_few : {n : ℕ} → Byte s 1 n → n ≤ 16
  enums_few b = omega (arith, b.is ∙ st.enum_count, st.few_enums)

  pub constants_at : {n : ℕ} → Byte s c.constants n → ConstantsAt s n (c.constants + 1)
  constants_at b = record { reads = rd.reads; many = b.is ∙ ap (λ p. get_or s p 0) (omega (arith, rd.sections.constants)) ∙ st.constant_count; place = rd.sections.constants }

  pub file_sorted : {ec : ℕ} {v v₁ v₂ v₃ : Sorter} {sorts : List ℕ} → Byte s 1 ec → Walks (enums_from s 0 ec 2) [] v v₁
      → Walks (declared_as constant (map placed_constant_name (placed_constants (file_at s)))) (map constant_array (file_at s).constants) v₁ v₂
      → Walks (concat (map node_declares (numbered 0 (placed_nodes (file_at s))))) (concat (map node_arrays (file_at s).nodes)) v₂ v₃ → v.marks ≡ no_marks → sorts ≡ v₃.sorts.now → FileSorted s v.sorts.now sorts v₃.marks
  file_sorted {ec} {v} {v₁} {v₂} {v₃} eb enums constants nodes em es =
      let f = file_at s in
      let we : Walks (concat (map enum_declares (numbered 0 (placed_enums f)))) [] v v₁ =
      subst (λ ds. Walks ds [] v v₁) (ap (λ n. enums_from s 0 n 2) (eb.is ∙ st.enum_count) ∙ enums_listed 0 2 f.enums (omega (arith, st.few_enums)) st.enums) enums in
      let all : Walks (declared f) (declared_arrays f) v v₃ = sorts_two (sorts_two we constants) nodes in
      let first : place_of v₃.marks.found ≡ clash_in v.sorts.now (declared f) = all.finds ∙ ap (λ m. or_else (place_of m.found) (clash_in v.sorts.now (declared f))) em in
      record {
        enters = es ∙ all.enters;
        clash = first;
        finds = λ blank. first ∙ clash_is v.sorts.now st blank.zero blank.below;
        highest = all.above ∙ ap (λ m. over_all m.highest (declared f)) em;
        arrays = all.arrays ∙ ap (λ m. or_all m.arrays (declared_arrays f)) em;
      }

-- ---- the highest name

over_most : (most : ℕ) (ds : List Declared) → most ≤ over_all most ds
unfolding over_all
over_most most [] = omega arith
over_most most (d ∷ ds) = omega (arith, over_most (max most d.name) ds)

all_over : (most : ℕ) (ds : List Declared) → Each (λ d. d.name ≤ over_all most ds) ds
unfolding over_all
all_over most [] = tt
all_over most (d ∷ ds) = (omega (arith, over_most (max most d.name) ds), all_over (max most d.name) ds)

-- every declared name is below a number that is above the highest
pub names_below : (n : ℕ) {s sorts sorts' : List ℕ} {r : Sorting} → FileSorted s sorts sorts' r → r.highest < n → Each (λ d. d.name < n) (declared (file_at s))
names_below n {s} w h = each_map (λ d. d.name ≤ over_all 0 (declared (file_at s))) (λ d. d.name < n) (λ d l. omega (arith, w.highest)) (declared (file_at s)) (all_over 0 (declared (file_at s)))
