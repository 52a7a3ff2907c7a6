-- Laws of a node's equations: where the records of each start, and what its plan tells.
use Prim.Native.Nat.{ℕ, suc, ◌+◌, ◌*◌, ◌<◌, ◌≤◌}
use mathlib.Core.Bool.{Bool, true, false, ◌&&◌, cond}
use mathlib.Core.List.{List, [], map}
use mathlib.Core.Logic.{by_cases}
use mathlib.Core.Path.{◌≡◌, refl, sym, ap, ◌∙◌}
use native.Mathlib.Decide.{dec_lt}
use native.Mathlib.Omega.{arith}
use borrow.Author.Tests.{lt-ltb, le-ltb, ne_eqb}
use lib.Dec.{ltb, eqb}
use lib.ListN.{get_or, get_or-map}
use lib.Seq.{get_or-drop, take_all}
use Rattle.ol_spec.specs.Lists.{concat}
use Rattle.ol_spec.specs.Places.{placed_nodes, placed_equations}
use Rattle.ol_spec.specs.Eval.{callees, sites_size}
use Rattle.ol_spec.specs.Step.{equation_sites, no_equation}
use Rattle.ol_tables.specs.At.{file_at, node_in}
use Rattle.ol_tables.specs.Table.{tab_of, rows_of}
use Rattle.ol_tables.proofs.TableLaws.{rows_get}
use Rattle.ol_tables.specs.Tables.{place_of, row_at, two_at, plans_from, plans_of, plan_in}
use Rattle.ol_frame.specs.Walk.{nodes_in, sizes_in}
use Rattle.ol_frame.specs.Equations.{count_in, place_in, equation_in, offset_in, records_in, plan_at, EquationIs, is_fold, arrays_count, arrays_start}
use Rattle.ol_tables.specs.Heads.{parts_at, next_at}
use Rattle.ol_tables.specs.Walks.{skip_at}
use Rattle.ol_frame.specs.Nodes.{Running}
use Rattle.ol_frame.specs.Plans.{globals_in}
use Rattle.ol_frame.proofs.Running.{offset_next, offset_total}

-- ---- the bytes of the records of the first equations

module _ (file : List ℕ) (k : ℕ) where
  pub offset_suc : (i : ℕ) → i < count_in file k → offset_in file k (suc i) ≡ offset_in file k i + sites_size (sizes_in file) (callees (equation_in file k i).rhs)
  offset_suc i h = offset_next (globals_in file []) (node_in file k).equations i h

  pub offset_upto : (i : ℕ) → offset_in file k i ≤ records_in file k
  offset_upto i = offset_total (globals_in file []) (node_in file k).equations i

  offset_all : (i : ℕ) → count_in file k ≤ i → offset_in file k i ≡ records_in file k
  offset_all i h = ap (λ qs. sites_size (sizes_in file) (concat (map equation_sites qs))) (take_all i (node_in file k).equations h)

-- a number of the rows has three bytes
pub row_below : (t : List ℕ) → ((i : ℕ) → get_or t i 0 < 256) → (k j : ℕ) → k < 32 → j < 8 → row_at (rows_of t) k j < 16777216
row_below t b k j h g =
    let i = k * 8 + j in
    omega (arith, rows_get t i (omega arith), b (3 * i), b (3 * i + 1), b (3 * i + 2))

-- ---- what its plan tells

module _ (t : List ℕ) {file consts : List ℕ} {k : ℕ} (r : Running file (tab_of t) (rows_of t) consts) (b : k < nodes_in file) where
  -- a number of the plan
  two_is : (x : ℕ) → two_at t (plan_at t k + x) ≡ two_at (plans_of (tab_of t)) (plan_in (file_at file) k + x)
  two_is x =
      let w = r.program.sized.table.rows_of k b in
      let y = plan_in (file_at file) k + x in
      let e : plan_at t k + x ≡ 1394 + (plans_from (tab_of t) + y) = omega (arith, w.place, w.variables) in
      let at : (j : ℕ) → get_or t (1394 + (plans_from (tab_of t) + j)) 0 ≡ get_or (plans_of (tab_of t)) j 0 = λ j. sym (get_or-drop (plans_from (tab_of t)) (tab_of t) j 0 ∙ get_or-drop 1394 t (plans_from (tab_of t) + j) 0) in
      let f : plan_at t k + x + 1 ≡ 1394 + (plans_from (tab_of t) + (y + 1)) = omega (arith, e) in
      λ j. (ap (λ n. get_or t n 0) e ∙ at y) j * 256 + (ap (λ n. get_or t n 0) f ∙ at (y + 1)) j

  place_told : (i : ℕ) → i < count_in file k → two_at t (plan_at t k + 2 * i) ≡ place_in file k i
  place_told i h =
      two_is (2 * i) ∙ (r.program.table.plans k b).places i h
      ∙ get_or-map (λ (q : ℕ × _). q.0) (placed_equations (place_of (placed_nodes (file_at file)) k) (node_in file k)) i (0, no_equation)

  offset_told : (total n i : ℕ) → total ≡ records_in file k → total ≤ 32768 → n ≡ count_in file k → cond (ltb i n) (two_at t (plan_at t k + 2 * n + 2 * i)) total ≡ offset_in file k i
  offset_told total n i e small m =
      by_cases (dec_lt i n)
      (λ l. ap (λ c. cond c (two_at t (plan_at t k + 2 * n + 2 * i)) total) (lt-ltb i n l) ∙ inside l)
      (λ g. ap (λ c. cond c (two_at t (plan_at t k + 2 * n + 2 * i)) total) (le-ltb i n (omega arith)) ∙ e ∙ sym (offset_all file k i (omega (arith, m))))
    where
      inside : i < n → two_at t (plan_at t k + 2 * n + 2 * i) ≡ offset_in file k i
      inside l =
          let c = count_in file k in
          let a : plan_at t k + 2 * n + 2 * i ≡ plan_at t k + (2 * c + 2 * i) = omega (arith, m) in
          let d : plan_in (file_at file) k + (2 * c + 2 * i) ≡ plan_in (file_at file) k + 2 * c + 2 * i = omega arith in
          ap (two_at t) a ∙ two_is (2 * c + 2 * i) ∙ ap (two_at (plans_of (tab_of t))) d ∙ (r.program.table.plans k b).offsets (omega (arith, e)) i (omega (arith, m))

  pub equation_is : {plan total n i at a z : ℕ} → plan ≡ plan_at t k → total ≡ records_in file k → total ≤ 32768 → n ≡ count_in file k → i < count_in file k
      → at ≡ two_at t (plan + 2 * i) → a ≡ cond (ltb i n) (two_at t (plan + 2 * n + 2 * i)) total → z ≡ cond (ltb (i + 1) n) (two_at t (plan + 2 * n + 2 * (i + 1))) total → EquationIs file k i at a z
  equation_is {plan} {total} {n} {i} p e small m h at_is a_is z-is =
      record {
        place = at_is ∙ ap (λ q. two_at t (q + 2 * i)) p ∙ place_told i h;
        starts = a_is ∙ ap (λ q. cond (ltb i n) (two_at t (q + 2 * n + 2 * i)) total) p ∙ offset_told total n i e small m;
        ends = let s : i + 1 ≡ suc i = omega arith in z-is ∙ ap (λ q. cond (ltb (i + 1) n) (two_at t (q + 2 * n + 2 * (i + 1))) total) p ∙ offset_told total n (i + 1) e small m ∙ ap (offset_in file k) s;
      }

-- ---- the parts that are evaluated one after the other

module _ (s : List ℕ) (at : ℕ) where
  parts_by : (b : Bool) → is_fold s at ≡ b → (arrays_count s at ≡ cond b (get_or s (at + 3) 0) (parts_at s at)) × (arrays_start s at ≡ cond b (skip_at s 1 (next_at s at)) (next_at s at))
  parts_by b e = (ap (λ t. cond t (get_or s (at + 3) 0) (parts_at s at)) e, ap (λ t. cond t (skip_at s 1 (next_at s at)) (next_at s at)) e)

  -- a fold's are its arrays
  pub fold_arrays : get_or s at 0 ≡ 15 → get_or s (at + 1) 0 ≡ 1 → (arrays_count s at ≡ get_or s (at + 3) 0) × (arrays_start s at ≡ skip_at s 1 (next_at s at))
  fold_arrays e f = parts_by true (λ i. eqb (e i) 15 && eqb (f i) 1)

  -- a map's are all of them, as another form's
  pub map_arrays : ¬ (get_or s (at + 1) 0 ≡ 1) → (arrays_count s at ≡ parts_at s at) × (arrays_start s at ≡ next_at s at)
  map_arrays h = parts_by false (ap (λ b. eqb (get_or s at 0) 15 && b) (ne_eqb (get_or s (at + 1) 0) 1 h) ∙ no_and (eqb (get_or s at 0) 15))
    where
      no_and : (a : Bool) → a && false ≡ false
      no_and true = refl
      no_and false = refl

  pub other_arrays : ¬ (get_or s at 0 ≡ 15) → (arrays_count s at ≡ parts_at s at) × (arrays_start s at ≡ next_at s at)
  other_arrays h = parts_by false (ap (λ b. b && eqb (get_or s (at + 1) 0) 1) (ne_eqb (get_or s at 0) 15 h))
