-- The steps of judging a file.
use Prim.Native.Nat.{ℕ, zero, suc, ◌+◌, ◌-◌, ◌*◌, ◌/◌, ◌<◌, ◌≤◌, min}
use mathlib.Core.Bool.{Bool, true, false, ◌&&◌, cond}
use mathlib.Core.List.{List, [], ◌∷◌, map}
use mathlib.Core.Option.{Option, none, some}
use mathlib.Core.Path.{◌≡◌, refl, ap, sym, subst, ◌∙◌}
use mathlib.Core.Logic.{by_cases}
use native.Mathlib.Omega.{arith}
use native.Mathlib.Decide.{dec_lt}
use lib.Dec.{T, ltb, leb, eqb}
use borrow.Author.Tests.{lt-ltb, le-ltb}
use lib.ListN.{length, get_or, take, drop, length-append, length-drop}
use lib.Seq.{drop-drop, get_or-take}
use Rattle.ol_spec.specs.Limits.{base, relay_loader}
use Rattle.ol_spec.specs.Syntax.{Node, File, Constant, constant_slots, constant_cells}
use Rattle.ol_spec.specs.Cell.{cells, values_of}
use Rattle.ol_spec.specs.Lists.{maybe, concat}
use Rattle.ol_spec.specs.Places.{node_size, constants_start, nodes_start, placed_nodes, main_place}
use Rattle.ol_spec.specs.Encode.{encode}
use Rattle.ol_spec.specs.Within.{byte_fits, sections_fit, within}
use Rattle.ol_spec.proofs.Tests.{T_and}
use Rattle.ol_order.proofs.Nodes.{length_placed}
use Rattle.ol_spec.specs.Demand3.{Bytes}
use Rattle.ol_spec.proofs.RoundTrip.{encode_read}
use Rattle.ol_spec.specs.Admission as Adm
use Rattle.ol_tables.specs.At.{file_at, item_of, no_file}
use Rattle.ol_tables.specs.Stands.{FileReads, FileStands}
use Rattle.ol_tables.specs.Tables.{Rows, row_at, place_of, size_cap, node_of, two_at, plan_in, equation_place, PlanOf, Told, constant_of}
use Rattle.ol_tables.specs.Tables as Tables
use Rattle.ol_tables.proofs.Cells.{named_length}
use Rattle.ol_tables.proofs.Lending.{tail_of, put_tail, tail_all, drop_put, length_put}
use Rattle.ol_tables.proofs.HeadsFile.{node_at_lem}
use Rattle.ol_check.specs.RowsDone.{SectionsAre, Typed, CellsCounted}
use Rattle.ol_check.specs.declared.rows.Sections.{Sections}
use Rattle.ol_check.specs.NodesJudged.{RowsReady}
use Rattle.ol_check.specs.Sizes.{MainSized}
use Rattle.ol_check.specs.declared.Faults.{Faults}
use Rattle.ol_check.proofs.NamesBelow.{low_within}
use Rattle.ol_order.specs.Tables.{entries_for}
use Rattle.ol_order.specs.Orders.{Ring, ring_place, NodesStand, Planned, NodePlanned, OrdersDone}
use Rattle.ol_run.specs.Constants.{ConstantsAre, Holding}
use Rattle.ol_tables.specs.Table.{tab_of, half_of}
use Rattle.std.specs.Prelude.{Result, Ok, Err}
use Rattle.std.specs.Result.{result_err}
use Rattle.ol_check.specs.Founds as Founds
use Rattle.ol_ir.specs.Walks as Walks
use Rattle.ol_sim.specs.Judging.{Held, values_in, cells_in, ConstantsReady, Slots, CellsFit, ArraysReady, OrderReady, ShapesReady, plans_of}
use Rattle.ol_sim.proofs.Lows.{low_names}
use Rattle.ol_sim.proofs.Tables.{tab_whole}
use Rattle.ol_sim.proofs.Packing.{holding_same}
use Rattle.ol_sim.proofs.Begins.{fit_same}

-- the counts of constants and of nodes, read where the sections start
pub count_constants : {s : List ℕ} {c : Sections} {b : ℕ} → FileStands s (file_at s) → SectionsAre (file_at s) c → b ≡ get_or s c.constants 0 → b ≡ length (file_at s).constants
count_constants {s} st a e = e ∙ ap (λ i. get_or s i 0) (omega (arith, a.constants)) ∙ st.constant_count

pub count_nodes : {s : List ℕ} {c : Sections} {b : ℕ} → FileStands s (file_at s) → SectionsAre (file_at s) c → b ≡ get_or s c.nodes 0 → b ≡ length (file_at s).nodes
count_nodes {s} st a e = e ∙ ap (λ i. get_or s i 0) (omega (arith, a.nodes)) ∙ st.node_count

pub some_none : {n : ℕ} → some n ≡ none → ⊥
some_none e = let z : ◌≡◌ {A = ℕ} 1 0 = ap (λ o. maybe 0 (λ x. 1) o) e in omega arith

-- as many names as cells
pub slots_many : (cs : List Constant) → length (concat (map constant_slots cs)) ≡ length (concat (map constant_cells cs))
slots_many [] = refl
slots_many (c ∷ cs) =
    length-append (constant_slots c) (concat (map constant_slots cs)) ∙ omega (arith, named_length c.name c.ty, slots_many cs, length-append (constant_cells c) (concat (map constant_cells cs)))

-- room for them, where the constants are evaluated
pub held_room : {t t' : List ℕ} {bytes : ℕ} (f : File) → Holding t bytes (cells_in f) → length t' ≡ length t → Holding t' bytes (length (Adm.constant_cell_names f))
held_room {t} {t'} {bytes} f h e = subst (Holding t' bytes) (sym (slots_many f.constants)) (holding_same e h)

-- the constants have few cells
pub few_cells : {s t : List ℕ} {cells : ℕ} → CellsFit s t cells → cells ≤ 65536
few_cells {t = t} h = by_cases (dec_lt (length t) 69747) (λ lt. omega (arith, h.holding.narrow lt)) (λ le. omega (arith, (h.holding.wide (omega (arith, le))).0))

-- what evaluating the constants gave
module _ (f : File) (n : ℕ) (cs : List ℕ) (r : Result (Unit {0}) ℕ) (h : ConstantsAre n (Adm.constants f) r cs) where
  pub stuck_12 : Founds.place_of (result_err r) ≡ Adm.fault12 f
  stuck_12 = go (Adm.constants f) h
    where
      go : (c : Adm.Constants) → ConstantsAre n c r cs → Founds.place_of (result_err r) ≡ Adm.stuck_place c
      go (Adm.all vs) h = ap (λ x. Founds.place_of (result_err x)) h.0
      go (Adm.stuck_at p) h = ap (λ x. Founds.place_of (result_err x)) h

  pub all_held : {known : ℕ} → Adm.fault12 f ≡ none → n ≡ length (Adm.constant_cell_names f) → (r ≡ Ok tt → known ≡ n) → Held f known cs
  all_held {known} no12 many counted = go (Adm.constants f) refl h
    where
      go : (c : Adm.Constants) → Adm.constants f ≡ c → ConstantsAre n c r cs → Held f known cs
      go (Adm.all vs) q h =
          let w : values_in f ≡ vs = ap Adm.constant_values q in
          record {
            is = h.1 ∙ ap cells (sym w);
            back = subst (λ us. values_of (length us) cs ≡ us) (sym w) h.2;
            many = ap length w ∙ h.3 ∙ many;
            counted = counted h.0 ∙ sym (ap length w ∙ h.3);
          }
      go (Adm.stuck_at p) q h = absurd (some_none (sym (ap Adm.stuck_place q) ∙ no12))

-- ---- the orders

-- a ring's place is a found one
pub ring_found : (r : Ring) {o : Option ℕ} → ring_place r ≡ o → Founds.place_of (result_err r) ≡ o
ring_found (Err p) e = e
ring_found (Ok tt) e = e

module _ {s rows t : List ℕ} {c : Sections} {cells main : ℕ} {low : Bool} (h : OrderReady s rows t c cells main low) where
  pub nodes_stand : {enums : ℕ} {places : List ℕ} → FileReads s → length (file_at s).enums ≡ enums → places ≡ map Walks.place_of (placed_nodes (file_at s)) → NodesStand s enums places low
  nodes_stand reads counted placed =
      record {
        file = file_at s;
        end = reads.end;
        is = reads.is;
        counted = counted;
        placed = placed;
        lows = λ t. low_names (entries_for s) (file_at s) h.shaped.sound.no7 (low_within (entries_for s) (file_at s) (h.walked.lows t));
      }

  front_in : 1394 ≤ length t
  front_in = omega (arith, h.walked.sections.tab_long)

  -- the plans, as the table from the orders on has them
  half_is : (u : List ℕ) → length u ≡ length t → (length (tab_of u) - 2816) / 2 ≡ half_of t
  half_is u e = omega (arith, e, length-drop 1394 u)

  plans_in : (u : List ℕ) → length u ≡ length t → drop 4210 u ≡ drop 4210 t → Tables.plans_of (tab_of u) ≡ plans_of t
  plans_in u e d =
      let n : 1394 + (2816 + half_of t) ≡ 4210 + half_of t = omega arith in
      ap (λ m. drop (2816 + m) (tab_of u)) (half_is u e) ∙ drop-drop (2816 + half_of t) 1394 u ∙ ap (λ m. drop m u) n ∙ sym (drop-drop (half_of t) 4210 u) ∙ ap (drop (half_of t)) d

  plan_of : (k : ℕ) → k < length (file_at s).nodes → PlanOf (file_at s) (plans_of t) k
  plan_of k lt = h.walked.plans.planned h.shaped.sound.no9 k lt

  pub planned : Planned s rows (tail_of 1394 t)
  planned =
      record {
        long = omega (arith, ap length (tail_all 1394 t), length-drop 1394 t, h.walked.sections.tab_long);
        file = λ f end e k. subst (λ g. k < length g.nodes → NodePlanned g rows (tail_of 1394 t) k) (ap (item_of no_file) e)
            (λ lt. record {
              variables = (h.rows_are.rows_of k lt).variables;
              count = (h.rows_are.rows_of k lt).count;
              places = subst (λ l. (i : ℕ) → i < length (node_of (file_at s) k).equations → two_at l (plan_in (file_at s) k + 2 * i) ≡ equation_place (file_at s) k i) (sym (ap Tables.plans_of (tail_all 1394 t) ∙ plans_in t refl refl)) (plan_of k lt).places;
            });
      }

  module _ (x : List ℕ) {before : List ℕ} {r : Ring} (same : length x ≡ length (tail_of 1394 t)) (o : OrdersDone (file_at s) before (take 2560 x) r) (kept : drop 2560 x ≡ drop 2560 (tail_of 1394 t)) where
    -- the table with the orders
    abbrev ordered : List ℕ
    ordered = put_tail 1394 t x

    pub orders_long : length ordered ≡ length t
    orders_long = length_put 1394 t x front_in same

    tab_is : tab_of ordered ≡ x
    tab_is = drop_put 1394 t x front_in

    behind : drop 2560 (tab_of ordered) ≡ drop 3954 t
    behind = ap (drop 2560) tab_is ∙ kept ∙ ap (drop 2560) (tail_all 1394 t) ∙ drop-drop 2560 1394 t

    slots_are : drop 2816 (tab_of ordered) ≡ drop 4210 t
    slots_are = sym (drop-drop 256 2560 (tab_of ordered)) ∙ ap (drop 256) behind ∙ drop-drop 256 3954 t

    plans_are : Tables.plans_of (tab_of ordered) ≡ plans_of t
    plans_are = plans_in ordered orders_long (sym (drop-drop 2816 1394 ordered) ∙ slots_are)

    front : (j : ℕ) → j < 2560 → get_or (tab_of ordered) j 0 ≡ get_or (take 2560 x) j 0
    front j g = ap (λ l. get_or l j 0) tab_is ∙ sym (get_or-take 2560 x j 0 g)

    tabled : Adm.fault11 (file_at s) ≡ none → Tables.Tab (file_at s) (length s) (tab_of ordered)
    tabled no11 =
        let f = file_at s in
        let d = h.walked.sections in
        let st = d.rowed.stands in
        let so = h.shaped.sound in
        tab_whole s (tab_of ordered) st so.no6 so.no7 (half_of t) (sym (half_is ordered orders_long)) (subst (λ l. Typed f (256 + half_of t) l) (sym behind) d.typed.typed)
        (λ k lt. subst (CellsCounted (node_of f k) k) (sym behind) (d.typed.counted k lt)) (subst (λ l. Slots s f (take (half_of t) l)) (sym slots_are) h.walked.slots)
        (λ k lt. subst (λ l. PlanOf f l k) (sym plans_are) (plan_of k lt)) (λ i lt. subst (λ l. Told l (constants_start f + 2 * i) (constant_of f i).1.ty) (sym plans_are) (h.walked.plans.constants i lt))
        (λ k lt j g. front (k * 80 + j) (omega (arith, (node_at_lem st k lt).few_equations, st.few_nodes)) ∙ o.order no11 k lt j g) (omega (arith, orders_long, length-drop 1394 ordered, d.tab_long))

    -- 6 to 11 and 22 do not hold, and all tables are there
    pub constants_ready : {size : ℕ} → Bytes s → Adm.fault11 (file_at s) ≡ none → (cells ≡ cells_in (file_at s) → MainSized (file_at s) main → size ≡ min (Adm.state_size (file_at s)) 65536) → ConstantsReady s rows ordered c size
    constants_ready bytes no11 z =
        let d = h.walked.sections in
        let fit = fit_same orders_long d.fit in
        record {
          bytes = bytes;
          tables = record {
            reads = d.rowed.reads;
            stands = d.rowed.stands;
            ordered = record { shaped = h.shaped; no11 = no11 };
            rowed = h.rows_are;
            tabled = tabled no11;
          };
          sections = d.rowed.sections;
          sized = z d.fit.many h.main_is;
          holding = subst (Holding ordered (length s)) fit.many fit.holding;
        }

-- 7 to 10 do not hold
pub arrays_ready : {s rows t : List ℕ} {c : Sections} {cells : ℕ} {low : Bool} {found : Faults} → ShapesReady s rows t c cells low found → Adm.fault7 (file_at s) ≡ none → Adm.fault8 (file_at s) ≡ none → Adm.fault9 (file_at s) ≡ none → Adm.fault10 (file_at s) ≡ none
    → ArraysReady s rows t c cells low found
arrays_ready h n7 n8 n9 n10 =
    record {
      walked = h.walked;
      rows_are = (h.sized n9).0;
      main_is = (h.sized n9).1;
      sound = record { no6 = h.no6; no7 = n7; no8 = n8; no9 = n9; no10 = n10 };
      about = h.are.arrays;
    }

-- neither does 22
pub order_ready : {s rows t : List ℕ} {c : Sections} {cells : ℕ} {low : Bool} {found : Faults} → ArraysReady s rows t c cells low found → Adm.fault22 (file_at s) ≡ none → OrderReady s rows t c cells found.size low
order_ready h n22 = record { walked = h.walked; rows_are = h.rows_are; main_is = h.main_is; shaped = record { sound = h.sound; no22 = n22 } }

-- ---- 13 and 14

-- the limit on the state's length
relay_state : (f : File) → T (within relay_loader f) → maybe 0 (λ l. l.state) (relay_loader.limits f.format) ≡ 32768
unfolding within
relay_state f t = go (eqb f.format 1) (T_and (byte_fits f.format) _ t).1
  where
    go : (b : Bool) → T (maybe false (sections_fit f) (cond b (some base) none) && leb (length (encode f)) 32768) → maybe 0 (λ l. l.state) (cond b (some base) none) ≡ 32768
    go true t = refl
    go false t = absurd t

last_place : (ps : List (ℕ × Node)) (m : ℕ) → suc m ≡ length ps → place_of ps m ≡ main_place ps
last_place [] m e = absurd (omega arith)
last_place (p ∷ []) zero e = refl
last_place (p ∷ []) (suc m) e = absurd (omega arith)
last_place (p ∷ q ∷ ps) zero e = absurd (omega arith)
last_place (p ∷ q ∷ ps) (suc m) e = last_place (q ∷ ps) m (omega arith)

-- the rows without the sizes
pub main_ready : {s rows : List ℕ} {main : ℕ} → FileReads s → FileStands s (file_at s) → Rows (file_at s) rows → suc main ≡ length (file_at s).nodes → RowsReady s rows (main + 1)
main_ready rd st rowed last =
    record {
      reads = rd;
      row = λ j lt.
          let r = rowed.rows_of j lt in
          record { kind = r.kind; equations = r.equations; inputs = r.inputs; outputs = r.outputs; variables = r.variables; count = r.count; place = r.place };
      many = omega (arith, last);
      few = omega (arith, last, st.few_nodes);
    }

module _ {s rows : List ℕ} {main size : ℕ} (bytes : Bytes s) (rd : FileReads s) (rowed : Rows (file_at s) rows) (last : suc main ≡ length (file_at s).nodes) (sized : size ≡ min (Adm.state_size (file_at s)) size_cap) where
  limit_is : maybe 0 (λ l. l.state) (relay_loader.limits (file_at s).format) ≡ 32768
  limit_is = relay_state (file_at s) (encode_read relay_loader s (file_at s) rd.end bytes rd.is).2

  place_is : row_at rows main 7 ≡ main_place (placed_nodes (file_at s))
  place_is =
      (rowed.rows_of main (omega (arith, last))).place
      ∙ last_place (placed_nodes (file_at s)) main (last ∙ sym (length_placed node_size (nodes_start (file_at s)) (file_at s).nodes))

  pub state_long : {p : ℕ} → 32768 < size → p ≡ row_at rows main 7 → some p ≡ Adm.fault13 relay_loader (file_at s)
  state_long lt e =
      ap some (e ∙ place_is) ∙ ap (Adm.at_main (file_at s)) (sym (lt-ltb 32768 (Adm.state_size (file_at s)) (omega (arith, sized))))
      ∙ ap (λ l. Adm.at_main (file_at s) (ltb l (Adm.state_size (file_at s)))) (sym limit_is)

  pub state_short : size ≤ 32768 → none ≡ Adm.fault13 relay_loader (file_at s)
  state_short le =
      ap (Adm.at_main (file_at s)) (sym (le-ltb 32768 (Adm.state_size (file_at s)) (omega (arith, sized))))
      ∙ ap (λ l. Adm.at_main (file_at s) (ltb l (Adm.state_size (file_at s)))) (sym limit_is)
