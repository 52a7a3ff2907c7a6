-- Judging from its beginning: the rows, the tables by name, and the faults 6 to 10.
use Prim.Native.Nat.{ℕ, zero, suc, ◌+◌, ◌-◌, ◌*◌, ◌/◌, ◌<◌, ◌≤◌}
use mathlib.Core.Bool.{Bool, true, false}
use mathlib.Core.List.{List, ◌++◌, map}
use mathlib.Core.Option.{none}
use mathlib.Core.Path.{◌≡◌, refl, ap, sym, subst, ◌∙◌}
use mathlib.Core.Logic.{by_cases}
use native.Mathlib.Omega.{arith}
use native.Mathlib.Decide.{dec_lt}
use lib.ListN.{length, get_or, take, drop, replicate, length-replicate, length-map, length-append, length-drop, get_or-append, get_or-eq_default}
use lib.Seq.{get_or-take, get_or-drop, get_or-append-add, length-take-le, take_all, take_at, drop_at}
use Rattle.ol_spec.specs.Limits.{relay_loader}
use Rattle.ol_spec.specs.Lists.{concat}
use Rattle.ol_spec.specs.Syntax.{File, constant_cells}
use Rattle.ol_spec.specs.Admission as Adm
use Rattle.ol_tables.specs.At.{file_at}
use Rattle.ol_tables.specs.Stands.{FileReads, FileStands}
use Rattle.ol_spec.specs.Places.{node_size, nodes_start, placed_nodes}
use Rattle.ol_tables.specs.Tables.{Each, node_of, place_of, plan_in}
use Rattle.ol_check.specs.Arrays.{declares_arrays}
use Rattle.ol_check.specs.RowsDone.{NodeTypes, Typed, TablesDone, PlacesAre, CountedBy, CountsAre, CellsCounted, counted_from}
use Rattle.ol_check.specs.NodesJudged.{TypesLeft, PlansTyped}
use Rattle.ol_check.specs.declared.rows.Sections.{Sections}
use Rattle.ol_check.specs.FileJudged.{NamesWithin, FileJudged}
use Rattle.ol_check.specs.declared.Faults.{Faults}
use Rattle.ol_check.specs.Clashing.{DeclaredReady, Blank}
use Rattle.ol_sim.specs.Judging.{whole, from6, Loads, FileReady, CellsFit, cells_in, Rowed, TypedIn, TypesIn, Countable, CountsOnly, SectionsReady, Empty, NamesReady, FaultsAre, Plans, ShapesReady, slots_of, plans_of}
use Rattle.ol_tables.specs.Table.{half_of}
use Rattle.ol_spec.specs.Demand3.{Bytes}
use Rattle.ol_sim.specs.declared.program.Project.{Project}
use Rattle.ol_tables.proofs.HeadsFile.{file_stands}
use Rattle.ol_order.proofs.Nodes.{length_placed}
use Rattle.ol_ir.specs.Walks as Walks
use Rattle.ol_check.proofs.RowLoops.{types_stay, counts_stay}
use Rattle.ol_check.proofs.CellLaws.{all_counted, plain_counted, constants_limit}
use Rattle.ol_check.proofs.SizeTable.{rows_sized}
use Rattle.ol_sim.proofs.Packing.{holding_same}
use Rattle.ol_tables.proofs.Lending.{tail_of, put_tail, put_tail_lem, tail_all, drop_put, length_put}

-- as many places as nodes
pub many_places : {p : Project} → Loads p → length p.places.now ≡ length (file_at p.file.now).nodes
many_places {p} h =
    let f = file_at p.file.now in
    ap length h.placed ∙ length-map (placed_nodes f) Walks.place_of ∙ length_placed node_size (nodes_start f) f.nodes

-- ---- tables by name

pub zero_at : (n x : ℕ) → ◌≡◌ {A = ℕ} (get_or (replicate n 0) x 0) 0
zero_at zero zero = refl
zero_at zero (suc x) = refl
zero_at (suc n) zero = refl
zero_at (suc n) (suc x) = zero_at n x

pub blank_zeros : (f : File) (n : ℕ) → Each (λ d. d.name < n) (Adm.declared f) → Blank f (replicate n 0)
blank_zeros f n h = record { zero = zero_at n; below = subst (λ m. Each (λ d. d.name < m) (Adm.declared f)) (sym (length-replicate {A = ℕ} n 0)) h }

pub empty_zeros : (f : File) (n : ℕ) → NamesWithin n f → Empty f (replicate n 0)
empty_zeros f n h = record { zero = zero_at n; within = subst (λ m. NamesWithin m f) (sym (length-replicate {A = ℕ} n 0)) h }

-- ---- the rows

pub rowed_done : {s rows tab before after : List ℕ} {plans cells : ℕ} {c : Sections} → FileReady s tab cells → TablesDone (file_at s) rows before after plans c → Rowed s rows c
rowed_done h d =
    record { reads = h.reads; stands = h.stands; sections = d.sections; row = d.are.row; firsts = d.are.firsts }

pub declared_ready : {s rows : List ℕ} {c : Sections} → Rowed s rows c → DeclaredReady s rows c
declared_ready r = record { reads = r.reads; row = r.row; sections = r.sections }

-- room for the nodes' numbers and the plans
pub types_room : {s tab : List ℕ} {cells : ℕ} → FileReady s tab cells → 256 + half_of tab + length s ≤ length (tail_of 3954 tab)
types_room {tab = tab} h = omega (arith, ap length (tail_all 3954 tab), length-drop 3954 tab, h.tab_long)

-- the nodes' places
pub places_are : {p : Project} → Loads p → PlacesAre (file_at p.file.now) p.places.now
places_are h = record { at = λ k lt. ap (λ l. get_or l k 0) h.placed }

-- the table tab' has the numbers of the nodes and the types of their variables as tab
record NumbersStay (f : File) (tab tab' : List ℕ) : Type 0 where
  long : length tab' ≡ length tab
  few : length f.nodes ≤ 32
  front : (i : ℕ) → 3954 ≤ i → i < 4210 → get_or tab' i 0 ≡ get_or tab i 0
  types : (k : ℕ) → k < length f.nodes → (i : ℕ) → 4210 + half_of tab + place_of (placed_nodes f) k ≤ i → i < 4210 + half_of tab + plan_in f k → get_or tab' i 0 ≡ get_or tab i 0

module _ {f : File} {tab tab' : List ℕ} (h : NumbersStay f tab tab') where
  half : half_of tab ≡ half_of tab'
  half = ap (λ n. (n - 4210) / 2) (sym h.long)

  byte_same : (i : ℕ) → get_or tab' (3954 + i) 0 ≡ get_or tab (3954 + i) 0 → get_or (drop 3954 tab') i 0 ≡ get_or (drop 3954 tab) i 0
  byte_same i e = get_or-drop 3954 tab' i 0 ∙ e ∙ sym (get_or-drop 3954 tab i 0)

  typed_same : TypedIn f tab → TypedIn f tab'
  typed_same t k lt =
      let at = place_of (placed_nodes f) k in
      subst (λ m. NodeTypes (node_of f k) at k (256 + m) (drop 3954 tab')) half
      (types_stay (256 + half_of tab + plan_in f k) (omega arith) (λ i a b. byte_same i (h.types k lt (3954 + i) (omega (arith, a)) (omega (arith, b)))) (byte_same (8 * k) (h.front (3954 + 8 * k) (omega arith) (omega (arith, h.few)))) (byte_same (8 * k + 1) (h.front (3954 + (8 * k + 1)) (omega arith) (omega (arith, h.few)))) (t k lt))

  counts_same : {a b c : ℕ} (k : ℕ) → k < length f.nodes → CountsAre (drop 3954 tab) k a b c → CountsAre (drop 3954 tab') k a b c
  counts_same k lt w = counts_stay k (λ x lo hi. byte_same x (h.front (3954 + x) (omega arith) (omega (arith, lt, h.few, hi)))) w

  types_same : TypesIn f tab → TypesIn f tab'
  types_same t = record { typed = typed_same t.typed; counted = λ k lt. counts_same k lt (t.counted k lt) }

-- the constants' cells have room in a table of that length
pub fit_same : {s t t' : List ℕ} {cells : ℕ} → length t' ≡ length t → CellsFit s t cells → CellsFit s t' cells
fit_same {s} {t} {t'} {cells} e h =
    record { many = h.many; holding = holding_same e h.holding }

-- ---- cells are counted, where arrays are declared

module _ {s rows t : List ℕ} {arrays : Bool} (h : Countable s rows t arrays) where
  abbrev f : File
  f = file_at s

  inside : 3954 ≤ length t
  inside = omega (arith, h.long)

  pub counted_all : (x : List ℕ) {n : ℕ} → length x ≡ length (tail_of 3954 t) → n ≡ length f.nodes → x ≡ counted_from rows (256 + half_of t) 0 n (tail_of 3954 t) → TypesIn f (put_tail 3954 t x) × CountsOnly t (put_tail 3954 t x)
  counted_all x {n} k many e =
      let plans = 256 + half_of t in
      let typed : Typed f plans (tail_of 3954 t) = subst (Typed f plans) (sym (tail_all 3954 t)) h.typed in
      let wide : 256 ≤ length (tail_of 3954 t) = omega (arith, ap length (tail_all 3954 t), length-drop 3954 t, h.long) in
      let all = all_counted h.stands h.row (omega arith) (tail_of 3954 t) wide typed in
      let is : drop 3954 (put_tail 3954 t x) ≡ counted_from rows plans 0 (length f.nodes) (tail_of 3954 t) = drop_put 3954 t x inside ∙ e ∙ ap (λ m. counted_from rows plans 0 m (tail_of 3954 t)) many in
      let long : length (put_tail 3954 t x) ≡ length t = length_put 3954 t x inside k in
      let half : half_of t ≡ half_of (put_tail 3954 t x) = ap (λ m. (m - 4210) / 2) (sym long) in (
        record {
          typed = subst (λ m. Typed f (256 + m) (drop 3954 (put_tail 3954 t x))) half (subst (Typed f plans) (sym is) all.typed);
          counted = λ j lt. subst (CellsCounted (node_of f j) j) (sym is) (all.counted j lt);
        },
        record { long = long },
      )

  pub counted_none : arrays ≡ false → TypesIn f t × CountsOnly t t
  counted_none e =
      let plain : declares_arrays f ≡ false = sym h.declared ∙ e in
      (record { typed = h.typed; counted = λ k lt. plain_counted h.stands plain k lt (h.counted k lt) }, record { long = refl })

-- ---- the table before it is judged

module _ {s rows tab : List ℕ} {cells : ℕ} {c : Sections} (x : List ℕ) (h : FileReady s tab cells) (d : TablesDone (file_at s) rows (tail_of 3954 tab) x (256 + half_of tab) c) (k : length x ≡ length (tail_of 3954 tab)) where
  -- the table with the nodes' numbers and the types
  abbrev pub tab₁ : List ℕ
  tab₁ = put_tail 3954 tab x

  room₁ : 3954 ≤ length tab
  room₁ = omega (arith, h.tab_long)

  pub typed_long : length tab₁ ≡ length tab
  typed_long = length_put 3954 tab x room₁ k

  half₁ : half_of tab ≡ half_of tab₁
  half₁ = ap (λ n. (n - 4210) / 2) (sym typed_long)

  typed₁ : TypedIn (file_at s) tab₁
  typed₁ = subst (λ m. Typed (file_at s) (256 + m) (drop 3954 tab₁)) half₁ (subst (λ l. Typed (file_at s) (256 + half_of tab) l) (sym (drop_put 3954 tab x room₁)) d.are.typed)

  counted₁ : (k : ℕ) → k < length (file_at s).nodes → CountedBy (node_of (file_at s) k) k (drop 3954 tab₁)
  counted₁ k lt = subst (λ l. CountedBy (node_of (file_at s) k) k l) (sym (drop_put 3954 tab x room₁)) (d.are.counted k lt)

  -- a byte of the orders
  blank_byte : (i : ℕ) → i < 1024 → get_or tab₁ (1394 + i) 0 ≡ 0
  blank_byte i lt =
      ap (λ l. get_or l (1394 + i) 0) (put_tail_lem 3954 tab x)
      ∙ get_or-append (take 3954 tab) x 0 (1394 + i) (omega (arith, length-take-le 3954 tab room₁))
      ∙ get_or-take 3954 tab (1394 + i) 0 (omega arith) ∙ sym (get_or-drop 1394 tab i 0) ∙ h.blank i

  pub sorts_long : length (take 1024 (drop 1394 tab₁)) ≡ 1024
  sorts_long = length-take-le 1024 (drop 1394 tab₁) (omega (arith, length-drop 1394 tab₁, typed_long, h.tab_long))

  -- the table that fault 6 uses
  pub blank_sorts : Each (λ d. d.name < 1024) (Adm.declared (file_at s)) → Blank (file_at s) (take 1024 (drop 1394 tab₁))
  blank_sorts low =
      record {
        zero = λ i. by_cases (dec_lt i 1024)
            (λ lt. get_or-take 1024 (drop 1394 tab₁) i 0 lt ∙ get_or-drop 1394 tab₁ i 0 ∙ blank_byte i lt)
            (λ over. get_or-eq_default (take 1024 (drop 1394 tab₁)) 0 (omega (arith, sorts_long, over)));
        below = subst (λ n. Each (λ d. d.name < n) (Adm.declared (file_at s))) (sym sorts_long) low;
      }

  module _ (y : List ℕ) (ky : length y ≡ length (take 1024 (drop 1394 tab₁))) where
    -- the table after fault 6 was looked for
    abbrev pub tab₂ : List ℕ
    tab₂ = take 1394 tab₁ ++ (y ++ drop 1024 (drop 1394 tab₁))

    first : length (take 1394 tab₁) ≡ 1394
    first = length-take-le 1394 tab₁ (omega (arith, typed_long, h.tab_long))

    many : length y ≡ 1024
    many = ky ∙ sorts_long

    pub sorted_long : length tab₂ ≡ length tab
    sorted_long =
        length-append (take 1394 tab₁) (y ++ drop 1024 (drop 1394 tab₁))
        ∙ omega (arith, first, length-append y (drop 1024 (drop 1394 tab₁)), length-drop 1024 (drop 1394 tab₁), length-drop 1394 tab₁, many, typed_long, h.tab_long)

    -- what stands behind is left
    sorted_back : (i : ℕ) → 2418 ≤ i → get_or tab₂ i 0 ≡ get_or tab₁ i 0
    sorted_back i le =
        let a : i ≡ length (take 1394 tab₁) + (length y + (i - 2418)) = omega (arith, first, many, le) in
        let b : 1394 + (1024 + (i - 2418)) ≡ i = omega (arith, le) in
        ap (λ n. get_or tab₂ n 0) a ∙ get_or-append-add (take 1394 tab₁) (y ++ drop 1024 (drop 1394 tab₁)) (length y + (i - 2418)) 0 ∙ get_or-append-add y (drop 1024 (drop 1394 tab₁)) (i - 2418) 0
        ∙ get_or-drop 1024 (drop 1394 tab₁) (i - 2418) 0 ∙ get_or-drop 1394 tab₁ (1024 + (i - 2418)) 0 ∙ ap (λ n. get_or tab₁ n 0) b

    sorted_stays : NumbersStay (file_at s) tab₁ tab₂
    sorted_stays =
        record {
          long = sorted_long ∙ sym typed_long;
          few = h.stands.few_nodes;
          front = λ i lo hi. sorted_back i (omega arith);
          types = λ k lt i a b. sorted_back i (omega (arith, a));
        }

    pub countable : {arrays : Bool} → arrays ≡ declares_arrays (file_at s) → Countable s rows tab₂ arrays
    countable e =
        record {
          stands = h.stands;
          row = d.are.row;
          typed = typed_same sorted_stays typed₁;
          counted = λ k lt. counts_same sorted_stays k lt (counted₁ k lt);
          long = omega (arith, sorted_long, h.tab_long);
          declared = e;
        }

    -- the numbers count cells now
    pub counted_ready : (t : List ℕ) → TypesIn (file_at s) t → CountsOnly tab₂ t → SectionsReady s rows t c cells
    counted_ready t types only =
        let long : length t ≡ length tab = only.long ∙ sorted_long in
        record { rowed = rowed_done h d; typed = types; tab_long = omega (arith, long, h.tab_long); fit = fit_same long h.fit }

-- ---- 6 to 10

faults_are : {s names names' slots slots' rows rows' : List ℕ} {found : Faults} → FileJudged s (file_at s) names names' slots slots' rows rows' found → FaultsAre (file_at s) found
faults_are j = record { unseen = j.unseen; again = j.again; called = j.called; shaped = j.shaped; arrays = j.arrays }

-- a byte of the last of three parts
in_third : (xs ys zs : List ℕ) (i : ℕ) → get_or (xs ++ (ys ++ zs)) (length xs + (length ys + i)) 0 ≡ get_or zs i 0
in_third xs ys zs i = get_or-append-add xs (ys ++ zs) (length ys + i) 0 ∙ get_or-append-add ys zs i 0

-- the parts of the table are `head`, the slots and the plans
pub record Cut (tab head slots plans : List ℕ) : Type 0 where
  pub parts : tab ≡ head ++ (slots ++ plans)
  pub head_long : length head ≡ 4210
  pub slots_long : length slots ≡ half_of tab

-- the slots and the plans are as long as before
pub record AsLong (slots plans slots' plans' : List ℕ) : Type 0 where
  pub slots_same : length slots' ≡ length slots
  pub plans_same : length plans' ≡ length plans

module _ {tab head slots plans : List ℕ} (k : Cut tab head slots plans) where
  -- a byte of the plans
  in_plans : (y : ℕ) → get_or tab (4210 + half_of tab + y) 0 ≡ get_or plans y 0
  in_plans y =
      let n : 4210 + half_of tab + y ≡ length head + (length slots + y) = omega (arith, k.head_long, k.slots_long) in
      ap (λ m. get_or tab m 0) n ∙ ap (λ l. get_or l (length head + (length slots + y)) 0) k.parts ∙ in_third head slots plans y

  plans_long : length plans ≡ length tab - 4210 - half_of tab
  plans_long = omega (arith, k.head_long, k.slots_long, ap length k.parts, length-append head (slots ++ plans), length-append slots plans)

  -- the types of the variables, as the plans have them
  pub plans_typed : {s : List ℕ} → 4210 + 2 * length s ≤ length tab → TypesIn (file_at s) tab → PlansTyped s plans
  plans_typed {s} long t =
      record {
        room = omega (arith, plans_long, long);
        lengths = λ j lt i low.
            let at = place_of (placed_nodes (file_at s)) j in
            let n : 3954 + (256 + half_of tab + at + 2 * i + 1) ≡ 4210 + half_of tab + (at + 2 * i + 1) = omega arith in
            sym (in_plans (at + 2 * i + 1)) ∙ ap (λ m. get_or tab m 0) (sym n) ∙ sym (get_or-drop 3954 tab (256 + half_of tab + at + 2 * i + 1) 0) ∙ ((t.typed j lt).are i low).length;
      }

  module _ {slots' plans' : List ℕ} (e : AsLong slots plans slots' plans') where
    walked_long : length (head ++ (slots' ++ plans')) ≡ length tab
    walked_long = omega (arith, length-append head (slots' ++ plans'), length-append slots' plans', e.slots_same, e.plans_same, ap length k.parts, length-append head (slots ++ plans), length-append slots plans)

    walked_stays : (f : File) → length f.nodes ≤ 32 → TypesLeft f plans plans' → NumbersStay f tab (head ++ (slots' ++ plans'))
    walked_stays f few tl =
        record {
          long = walked_long;
          few = few;
          front = λ i lo hi. get_or-append head (slots' ++ plans') 0 i (omega (arith, k.head_long, hi)) ∙ sym (get_or-append head (slots ++ plans) 0 i (omega (arith, k.head_long, hi))) ∙ ap (λ l. get_or l i 0) (sym k.parts);
          types = λ j lt i a b.
              let y = i - (4210 + half_of tab) in
              let n' : i ≡ length head + (length slots' + y) = omega (arith, a, k.head_long, k.slots_long, e.slots_same) in
              let n : 4210 + half_of tab + y ≡ i = omega (arith, a) in
              ap (λ m. get_or (head ++ (slots' ++ plans')) m 0) n' ∙ in_third head slots' plans' y ∙ tl.left j lt y (omega (arith, a)) (omega (arith, a, b)) ∙ sym (in_plans y) ∙ ap (λ m. get_or tab m 0) n;
        }

    half' : half_of (head ++ (slots' ++ plans')) ≡ half_of tab
    half' = ap (λ n. (n - 4210) / 2) walked_long

    behind : drop 4210 (head ++ (slots' ++ plans')) ≡ slots' ++ plans'
    behind = drop_at head (slots' ++ plans') 4210 k.head_long

    slots_are : slots_of (head ++ (slots' ++ plans')) ≡ slots'
    slots_are = (λ i. take (half' i) (behind i)) ∙ take_at slots' plans' (half_of tab) (e.slots_same ∙ k.slots_long)

    plans_are : plans_of (head ++ (slots' ++ plans')) ≡ plans'
    plans_are = (λ i. drop (half' i) (behind i)) ∙ drop_at slots' plans' (half_of tab) (e.slots_same ∙ k.slots_long)

pub shapes_ready : {s rows rows' tab head names names' slots plans slots' plans' : List ℕ} {c : Sections} {cells : ℕ} {low : Bool} {found : Faults} → NamesReady s rows tab names c cells low → length rows' ≡ 272 → Adm.fault6 (file_at s) ≡ none
    → Cut tab head slots plans → AsLong slots plans slots' plans' → FileJudged s (file_at s) names names' slots slots' rows rows' found → TypesLeft (file_at s) plans plans' → Plans (file_at s) plans' → ShapesReady s rows' (head ++ (slots' ++ plans')) c cells low found
shapes_ready {s} {rows} {rows'} {tab} {head} {names} {names'} {slots} {plans} {slots'} {plans'} {found = found} h long no6 k e j tl p =
    let f = file_at s in
    let d = h.sections in
    let r = d.rowed in
    let same : length (head ++ (slots' ++ plans')) ≡ length tab = walked_long k e in
    record {
      walked = record {
        sections = record {
          rowed = record {
            reads = r.reads;
            stands = r.stands;
            sections = r.sections;
            row = j.sized.row;
            firsts = λ n g. j.sized.above (256 + n) (omega arith) ∙ r.firsts n g;
          };
          typed = types_same (walked_stays k e f r.stands.few_nodes tl) d.typed;
          tab_long = omega (arith, same, d.tab_long);
          fit = fit_same same d.fit;
        };
        slots = record {
          names = names;
          names' = names';
          before = slots;
          rows = rows;
          rows' = rows';
          found = found;
          empty = h.empty;
          long = omega (arith, k.slots_long, d.tab_long);
          judged = subst (λ t. FileJudged s f names names' slots t rows rows' found) (sym (slots_are k e)) j;
        };
        plans = subst (Plans f) (sym (plans_are k e)) p;
        lows = h.lows;
      };
      no6 = no6;
      are = faults_are j;
      sized = λ no9. (rows_sized long r.firsts j.sized no9, j.main no9);
    }

-- ---- what was judged

pub judge_is : (s : List ℕ) → FileReads s → Adm.judge relay_loader s ≡ Adm.refuse_first (from6 (file_at s)) (whole (file_at s))
unfolding Adm.judge
judge_is s h = ap (Adm.judge_read relay_loader) h.is

pub false_not_true : mathlib.Core.Bool.false ≡ true → ⊥
false_not_true e = let z : ◌≡◌ {A = ℕ} 0 1 = ap (λ b. mathlib.Core.Bool.cond b 1 0) e in omega arith

-- ---- any file that reads without fault, with blank arrays

-- a table of n bytes has room for the cells of its constants
pub zeros_fit : {s : List ℕ} {cells : ℕ} (n : ℕ) → FileStands s (file_at s) → cells ≡ cells_in (file_at s) → 4210 + 2 * length s ≤ n → (n ≤ 69746 → cells ≤ 64) → (69746 < n → 106610 ≤ n) → CellsFit s (replicate n 0) cells
zeros_fit {s} {cells} n st e room small wide =
    let long : ◌≡◌ {A = ℕ} (length {A = ℕ} (replicate n 0)) n = length-replicate {A = ℕ} n 0 in
    record {
      many = e;
      holding = record {
        long = omega (arith, long, room);
        narrow = λ lt. small (omega (arith, long, lt));
        wide = λ le.
            let most : cells ≤ 2048 = omega (arith, e, constants_limit st (length (file_at s).constants), ap (λ l. length (concat (map constant_cells l))) (take_all (length (file_at s).constants) (file_at s).constants (omega arith))) in
            (most, omega (arith, long, wide (omega (arith, long, le)), st.short, length-drop {A = ℕ} 1394 (replicate n 0)));
      };
    }

pub file_ready : {s : List ℕ} {cells : ℕ} (n : ℕ) → FileReads s → Bytes s → 4210 + 2 * length s ≤ n → CellsFit s (replicate n 0) cells → FileReady s (replicate n 0) cells
file_ready n l b h fit =
    record {
      reads = l;
      stands = file_stands b l;
      tab_long = omega (arith, length-replicate {A = ℕ} n 0, h);
      blank = λ x. get_or-drop 1394 (replicate n 0) x 0 ∙ zero_at n (1394 + x);
      fit = fit;
    }
