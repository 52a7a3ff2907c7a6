-- Fault 8: a node's table by name and the table of defined entries tell which names may not be defined, where every defined name is declared.
use Prim.Native.Nat.{ℕ, suc, ◌+◌, ◌≤◌, ◌<◌}
use mathlib.Core.Bool.{Bool, true, false, not, ◌||◌}
use mathlib.Core.List.{List, [], ◌∷◌, ◌++◌, map, append_assoc, map-append}
use mathlib.Core.Logic.{by_cases}
use mathlib.Core.Option.{Option, none, some}
use mathlib.Core.Path.{◌≡◌, refl, sym, ap, subst, ◌∙◌}
use native.Mathlib.Omega.{arith}
use native.Mathlib.Decide.{dec_le, dec_lt}
use native.Mathlib.Nat.{zero-add}
use lib.ListN.{length, get_or, set, replicate, length-set, length-replicate, get_or-replicate, length-map, get_or-eq_default}
use lib.Seq.{get_or-set_same, get_or-set_other}
use lib.Dec.{ltb, leb, eqb}
use borrow.Author.Tests.{not-true, not-false, ne_eqb, eq-eqb, eqb-true, le-leb, lt-leb, lt-ltb, le-ltb}
use Rattle.ol_spec.specs.Lists.{maybe, member, position, position_if, concat}
use Rattle.ol_spec.specs.Syntax.{Equation, Node, File, variables, variable_names, name_of, no_node}
use Rattle.ol_spec.specs.Places.{placed, placed_nodes, placed_equations, placed_constants, node_size, nodes_start, rhs_place}
use Rattle.ol_spec.specs.Admission.{Item, first, first_if, variants, constant_names, constant_uses, unseen, used, equation_uses, node_uses, defined_by, again, node_defines, fault7}
use Rattle.ol_tables.specs.Tables.{Each}
use Rattle.ol_tables.specs.Stands.{FileStands}
use Rattle.ol_tables.proofs.HeadsFile.{node_at_lem}
use Rattle.ol_tables.proofs.Forms.{each_join}
use Rattle.ol_check.specs.Judging.{Knows, taken_b, again_b}
use Rattle.ol_check.specs.Entries.{variable_entries, Global}
use Rattle.ol_check.specs.NodesJudged.{node_table, node_again, Covered, AllCovered}
use Rattle.ol_check.proofs.Truths.{member_behind}
use Rattle.ol_check.proofs.EntryLaws.{eq_cases, declare_high}
use Rattle.ol_check.proofs.EntryPlaces.{declare_free, variable_entry, position_at}
use Rattle.ol_check.proofs.NodeLaws.{entries_ok, node_knows}
use Rattle.ol_check.proofs.RowLoops.{few_variables}

-- ---- the test

or_last : (a b : Bool) → a || (b || true) ≡ true
or_last true b = refl
or_last false true = refl
or_last false false = refl

module _ (defined : List Bool) (inputs e : ℕ) where
  taken_input : e ≤ inputs → true ≡ taken_b defined inputs e
  taken_input le = rw (le-leb e inputs le) refl

  taken_outer : 112 < e → true ≡ taken_b defined inputs e
  taken_outer lt = rw (lt-ltb 112 e lt) (sym (go (leb e inputs)))
    where
      go : (a : Bool) → a || true ≡ true
      go true = refl
      go false = refl

  taken_marked : get_or defined e false ≡ true → taken_b defined inputs e ≡ true
  taken_marked q = rw q (or_last (leb e inputs) (ltb 112 e))

  taken_not : inputs < e → e ≤ 112 → get_or defined e false ≡ false → taken_b defined inputs e ≡ false
  taken_not hi lo q = rw (lt-leb e inputs hi, le-ltb 112 e lo, q) refl

-- ---- positions

-- a position in the first of two lists is that of a member of the first
position_front : (x i : ℕ) (a b : List ℕ) → position x (a ++ b) ≡ some i → (i < length a → member x a ≡ true) × (length a ≤ i → member x a ≡ false)
position_front x i [] b e = (λ lt. absurd (omega arith), λ le. refl)
position_front x i (y ∷ a) b e = go (eqb x y) (position x (a ++ b)) (λ j q. position_front x j a b q) e
  where
    go : (t : Bool) (p : Option ℕ) → ((j : ℕ) → p ≡ some j → (j < length a → member x a ≡ true) × (length a ≤ j → member x a ≡ false)) → position_if t p ≡ some i
        → (i < suc (length a) → t || member x a ≡ true) × (suc (length a) ≤ i → t || member x a ≡ false)
    go true p h e = let z : 0 ≡ i = cc in (λ lt. refl, λ le. absurd (omega arith))
    go false none h e = let z : ◌≡◌ {A = ℕ} 0 1 = cc in absurd (omega arith)
    go false (some j) h e = let z : suc j ≡ i = cc in let w = h j refl in (λ lt. w.0 (omega arith), λ le. w.1 (omega arith))

-- the name at a position
position_is : (x i : ℕ) (xs : List ℕ) → position x xs ≡ some i → get_or xs i 0 ≡ x
position_is x i [] e = let z : ◌≡◌ {A = ℕ} 0 1 = cc in absurd (omega arith)
position_is x i (y ∷ xs) e = go (eqb x y) (λ t. eqb-true x y t) (position x xs) (λ j q. position_is x j xs q) e
  where
    go : (t : Bool) → (t ≡ true → x ≡ y) → (p : Option ℕ) → ((j : ℕ) → p ≡ some j → get_or xs j 0 ≡ x) → position_if t p ≡ some i → get_or (y ∷ xs) i 0 ≡ x
    go true s p h e = let z : 0 ≡ i = cc in subst (λ n. get_or (y ∷ xs) n 0 ≡ x) z (sym (s refl))
    go false s none h e = let z : ◌≡◌ {A = ℕ} 0 1 = cc in absurd (omega arith)
    go false s (some j) h e = let z : suc j ≡ i = cc in subst (λ n. get_or (y ∷ xs) n 0 ≡ x) z (h j refl)

member_either : (x : ℕ) (a b : List ℕ) → member x b ≡ false → member x (a ++ b) ≡ member x a
member_either x [] b m = m
member_either x (y ∷ a) b m = ap (λ q. eqb x y || q) (member_either x a b m)

-- ---- the entries of a node's names

module _ (names : List ℕ) (visible : List ℕ) (global : Global names) (knows : Knows names visible) (n : Node) (few : length (variables n) ≤ 112) (covered : Covered (length names) n) where
  abbrev entry_of : ℕ → ℕ
  entry_of x = get_or (node_table names n) x 0

  abbrev inputs : ℕ
  inputs = length n.inputs

  -- what an entry is
  data Entry (x : ℕ) : Type 0 where
    outer : 112 < entry_of x → member x visible ≡ true → Entry x
    inner : (i : ℕ) → position x (variable_names n) ≡ some i → entry_of x ≡ i + 1 → i < 112 → member x visible ≡ false → Entry x
    unknown : entry_of x ≡ 0 → Entry x

  entry_is : (x : ℕ) → Entry x
  entry_is x =
      eq_cases (get_or names x 0) 0
      (λ z. go (position x (variable_names n)) refl
      (declare_free x names (variable_entries 0 (variables n)) (entries_ok (length names) 0 (variables n) covered) z ∙ variable_entry x 0 (variables n))
      (not-true (member x visible) (sym (knows x) ∙ eq-eqb (get_or names x 0) 0 z)))
      (λ nz.
      let same = declare_high x names (variable_entries 0 (variables n)) (omega arith) in
      by_cases (dec_le (get_or names x 0) 112) (λ low. absurd (nz (global x low)))
      (λ high. outer (omega arith) (not-false (member x visible) (sym (knows x) ∙ ne_eqb (get_or names x 0) 0 nz))))
    where
      go : (p : Option ℕ) → position x (variable_names n) ≡ p → entry_of x ≡ maybe 0 (λ i. 0 + i + 1) p → member x visible ≡ false → Entry x
      go none ep e m = unknown e
      go (some i) ep e m = inner i ep (e ∙ ap (λ k. k + 1) (zero-add i)) (omega (arith, (position_at x i (variable_names n) ep).0, length-map (variables n) name_of)) m

  -- two variables of one entry are one
  same_entry : (x y i j : ℕ) → position x (variable_names n) ≡ some i → position y (variable_names n) ≡ some j → i ≡ j → x ≡ y
  same_entry x y i j ex ey q = sym (position_is x i (variable_names n) ex) ∙ ap (λ k. get_or (variable_names n) k 0) q ∙ position_is y j (variable_names n) ey

  -- ---- the table of defined entries

  -- it tells which declared names may not be defined
  abbrev Agrees : List Bool → List ℕ → Type 0
  Agrees defined taken = (x : ℕ) → (entry_of x ≡ 0 → ⊥) → taken_b defined inputs (entry_of x) ≡ member x taken

  agrees_start : (defined : List Bool) → ((e : ℕ) → get_or defined e false ≡ false) → Agrees defined (map name_of n.inputs ++ visible)
  agrees_start defined empty x declared = go (entry_is x)
    where
      split : variable_names n ≡ map name_of n.inputs ++ (map name_of n.outputs ++ map name_of n.locals)
      split = map-append name_of (n.inputs ++ n.outputs) n.locals ∙ ap (λ l. l ++ map name_of n.locals) (map-append name_of n.inputs n.outputs) ∙ append_assoc (map name_of n.inputs) (map name_of n.outputs) (map name_of n.locals)

      go : Entry x → taken_b defined inputs (entry_of x) ≡ member x (map name_of n.inputs ++ visible)
      go (outer high m) = sym (taken_outer defined inputs (entry_of x) high) ∙ sym (member_behind x (map name_of n.inputs) visible m)
      go (unknown z) = absurd (declared z)
      go (inner i ep e lt m) =
          let ins = map name_of n.inputs in
          let w = position_front x i ins (map name_of n.outputs ++ map name_of n.locals) (ap (position x) (sym split) ∙ ep) in
          let long = length-map n.inputs name_of in
          by_cases (dec_lt i inputs)
          (λ low. sym (taken_input defined inputs (entry_of x) (omega (arith, e))) ∙ sym (member_either x ins visible m ∙ w.0 (omega arith)))
          (λ no. taken_not defined inputs (entry_of x) (omega (arith, e)) (omega (arith, e)) (empty (entry_of x)) ∙ sym (member_either x ins visible m ∙ w.1 (omega arith)))

  agrees_next : (defined : List Bool) (taken : List ℕ) (y : ℕ) → 113 ≤ length defined → (entry_of y ≡ 0 → ⊥) → Agrees defined taken → Agrees (set defined (entry_of y) true) (y ∷ taken)
  agrees_next defined taken y room known agrees x declared =
      let defined' = set defined (entry_of y) true in
      eq_cases x y
      (λ q. subst (λ z. taken_b defined' inputs (entry_of z) ≡ true) (sym q) (marked (entry_is y)) ∙ sym (ap (λ b. b || member x taken) (eq-eqb x y q)))
      (λ ne. other ne (entry_is x) (entry_is y) ∙ agrees x declared ∙ sym (ap (λ b. b || member x taken) (ne_eqb x y ne)))
    where
      marked : Entry y → taken_b (set defined (entry_of y) true) inputs (entry_of y) ≡ true
      marked (outer high m) = sym (taken_outer (set defined (entry_of y) true) inputs (entry_of y) high)
      marked (unknown z) = absurd (known z)
      marked (inner i ep e lt m) = taken_marked (set defined (entry_of y) true) inputs (entry_of y) (get_or-set_same defined (entry_of y) true false (omega (arith, e)))

      apart : (entry_of x ≡ entry_of y → ⊥) → taken_b (set defined (entry_of y) true) inputs (entry_of x) ≡ taken_b defined inputs (entry_of x)
      apart ne = ap (λ b. leb (entry_of x) inputs || (ltb 112 (entry_of x) || b)) (get_or-set_other defined (entry_of y) (entry_of x) true false ne)

      other : (x ≡ y → ⊥) → Entry x → Entry y → taken_b (set defined (entry_of y) true) inputs (entry_of x) ≡ taken_b defined inputs (entry_of x)
      other ne (unknown z) ey = absurd (declared z)
      other ne (outer high m) ey = sym (taken_outer (set defined (entry_of y) true) inputs (entry_of x) high) ∙ taken_outer defined inputs (entry_of x) high
      other ne (inner i ep e lt m) (unknown z) = absurd (known z)
      other ne (inner i ep e lt m) (outer high m') = apart (λ q. omega (arith, e))
      other ne (inner i ep e lt m) (inner j ep' e' lt' m') = apart (λ q. ne (same_entry x y i j ep ep' (omega (arith, e, e'))))

  -- the names of a list, one after the other
  again_told : (defined : List Bool) (taken : List ℕ) (ps : List (ℕ × ℕ)) → 113 ≤ length defined → Each (λ p. entry_of p.1 ≡ 0 → ⊥) ps → Agrees defined taken → again_b (node_table names n) inputs defined ps ≡ again taken ps
  unfolding again_b
  again_told defined taken [] room known agrees = refl
  again_told defined taken (p ∷ ps) room known agrees =
      ap (λ b. (p.0, b) ∷ again_b (node_table names n) inputs (set defined (entry_of p.1) true) ps) (agrees p.1 known.0)
      ∙ ap (λ l. (p.0, member p.1 taken) ∷ l)
      (again_told (set defined (entry_of p.1) true) (p.1 ∷ taken) ps (omega (arith, length-set defined (entry_of p.1) true)) known.1 (agrees_next defined taken p.1 room known.0 agrees))

-- ---- names that are declared, where 7 does not hold

pub clean_step : (b : Bool) (p : ℕ) (r : Option ℕ) → first_if b p r ≡ none → (b ≡ false) × (r ≡ none)
clean_step true p r e = let z : ◌≡◌ {A = ℕ} 0 1 = cc in absurd (omega arith)
clean_step false p r e = (refl, e)

pub clean_both : (a b : List Item) → first (a ++ b) ≡ none → (first a ≡ none) × (first b ≡ none)
clean_both [] b e = (refl, e)
clean_both (i ∷ a) b e =
    let w = clean_step i.1 i.0 (first (a ++ b)) e in
    let v = clean_both a b w.1 in
    (ap (λ q. first_if q i.0 (first a)) w.0 ∙ v.0, v.1)

clean_each : {A : Type 0} (g : A → List Item) (xs : List A) → first (concat (map g xs)) ≡ none → Each (λ x. first (g x) ≡ none) xs
clean_each g [] e = tt
clean_each g (x ∷ xs) e = let w = clean_both (g x) (concat (map g xs)) e in (w.0, clean_each g xs w.1)

-- the names before others are seen
clean_names : (table visible : List ℕ) → Knows table visible → (ps qs : List (ℕ × ℕ)) → first (unseen visible (ps ++ qs)) ≡ none → Each (λ p. get_or table p.1 0 ≡ 0 → ⊥) ps
clean_names table visible knows [] qs e = tt
clean_names table visible knows (p ∷ ps) qs e =
    let w = clean_step (not (member p.1 visible)) p.0 (first (unseen visible (ps ++ qs))) e in
    (λ z. let q : true ≡ false = sym (eq-eqb (get_or table p.1 0) 0 z) ∙ knows p.1 ∙ w.0 in let y : ◌≡◌ {A = ℕ} 0 1 = cc in omega arith, clean_names table visible knows ps qs w.1)

-- of all equations
clean_equations : (table visible : List ℕ) → Knows table visible → (qs : List (ℕ × Equation)) → first (concat (map (equation_uses visible) qs)) ≡ none → Each (λ p. get_or table p.1 0 ≡ 0 → ⊥) (concat (map defined_by qs))
clean_equations table visible knows [] e = tt
clean_equations table visible knows (q ∷ qs) e =
    let w = clean_both (equation_uses visible q) (concat (map (equation_uses visible) qs)) e in
    each_join (λ p. get_or table p.1 0 ≡ 0 → ⊥) (defined_by q) (concat (map defined_by qs)) (clean_names table visible knows (defined_by q) (used (rhs_place q.0 q.1) q.1.rhs) w.0) (clean_equations table visible knows qs w.1)

abbrev none_defined : List Bool
none_defined = replicate 256 false

none_yet : (e : ℕ) → get_or none_defined e false ≡ false
none_yet e = by_cases (dec_lt e 256) (λ lt. get_or-replicate 256 e false false lt) (λ no. get_or-eq_default none_defined false {n = e} (omega (arith, length-replicate 256 false)))

-- ---- all nodes

module _ (names visible : List ℕ) (global : Global names) (knows : Knows names visible) where
  nodes_told : (ns : List Node) (at : ℕ) → Each (λ n. (length (variables n) ≤ 112) × Covered (length names) n) ns → first (concat (map (node_uses visible) (placed node_size at ns))) ≡ none
      → concat (map (node_again names) (placed node_size at ns)) ≡ concat (map (node_defines visible) (placed node_size at ns))
  nodes_told [] at ok e = refl
  nodes_told (n ∷ ns) at ok e =
      let w = clean_both (node_uses visible (at, n)) (concat (map (node_uses visible) (placed node_size (at + node_size n) ns))) e in
      let here : node_again names (at, n) ≡ node_defines visible (at, n) =
      again_told names visible global knows n ok.0.0 ok.0.1 none_defined (map name_of n.inputs ++ visible) (concat (map defined_by (placed_equations at n))) (omega (arith, length-replicate {A = ℕ} 256 0))
      (clean_equations (node_table names n) (variable_names n ++ visible) (node_knows names visible knows n ok.0.1) (placed_equations at n) w.0)
      (agrees_start names visible global knows n ok.0.0 ok.0.1 none_defined none_yet) in
      ap (λ l. l ++ concat (map (node_again names) (placed node_size (at + node_size n) ns))) here ∙ ap (λ l. node_defines visible (at, n) ++ l) (nodes_told ns (at + node_size n) ok.1 w.1)

each_of : {A : Type 0} (P : A → Type 0) (d : A) (xs : List A) → ((k : ℕ) → k < length xs → P (get_or xs k d)) → Each P xs
each_of P d [] h = tt
each_of P d (x ∷ xs) h = (h 0 (omega arith), each_of P d xs (λ k lt. h (suc k) (omega arith)))

-- what the nodes' tables tell is fault 8
pub nodes_defined : {s : List ℕ} {f : File} → FileStands s f → (names : List ℕ) → Global names → Knows names (constant_names f ++ variants f) → AllCovered (length names) f
    → fault7 f ≡ none → concat (map (node_again names) (placed_nodes f)) ≡ concat (map (node_defines (constant_names f ++ variants f)) (placed_nodes f))
unfolding fault7
nodes_defined {s} {f} st names global knows covered no7 =
    nodes_told names (constant_names f ++ variants f) global knows f.nodes (nodes_start f)
    (each_of (λ n. (length (variables n) ≤ 112) × Covered (length names) n) no_node f.nodes (λ k lt. (few_variables (node_at_lem st k lt), covered k lt)))
    (clean_both (constant_uses (variants f) (placed_constants f)) (concat (map (node_uses (constant_names f ++ variants f)) (placed_nodes f))) no7).1
