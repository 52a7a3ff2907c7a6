-- The nodes of a file and the whole file, by what the readers of their parts answer; and where each node was read.
use Prim.Native.Nat.{ℕ, ◌+◌, ◌-◌, ◌≤◌, ◌<◌}
use mathlib.Core.Bool.{Bool, true, false, cond}
use mathlib.Core.List.{List, [], map}
use mathlib.Core.Option.{some}
use mathlib.Core.Path.{◌≡◌, refl, sym, ap, subst, ◌∙◌}
use native.Mathlib.Omega.{arith}
use lib.ListN.{length, get_or, get_elem?}
use lib.Seq.{sets}
use lib.Dec.{ltb}
use borrow.Author.Tests.{lt-ltb, le-ltb, eq-eqb, ne_eqb}
use Rattle.std.specs.Prelude.{Ok, Err}
use Rattle.ol_spec.specs.Syntax.{Node, Constant, File}
use Rattle.ol_spec.specs.Places.{placed, enum_size, constant_size, node_size, placed_nodes, nodes_start}
use Rattle.ol_spec.specs.Limits.{base}
use Rattle.ol_spec.specs.Read.{Read, got, fault, then_read, give, many, count_r, section_r, constant_r, node_r, enum_r, sections_r, at_end}
use Rattle.ol_spec.specs.Answers.{fault_at}
use Rattle.ol_spec.specs.declared.Fault.{Fault}
use Rattle.ol_spec.specs.declared.Limits.{Limits}
use Rattle.ol_spec.proofs.Offsets.{steps, same_end, same_item}
use Rattle.ol_ir.specs.Nexts.{Counting, Next, counted_at, next_of, counted_of, list_of, after_format}
use Rattle.ol_ir.specs.Walks.{Loading, loaded_with, place_of, loaded_of, nodes_of, last_nodes, places_of, after_read, node_places, file_places, load_places}
use Rattle.ol_ir.proofs.Sizes.{takes_section, takes_constant, takes_node, takes_enum}
use Rattle.ol_ir.proofs.Trees.{then_got, then_fault}
use Rattle.ol_ir.proofs.Files.{many_long}
use Rattle.ol_ir.proofs.Items.{within, from_next, from_halt, from_items, from_no_items, places_placed, placed_read, section_at}
use Rattle.ol_ir.proofs.Bytes.{same_count, same_place}

-- ---- the nodes, to the end of the file

module _ (s : List ℕ) where
  end_at_lem : {A : Type 0} (x : Read A) (a : A) (n : ℕ) → then_read x (at_end s) ≡ got a n → x ≡ got a n
  unfolding then_read
  end_at_lem (got b p) a n e = go (ltb p (length s)) e
    where
      go : (t : Bool) → cond t (fault 2 p) (got b p) ≡ got a n → got b p ≡ got a n
      go true f = let z : ◌≡◌ {A = ℕ} 0 1 = cc in absurd (omega arith)
      go false f = f
  end_at_lem (fault m p) a n e = let z : ◌≡◌ {A = ℕ} 0 1 = cc in absurd (omega arith)

  module _ (l : Limits) (enums at : ℕ) where
    abbrev nodes_from : Read (List Node)
    nodes_from = section_r s 1 l.nodes (node_r s l enums) at

    -- a byte more, the end, or a fault
    pub last_more : {ns : List Node} {q : ℕ} → nodes_from ≡ got ns q → q < length s → Err (fault_at 2 q) ≡ nodes_of enums (last_nodes s l enums at)
    unfolding last_nodes nodes_of then_read
    last_more {ns} {q} e h = sym (rw (then_got nodes_from (at_end s) e, lt-ltb q (length s) h) refl)

    pub last_done : {ns : List Node} {q k : ℕ} → nodes_from ≡ got ns q → length s ≤ q → length ns ≡ k → Ok (loaded_with enums k) ≡ nodes_of enums (last_nodes s l enums at)
    unfolding last_nodes nodes_of then_read
    last_done {ns} {q} e h c = sym (rw (then_got nodes_from (at_end s) e, le-ltb q (length s) h) (ap (λ k. Ok (loaded_with enums k)) c))

    pub last_fault : {a b : ℕ} → nodes_from ≡ fault a b → Err (fault_at a b) ≡ nodes_of enums (last_nodes s l enums at)
    unfolding last_nodes nodes_of then_read
    last_fault e = sym (ap (λ x. nodes_of enums (then_read x (at_end s))) e)

    -- the section of the nodes, by what its count and its items answer
    module _ {x : Counting} {n p : ℕ} (e : x ≡ counted_of (count_r s 1 l.nodes at)) (g : x ≡ Ok (counted_at n p)) where
      counted_nodes : count_r s 1 l.nodes at ≡ got n p
      counted_nodes = from_items (count_r s 1 l.nodes at) n p (sym e ∙ g)

      pub nodes_read_lem : {y : Next} {q : ℕ} → y ≡ next_of (many n (node_r s l enums) p) → y ≡ Ok q → (ns : List Node) × (nodes_from ≡ got ns q) × (length ns ≡ n)
      nodes_read_lem {y} {q} i j =
          let w = from_next (many n (node_r s l enums) p) q (sym i ∙ j) in
          (w.0, then_got (count_r s 1 l.nodes at) _ counted_nodes ∙ w.1, many_long (node_r s l enums) n p w.0 q w.1)

      pub nodes_fault : {y : Next} {f : Fault} → y ≡ next_of (many n (node_r s l enums) p) → y ≡ Err f → nodes_from ≡ fault f.number f.place
      nodes_fault {y} {f} i j = then_got (count_r s 1 l.nodes at) _ counted_nodes ∙ from_halt (many n (node_r s l enums) p) f (sym i ∙ j)

      -- the table of places
      pub nodes_table : (ns : List Node) (end : ℕ) → last_nodes s l enums at ≡ got ns end → places_of n (node_r s l enums) p ≡ map place_of (placed node_size (at + 1) ns)
      unfolding last_nodes
      nodes_table ns end h =
          let a = section_at s 1 l.nodes (node_r s l enums) at ns end (end_at_lem nodes_from ns end h) in
          let c : ◌≡◌ {A = Read ℕ} (got n p) (got (length ns) (at + 1)) = sym counted_nodes ∙ a.counted in
          let u : n ≡ length ns = same_item c in
          let v : p ≡ at + 1 = same_end c in
          rw (u, v) (places_placed s node_size (node_r s l enums) (takes_node s l enums) (length ns) (at + 1) ns end a.items)

      pub all_placed : places_of n (node_r s l enums) p ≡ node_places s l enums at
      unfolding node_places after_read
      all_placed = sym (ap (λ r. after_read r (λ m q. places_of m (node_r s l enums) q)) counted_nodes)

    pub none_placed : {x : Counting} {f : Fault} → x ≡ counted_of (count_r s 1 l.nodes at) → x ≡ Err f → [] ≡ node_places s l enums at
    unfolding node_places after_read
    none_placed {f = f} e g = sym (ap (λ r. after_read r (λ m q. places_of m (node_r s l enums) q)) (from_no_items (count_r s 1 l.nodes at) f (sym e ∙ g)))

    pub no_nodes : {x : Counting} {f : Fault} → x ≡ counted_of (count_r s 1 l.nodes at) → x ≡ Err f → nodes_from ≡ fault f.number f.place
    unfolding then_read
    no_nodes {f = f} e g = ap (λ (v : Read ℕ). then_read v (λ n. many n (node_r s l enums))) (from_no_items (count_r s 1 l.nodes at) f (sym e ∙ g))

    -- a refusal was no reading
    pub not_nodes : {f : Fault} {t : Type 0} (ns : List Node) (end : ℕ) → Err f ≡ nodes_of enums (last_nodes s l enums at) → last_nodes s l enums at ≡ got ns end → t
    unfolding nodes_of
    not_nodes {f} ns end e g = let h : Err f ≡ Ok (loaded_with enums (length ns)) = e ∙ ap (nodes_of enums) g in let z : ◌≡◌ {A = ℕ} 0 1 = cc in absurd (omega arith)

-- ---- the whole file

from_list : {A : Type 0} (r : Read (List A)) (n q : ℕ) → list_of r ≡ Ok (counted_at n q) → (xs : List A) × (r ≡ got xs q) × (length xs ≡ n)
unfolding list_of
from_list (got xs p) n q e = let y : length xs ≡ n = same_count e in let z : p ≡ q = same_place e in (xs, ap (got xs) z, y)
from_list (fault a p) n q e = let z : ◌≡◌ {A = ℕ} 0 1 = cc in absurd (omega arith)

from_no_list : {A : Type 0} (r : Read (List A)) (f : Fault) → list_of r ≡ Err f → r ≡ fault f.number f.place
unfolding list_of
from_no_list (got a p) f e = let z : ◌≡◌ {A = ℕ} 0 1 = cc in absurd (omega arith)
from_no_list (fault n p) f e = let z : fault_at n p ≡ f = cc in ap (λ (v : Fault). fault v.number v.place) z

module _ (s : List ℕ) where
  -- a file whose nodes are read last
  abbrev file_of : List (List ℕ) → List Constant → List Node → File
  file_of es cs ns = record { format = get_or s 0 0; enums = es; constants = cs; nodes = ns }

  load_same : (es : List (List ℕ)) (cs : List Constant) (x : Read (List Node)) → loaded_of (then_read (then_read x (λ ns. give (file_of es cs ns))) (at_end s)) ≡ nodes_of (length es) (then_read x (at_end s))
  unfolding then_read loaded_of nodes_of
  load_same es cs (got ns p) = go (ltb p (length s))
    where
      go : (t : Bool) → loaded_of (cond t (fault 2 p) (got (file_of es cs ns) p)) ≡ nodes_of (length es) (cond t (fault 2 p) (got ns p))
      go true = refl
      go false = refl
  load_same es cs (fault n p) = refl

  load_nodes : (es : List (List ℕ)) (cs : List Constant) (x : Read (List Node)) (f : File) (end : ℕ) → then_read (then_read x (λ ns. give (file_of es cs ns))) (at_end s) ≡ got f end → (ns : List Node) × (then_read x (at_end s) ≡ got ns end) × (file_of es cs ns ≡ f)
  unfolding then_read
  load_nodes es cs (got ns p) f end e = go (ltb p (length s)) e
    where
      go : (t : Bool) → cond t (fault 2 p) (got (file_of es cs ns) p) ≡ got f end → (ms : List Node) × (cond t (fault 2 p) (got ns p) ≡ got ms end) × (file_of es cs ms ≡ f)
      go true h = let z : ◌≡◌ {A = ℕ} 0 1 = cc in absurd (omega arith)
      go false h = (ns, ap (got ns) (same_end h), same_item h)
  load_nodes es cs (fault n p) f end e = let z : ◌≡◌ {A = ℕ} 0 1 = cc in absurd (omega arith)

  module _ (l : Limits) where
    -- the enums and the constants were read
    record Front (n q : ℕ) : Type 0 where
      enums : List (List ℕ)
      constants : List Constant
      long : length enums ≡ n
      sections : sections_r s (get_or s 0 0) l 1 ≡ then_read (section_r s 1 l.nodes (node_r s l n) q) (λ ns. give (file_of enums constants ns))
      start : (ns : List Node) → nodes_start (file_of enums constants ns) ≡ q + 1

    module _ {x : Counting} {n p : ℕ} (e : x ≡ list_of (section_r s 0 l.enums (enum_r s l) 1)) (g : x ≡ Ok (counted_at n p)) where
      enums_read_lem : (es : List (List ℕ)) × (section_r s 0 l.enums (enum_r s l) 1 ≡ got es p) × (length es ≡ n)
      enums_read_lem = from_list (section_r s 0 l.enums (enum_r s l) 1) n p (sym e ∙ g)

      module _ {y : Next} (i : y ≡ next_of (section_r s 0 l.constants (constant_r s l n) p)) where
        front : {q : ℕ} → y ≡ Ok q → Front n q
        front {q} j =
            let a = enums_read_lem in
            let b = from_next (section_r s 0 l.constants (constant_r s l n) p) q (sym i ∙ j) in
            let c : section_r s 0 l.constants (constant_r s l (length a.0)) p ≡ got b.0 q = subst (λ m. section_r s 0 l.constants (constant_r s l m) p ≡ got b.0 q) (sym a.2) b.1 in
            let u = (takes_section s enum_size (enum_r s l) (takes_enum s l) 0 l.enums).is 1 a.0 p a.1 in
            let v = (takes_section s constant_size (constant_r s l n) (takes_constant s l n) 0 l.constants).is p b.0 q b.1 in
            record {
              enums = a.0;
              constants = b.0;
              long = a.2;
              sections =
                  then_got (section_r s 0 l.enums (enum_r s l) 1) _ a.1 ∙ (then_got (section_r s 0 l.constants (constant_r s l (length a.0)) p) _ c
                  ∙ ap (λ m. then_read (section_r s 1 l.nodes (node_r s l m) q) (λ ns. give (file_of a.0 b.0 ns))) a.2);
              start = λ ns. omega (arith, u.ends, u.holds, v.ends, v.holds);
            }

        -- the nodes decide
        pub load_is : {z : Loading} {q : ℕ} → y ≡ Ok q → z ≡ nodes_of n (last_nodes s l n q) → z ≡ loaded_of (after_format s l)
        unfolding after_format last_nodes
        load_is {z} {q} j h =
            let f = front j in
            h ∙ sym (ap (λ r. loaded_of (then_read r (at_end s))) f.sections ∙ (load_same f.enums f.constants (section_r s 1 l.nodes (node_r s l n) q) ∙ ap (λ m. nodes_of m (then_read (section_r s 1 l.nodes (node_r s l n) q) (at_end s))) f.long))

        pub load_table : {t w : List ℕ} {q : ℕ} → y ≡ Ok q → ((ns : List Node) (end : ℕ) → last_nodes s l n q ≡ got ns end → t ≡ sets w 0 (map place_of (placed node_size (q + 1) ns))) → (f : File) (end : ℕ) → after_format s l ≡ got f end → t ≡ sets w 0 (map place_of (placed_nodes f))
        unfolding after_format last_nodes
        load_table {t} {w} {q} j h f end r =
            let d = front j in
            let a = load_nodes d.enums d.constants (section_r s 1 l.nodes (node_r s l n) q) f end (sym (ap (λ r. then_read r (at_end s)) d.sections) ∙ r) in
            h a.0 end a.1 ∙ (ap (λ m. sets w 0 (map place_of (placed node_size m a.0))) (sym (d.start a.0)) ∙ ap (λ (v : File). sets w 0 (map place_of (placed_nodes v))) a.2)

        places_here : (r : Read (List Constant)) → section_r s 0 l.constants (constant_r s l n) p ≡ r → file_places s l ≡ after_read r (λ cs q. node_places s l n q)
        unfolding file_places after_read
        places_here r h =
            let a = enums_read_lem in
            ap (λ v. after_read v (λ es p. after_read (section_r s 0 l.constants (constant_r s l (length es)) p) (λ cs q. node_places s l (length es) q))) a.1
            ∙ (ap (λ m. after_read (section_r s 0 l.constants (constant_r s l m) p) (λ cs q. node_places s l m q)) a.2 ∙ ap (λ v. after_read v (λ cs q. node_places s l n q)) h)

        pub load_places_lem : {q : ℕ} → y ≡ Ok q → node_places s l n q ≡ file_places s l
        unfolding after_read
        load_places_lem {q} j = let b = from_next (section_r s 0 l.constants (constant_r s l n) p) q (sym i ∙ j) in sym (places_here (got b.0 q) b.1)

        pub fault_places : {f : Fault} → y ≡ Err f → [] ≡ file_places s l
        unfolding after_read
        fault_places {f} j = sym (places_here (fault f.number f.place) (from_halt (section_r s 0 l.constants (constant_r s l n) p) f (sym i ∙ j)))

        pub load_fault_lem : {f : Fault} → y ≡ Err f → Err f ≡ loaded_of (after_format s l)
        unfolding after_format loaded_of
        load_fault_lem {f} j =
            let a = enums_read_lem in
            let b = from_halt (section_r s 0 l.constants (constant_r s l n) p) f (sym i ∙ j) in
            let c : section_r s 0 l.constants (constant_r s l (length a.0)) p ≡ fault f.number f.place = subst (λ m. section_r s 0 l.constants (constant_r s l m) p ≡ fault f.number f.place) (sym a.2) b in
            sym (ap loaded_of (then_fault (sections_r s (get_or s 0 0) l 1) _ (then_got (section_r s 0 l.enums (enum_r s l) 1) _ a.1 ∙ then_fault (section_r s 0 l.constants (constant_r s l (length a.0)) p) _ c)))

    pub none_places : {x : Counting} {f : Fault} → x ≡ list_of (section_r s 0 l.enums (enum_r s l) 1) → x ≡ Err f → [] ≡ file_places s l
    unfolding file_places after_read
    none_places {f = f} e g =
        sym (ap (λ v. after_read v (λ es p. after_read (section_r s 0 l.constants (constant_r s l (length es)) p) (λ cs q. node_places s l (length es) q))) (from_no_list (section_r s 0 l.enums (enum_r s l) 1) f (sym e ∙ g)))

    pub load_none : {x : Counting} {f : Fault} → x ≡ list_of (section_r s 0 l.enums (enum_r s l) 1) → x ≡ Err f → Err f ≡ loaded_of (after_format s l)
    unfolding after_format loaded_of
    load_none {f = f} e g =
        sym (ap loaded_of (then_fault (sections_r s (get_or s 0 0) l 1) _ (then_fault (section_r s 0 l.enums (enum_r s l) 1) _ (from_no_list (section_r s 0 l.enums (enum_r s l) 1) f (sym e ∙ g)))))

  -- a refusal was no reading
  pub not_loaded : {f : Fault} {t : Type 0} {r : Read File} (g : File) (end : ℕ) → Err f ≡ loaded_of r → r ≡ got g end → t
  unfolding loaded_of
  not_loaded {f} g end e h = let i : Err f ≡ Ok (loaded_with (length g.enums) (length g.nodes)) = e ∙ ap loaded_of h in let z : ◌≡◌ {A = ℕ} 0 1 = cc in absurd (omega arith)

-- ---- the places of a file's nodes, by its first byte

module _ (s : List ℕ) where
  pub places_long : 32768 < length s → [] ≡ load_places s
  unfolding load_places
  places_long h = sym (rw (lt-ltb 32768 (length s) h) refl)

  module _ (short : length s ≤ 32768) where
    pub places_empty : length s ≡ 0 → [] ≡ load_places s
    unfolding load_places
    places_empty h = sym (rw (le-ltb 32768 (length s) short, eq-eqb (length s) 0 h) refl)

    module _ (some : length s ≡ 0 → ⊥) where
      pub places_known : get_or s 0 0 ≡ 1 → file_places s base ≡ load_places s
      unfolding load_places
      places_known h = sym (rw (le-ltb 32768 (length s) short, ne_eqb (length s) 0 some, eq-eqb (get_or s 0 0) 1 h) refl)

      pub places_unknown : (get_or s 0 0 ≡ 1 → ⊥) → [] ≡ load_places s
      unfolding load_places
      places_unknown h = sym (rw (le-ltb 32768 (length s) short, ne_eqb (length s) 0 some, ne_eqb (get_or s 0 0) 1 h) refl)

-- ---- each node was read where it stands

module _ (s : List ℕ) (l : Limits) (f : File) (end : ℕ) (r : after_format s l ≡ got f end) where
  abbrev Holds : File → Type 0
  Holds g = (section_r s 1 l.nodes (node_r s l (length g.enums)) (nodes_start g - 1) ≡ got g.nodes end) × (0 < nodes_start g)

  nodes_at : Holds f
  unfolding after_format
  nodes_at =
      let x = end_at_lem s (sections_r s (get_or s 0 0) l 1) f end r in
      let a = steps (section_r s 0 l.enums (enum_r s l) 1) _ f end x in
      let b = steps (section_r s 0 l.constants (constant_r s l (length a.value)) a.at) _ f end a.rest in
      let c = steps (section_r s 1 l.nodes (node_r s l (length a.value)) b.at) _ f end b.rest in
      let u = (takes_section s enum_size (enum_r s l) (takes_enum s l) 0 l.enums).is 1 a.value a.at a.first in
      let v = (takes_section s constant_size (constant_r s l (length a.value)) (takes_constant s l (length a.value)) 0 l.constants).is a.at b.value b.at b.first in
      let p : b.at ≡ nodes_start (file_of s a.value b.value c.value) - 1 = omega (arith, u.ends, u.holds, v.ends, v.holds) in
      let h : 0 < nodes_start (file_of s a.value b.value c.value) = omega arith in
      subst Holds (same_item c.rest) (subst (λ m. section_r s 1 l.nodes (node_r s l (length a.value)) m ≡ got c.value end) p (c.first ∙ ap (got c.value) (same_end c.rest)), h)

  pub node_read : (k p : ℕ) (n : Node) → get_elem? (placed_nodes f) k ≡ some (p, n) → (m : ℕ) × (node_r s l (length f.enums) p ≡ got n m)
  node_read k p n e =
      let w = nodes_at in
      let a = section_at s 1 l.nodes (node_r s l (length f.enums)) (nodes_start f - 1) f.nodes end w.0 in
      let one : nodes_start f - 1 + 1 ≡ nodes_start f = omega (arith, w.1) in
      placed_read s node_size (node_r s l (length f.enums)) (takes_node s l (length f.enums)) (length f.nodes) (nodes_start f) f.nodes end (subst (λ m. many (length f.nodes) (node_r s l (length f.enums)) m ≡ got f.nodes end) one a.items) k p n e

  pub few_nodes_lem : length f.nodes ≤ l.nodes
  few_nodes_lem =
      within s 1 l.nodes (nodes_start f - 1) (length f.nodes) (nodes_start f - 1 + 1)
      (section_at s 1 l.nodes (node_r s l (length f.enums)) (nodes_start f - 1) f.nodes end nodes_at.0).counted
