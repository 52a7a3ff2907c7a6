-- A file that reads without fault has its items where the walks over its tree place them.
use Prim.Native.Nat.{ℕ, zero, suc, ◌+◌, ◌≤◌, ◌<◌}
use mathlib.Core.Bool.{Bool, true, false, ◌&&◌, cond}
use mathlib.Core.Option.{none, some}
use mathlib.Core.List.{List, [], ◌∷◌, ◌++◌, map, append-nil}
use mathlib.Core.Path.{◌≡◌, sym, ap, subst, ◌∙◌}
use native.Mathlib.Omega.{arith}
use native.Mathlib.Numerals.{add-one}
use lib.ListN.{length, get_or, drop, take, length-append}
use lib.Seq.{drop-cons, take_all}
use lib.Dec.{T, leb, ltb, eqb, leb→le, lt→ltb}
use Rattle.ol_spec.specs.Lists.{maybe, sum, concat, all_of}
use Rattle.ol_spec.specs.Syntax.{Expr, nil, cons, Variable, Equation, Node, Constant, File, no_node}
use Rattle.ol_spec.specs.Places.{section_size, enum_size, constant_size, node_size, constants_start, nodes_start}
use Rattle.ol_spec.specs.Places.{placed, placed_nodes}
use Rattle.ol_spec.specs.Encode.{kind_code, name_bytes, expr_bytes, section_bytes, variable_bytes, equation_bytes, constant_bytes, node_bytes, encode}
use Rattle.ol_spec.specs.Limits.{base, relay_loader}
use Rattle.ol_spec.specs.Demand3.{Bytes}
use Rattle.ol_spec.specs.Within.{byte_fits, count_fits, section_fits, name_fits, var_ty_fits, expr_fits, root_fits, variable_fits, equation_fits, constant_fits, node_fits, enum_fits, sections_fit, within}
use Rattle.ol_spec.proofs.Tests.{T_and, and_t}
use Rattle.ol_spec.proofs.RoundTrip.{encode_read}
use Rattle.ol_spec.proofs.RoundTrip.Parts.{Here, here_front, here_back, here_self, here_inside}
use Rattle.ol_spec.proofs.RoundTrip.Items.{names_size, section_size_lem, constant_size_lem, node_size_lem}
use Rattle.ol_spec.proofs.RoundTrip.Placed.{node_here, variable_here, constant_here, equation_here}
use Rattle.ol_tables.specs.At.{file_at}
use Rattle.ol_tables.specs.Tables.{place_of, node_of}
use Rattle.ol_tables.specs.Heads.{Standing}
use Rattle.ol_tables.specs.Stands.{Listed, VariableStands, ConstantStands, EquationStands, NodeStands, FileStands, FileReads}
use Rattle.ol_tables.proofs.HeadLaws.{here_first, here_name, here_var_ty}

-- the same bytes at an offset that is equal
pub moved : {s w : List ℕ} {at at' : ℕ} → at ≡ at' → Here s at w → Here s at' w
moved {s} {w} e h = subst (λ n. Here s n w) e h

-- ---- a section: its count, and its items behind it

module _ {A : Type 0} (bytes : A → List ℕ) (fits : A → Bool) {s : List ℕ} {at : ℕ} where
  section_count : (xs : List A) → Here s at (section_bytes bytes xs) → get_or s at 0 ≡ length xs
  section_count xs h = here_first (length xs) _ h

  section_listed : (lo hi : ℕ) (xs : List A) → T (section_fits lo hi fits xs) → Here s at (section_bytes bytes xs) → Listed bytes fits s (at + 1) xs
  section_listed lo hi xs t h = record { here = here_back (length xs ∷ []) _ h; fit = (T_and (count_fits lo hi (length xs)) _ t).1 }

pub section_few : {A : Type 0} (fits : A → Bool) (lo hi : ℕ) (xs : List A) → T (section_fits lo hi fits xs) → (lo ≤ length xs) × (length xs ≤ hi)
section_few fits lo hi xs t =
    let w = T_and (byte_fits (length xs)) _ (T_and (count_fits lo hi (length xs)) _ t).0 in
    let v = T_and (leb lo (length xs)) _ w.1 in
    (leb→le _ _ v.0, leb→le _ _ v.1)

-- ---- items

pub variable_stands : {s : List ℕ} {enums at : ℕ} (v : Variable) → T (variable_fits base enums v) → Here s at (variable_bytes v) → VariableStands s enums at v
variable_stands {s} {enums} {at} v t h =
    let w = T_and (name_fits v.name) _ t in
    let p = variable_here at v h in
    record { name = here_name v.name w.0 p.0; ty = here_var_ty enums v.ty w.1 p.1 }

root_stands : {s : List ℕ} {enums at : ℕ} (e : Expr) → T (root_fits base enums e) → Here s at (expr_bytes e) → Standing s enums at (cons e nil)
root_stands {s} {enums} {at} e t h =
    record { here = subst (Here s at) (sym (append-nil (expr_bytes e))) h; fit = and_t (expr_fits base enums e) true (T_and (expr_fits base enums e) _ t).0 tt }

pub constant_stands : {s : List ℕ} {enums at : ℕ} (c : Constant) → T (constant_fits base enums c) → Here s at (constant_bytes c) → ConstantStands s enums at c
constant_stands {s} {enums} {at} c t h =
    let w = T_and (name_fits c.name) _ t in
    let v = T_and (var_ty_fits base enums c.ty) _ w.1 in
    let p = constant_here at c h in
    record { name = here_name c.name w.0 p.0; ty = here_var_ty enums c.ty v.0 p.1; value = root_stands c.value v.1 p.2 }

pub equation_stands : {s : List ℕ} {enums at : ℕ} (q : Equation) → T (equation_fits base enums q) → Here s at (equation_bytes q) → EquationStands s enums at q
equation_stands {s} {enums} {at} q t h =
    let w = T_and (section_fits 1 16 name_fits q.names) _ t in
    let p = equation_here at q h in
    record {
      count = section_count name_bytes name_fits q.names p.0;
      names = section_listed name_bytes name_fits 1 16 q.names w.0 p.0;
      rhs = root_stands q.rhs w.1 p.1;
    }

pub node_stands : {s : List ℕ} {enums at : ℕ} (n : Node) → T (node_fits base enums n) → Here s at (node_bytes n) → NodeStands s enums at n
node_stands {s} {enums} {at} n t h =
    let ok = variable_fits base enums in
    let good = equation_fits base enums in
    let i = T_and (section_fits 0 32 ok n.inputs) _ t in
    let o = T_and (section_fits 1 16 ok n.outputs) _ i.1 in
    let l = T_and (section_fits 0 64 ok n.locals) _ o.1 in
    let p = node_here at n h in
    record {
      inside = omega (arith, here_inside p.kind (omega arith));
      kind = here_first (kind_code n.kind) [] p.kind;
      input_count = section_count variable_bytes ok n.inputs p.inputs;
      inputs = subst (λ a. Listed variable_bytes ok s a n.inputs) (omega arith) (section_listed variable_bytes ok 0 32 n.inputs i.0 p.inputs);
      output_count = section_count variable_bytes ok n.outputs p.outputs;
      outputs = section_listed variable_bytes ok 1 16 n.outputs o.0 p.outputs;
      local_count = section_count variable_bytes ok n.locals p.locals;
      locals = section_listed variable_bytes ok 0 64 n.locals l.0 p.locals;
      equation_count = section_count equation_bytes good n.equations p.equations;
      equations = section_listed equation_bytes good 0 80 n.equations l.1 p.equations;
      few_inputs = (section_few ok 0 32 n.inputs i.0).1;
      few_outputs = (section_few ok 1 16 n.outputs o.0).1;
      few_locals = (section_few ok 0 64 n.locals l.0).1;
      few_equations = (section_few good 0 80 n.equations l.1).1;
    }

-- ---- the file

-- what the relay's loader asks of a tree
loaded : (f : File) → T (within relay_loader f) → T (sections_fit f base) × (length (encode f) ≤ 32768)
unfolding within
loaded f t =
    let a = T_and (byte_fits f.format) _ t in
    go (eqb f.format 1) a.1
  where
    go : (b : Bool) → T (maybe false (sections_fit f) (cond b (some base) none) && leb (length (encode f)) 32768) → T (sections_fit f base) × (length (encode f) ≤ 32768)
    go true t = let w = T_and (sections_fit f base) _ t in (w.0, leb→le _ _ w.1)
    go false t = absurd t

stands : (f : File) → T (within relay_loader f) → FileStands (encode f) f
unfolding encode
stands f t =
    let m = length f.enums in
    let ok = loaded f t in
    let e = T_and (section_fits 0 16 (enum_fits base) f.enums) _ ok.0 in
    let c = T_and (section_fits 0 64 (constant_fits base m) f.constants) _ e.1 in
    let eb = section_bytes (section_bytes name_bytes) f.enums in
    let cb = section_bytes constant_bytes f.constants in
    let nb = section_bytes node_bytes f.nodes in
    let b = f.format ∷ [] in
    let h = here_self (encode f) in
    let bec = here_front (b ++ eb ++ cb) nb h in
    let be = here_front (b ++ eb) cb bec in
    let e-size = section_size_lem (section_bytes name_bytes) enum_size names_size f.enums in
    let c-size = section_size_lem constant_bytes constant_size constant_size_lem f.constants in
    let at-e = here_back b eb be in
    let at_c : Here (encode f) (1 + section_size enum_size f.enums) cb = moved (omega arith) (here_back (b ++ eb) cb bec) in
    let at_n : Here (encode f) (constants_start f + sum (map constant_size f.constants)) nb = moved (omega (arith, length-append eb cb)) (here_back (b ++ eb ++ cb) nb h) in
    record {
      short = ok.1;
      inside = omega (arith, here_inside at_n (omega arith));
      enum_count = section_count (section_bytes name_bytes) (enum_fits base) f.enums at-e;
      enums = section_listed (section_bytes name_bytes) (enum_fits base) 0 16 f.enums e.0 at-e;
      constant_count = section_count constant_bytes (constant_fits base m) f.constants at_c;
      constants = section_listed constant_bytes (constant_fits base m) 0 64 f.constants c.0 at_c;
      node_count = section_count node_bytes (node_fits base m) f.nodes at_n;
      nodes = section_listed node_bytes (node_fits base m) 1 32 f.nodes c.1 at_n;
      few_enums = (section_few (enum_fits base) 0 16 f.enums e.0).1;
      few_constants = (section_few (constant_fits base m) 0 64 f.constants c.0).1;
      few_nodes = (section_few (node_fits base m) 1 32 f.nodes c.1).1;
      some_node = (section_few (node_fits base m) 1 32 f.nodes c.1).0;
    }

-- a file that reads without fault has its items at their places
pub file_stands : {s : List ℕ} → Bytes s → FileReads s → FileStands s (file_at s)
file_stands {s} bytes r =
    let w = encode_read relay_loader s (file_at s) r.end bytes r.is in
    subst (λ b. FileStands b (file_at s)) w.0 (stands (file_at s) w.2)

-- a list of numbers that are bytes
pub bytes_of_lem : (s : List ℕ) → ((i : ℕ) → get_or s i 0 < 256) → Bytes s
bytes_of_lem [] h = tt
bytes_of_lem (x ∷ s) h = and_t (ltb x 256) _ (lt→ltb x 256 (h 0)) (bytes_of_lem s (λ i. h (suc i)))

-- ---- a list of items, passed one by one

-- the items from number i on stand at `next`
pub record Passing {A : Type 0} (bytes : A → List ℕ) (fits : A → Bool) (size : A → ℕ) (s : List ℕ) (at : ℕ) (xs : List A) (i next : ℕ) : Type 0 where
  pub left : Listed bytes fits s next (drop i xs)
  pub place : next ≡ at + sum (map size (take i xs))

-- item number i, which is x, stands at `next`
pub record Item {A : Type 0} (bytes : A → List ℕ) (fits : A → Bool) (size : A → ℕ) (s : List ℕ) (at : ℕ) (xs : List A) (i next : ℕ) (x : A) : Type 0 where
  pub here : Here s next (bytes x)
  pub fit : T (fits x)
  pub on : Passing bytes fits size s at xs (i + 1) (next + size x)

pub passing_start : {A : Type 0} (bytes : A → List ℕ) (fits : A → Bool) (size : A → ℕ) {s : List ℕ} {at : ℕ} {xs : List A} → Listed bytes fits s at xs → Passing bytes fits size s at xs 0 at
passing_start bytes fits size h = record { left = h; place = omega arith }

sum_take : {A : Type 0} (size : A → ℕ) (d : A) (xs : List A) (i : ℕ) → i < length xs → sum (map size (take (suc i) xs)) ≡ sum (map size (take i xs)) + size (get_or xs i d)
sum_take size d [] i h = absurd (omega arith)
sum_take size d (x ∷ xs) zero h = omega arith
sum_take size d (x ∷ xs) (suc i) h = omega (arith, sum_take size d xs i (omega arith))

module _ {A : Type 0} {bytes : A → List ℕ} {fits : A → Bool} {size : A → ℕ} {s : List ℕ} {at : ℕ} {xs : List A} {i next : ℕ} where
  pub passing_item : ((x : A) → length (bytes x) ≡ size x) → (d : A) → Passing bytes fits size s at xs i next → i < length xs → Item bytes fits size s at xs i next (get_or xs i d)
  passing_item each d p h =
      let x = get_or xs i d in
      let e = drop-cons xs i d h in
      let here : Here s next (bytes x ++ concat (map bytes (drop (suc i) xs))) = subst (λ l. Here s next (concat (map bytes l))) e p.left.here in
      let fit : T (fits x && all_of fits (drop (suc i) xs)) = subst (λ l. T (all_of fits l)) e p.left.fit in
      let w = T_and (fits x) _ fit in
      record {
        here = here_front (bytes x) _ here;
        fit = w.0;
        on = record {
          left = rw (add-one i) (record { here = moved (ap (λ n. next + n) (each x)) (here_back (bytes x) _ here); fit = w.1 });
          place = rw (add-one i) (omega (arith, p.place, sum_take size d xs i h));
        };
      }

  -- behind the last item
  pub passing_end : Passing bytes fits size s at xs i next → length xs ≤ i → next ≡ at + sum (map size xs)
  passing_end p h = p.place ∙ ap (λ l. at + sum (map size l)) (take_all i xs h)

-- any item of the list
pub passing_nth : {A : Type 0} {bytes : A → List ℕ} {fits : A → Bool} {size : A → ℕ} {s : List ℕ} {at : ℕ} {xs : List A} → ((x : A) → length (bytes x) ≡ size x) → A → Listed bytes fits s at xs
    → (i : ℕ) → i ≤ length xs → Passing bytes fits size s at xs i (at + sum (map size (take i xs)))
passing_nth {size = size} {at = at} each d h zero le = let z : at ≡ at + 0 = omega arith in subst (Passing _ _ size _ at _ 0) z (passing_start _ _ size h)
passing_nth {bytes = bytes} {fits = fits} {size = size} {s = s} {at = at} {xs = xs} each d h (suc i) le =
    let it = passing_item each d (passing_nth {bytes = bytes} {fits = fits} {size = size} {s = s} {at = at} {xs = xs} each d h i (omega arith)) (omega arith) in
    let e : at + sum (map size (take i xs)) + size (get_or xs i d) ≡ at + sum (map size (take (suc i) xs)) = omega (arith, sum_take size d xs i (omega arith)) in
    subst (λ j. Passing bytes fits size s at xs j (at + sum (map size (take (suc i) xs)))) (add-one i) (subst (Passing bytes fits size s at xs (i + 1)) e it.on)

-- the place of item number i
pub placed_at : {A : Type 0} (size : A → ℕ) (xs : List A) (at i : ℕ) → i < length xs → get_or (map (λ p. p.0) (placed size at xs)) i 0 ≡ at + sum (map size (take i xs))
placed_at size [] at i h = absurd (omega arith)
placed_at size (x ∷ xs) at zero h = omega arith
placed_at size (x ∷ xs) at (suc i) h = omega (arith, placed_at size xs (at + size x) i (omega arith))

-- a node of the file stands at its place
pub node_at_lem : {s : List ℕ} {f : File} → FileStands s f → (k : ℕ) → k < length f.nodes → NodeStands s (length f.enums) (place_of (placed_nodes f) k) (node_of f k)
node_at_lem {s} {f} st k lt =
    let it = passing_item node_size_lem no_node (passing_nth node_size_lem no_node st.nodes k (omega arith)) lt in
    let n = node_of f k in
    subst (λ a. NodeStands s (length f.enums) a n) (sym (placed_at node_size f.nodes (nodes_start f) k lt)) (node_stands n it.fit it.here)
