-- What a file without 6 to 10, with its tables, tells of its constants and equations.
use Prim.Native.Nat.{ℕ, zero, suc, ◌+◌, ◌*◌, ◌≤◌, ◌<◌}
use mathlib.Core.Bool.{Bool, true, false, ◌||◌, cond}
use mathlib.Core.List.Memᴰ.{append_cases as in-append}
use mathlib.Core.List.Memᴰ.{append_left as in_left}
use mathlib.Core.List.Memᴰ.{append_right as in_right}
use mathlib.Core.List.{List, [], ◌∷◌, ◌++◌, map, append-nil}
use mathlib.Core.Logic.{⊎_elim, by_cases}
use mathlib.Core.Option.{Option, none, some}
use mathlib.Core.Path.{◌≡◌, refl, sym, ap, subst, ◌∙◌}
use native.Mathlib.Omega.{arith}
use native.Mathlib.Decide.{ℕ_discrete}
use lib.ListN.{length, get_or, length-map}
use lib.Dec.{T, eqb, leb, leb→le}
use borrow.Author.Tests.{le-ltb}
use Rattle.ol_theory.specs.Member.{◌∈◌}
use Rattle.ol_spec.specs.Lists.{or_else, concat, all_of, position, position_if, member}
use Rattle.ol_spec.specs.Syntax.{Expr, bool_lit, nil, cons, count, Equation, Node, Constant, File, Variable, scalar, bool, length_in, variables, variable_names, name_of, constant_name, no_node, tuple, rhs_of}
use Rattle.ol_spec.specs.Limits.{base}
use Rattle.ol_spec.specs.Places.{placed, equation_size, constant_size, node_size, nodes_start, constants_start, equations_start, placed_constants, placed_nodes, placed_equations, placed_names, rhs_place, collect, collect_all}
use Rattle.ol_spec.specs.Shapes.{Sized, add_sized, arrays_in, constant_arrays, length_for}
use Rattle.ol_spec.specs.Step.{no_equation}
use Rattle.ol_spec.specs.Within.{byte_fits, count_fits, section_fits, name_fits, var_ty_fits, levels, expr_fits, variable_fits, equation_fits, constant_fits, node_fits}
use Rattle.ol_spec.specs.Demand3.{Bytes}
use Rattle.ol_spec.specs.Admission.{Item, numbered, constant_names, used, value_place, uses_where, bad_call, bad_iterator, in_constant, in_equation, node_calls, arity, fault9}
use Rattle.ol_spec.proofs.Tests.{T_and, member_in, in_member}
use Rattle.ol_spec.proofs.Lists.{All, all_at}
use Rattle.ol_spec.proofs.Slots.{no_length}
use Rattle.ol_spec.proofs.Admits.{Clean, first_clean, clean_parts, clean_each}
use Rattle.ol_spec.proofs.MainFacts.{distinct_names, variable_other, fresh_out, names_seen, names_fresh, names_of, seen_by, taken_in, Shaped, shapes, shaped_arity}
use Rattle.ol_spec.proofs.MainSystem.{get_in}
use Rattle.ol_spec.proofs.RoundTrip.Items.{equation_size_lem, constant_size_lem}
use Rattle.ol_tables.specs.At.{file_at}
use Rattle.ol_tables.specs.Heads.{code_of}
use Rattle.ol_tables.specs.Stands.{FileStands, EquationStands, ConstantStands, NodeStands}
use Rattle.ol_tables.specs.Tables.{Each, Sound, node_of, place_of, var_ty_of, var_ty_at, slot_by, lengths_in, equation_place}
use Rattle.ol_tables.proofs.Cells.{length_own, constant_ty}
use Rattle.ol_tables.proofs.HeadsFile.{file_stands, passing_nth, passing_item, placed_at, equation_stands, constant_stands, section_few}
use Rattle.ol_shapes.specs.Codes.{ArrayFits}
use Rattle.ol_shapes.specs.Sits.{HasLength, long_in, Scoped, Sits}
use Rattle.ol_shapes.specs.Laid.{Laid, Defined, NamesTold, EquationSits}
use Rattle.ol_shapes.proofs.Shaping.{VariableFits, type_fits, node_fits_lem, scoped_node, call_low}
use Rattle.ol_shapes.proofs.Codes.{only_call, only_tuple}
use Rattle.ol_shapes.proofs.Sitting.{sits_inside}
use Rattle.ol_shapes.proofs.Naming.{locals_of, one_of}

-- ---- lists with places

clean_sound : (is : List Item) → Clean is → Each Sound is
clean_sound [] c = tt
clean_sound (i ∷ is) c = (c.0, clean_sound is c.1)

module _ {A : Type 0} (size : A → ℕ) where
  each_placed : (P : ℕ × A → Type 0) (d : A) (at : ℕ) (xs : List A) (i : ℕ) → i < length xs → Each P (placed size at xs) → P (get_or (map (λ p. p.0) (placed size at xs)) i 0, get_or xs i d)
  each_placed P d at [] i lt h = absurd (omega arith)
  each_placed P d at (x ∷ xs) zero lt h = h.0
  each_placed P d at (x ∷ xs) (suc i) lt h = each_placed P d (at + size x) xs i (omega arith) h.1

  all_placed : (P : ℕ × A → Type 0) (d : A) (at : ℕ) (xs : List A) (i : ℕ) → i < length xs → All P (placed size at xs) → P (get_or (map (λ p. p.0) (placed size at xs)) i 0, get_or xs i d)
  all_placed P d at [] i lt h = absurd (omega arith)
  all_placed P d at (x ∷ xs) zero lt h = h.0
  all_placed P d at (x ∷ xs) (suc i) lt h = all_placed P d (at + size x) xs i (omega arith) h.1

  all_numbered : (P : ℕ × (ℕ × A) → Type 0) (d : A) (first at : ℕ) (xs : List A) → All P (numbered first (placed size at xs)) → (i j : ℕ) → j ≡ first + i → i < length xs
      → P (j, (get_or (map (λ p. p.0) (placed size at xs)) i 0, get_or xs i d))
  all_numbered P d first at [] h i j e lt = absurd (omega arith)
  all_numbered P d first at (x ∷ xs) h zero j e lt = let z : j ≡ first = omega arith in subst (λ y. P (y, (at, x))) (sym z) h.0
  all_numbered P d first at (x ∷ xs) h (suc i) j e lt = all_numbered P d (suc first) (at + size x) xs h.1 i j (omega arith) (omega arith)

  -- item number i with its place
  pub placed_pair : (d : ℕ × A) (at : ℕ) (xs : List A) (i : ℕ) → i < length xs → get_or (placed size at xs) i d ≡ (get_or (map (λ p. p.0) (placed size at xs)) i 0, get_or xs i d.1)
  placed_pair d at [] i lt = absurd (omega arith)
  placed_pair d at (x ∷ xs) zero lt = refl
  placed_pair d at (x ∷ xs) (suc i) lt = placed_pair d (at + size x) xs i (omega arith)

  pub placed_many : (at : ℕ) (xs : List A) → length (placed size at xs) ≡ length xs
  placed_many at [] = refl
  placed_many at (x ∷ xs) = ap suc (placed_many (at + size x) xs)

-- names stand two by two
names_at : (at : ℕ) (xs : List ℕ) (i : ℕ) → i < length xs → get_or (map (λ p. p.0) (placed_names at xs)) i 0 ≡ at + 2 * i
names_at at [] i h = absurd (omega arith)
names_at at (x ∷ xs) zero h = omega arith
names_at at (x ∷ xs) (suc i) h = omega (arith, names_at (at + 2) xs i (omega arith))

-- ---- the lengths of arrays

or_fits : (a b : Option ℕ) → ArrayFits a → ArrayFits b → ArrayFits (or_else a b)
or_fits none b h k = k
or_fits (some n) b h k = h

found_fits : (x y : ℕ) (o : Option ℕ) (rest : List Sized) → ArrayFits o → ArrayFits (length_for x rest) → ArrayFits (length_for x (add_sized y o rest))
found_fits x y none rest h k = k
found_fits x y (some n) rest h k = go (eqb x y)
  where
    go : (b : Bool) → ArrayFits (cond b (some n) (length_for x rest))
    go true = h
    go false = k

variable_lengths : (x : ℕ) (vs : List Variable) → Each VariableFits vs → ArrayFits (length_for x (arrays_in vs))
variable_lengths x [] h = tt
variable_lengths x (v ∷ vs) h = found_fits x v.name (length_in v.ty) (arrays_in vs) h.0 (variable_lengths x vs h.1)

constant_lengths : (enums x : ℕ) (cs : List Constant) → T (all_of (constant_fits base enums) cs) → ArrayFits (length_for x (constant_arrays cs))
constant_lengths enums x [] t = tt
constant_lengths enums x (c ∷ cs) t =
    let w = T_and (constant_fits base enums c) _ t in
    found_fits x c.name (length_in c.ty) (constant_arrays cs) (type_fits enums c.ty (T_and (var_ty_fits base enums c.ty) _ (T_and (name_fits c.name) _ w.0).1).0) (constant_lengths enums x cs w.1)

-- ---- a name's variable

in_position : (x : ℕ) (ns : List ℕ) → x ∈ ns → (j : ℕ) × (position x ns ≡ some j) × (j < length ns)
in_position x ns m = go ns (in_member x ns m)
  where
    go : (ns : List ℕ) → T (member x ns) → (j : ℕ) × (position x ns ≡ some j) × (j < length ns)
    go [] t = absurd t
    go (n ∷ ns) t = step (eqb x n) refl t (go ns)
      where
        step : (b : Bool) → eqb x n ≡ b → T (b || member x ns) → (T (member x ns) → (j : ℕ) × (position x ns ≡ some j) × (j < length ns)) → (j : ℕ) × (position_if b (position x ns) ≡ some j) × (j < suc (length ns))
        step true e t f = (0, refl, omega arith)
        step false e t f = let w = f t in (suc w.0, ap (position_if false) w.1, omega (arith, w.2))

-- ---- in a constant every call and every iterator is faulted, as no node has a number below 0

no_call : (f : File) (n : Node) (c m : ℕ) → true ≡ bad_call f 0 n c m
no_call f n c m = rw (le-ltb c 0 (omega arith)) refl

no_iterator : (c : ℕ) → true ≡ bad_iterator 0 c
no_iterator c = rw (le-ltb c 0 (omega arith)) refl

uses_none : (f : File) (n : Node) → uses_where (λ c args. true) (λ c. true) ≡ uses_where (bad_call f 0 n) (bad_iterator 0)
uses_none f n = λ i. uses_where (λ c m. no_call f n c m i) (λ c. no_iterator c i)

-- ---- the file

abbrev pub no_constant : Constant
no_constant = record { name = 0; ty = scalar bool; value = bool_lit false }

module _ {s rows slots plans : List ℕ} (l : Laid s rows slots plans) (bytes : Bytes s) where
  abbrev f : File
  f = file_at s

  pub laid_stands : FileStands s (file_at s)
  laid_stands = file_stands bytes l.reads

  scoped : (k : ℕ) (locals : List Sized) → k ≤ length (file_at s).nodes → ((x : ℕ) → ArrayFits (length_for x locals)) → Scoped s rows slots plans k locals
  scoped k locals le h =
      record {
        typed = l.typed;
        stands = laid_stands;
        low = le;
        sized = λ x. or_fits (length_for x locals) (length_for x (constant_arrays (file_at s).constants)) (h x) (constant_lengths (length (file_at s).enums) x (file_at s).constants laid_stands.constants.fit);
      }

  constant_scope : Scoped s rows slots plans 0 []
  constant_scope = scoped 0 [] (omega arith) (λ x. tt)

  module _ (k : ℕ) (low : k < length (file_at s).nodes) where
    pub node_here : NodeStands s (length (file_at s).enums) (place_of (placed_nodes (file_at s)) k) (node_of (file_at s) k)
    node_here = scoped_node constant_scope k low

    node_scope : Scoped s rows slots plans k (locals_of s k)
    node_scope = scoped k (locals_of s k) (omega arith) (λ x. variable_lengths x (variables (node_of (file_at s) k)) (node_fits_lem node_here))

    -- one output or more
    pub some_output : 1 ≤ length (node_of (file_at s) k).outputs
    some_output =
        let n = node_of (file_at s) k in
        let ok = variable_fits base (length (file_at s).enums) in
        let fit = fits_at (node_fits base (length (file_at s).enums)) (file_at s).nodes k no_node laid_stands.nodes.fit low in
        (section_few ok 1 16 n.outputs (T_and (section_fits 1 16 ok n.outputs) _ (T_and (section_fits 0 32 ok n.inputs) _ fit).1).0).0
      where
        fits_at : {A : Type 0} (p : A → Bool) (xs : List A) (i : ℕ) (d : A) → T (all_of p xs) → i < length xs → T (p (get_or xs i d))
        fits_at p [] i d t h = absurd (omega arith)
        fits_at p (x ∷ xs) zero d t h = (T_and (p x) _ t).0
        fits_at p (x ∷ xs) (suc i) d t h = fits_at p xs i d (T_and (p x) _ t).1 (omega arith)

  -- a right side has a value at least
  some_value : {k at : ℕ} {locals : List Sized} (e : Expr) → Sits s rows slots plans k locals 24 at (cons e nil) → 1 ≤ arity (file_at s) (rhs_of e)
  some_value {k} {at} {locals} e h =
      by_cases (ℕ_discrete (code_of e) 11)
      (λ c. only_call (λ e. Sits s rows slots plans k locals 24 at (cons e nil) → 1 ≤ arity (file_at s) (rhs_of e)) (λ g es h. some_output g (call_low g es nil h).0) e c h)
      (λ n. by_cases (ℕ_discrete (code_of e) 12)
      (λ c. only_tuple (λ e. Sits s rows slots plans k locals 24 at (cons e nil) → 1 ≤ arity (file_at s) (rhs_of e))
      (λ es h.
      let fit = (T_and (count_fits 2 16 (count es)) _ (T_and (expr_fits base (length (file_at s).enums) (tuple es)) _ h.stands.fit).0).0 in
      omega (arith, leb→le 2 (count es) (T_and (leb 2 (count es)) _ (T_and (byte_fits (count es)) _ fit).1).0)) e c h)
      (λ m. subst (λ r. 1 ≤ arity (file_at s) r) (sym (one_of e n m)) (omega arith)))

  module _ (k : ℕ) (low : k < length (file_at s).nodes) where
    module _ (i : ℕ) (lt : i < length (node_of (file_at s) k).equations) where
      abbrev q : Equation
      q = get_or (node_of (file_at s) k).equations i no_equation

      abbrev at : ℕ
      at = equation_place (file_at s) k i

      abbrev start : ℕ
      start = equations_start (place_of (placed_nodes (file_at s)) k) (node_of (file_at s) k) + 1

      item_fit : T (equation_fits base (length (file_at s).enums) (get_or (node_of (file_at s) k).equations i no_equation))
      item_fit = (passing_item equation_size_lem no_equation (passing_nth equation_size_lem no_equation (node_here k low).equations i (omega arith)) lt).fit

      stands_here : EquationStands s (length (file_at s).enums) (equation_place (file_at s) k i) (get_or (node_of (file_at s) k).equations i no_equation)
      stands_here =
          let it = passing_item equation_size_lem no_equation (passing_nth equation_size_lem no_equation (node_here k low).equations i (omega arith)) lt in
          subst (λ a. EquationStands s (length (file_at s).enums) a q) (sym (placed_at equation_size (node_of (file_at s) k).equations start i lt)) (equation_stands q it.fit it.here)

      calls_sound : Each Sound (collect (uses_where (bad_call (file_at s) k (node_of (file_at s) k)) (bad_iterator k)) (rhs_place at q) q.rhs)
      unfolding fault9
      calls_sound =
          let n = node_of (file_at s) k in
          let a = concat (map (in_constant (uses_where (λ c args. true) (λ c. true))) (placed_constants (file_at s))) in
          let bs = concat (map (node_calls (file_at s)) (numbered 0 (placed_nodes (file_at s)))) in
          let c = (clean_parts a bs (first_clean (a ++ bs) l.clear.no9)).1 in
          let w = all_numbered node_size (λ x. Clean (node_calls (file_at s) x)) no_node 0 (nodes_start (file_at s)) (file_at s).nodes (clean_each (node_calls (file_at s)) (numbered 0 (placed_nodes (file_at s))) c) k k (omega arith) low in
          let E = in_equation (uses_where (bad_call (file_at s) k n) (bad_iterator k)) in
          clean_sound (E (at, q)) (all_placed equation_size (λ p. Clean (E p)) no_equation start n.equations i lt (clean_each E (placed_equations (place_of (placed_nodes (file_at s)) k) n) w))

      rhs_sits : Sits s rows slots plans k (locals_of s k) 24 (rhs_place at q) (cons q.rhs nil)
      unfolding collect_all
      rhs_sits =
          let W = uses_where (bad_call (file_at s) k (node_of (file_at s) k)) (bad_iterator k) in
          record {
            scope = node_scope k low;
            stands = stands_here.rhs;
            deep = omega (arith, leb→le (levels q.rhs) 24 (T_and (expr_fits base (length (file_at s).enums) q.rhs) _ (T_and (section_fits 1 16 name_fits q.names) _ item_fit).1).1);
            lengths = subst (Each (HasLength s slots (long_in s (locals_of s k)))) (sym (append-nil (used (rhs_place at q) q.rhs)))
                (each_placed equation_size (λ p. Each (HasLength s slots (lengths_in (file_at s) (variables (node_of (file_at s) k)))) (used (rhs_place p.0 p.1) p.1.rhs)) no_equation start (node_of (file_at s) k).equations i lt (l.nodes k low).lengths);
            sound = subst (Each Sound) (sym (append-nil (collect W (rhs_place at q) q.rhs))) calls_sound;
          }

      -- a name that it defines is a variable's
      name_in : (j : ℕ) → j < length q.names → get_or q.names j 0 ∈ variable_names (node_of (file_at s) k)
      name_in j h =
          let n = node_of (file_at s) k in
          let x = get_or q.names j 0 in
          let seen = all_at (λ y. T (member y (seen_by (file_at s) n))) q.names j 0 (all_at (λ p. All (λ y. T (member y (seen_by (file_at s) n))) p.names) n.equations i no_equation (names_seen (file_at s) l.clear.no7 k low) lt) h in
          let fresh = fresh_out (taken_in (file_at s) n) (concat (map names_of n.equations)) (names_fresh (file_at s) l.clear.no8 k low) x (in_concat n.equations i lt j h) in
          ⊎_elim (λ m. m) (λ m. absurd (fresh (in_right (map name_of n.inputs) m))) (in-append (variable_names n) (member_in x (seen_by (file_at s) n) seen))
        where
          in_list : (xs : List ℕ) (j : ℕ) → j < length xs → get_or xs j 0 ∈ xs
          in_list xs j h = get_in xs j h

          in_concat : (qs : List Equation) (i : ℕ) → i < length qs → (j : ℕ) → j < length (get_or qs i no_equation).names → get_or (get_or qs i no_equation).names j 0 ∈ concat (map names_of qs)
          in_concat [] i lt j h = absurd (omega arith)
          in_concat (p ∷ qs) zero lt j h = in_left (concat (map names_of qs)) (in_list p.names j h)
          in_concat (p ∷ qs) (suc i) lt j h = in_right p.names (in_concat qs i (omega arith) j h)

      not_constant : (x : ℕ) → x ∈ variable_names (node_of (file_at s) k) → ¬ (x ∈ constant_names (file_at s))
      not_constant x m = variable_other (file_at s) l.clear.no6 k low x m

      names_told : NamesTold s slots k (at + 1) q.names
      names_told =
          record {
            low = λ j h. let w = in_position (get_or q.names j 0) (variable_names n) (name_in j h) in omega (arith, slot j h w, w.2, length-map (variables n) name_of);
            shape = λ j h.
                let x = get_or q.names j 0 in
                let w = in_position x (variable_names n) (name_in j h) in
                ap (λ y. length_in (var_ty_at (variables n) y)) (slot j h w) ∙ ap length_in (sym (type_of_lem (variables n) w.0 (omega (arith, w.2, length-map (variables n) name_of))))
                ∙ sym (length_own name_of var_ty_of no_variable (variables n) x w.0 (distinct_names (file_at s) l.clear.no6 k low) w.1)
                ∙ or_last (length_for x (arrays_in (variables n))) (length_for x (constant_arrays (file_at s).constants)) (no_length constant_name constant_ty (file_at s).constants x (not_constant x (name_in j h)));
          }
        where
          n : Node
          n = node_of (file_at s) k

          no_variable : Variable
          no_variable = record { name = 0; ty = scalar bool }

          type_of_lem : (vs : List Variable) (i : ℕ) → i < length vs → (get_or vs i no_variable).ty ≡ var_ty_at vs i
          type_of_lem [] i h = absurd (omega arith)
          type_of_lem (v ∷ vs) zero h = refl
          type_of_lem (v ∷ vs) (suc i) h = type_of_lem vs i (omega arith)

          or_last : (a b : Option ℕ) → b ≡ none → a ≡ or_else a b
          or_last none b e = sym e
          or_last (some x) b e = refl

          slot : (j : ℕ) → j < length q.names → (w : (y : ℕ) × (position (get_or q.names j 0) (variable_names n) ≡ some y) × (y < length (variable_names n))) → get_or slots (at + 1 + 2 * j) 0 ≡ w.0
          slot j h w =
              let own = each_placed equation_size (λ p. Each (Defined s slots (variable_names n) (constant_names (file_at s))) (placed_names (p.0 + 1) p.1.names)) no_equation start n.equations i lt (l.nodes k low).defined in
              let d = each_placed (λ x. 2) (Defined s slots (variable_names n) (constant_names (file_at s))) 0 (at + 1) q.names j h own in
              ap (λ y. get_or slots y 0) (sym (names_at (at + 1) q.names j h)) ∙ d.slot (omega (arith, names_at (at + 1) q.names j h, sits_inside rhs_sits)) ∙ ap (λ o. slot_by o (position (get_or q.names j 0) (constant_names (file_at s)))) w.1

      -- as many names as values
      right_arity : arity (file_at s) (rhs_of q.rhs) ≡ length q.names
      right_arity =
          shaped_arity (file_at s) q (all_at (Shaped (file_at s)) (node_of (file_at s) k).equations i no_equation (shapes (file_at s) l.clear.no10 k low) lt)
          (section_few name_fits 1 16 q.names (T_and (section_fits 1 16 name_fits q.names) _ item_fit).0).0 (some_value q.rhs rhs_sits)

      pub equation_sits : EquationSits s rows slots plans k (equation_place (file_at s) k i) (get_or (node_of (file_at s) k).equations i no_equation)
      equation_sits = record { low = low; many = stands_here.count; names = names_told; rhs = rhs_sits; arity = right_arity }

  -- ---- constants

  module _ (i : ℕ) (lt : i < length (file_at s).constants) where
    abbrev c : Constant
    c = get_or (file_at s).constants i no_constant

    abbrev place : ℕ
    place = get_or (map (λ p. p.0) (placed_constants (file_at s))) i 0

    constant_fit : T (constant_fits base (length (file_at s).enums) (get_or (file_at s).constants i no_constant))
    constant_fit = (passing_item constant_size_lem no_constant (passing_nth constant_size_lem no_constant laid_stands.constants i (omega arith)) lt).fit

    pub constant_here : ConstantStands s (length (file_at s).enums) (get_or (map (λ p. p.0) (placed_constants (file_at s))) i 0) (get_or (file_at s).constants i no_constant)
    constant_here =
        let it = passing_item constant_size_lem no_constant (passing_nth constant_size_lem no_constant laid_stands.constants i (omega arith)) lt in
        subst (λ a. ConstantStands s (length (file_at s).enums) a c) (sym (placed_at constant_size (file_at s).constants (constants_start (file_at s)) i lt)) (constant_stands c it.fit it.here)

    pub constant_type : ArrayFits (length_in (get_or (file_at s).constants i no_constant).ty)
    constant_type = type_fits (length (file_at s).enums) c.ty (T_and (var_ty_fits base (length (file_at s).enums) c.ty) _ (T_and (name_fits c.name) _ constant_fit).1).0

    constant_sound : Each Sound (collect (uses_where (bad_call (file_at s) 0 (node_of (file_at s) 0)) (bad_iterator 0)) (value_place place c) c.value)
    unfolding fault9
    constant_sound =
        let g = in_constant (uses_where (λ c args. true) (λ c. true)) in
        let a = concat (map g (placed_constants (file_at s))) in
        let bs = concat (map (node_calls (file_at s)) (numbered 0 (placed_nodes (file_at s)))) in
        let w = (clean_parts a bs (first_clean (a ++ bs) l.clear.no9)).0 in
        subst (λ (W : ℕ → Expr → List Item). Each Sound (collect W (value_place place c) c.value)) (uses_none (file_at s) (node_of (file_at s) 0))
        (clean_sound (g (place, c)) (all_placed constant_size (λ p. Clean (g p)) no_constant (constants_start (file_at s)) (file_at s).constants i lt (clean_each g (placed_constants (file_at s)) w)))

    pub constant_sits : Sits s rows slots plans 0 [] 24 (value_place (get_or (map (λ p. p.0) (placed_constants (file_at s))) i 0) (get_or (file_at s).constants i no_constant)) (cons (get_or (file_at s).constants i no_constant).value nil)
    unfolding collect_all
    constant_sits =
        let W = uses_where (bad_call (file_at s) 0 (node_of (file_at s) 0)) (bad_iterator 0) in
        record {
          scope = constant_scope;
          stands = constant_here.value;
          deep = omega (arith, leb→le (levels c.value) 24 (T_and (expr_fits base (length (file_at s).enums) c.value) _ (T_and (var_ty_fits base (length (file_at s).enums) c.ty) _ (T_and (name_fits c.name) _ constant_fit).1).1).1);
          lengths = subst (Each (HasLength s slots (long_in s []))) (sym (append-nil (used (value_place place c) c.value)))
              (subst (λ p. Each (HasLength s slots (lengths_in (file_at s) [])) (used (value_place p.0 p.1) p.1.value)) (placed_pair constant_size (0, no_constant) (constants_start (file_at s)) (file_at s).constants i lt) (l.constants i lt));
          sound = subst (Each Sound) (sym (append-nil (collect W (value_place place c) c.value))) constant_sound;
        }
