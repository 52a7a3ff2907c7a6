-- Laws of plans: the parts of what can be evaluated can be evaluated.
use Prim.Native.Nat.{ℕ, suc, ◌+◌, ◌-◌, ◌<◌, ◌≤◌, min}
use mathlib.Core.Bool.{false, ◌&&◌}
use mathlib.Core.List.{List, [], ◌++◌, append-nil, ◌∷◌}
use mathlib.Core.Path.{◌≡◌, sym, ap, subst, ◌∙◌, refl}
use native.Mathlib.Omega.{arith}
use lib.ListN.{length, get_or}
use lib.Dec.{T, ltb, eqb, ltb→lt, eqb→eq}
use Rattle.ol_spec.specs.Syntax.{File, Node, Expr, bool_lit, int_lit, float_lit, char_lit, var, unary, binary, if_then_else, pre, arrow, cast, call, tuple, index, literal, map_over, fold_over}
use Rattle.ol_spec.specs.Syntax.{Exprs, nil, cons, count, variables}
use Rattle.ol_spec.specs.Places.{collect, collect_all, expr_size}
use Rattle.ol_spec.specs.Eval.{callees, callees_all, sites_size}
use Rattle.ol_spec.specs.Admission.{Item, used_at, uses_where, bad_call, bad_iterator, may_call, callee_in}
use Rattle.ol_spec.proofs.Tests.{T_and, not_false}
use Rattle.ol_spec.proofs.Segments.{sites_append}
use Rattle.ol_tables.specs.At.{file_at, node_in, expr_at, end_at, exprs_at, Reads, ReadsAll}
use Rattle.ol_tables.specs.Tables.{Each, Sound}
use Rattle.ol_tables.specs.Heads.{head_size as head_of}
use Rattle.ol_tables.specs.Parts.{own_sites}
use Rattle.ol_tables.proofs.Forms.{each_append, each_join, each_map, Formed, some_code, parted, one_read, none_read, collected, collected_form, callees_all_lem, callees_form, var_form, pre_form, call_form, map_form, fold_form}
use Rattle.ol_tables.specs.declared.form.Form.{Form}
use Rattle.ol_tables.specs.FormCodes.{code_of_form}
use Rattle.ol_tables.proofs.FormLaws.{code_is}
use Rattle.ol_frame.specs.Walk.{nodes_in, sizes_in, Below, Passable}
use Rattle.ol_frame.specs.Shapes.{Suited, head_item}
use Rattle.ol_spec.specs.Shapes.{arrays_in}
use Rattle.ol_frame.proofs.Programs.{narrow, known_few}
use Rattle.ol_frame.specs.Plans.{Named, Plan, segs_at, seg_at, name_at, Nameable, Looked}
use Rattle.ol_frame.proofs.Passing.{callees_one}

-- what a call without fault is
pub record Callee (f : File) (k : ℕ) (n : Node) (c m : ℕ) : Type 0 where
  pub lower : c < k
  pub kinds : T (may_call n.kind (callee_in f c).kind)
  pub arity : m ≡ length (callee_in f c).inputs

pub sound_call : (f : File) (k : ℕ) (n : Node) (c m : ℕ) → bad_call f k n c m ≡ false → Callee f k n c m
sound_call f k n c m h =
    let t = not_false (ltb c k && may_call n.kind (callee_in f c).kind && eqb m (length (callee_in f c).inputs)) h in
    let a = T_and (ltb c k && may_call n.kind (callee_in f c).kind) (eqb m (length (callee_in f c).inputs)) t in
    let b = T_and (ltb c k) (may_call n.kind (callee_in f c).kind) a.0 in
    record { lower = ltb→lt c k b.0; kinds = b.1; arity = eqb→eq m (length (callee_in f c).inputs) a.1 }

module _ (f : File) (k : ℕ) (n : Node) (P : ℕ → Type 0) (is : (c m : ℕ) → bad_call f k n c m ≡ false → P c) where
  abbrev items : ℕ → Expr → List Item
  items = uses_where (bad_call f k n) (bad_iterator k)

  mutual
    unfolding collect

    -- the callees of calls without fault are as such a call's is
    pub sound_each : (at : ℕ) (e : Expr) → Each Sound (collect items at e) → Each P (callees e)
    sound_each at (bool_lit b) h = tt
    sound_each at (int_lit i) h = tt
    sound_each at (float_lit b) h = tt
    sound_each at (char_lit c) h = tt
    sound_each at (var x) h = tt
    sound_each at (unary op e) h = sound_each (at + 2) e h
    sound_each at (binary op l r) h =
        let t = each_append Sound (collect items (at + 2) l) (collect items (at + 2 + expr_size l) r) h in
        each_join P (callees l) (callees r) (sound_each _ l t.0) (sound_each _ r t.1)
    sound_each at (if_then_else c t e) h =
        let C = collect items (at + 1) c in
        let D = collect items (at + 1 + expr_size c) t in
        let E = collect items (at + 1 + expr_size c + expr_size t) e in
        let u = each_append Sound C (D ++ E) h in
        let v = each_append Sound D E u.1 in
        each_join P (callees c) (callees t ++ callees e) (sound_each _ c u.0) (each_join P (callees t) (callees e) (sound_each _ t v.0) (sound_each _ e v.1))
    sound_each at (pre e) h = sound_each (at + 1) e h
    sound_each at (arrow a b) h =
        let t = each_append Sound (collect items (at + 1) a) (collect items (at + 1 + expr_size a) b) h in
        each_join P (callees a) (callees b) (sound_each _ a t.0) (sound_each _ b t.1)
    sound_each at (cast t e) h = sound_each _ e h
    sound_each at (call c es) h = (is c (count es) h.0, sounds_each (at + 3) es h.1)
    sound_each at (tuple es) h = sounds_each (at + 2) es h
    sound_each at (index a i) h =
        let t = each_append Sound (collect items (at + 1) a) (collect items (at + 1 + expr_size a) i) h in
        each_join P (callees a) (callees i) (sound_each _ a t.0) (sound_each _ i t.1)
    sound_each at (literal es) h = sounds_each (at + 2) es h
    sound_each at (map_over c es) h = sounds_each (at + 4) es h.1
    sound_each at (fold_over c e es) h =
        let t = each_append Sound (collect items (at + 4) e) (collect_all items (at + 4 + expr_size e) es) h.1 in
        each_join P (callees e) (callees_all es) (sound_each _ e t.0) (sounds_each _ es t.1)

    pub sounds_each : (at : ℕ) (es : Exprs) → Each Sound (collect_all items at es) → Each P (callees_all es)
    sounds_each at nil h = tt
    sounds_each at (cons e es) h =
        let t = each_append Sound (collect items at e) (collect_all items (at + expr_size e) es) h in
        each_join P (callees e) (callees_all es) (sound_each at e t.0) (sounds_each _ es t.1)

-- they are of lower numbers
pub sounds_below : (f : File) (k : ℕ) (n : Node) (at : ℕ) (es : Exprs) → Each Sound (collect_all (uses_where (bad_call f k n) (bad_iterator k)) at es) → Each (Below k) (callees_all es)
sounds_below f k n at es h = sounds_each f k n (Below k) (λ c m b. (sound_call f k n c m b).lower) at es h

module _ (s : List ℕ) where
  one_collected : {B : Type 0} (g : ℕ → Expr → List B) (level at : ℕ) → ReadsAll s level 1 at → collect_all g at (exprs_at s level 1 at) ≡ collect g at (expr_at s level at)
  unfolding collect_all
  one_collected g level at h =
      collected s g level 0 at h ∙ ap (λ (es : Exprs). collect g at (expr_at s level at) ++ collect_all g (end_at s level at) es) (none_read s level (end_at s level at)).0 ∙ append-nil (collect g at (expr_at s level at))

  -- the calls in an expression of node's scope
  abbrev calls_in : ℕ → ℕ → Expr → List Item
  calls_in node = uses_where (bad_call (file_at s) node (node_in s node)) (bad_iterator node)

  -- what each head suits
  abbrev SuitedIn : ℕ → Expr → Type 0
  SuitedIn node = Suited (file_at s) (arrays_in (variables (node_in s node)))

  -- what is collected from one expression, by its form
  form_collected : {B : Type 0} (g : ℕ → Expr → List B) {level at n : ℕ} {t : Expr} → ReadsAll s level 1 at → Formed s level at t n → collect_all g at (exprs_at s level 1 at) ≡ g at t ++ collect_all g (at + head_of t) (exprs_at s (level - 1) n (at + head_of t))
  form_collected g {level} {at} {n} {t} h f = one_collected g level at h ∙ collected_form s g level at t n f

  module _ {tab rows consts : List ℕ} {node : ℕ} where
    pub plan_head : {level n at : ℕ} → Plan s tab rows consts node level (suc n) at → Reads s level at
    plan_head {level} {n} {at} p = (parted s level n at p.reads).head

    -- the code that was read as a form
    pub plan_form : {level at : ℕ} {form : Form} → Plan s tab rows consts node level 1 at → (g : Form) → min (get_or s at 0) 15 ≡ code_of_form form → form ≡ g → get_or s at 0 ≡ code_of_form g
    plan_form {level} {at} p g h e = code_is g (some_code s level at (plan_head p)) h e

    pub plan_first : {level n at : ℕ} → Plan s tab rows consts node level (suc n) at → Plan s tab rows consts node level 1 at
    plan_first {level} {n} {at} p =
        let r = one_read s level at (plan_head p) in
        let rest = exprs_at s level n (end_at s level at) in
        record {
          program = p.program;
          known = p.known;
          node≤ = p.node≤;
          level≤ = p.level≤;
          reads = r;
          named = subst (Each (Named s tab consts node)) (sym (one_collected used_at level at r)) (each_append (Named s tab consts node) (collect used_at at (expr_at s level at)) (collect_all used_at (end_at s level at) rest) (subst (Each (Named s tab consts node)) (collected s used_at level n at p.reads) p.named)).0;
          sound = subst (Each Sound) (sym (one_collected (calls_in node) level at r)) (each_append Sound (collect (calls_in node) at (expr_at s level at)) (collect_all (calls_in node) (end_at s level at) rest) (subst (Each Sound) (collected s (calls_in node) level n at p.reads) p.sound)).0;
          suited = subst (Each (SuitedIn node)) (sym (one_collected head_item level at r)) (each_append (SuitedIn node) (collect head_item at (expr_at s level at)) (collect_all head_item (end_at s level at) rest) (subst (Each (SuitedIn node)) (collected s head_item level n at p.reads) p.suited)).0;
        }

    pub plan_rest : {level n at : ℕ} → Plan s tab rows consts node level (suc n) at → Plan s tab rows consts node level n (end_at s level at)
    plan_rest {level} {n} {at} p =
        let t = parted s level n at p.reads in
        let rest = exprs_at s level n (end_at s level at) in
        record {
          program = p.program;
          known = p.known;
          node≤ = p.node≤;
          level≤ = p.level≤;
          reads = t.tail;
          named = (each_append (Named s tab consts node) (collect used_at at (expr_at s level at)) (collect_all used_at (end_at s level at) rest) (subst (Each (Named s tab consts node)) (collected s used_at level n at p.reads) p.named)).1;
          sound = (each_append Sound (collect (calls_in node) at (expr_at s level at)) (collect_all (calls_in node) (end_at s level at) rest) (subst (Each Sound) (collected s (calls_in node) level n at p.reads) p.sound)).1;
          suited = (each_append (SuitedIn node) (collect head_item at (expr_at s level at)) (collect_all head_item (end_at s level at) rest) (subst (Each (SuitedIn node)) (collected s head_item level n at p.reads) p.suited)).1;
        }

    pub plan_parts : {level at n : ℕ} {t : Expr} → Plan s tab rows consts node level 1 at → Formed s level at t n → Plan s tab rows consts node (level - 1) n (at + head_of t)
    plan_parts {level} {at} {n} {t} p f =
        let rest = exprs_at s (level - 1) n (at + head_of t) in
        record {
          program = p.program;
          known = p.known;
          node≤ = p.node≤;
          level≤ = omega (arith, p.level≤);
          reads = f.read;
          named = (each_append (Named s tab consts node) (used_at at t) (collect_all used_at (at + head_of t) rest) (subst (Each (Named s tab consts node)) (form_collected used_at p.reads f) p.named)).1;
          sound = (each_append Sound ((calls_in node) at t) (collect_all (calls_in node) (at + head_of t) rest) (subst (Each Sound) (form_collected (calls_in node) p.reads f) p.sound)).1;
          suited = (each_append (SuitedIn node) (head_item at t) (collect_all head_item (at + head_of t) rest) (subst (Each (SuitedIn node)) (form_collected head_item p.reads f) p.suited)).1;
        }

    -- its parts suit its head
    pub plan_suited : {level at n : ℕ} {t : Expr} → Plan s tab rows consts node level 1 at → Formed s level at t n → SuitedIn node t
    plan_suited {level} {at} {n} {t} p f =
        (each_append (SuitedIn node) (head_item at t) (collect_all head_item (at + head_of t) (exprs_at s (level - 1) n (at + head_of t))) (subst (Each (SuitedIn node)) (form_collected head_item p.reads f) p.suited)).0.0

    -- a Var's name can be looked up
    pub plan_name : {level at : ℕ} → Plan s tab rows consts node level 1 at → get_or s at 0 ≡ 4 → Nameable s tab consts node (at + 1)
    plan_name {level} {at} p e =
        let f = var_form s level at (plan_head p) e in
        let q = (each_append (Named s tab consts node) (used_at at (var (name_at s (at + 1)))) (collect_all used_at (at + 3) (exprs_at s (level - 1) 0 (at + 3))) (subst (Each (Named s tab consts node)) (form_collected used_at p.reads f) p.named)).0 in
        record {
          inside = omega (arith, f.inside);
          long = p.program.table.long;
          width = narrow p.program node;
          known = known_few p.program p.known;
          named = q.0;
        }

    pub plan_looked : {level at : ℕ} → Plan s tab rows consts node level 1 at → get_or s at 0 ≡ 8 → Looked s tab consts node (level - 1) (at + 1)
    plan_looked {level} {at} p e =
        let q = plan_parts p (pre_form s level at (plan_head p) e) in
        record { reads = plan_head q; named = λ c. plan_name q c }

    -- a call is without fault
    pub plan_call : {level at : ℕ} → Plan s tab rows consts node level 1 at → get_or s at 0 ≡ 11 → Callee (file_at s) node (node_in s node) (get_or s (at + 1) 0) (count (exprs_at s (level - 1) (get_or s (at + 2) 0) (at + 3)))
    plan_call {level} {at} p e =
        let f = (call_form s level at (plan_head p) e).0 in
        let t = call (get_or s (at + 1) 0) (exprs_at s (level - 1) (get_or s (at + 2) 0) (at + 3)) in
        let q = (each_append Sound ((calls_in node) at t) (collect_all (calls_in node) (at + 3) (exprs_at s (level - 1) (get_or s (at + 2) 0) (at + 3))) (subst (Each Sound) (form_collected (calls_in node) p.reads f) p.sound)).0 in
        sound_call (file_at s) node (node_in s node) (get_or s (at + 1) 0) _ q.0

    -- an iterated node is of a lower number
    iterated : {level at n : ℕ} (c : ℕ) (t : Expr) (es : Exprs) → Plan s tab rows consts node level 1 at → Formed s level at t n → calls_in node at t ≡ (at, bad_iterator node c) ∷ [] → c < node
    iterated {level} {at} {n} c t es p f e =
        let q = (each_append Sound (calls_in node at t) (collect_all (calls_in node) (at + head_of t) (exprs_at s (level - 1) n (at + head_of t))) (subst (Each Sound) (form_collected (calls_in node) p.reads f) p.sound)).0 in
        ltb→lt c node (not_false (ltb c node) (subst (Each Sound) e q).0)

    pub plan_map : {level at : ℕ} → Plan s tab rows consts node level 1 at → get_or s at 0 ≡ 15 → get_or s (at + 1) 0 ≡ 0 → get_or s (at + 2) 0 < node
    plan_map {level} {at} p e z = iterated (get_or s (at + 2) 0) _ nil p (map_form s level at (plan_head p) e z).0 refl

    pub plan_fold : {level at : ℕ} → Plan s tab rows consts node level 1 at → get_or s at 0 ≡ 15 → get_or s (at + 1) 0 ≡ 1 → get_or s (at + 2) 0 < node
    plan_fold {level} {at} p e z = iterated (get_or s (at + 2) 0) _ nil p (fold_form s level at (plan_head p) e z).0 refl

    -- what can be evaluated can be passed over
    pub plan_passable : {level n at : ℕ} → Plan s tab rows consts node level n at → segs_at s level n at ≤ 32768 → Passable s rows level n at
    plan_passable {level} {n} {at} p room =
        record {
          sized = p.program.sized;
          reads = p.reads;
          below = each_map (Below node) (Below (nodes_in s)) (λ c l. omega (arith, p.node≤)) (callees_all (exprs_at s level n at)) (sounds_below (file_at s) node (node_in s node) at (exprs_at s level n at) p.sound);
          room = room;
        }

  -- ---- the bytes of the records

  pub segs_one : (level at : ℕ) → ReadsAll s level 1 at → segs_at s level 1 at ≡ seg_at s level at
  segs_one level at h = ap (sites_size (sizes_in s)) (callees_one s level at h)

  pub segs_cons : (level n at : ℕ) → ReadsAll s level (suc n) at → segs_at s level (suc n) at ≡ seg_at s level at + segs_at s level n (end_at s level at)
  segs_cons level n at h =
      ap (sites_size (sizes_in s)) (callees_all_lem s level n at h) ∙ sites_append (sizes_in s) (callees (expr_at s level at)) (callees_all (exprs_at s level n (end_at s level at)))

  -- the parts of one expression have the bytes of its records
  pub segs_form : {level at n : ℕ} {t : Expr} → ReadsAll s level 1 at → Formed s level at t n → own_sites t ≡ [] → segs_at s level 1 at ≡ segs_at s (level - 1) n (at + head_of t)
  segs_form {level} {at} {n} {t} h f o =
      segs_one level at h ∙ ap (sites_size (sizes_in s)) (callees_form s level at t n f ∙ ap (λ (ks : List ℕ). ks ++ callees_all (exprs_at s (level - 1) n (at + head_of t))) o)

  pub segs_first : {tab rows consts : List ℕ} {node level n at : ℕ} → Plan s tab rows consts node level (suc n) at → segs_at s level 1 at ≤ segs_at s level (suc n) at
  segs_first {level = level} {n = n} {at = at} p = omega (arith, segs_cons level n at p.reads, segs_one level at (one_read s level at (plan_head p)))
