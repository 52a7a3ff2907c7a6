-- The names that a node's equations and the constants see, by their cells; and of a constant's expression, which has no call and no iterator, none is faulted.
use Prim.Native.Nat.{ℕ, zero, suc, ◌+◌, ◌≤◌, ◌<◌}
use mathlib.Core.Bool.{Bool, true, false, ◌||◌}
use mathlib.Core.List.Memᴰ.{append_cases as in_append}
use mathlib.Core.List.Memᴰ.{head as here}
use mathlib.Core.List.Memᴰ.{tail as there}
use mathlib.Core.List.{List, [], ◌∷◌, ◌++◌, map}
use mathlib.Core.Logic.{◌⊎◌, inl, inr, ⊎_elim}
use mathlib.Core.Option.{Option, none, some}
use mathlib.Core.Path.{◌≡◌, refl, sym, ◌∙◌}
use native.Mathlib.Omega.{arith}
use lib.ListN.{length, take, get_or}
use lib.Dec.{T, eqb, eqb→eq}
use Rattle.ol_theory.specs.Member.{◌∈◌}
use Rattle.ol_spec.specs.Lists.{maybe, concat, member, position, position_if}
use Rattle.ol_spec.specs.Syntax.{VarTy, Variable, name_of, named_cells, cell_names, Constant, constant_name, constant_slots, Expr, bool_lit, int_lit, float_lit, char_lit, var, unary, binary, if_then_else, pre, arrow, cast, call, tuple, index, literal, map_over, fold_over, Exprs, nil, cons}
use Rattle.ol_spec.specs.Places.{placed, constant_size, expr_size, collect, collect_all}
use Rattle.ol_spec.specs.Admission.{Item, unseen_item, used, value_place, constant_uses, uses_where}
use Rattle.ol_spec.proofs.Tests.{T-or, member_in, in_member}
use Rattle.ol_spec.proofs.Lists.{All, all_map}
use Rattle.ol_spec.proofs.Admits.{Clean, clean_parts}
use Rattle.ol_spec.proofs.MainFacts.{unseen_all}
use Rattle.ol_tables.specs.Tables.{Each, Sound, cell_of, var_ty_of}
use Rattle.ol_tables.proofs.Cells.{Filled, constant_ty, first, position_first}
use Rattle.ol_run.specs.Constants.{no_constant}
use Rattle.ol_frame.proofs.Naming.{cell_variant}
use Rattle.ol_tables.proofs.Forms.{each_join}

-- ---- names

-- a name without a position is not in the list
none_out : (x : ℕ) (ns : List ℕ) → position x ns ≡ none → ¬ T (member x ns)
none_out x [] e t = t
none_out x (n ∷ ns) e t = go (eqb x n) (position x ns) e (none_out x ns) t
  where
    go : (b : Bool) (p : Option ℕ) → position_if b p ≡ none → (p ≡ none → ¬ T (member x ns)) → T (b || member x ns) → ⊥
    go true p e f t = let z : ◌≡◌ {A = ℕ} 0 1 = cc in omega arith
    go false none e f t = f refl t
    go false (some i) e f t = let z : ◌≡◌ {A = ℕ} 0 1 = cc in omega arith

-- a name that no cell bears is none of the declared
module _ {A : Type 0} (name : A → ℕ) (ty : A → VarTy) where
  undeclared : (as' : List A) (x : ℕ) → Filled name ty as' → position x (concat (map (λ a. named_cells (name a) (ty a)) as')) ≡ none → ¬ (x ∈ map name as')
  undeclared as' x h e m = none_out x (map name as') (go (position x (map name as')) (sym (position_first name ty as' x h) ∙ e)) (in_member x (map name as') m)
    where
      go : (o : Option ℕ) → maybe none (λ i. some (first name ty as' i)) o ≡ none → o ≡ none
      go none e = refl
      go (some i) e = let z : ◌≡◌ {A = ℕ} 0 1 = cc in absurd (omega arith)

-- a name that is seen, and whose cell is 65535, is seen as a variant
pub cell_free : (vs : List Variable) (cs : List Constant) (us : List ℕ) (x : ℕ) → Filled name_of var_ty_of vs → Filled constant_name constant_ty cs → length (cell_names vs) ≤ 3584 → length (concat (map constant_slots cs)) ≤ 2048
    → (x ∈ map name_of vs) ⊎ ((x ∈ map constant_name cs) ⊎ T (member x us)) → cell_of (cell_names vs) (concat (map constant_slots cs)) x ≡ 65535 → T (member x us)
cell_free vs cs us x f g a b seen e =
    let w = cell_variant (cell_names vs) (concat (map constant_slots cs)) x a b (λ l. omega arith) in
    ⊎_elim (λ m. absurd (undeclared name_of var_ty_of vs x f w.0 m)) (⊎_elim (λ m. absurd (undeclared constant_name constant_ty cs x g w.1 m)) (λ t. t)) seen

pub seen_parts : (vs cs us : List ℕ) (x : ℕ) → T (member x (vs ++ (cs ++ us))) → (x ∈ vs) ⊎ ((x ∈ cs) ⊎ T (member x us))
seen_parts vs cs us x t = ⊎_elim inl (λ m. inr (⊎_elim inl (λ k. inr (in_member x us k)) (in_append cs m))) (in_append vs (member_in x (vs ++ (cs ++ us)) t))

-- what a constant uses is the name of one before it, or was visible before them all
abbrev pub Before : List ℕ → List ℕ → ℕ × ℕ → Type 0
Before xs visible p = (p.1 ∈ xs) ⊎ T (member p.1 visible)

-- the names that it uses, with their places
abbrev pub uses_of : ℕ × Constant → List (ℕ × ℕ)
uses_of c = used (value_place c.0 c.1) c.1.value

pub uses_before : (visible : List ℕ) (at : ℕ) (cs : List Constant) (i : ℕ) → i < length cs → Clean (constant_uses visible (placed constant_size at cs))
    → All (Before (map constant_name (take i cs)) visible) (uses_of (get_or (placed constant_size at cs) i no_constant))
uses_before visible at [] i lt c = absurd (omega arith)
uses_before visible at (k ∷ cs) zero lt c =
    all_map _ _ (uses_of (at, k)) (λ p t. inr t) (unseen_all visible (uses_of (at, k)) (clean_parts (map (unseen_item visible) (uses_of (at, k))) _ c).0)
uses_before visible at (k ∷ cs) (suc i) lt c =
    let next = at + constant_size k in
    all_map (Before (map constant_name (take i cs)) (k.name ∷ visible)) (Before (k.name ∷ map constant_name (take i cs)) visible) (uses_of (get_or (placed constant_size next cs) i no_constant))
    (λ p. ⊎_elim (λ m. inl (there m)) (λ t. ⊎_elim (λ e. inl (here (eqb→eq p.1 k.name e))) inr (T-or (eqb p.1 k.name) (member p.1 visible) t)))
    (uses_before (k.name ∷ visible) next cs i (omega arith) (clean_parts (map (unseen_item visible) (uses_of (at, k))) _ c).1)

-- ---- calls and iterators

-- every one of them is faulted
abbrev pub any_use : ℕ → Expr → List Item
any_use = uses_where (λ c args. true) (λ c. true)

never : {A : Type 0} → true ≡ false → A
never e = let z : ◌≡◌ {A = ℕ} 0 1 = cc in absurd (omega arith)

module _ (p : ℕ → ℕ → Bool) (q : ℕ → Bool) where
  abbrev W : ℕ → Expr → List Item
  W = uses_where p q

  mutual
    unfolding collect

    -- where none is, none is faulted
    pub no_faults : (at : ℕ) (e : Expr) → Clean (collect any_use at e) → Each Sound (collect (uses_where p q) at e)
    no_faults at (bool_lit b) h = tt
    no_faults at (int_lit i) h = tt
    no_faults at (float_lit b) h = tt
    no_faults at (char_lit c) h = tt
    no_faults at (var x) h = tt
    no_faults at (unary op e) h = no_faults (at + 2) e h
    no_faults at (binary op l r) h =
        let t = clean_parts (collect any_use (at + 2) l) (collect any_use (at + 2 + expr_size l) r) h in
        each_join Sound (collect W (at + 2) l) (collect W (at + 2 + expr_size l) r) (no_faults _ l t.0) (no_faults _ r t.1)
    no_faults at (if_then_else c t e) h =
        let x = at + 1 + expr_size c in
        let y = at + 1 + expr_size c + expr_size t in
        let u = clean_parts (collect any_use (at + 1) c) (collect any_use x t ++ collect any_use y e) h in
        let v = clean_parts (collect any_use x t) (collect any_use y e) u.1 in
        each_join Sound (collect W (at + 1) c) (collect W x t ++ collect W y e) (no_faults _ c u.0) (each_join Sound (collect W x t) (collect W y e) (no_faults _ t v.0) (no_faults _ e v.1))
    no_faults at (pre e) h = no_faults (at + 1) e h
    no_faults at (arrow a b) h =
        let t = clean_parts (collect any_use (at + 1) a) (collect any_use (at + 1 + expr_size a) b) h in
        each_join Sound (collect W (at + 1) a) (collect W (at + 1 + expr_size a) b) (no_faults _ a t.0) (no_faults _ b t.1)
    no_faults at (cast t e) h = no_faults _ e h
    no_faults at (call c es) h = never h.0
    no_faults at (tuple es) h = no_faults_all (at + 2) es h
    no_faults at (index a i) h =
        let t = clean_parts (collect any_use (at + 1) a) (collect any_use (at + 1 + expr_size a) i) h in
        each_join Sound (collect W (at + 1) a) (collect W (at + 1 + expr_size a) i) (no_faults _ a t.0) (no_faults _ i t.1)
    no_faults at (literal es) h = no_faults_all (at + 2) es h
    no_faults at (map_over k es) h = never h.0
    no_faults at (fold_over k s es) h = never h.0

    no_faults_all : (at : ℕ) (es : Exprs) → Clean (collect_all any_use at es) → Each Sound (collect_all (uses_where p q) at es)
    no_faults_all at nil h = tt
    no_faults_all at (cons e es) h =
        let t = clean_parts (collect any_use at e) (collect_all any_use (at + expr_size e) es) h in
        each_join Sound (collect W at e) (collect_all W (at + expr_size e) es) (no_faults at e t.0) (no_faults_all _ es t.1)
