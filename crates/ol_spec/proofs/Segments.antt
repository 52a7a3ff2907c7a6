-- Evaluation keeps an expression's segment: the records of its call sites stay as long as they were, and good. The values that it gives have what the values that it meets have.
use Prim.Native.Nat.{ℕ, zero, suc, ◌+◌}
use mathlib.Core.Bool.{Bool, true, false}
use mathlib.Core.List.{List, [], ◌∷◌, ◌++◌, append_assoc}
use mathlib.Core.Option.{Option, none, some}
use mathlib.Core.Path.{◌≡◌, refl, sym, ap, subst, ◌∙◌}
use native.Mathlib.Nat.{zero-add, add_assoc}
use native.Mathlib.Omega.{arith}
use lib.ListN.{length, take, drop, get_or, get_elem?, length-append, length-drop, length-map, take-append-drop}
use lib.Seq.{drop-drop, take-add, drop_at, take_at, length-take-le}
use lib.Dec.{T}
use lib.IntN.{ℤ, pos, negsuc}
use Rattle.ol_spec.specs.Lists.{maybe, or_else, concat, positions, member, lookup, position}
use Rattle.ol_spec.specs.Syntax.{Expr, bool_lit, int_lit, float_lit, char_lit, var, unary, binary, if_then_else, pre, arrow, cast, call, tuple, index, literal, map_over, fold_over, Exprs, nil}
use Rattle.ol_spec.specs.Syntax.{cons, count, name_in, rhs_of}
use Rattle.ol_spec.specs.Types.{cast_to}
use Rattle.ol_spec.specs.Syntax.{BinOp}
use Rattle.ol_spec.specs.Operators.{unary_of, binary_of, bool_out}
use Rattle.ol_spec.specs.Eval.{Globals, Scope, Calls, Eval, Evals, Evaluated, Results, Outcomes, values, failure, overflow, Branch, Branches, callees, callees_all, record_size, size_in, sites_size, seg_size, eval, eval_array, eval_each, eval_cells, eval_rhs, next, next_on, next_all, next_all_on, next_cells, next_cells_on, cells_by, arrays_or, condition, choose, branches_on, untaken, drop_failure, common_real, enter, enter_on, single, single_eval, several, several_eval, cons_out, or_failure, or_failures, then_out, then_cells, map_eval, map_cells, then_results, map_evaluated, flatten, flat, constant_of, present_of, before_of, pre_of, is_array, cells_of, pre_cells, cells_named, picked, picked_some, no_value_of, element_at, index_of, elements_at, equal_cells, equality, compare_cells, map_next, map_from, fold_from, applied, map_all, fold_all}
use Rattle.ol_spec.specs.State.{good_sites}
use Rattle.ol_spec.specs.declared.Value.{Value}
use Rattle.ol_spec.specs.declared.Value.TheVariants as Val
use Rattle.ol_spec.specs.declared.Cause.TheVariants as Why
use Rattle.ol_spec.specs.declared.Outcome.{Outcome}
use Rattle.ol_spec.specs.declared.Outcome.TheVariants as Out
use Rattle.ol_spec.proofs.Tests.{T_and, and_t}
use Rattle.ol_spec.proofs.Lists.{All, all_join, length_none}
use Rattle.ol_spec.proofs.Forms.{Plain, PlainAll, cell_counts, cells_all, Allowed, AllowedAll, may_be, may_iterate}
use Rattle.ol_spec.proofs.Counts.{CountIs, EachIs, Counts, NamesShaped, each_kept, all_count}
use Rattle.ol_spec.proofs.Rights.{by_right}
use Rattle.ol_spec.proofs.Values.{Gives, Closed, cond_t}

-- ---- the sizes of call sites add up

pub sites_cons : (sizes : List ℕ) (k : ℕ) (ks : List ℕ) → sites_size sizes (k ∷ ks) ≡ size_in sizes k + sites_size sizes ks
unfolding sites_size
sites_cons sizes k ks = refl

pub sites_append : (sizes : List ℕ) (a b : List ℕ) → sites_size sizes (a ++ b) ≡ sites_size sizes a + sites_size sizes b
unfolding sites_size
sites_append sizes [] b = sym (zero-add _)
sites_append sizes (k ∷ ks) b = rw (sites_append sizes ks b) (sym (add_assoc _ _ _))

-- ---- the records of call sites: `p` tells of a node's number and a record whether it is good

module _ (g : Globals) (p : ℕ → List ℕ → Bool) where
  -- a call site's record
  pub record Rec (k : ℕ) (r : List ℕ) : Type 0 where
    pub sized : length r ≡ record_size g k
    pub good : T (p k r)

  -- those of call sites, one after the other
  pub record Good (ks : List ℕ) (s : List ℕ) : Type 0 where
    pub sized : length s ≡ sites_size g.sizes ks
    pub good : T (good_sites g p ks s)

module _ {g : Globals} {p : ℕ → List ℕ → Bool} where
  pub none_good : Good g p [] []
  unfolding sites_size good_sites
  none_good = record { sized = refl; good = tt }

  pub head_good : {k : ℕ} {ks s : List ℕ} → Good g p (k ∷ ks) s → Rec g p k (take (record_size g k) s) × Good g p ks (drop (record_size g k) s)
  unfolding good_sites
  head_good {k} {ks} {s} h =
      let e = h.sized ∙ sites_cons g.sizes k ks in
      let w = T_and (p k (take (record_size g k) s)) _ h.good in (
        record { sized = length-take-le (record_size g k) s (omega arith); good = w.0 },
        record { sized = length-drop (record_size g k) s ∙ omega arith; good = w.1 },
      )

  pub cons_good : {k : ℕ} {ks r s : List ℕ} → Rec g p k r → Good g p ks s → Good g p (k ∷ ks) (r ++ s)
  unfolding good_sites
  cons_good {k} {ks} {r} {s} a b =
      record {
        sized = length-append r s ∙ omega (arith, a.sized, b.sized, sites_cons g.sizes k ks);
        good = and_t (p k (take (record_size g k) (r ++ s))) _ (subst (λ l. T (p k l)) (sym (take_at r s (record_size g k) a.sized)) a.good)
            (subst (λ l. T (good_sites g p ks l)) (sym (drop_at r s (record_size g k) a.sized)) b.good);
      }

  pub nil_good : {s : List ℕ} → Good g p [] s → s ≡ []
  unfolding sites_size
  nil_good {s} h = length_none s h.sized

  pub joined : (a : List ℕ) {b s t : List ℕ} → Good g p a s → Good g p b t → Good g p (a ++ b) (s ++ t)
  joined [] {b} {s} {t} h m = subst (λ l. Good g p b (l ++ t)) (sym (nil_good h)) m
  joined (k ∷ a) {b} {s} {t} h m =
      let w = head_good h in
      let z = record_size g k in
      subst (Good g p (k ∷ (a ++ b))) (sym (append_assoc (take z s) (drop z s) t) ∙ ap (λ l. l ++ t) (take-append-drop z s)) (cons_good w.0 (joined a w.1 m))

  pub parts : (a : List ℕ) {b s : List ℕ} → Good g p (a ++ b) s → Good g p a (take (sites_size g.sizes a) s) × Good g p b (drop (sites_size g.sizes a) s)
  unfolding sites_size
  parts [] h = (none_good, h)
  parts (k ∷ a) {b} {s} h =
      let w = head_good h in
      let z = record_size g k in
      let v = parts a w.1 in (
        subst (Good g p (k ∷ a)) (sym (take-add z (sites_size g.sizes a) s)) (cons_good w.0 v.0),
        subst (Good g p b) (drop-drop (sites_size g.sizes a) z s) v.1,
      )

-- of sizes alone
abbrev pub any_record : ℕ → List ℕ → Bool
any_record k r = true

any_sites : (g : Globals) (ks s : List ℕ) → T (good_sites g any_record ks s)
unfolding good_sites
any_sites g [] s = tt
any_sites g (k ∷ ks) s = any_sites g ks (drop (record_size g k) s)

pub any_good : {g : Globals} (ks s : List ℕ) → length s ≡ sites_size g.sizes ks → Good g any_record ks s
any_good {g} ks s e = record { sized = e; good = any_sites g ks s }

-- ---- what an evaluation gives: `Q` is a property of values

-- what an evaluation comes to, if it has values, has the property
abbrev pub GivesOf : {A : Type 0} → (A → Type 0) → Results A → Type 0
GivesOf P (values a) = P a
GivesOf P (failure c) = Unit {0}
GivesOf P overflow = Unit {0}

-- the values of an outcome have the property
abbrev pub GivesAll : (Value → Type 0) → Outcomes → Type 0
GivesAll Q o = GivesOf (All Q) o

module _ (Q : Value → Type 0) (g : Globals) (p : ℕ → List ℕ → Bool) where
  pub record Meets (ks : List ℕ) (r : Eval) : Type 0 where
    pub seg : Good g p ks r.seg
    pub out : Gives Q r.out

  pub record MeetsAll (ks : List ℕ) (r : Evals) : Type 0 where
    pub seg : Good g p ks r.seg
    pub out : GivesAll Q r.out

  -- the values of each of several expressions
  pub record MeetsEach (ks : List ℕ) (r : Evaluated (List (List Value))) : Type 0 where
    pub seg : Good g p ks r.seg
    pub out : GivesOf (All (All Q)) r.out

  -- a call
  pub record Called (k : ℕ) (r : Evals) : Type 0 where
    pub seg : Rec g p k r.seg
    pub out : GivesAll Q r.out

  -- the taken branch's new segment and the other's
  record Kept (a b : List ℕ) (r : Branches) : Type 0 where
    taken : Good g p a r.taken
    other : Good g p b r.other
    out : Gives Q r.out

module _ (Q : Value → Type 0) where
  pub all_concat : (vss : List (List Value)) → All (All Q) vss → All Q (concat vss)
  all_concat [] h = tt
  all_concat (vs ∷ vss) h = all_join Q vs (concat vss) h.0 (all_concat vss h.1)

  single_gives : (o : Outcomes) → GivesAll Q o → Gives Q (single o)
  single_gives (values []) x = tt
  single_gives (values (v ∷ [])) x = x.0
  single_gives (values (v ∷ w ∷ ws)) x = tt
  single_gives (failure c) x = tt
  single_gives overflow x = tt

module _ {Q : Value → Type 0} {g : Globals} {p : ℕ → List ℕ → Bool} where
  next_meets : (a b : List ℕ) (r : Eval) (k : Value → List ℕ → Eval) (rest : List ℕ) → Meets Q g p a r → Good g p b rest → ((v : Value) → Q v → Meets Q g p b (k v rest))
      → Meets Q g p (a ++ b) (next r k rest)
  unfolding next
  next_meets a b r k rest m q h = go r.out m.out
    where
      go : (o : Outcome) → Gives Q o → Meets Q g p (a ++ b) (next_on o r.seg k rest)
      go (Out.Value v) f = let w = h v f in record { seg = joined a m.seg w.seg; out = w.out }
      go (Out.Failure c) f = record { seg = joined a m.seg q; out = tt }
      go Out.Overflow f = record { seg = joined a m.seg q; out = tt }

  map_meets : (ks : List ℕ) (r : Eval) (k : Value → Outcome) → Meets Q g p ks r → ((v : Value) → Q v → Gives Q (k v)) → Meets Q g p ks (map_eval k r)
  map_meets ks r k m h = record { seg = m.seg; out = go r.out m.out }
    where
      go : (o : Outcome) → Gives Q o → Gives Q (then_out k o)
      go (Out.Value v) f = h v f
      go (Out.Failure c) f = tt
      go Out.Overflow f = tt

  next_cells_meets : (a b : List ℕ) (r : Evals) (k : List Value → List ℕ → Eval) (rest : List ℕ) → MeetsAll Q g p a r → Good g p b rest
      → ((vs : List Value) → All Q vs → Meets Q g p b (k vs rest)) → Meets Q g p (a ++ b) (next_cells r k rest)
  unfolding next_cells
  next_cells_meets a b r k rest m q h = go r.out m.out
    where
      go : (o : Outcomes) → GivesAll Q o → Meets Q g p (a ++ b) (next_cells_on o r.seg k rest)
      go (values vs) f = let w = h vs f in record { seg = joined a m.seg w.seg; out = w.out }
      go (failure c) f = record { seg = joined a m.seg q; out = tt }
      go overflow f = record { seg = joined a m.seg q; out = tt }

  map_cells_meets : (ks : List ℕ) (r : Evals) (k : List Value → Outcome) → MeetsAll Q g p ks r → ((vs : List Value) → All Q vs → Gives Q (k vs)) → Meets Q g p ks (map_cells k r)
  map_cells_meets ks r k m h = record { seg = m.seg; out = go r.out m.out }
    where
      go : (o : Outcomes) → GivesAll Q o → Gives Q (then_cells k o)
      go (values vs) f = h vs f
      go (failure c) f = tt
      go overflow f = tt

  next_all_meets : (a b : List ℕ) (r : Evals) (k : List ℕ → Evaluated (List (List Value))) (rest : List ℕ) → MeetsAll Q g p a r → Good g p b rest → MeetsEach Q g p b (k rest)
      → MeetsEach Q g p (a ++ b) (next_all r k rest)
  unfolding next_all
  next_all_meets a b r k rest m q h = go r.out m.out
    where
      more : (vs : List Value) → All Q vs → (o : Results (List (List Value))) → GivesOf (All (All Q)) o → GivesOf (All (All Q)) (cons_out vs o)
      more vs f (values ws) x = (f, x)
      more vs f (failure c) x = tt
      more vs f overflow x = tt

      go : (o : Outcomes) → GivesAll Q o → MeetsEach Q g p (a ++ b) (next_all_on o r.seg k rest)
      go (values vs) f = record { seg = joined a m.seg h.seg; out = more vs f (k rest).out h.out }
      go (failure c) f = record { seg = joined a m.seg q; out = tt }
      go overflow f = record { seg = joined a m.seg q; out = tt }

  -- what is made of the values of each
  each_meets : (ks : List ℕ) (r : Evaluated (List (List Value))) (k : List (List Value) → Outcomes) → MeetsEach Q g p ks r
      → ((vss : List (List Value)) → All (All Q) vss → GivesAll Q (k vss)) → MeetsAll Q g p ks (map_evaluated k r)
  each_meets ks r k m h = record { seg = m.seg; out = go r.out m.out }
    where
      go : (o : Results (List (List Value))) → GivesOf (All (All Q)) o → GivesAll Q (then_results k o)
      go (values vss) f = h vss f
      go (failure c) f = tt
      go overflow f = tt

  flat_meets : (ks : List ℕ) (r : Evaluated (List (List Value))) → MeetsEach Q g p ks r → MeetsAll Q g p ks (flat r)
  flat_meets ks r m = each_meets ks r flatten m (all_concat Q)

  cells_meets : (ks : List ℕ) (b : Bool) (a : List ℕ → Evals) (e : List ℕ → Eval) (seg : List ℕ) → MeetsAll Q g p ks (a seg) → Meets Q g p ks (e seg)
      → MeetsAll Q g p ks (cells_by b a e seg)
  unfolding cells_by
  cells_meets ks true a e seg m h = m
  cells_meets ks false a e seg m h = record { seg = h.seg; out = go (e seg).out h.out }
    where
      go : (o : Outcome) → Gives Q o → GivesAll Q (several o)
      go (Out.Value v) f = (f, tt)
      go (Out.Failure c) f = tt
      go Out.Overflow f = tt

  arrays_meets : (ks : List ℕ) (b : Bool) (a e : List ℕ → Eval) (seg : List ℕ) → Meets Q g p ks (a seg) → Meets Q g p ks (e seg) → Meets Q g p ks (arrays_or b a e seg)
  unfolding arrays_or
  arrays_meets ks true a e seg m h = m
  arrays_meets ks false a e seg m h = h

  -- a call, its arguments evaluated
  enter_meets : (k : ℕ) (ks : List ℕ) (n : ℕ) (f : List Value → List ℕ → Evals) (own : List ℕ) (r : Evals) → Rec g p k own → MeetsAll Q g p ks r → CountIs n r.out
      → ((ws : List Value) → All Q ws → length ws ≡ n → Called Q g p k (f ws own)) → MeetsAll Q g p (k ∷ ks) (enter f own r)
  unfolding enter
  enter_meets k ks n f own r q m c h = go r.out m.out c
    where
      go : (o : Outcomes) → GivesAll Q o → CountIs n o → MeetsAll Q g p (k ∷ ks) (enter_on f own o r.seg)
      go (values ws) x c = let w = h ws x c in record { seg = cons_good w.seg m.seg; out = w.out }
      go (failure d) x c = record { seg = cons_good q m.seg; out = tt }
      go overflow x c = record { seg = cons_good q m.seg; out = tt }

  -- a fold, its arrays evaluated: then the seed, whose records stand before
  seed_meets : (a b : List ℕ) (f : List (List Value) → List ℕ → Evals) (own : List ℕ) (r : Evaluated (List (List Value))) → Good g p a own → MeetsEach Q g p b r
      → ((vss : List (List Value)) → All (All Q) vss → MeetsAll Q g p a (f vss own)) → MeetsAll Q g p (a ++ b) (enter f own r)
  unfolding enter
  seed_meets a b f own r q m h = go r.out m.out
    where
      go : (o : Results (List (List Value))) → GivesOf (All (All Q)) o → MeetsAll Q g p (a ++ b) (enter_on f own o r.seg)
      go (values vss) x = let w = h vss x in record { seg = joined a w.seg m.seg; out = w.out }
      go (failure c) x = record { seg = joined a q m.seg; out = tt }
      go overflow x = record { seg = joined a q m.seg; out = tt }

  single_meets : (ks : List ℕ) (r : Evals) → MeetsAll Q g p ks r → Meets Q g p ks (single_eval r)
  single_meets ks r m = record { seg = m.seg; out = single_gives Q r.out m.out }

  several_meets : (ks : List ℕ) (r : Eval) → Meets Q g p ks r → MeetsAll Q g p ks (several_eval r)
  several_meets ks r m = record { seg = m.seg; out = go r.out m.out }
    where
      go : (o : Outcome) → Gives Q o → GivesAll Q (several o)
      go (Out.Value v) f = (f, tt)
      go (Out.Failure c) f = tt
      go Out.Overflow f = tt

  -- ---- branches

  untaken_kept : (a b : List ℕ) (c : Bool) (v : Value) (seg : List ℕ) (o : Branch) → Good g p a seg → Q v → Good g p b o.seg → Meets Q g p b (o.run o.seg)
      → Kept Q g p a b (untaken c v seg o)
  untaken_kept a b true v seg o x f y m = record { taken = x; other = m.seg; out = go (o.run o.seg).out }
    where
      go : (w : Outcome) → Gives Q (drop_failure v w)
      go (Out.Value w) = f
      go (Out.Failure c) = f
      go Out.Overflow = tt
  untaken_kept a b false v seg o x f y m = record { taken = x; other = y; out = f }

  module _ (closed : Closed Q) where
    branches_kept : (a b : List ℕ) (w : Outcome) (seg : List ℕ) (o : Branch) → Gives Q w → Good g p a seg → Good g p b o.seg → Meets Q g p b (o.run o.seg)
        → Kept Q g p a b (branches_on w seg o)
    branches_kept a b (Out.Value v) seg o f x y m = untaken_kept a b o.calls (common_real o.wide v) seg o x (closed.commons o.wide v f) y m
    branches_kept a b (Out.Failure c) seg o f x y m = record { taken = x; other = y; out = tt }
    branches_kept a b Out.Overflow seg o f x y m = record { taken = x; other = y; out = tt }

    choose_meets : (a b : List ℕ) (t : Bool) (x y : Branch) → Good g p a x.seg → Good g p b y.seg → Meets Q g p a (x.run x.seg)
        → Meets Q g p b (y.run y.seg) → Meets Q g p (a ++ b) (choose t x y)
    unfolding choose
    choose_meets a b true x y p q h k =
        let r = branches_kept a b (x.run x.seg).out (x.run x.seg).seg y h.out h.seg q k in
        record { seg = joined a r.taken r.other; out = r.out }
    choose_meets a b false x y p q h k =
        let r = branches_kept b a (y.run y.seg).out (y.run y.seg).seg x k.out k.seg p h in
        record { seg = joined a r.other r.taken; out = r.out }

  condition_meets : (b : List ℕ) (k : Bool → List ℕ → Eval) (v : Value) (rest : List ℕ) → Good g p b rest → ((t : Bool) → Meets Q g p b (k t rest))
      → Meets Q g p b (condition k v rest)
  unfolding condition
  condition_meets b k (Val.Bool t) rest q h = h t
  condition_meets b k (Val.Int i) rest q h = record { seg = q; out = tt }
  condition_meets b k (Val.Float x) rest q h = record { seg = q; out = tt }
  condition_meets b k (Val.Float32 x) rest q h = record { seg = q; out = tt }
  condition_meets b k (Val.Enum v) rest q h = record { seg = q; out = tt }

-- ---- names

module _ (Q : Value → Type 0) where
  abbrev IfSome : Option Value → Type 0
  IfSome none = Unit {0}
  IfSome (some v) = Q v

  get_some : (cs : List Value) (i : ℕ) → All Q cs → IfSome (get_elem? cs i)
  get_some [] zero f = tt
  get_some [] (suc i) f = tt
  get_some (c ∷ cs) zero f = f.0
  get_some (c ∷ cs) (suc i) f = get_some cs i f.1

  lookup_some : (x : ℕ) (names : List ℕ) (cs : List Value) → All Q cs → IfSome (lookup x names cs)
  lookup_some x names cs f = go (position x names)
    where
      go : (o : Option ℕ) → IfSome (maybe none (get_elem? cs) o)
      go none = tt
      go (some i) = get_some cs i f

  or_some : (a b : Option Value) → IfSome a → IfSome b → IfSome (or_else a b)
  or_some none b f h = h
  or_some (some v) b f h = f

  some_gives : (o : Option Value) → IfSome o → Gives Q (or_failure o)
  some_gives none f = tt
  some_gives (some v) f = f

-- ---- arrays: their cells, their elements, and what iterating a function over them gives

pub elements_length : (j : ℕ) (vss : List (List Value)) → length (elements_at j vss) ≡ length vss
elements_length j [] = refl
elements_length j (vs ∷ vss) = ap suc (elements_length j vss)

module _ (Q : Value → Type 0) (none-Q : Q no_value_of) where
  get_q : (vs : List Value) (i : ℕ) → All Q vs → Q (get_or vs i no_value_of)
  get_q [] zero f = none-Q
  get_q [] (suc i) f = none-Q
  get_q (v ∷ vs) zero f = f.0
  get_q (v ∷ vs) (suc i) f = get_q vs i f.1

  picked_q : (vs : List Value) (is : List ℕ) → All Q vs → All Q (picked vs is)
  picked_q vs [] f = tt
  picked_q vs (i ∷ is) f = (get_q vs i f, picked_q vs is f)

  abbrev IfAll : Option (List Value) → Type 0
  IfAll none = Unit {0}
  IfAll (some vs) = All Q vs

  named_q : (x : ℕ) (names : List ℕ) (vs : List Value) → All Q vs → IfAll (cells_named x names vs)
  named_q x names vs f = go (positions x names)
    where
      go : (is : List ℕ) → IfAll (picked_some vs is)
      go [] = tt
      go (i ∷ is) = picked_q vs (i ∷ is) f

  or_q : (a b : Option (List Value)) → IfAll a → IfAll b → GivesAll Q (or_failures (or_else a b))
  or_q none none f h = tt
  or_q none (some vs) f h = h
  or_q (some vs) b f h = f

  pub elements_q : (j : ℕ) (vss : List (List Value)) → All (All Q) vss → All Q (elements_at j vss)
  elements_q j [] f = tt
  elements_q j (vs ∷ vss) f = (get_q vs j f.0, elements_q j vss f.1)

  first_q : (vss : List (List Value)) → All (All Q) vss → All Q (get_or vss 0 [])
  first_q [] f = tt
  first_q (vs ∷ vss) f = f.0

  element_q : (vs : List Value) (i : ℤ) → All Q vs → Gives Q (element_at vs i)
  element_q vs (pos k) f = go (get_elem? vs k) (get_some Q vs k f)
    where
      go : (o : Option Value) → IfSome Q o → Gives Q (maybe (Out.Failure Why.Range) Out.Value o)
      go none h = tt
      go (some v) h = h
  element_q vs (negsuc k) f = tt

  index_q : (b : Bool) (vs : List Value) (v : Value) → All Q vs → Gives Q (index_of b vs v)
  index_q b vs (Val.Bool x) f = tt
  index_q true vs (Val.Int i) f = element_q vs i f
  index_q false vs (Val.Int i) f = tt
  index_q b vs (Val.Float x) f = tt
  index_q b vs (Val.Float32 x) f = tt
  index_q b vs (Val.Enum x) f = tt

  next_q : (o : Outcome) → Gives Q o → (r : Outcomes) → GivesAll Q r → GivesAll Q (map_next o (λ u. r))
  unfolding map_next
  next_q (Out.Value v) q (values ws) x = (q, x)
  next_q (Out.Value v) q (failure c) x = tt
  next_q (Out.Value v) q overflow x = tt
  next_q (Out.Failure c) q r x = tt
  next_q Out.Overflow q r x = tt

  then_q : (k : Value → Outcome) (o : Outcome) → Gives Q o → ((w : Value) → Q w → Gives Q (k w)) → Gives Q (then_out k o)
  then_q k (Out.Value v) q h = h v q
  then_q k (Out.Failure c) q h = tt
  then_q k Out.Overflow q h = tt

  map_q : (f : List Value → Outcome) (vss : List (List Value)) (j n : ℕ) → All (All Q) vss → ((k : ℕ) → Gives Q (f (elements_at k vss))) → GivesAll Q (map_from f vss j n)
  unfolding map_from
  map_q f vss j zero h k = tt
  map_q f vss j (suc n) h k = next_q (f (elements_at j vss)) (k j) (map_from f vss (suc j) n) (map_q f vss (suc j) n h k)

  fold_q : (f : List Value → Outcome) (vs : List Value) (r : Value) → All Q vs → Q r → ((a b : Value) → Q a → Q b → Gives Q (f (a ∷ b ∷ []))) → Gives Q (fold_from f r vs)
  unfolding fold_from
  fold_q f [] r h q k = q
  fold_q f (v ∷ vs) r h q k = then_q (λ w. fold_from f w vs) (f (r ∷ v ∷ [])) (k r v q h.0) (λ w x. fold_q f vs w h.1 x k)

compare_q : (Q : Value → Type 0) → ((b : Bool) → Q (Val.Bool b)) → (op : BinOp) (vs ws : List Value) → Gives Q (compare_cells op vs ws)
compare_q Q h op vs ws = go (equality op)
  where
    go : (o : Option (Bool → Bool)) → Gives Q (maybe (Out.Failure Why.Other) (λ f. bool_out (f (equal_cells vs ws))) o)
    go none = tt
    go (some f) = h (f (equal_cells vs ws))

-- calls that keep records good and values such, where variants and constants are such values; an iterated node has no record
pub record Sound (Q : Value → Type 0) (g : Globals) (p : ℕ → List ℕ → Bool) (calls : Calls) : Type 0 where
  pub closed : Closed Q
  pub variants : (x : ℕ) → T (member x (concat g.enums)) → Q (Val.Enum x)
  pub constants : All Q g.constant_values
  pub keeps : (k : ℕ) (ws : List Value) (r : List ℕ) → T (may_be g.nodes k (length ws)) → All Q ws → Rec g p k r → Called Q g p k (calls k ws r)
  pub iterates : (k m : ℕ) → T (may_iterate g.nodes k m) → Rec g p k [] × T (may_be g.nodes k m)
  pub counts : Counts g calls

module _ {Q : Value → Type 0} {g : Globals} {p : ℕ → List ℕ → Bool} {calls : Calls} (sound : Sound Q g p calls)
    (s : Scope) (present : All Q s.present) (before : All Q s.before) (shaped : NamesShaped g s) where
  abbrev OkExpr : Expr → Type 0
  OkExpr e = Allowed g.nodes s.arrays g.arrays (may_be g.nodes) (may_iterate g.nodes) e

  abbrev OkExprs : Exprs → Type 0
  OkExprs es = AllowedAll g.nodes s.arrays g.arrays (may_be g.nodes) (may_iterate g.nodes) es

  constant_some : (x : ℕ) → IfSome Q (constant_of g s x)
  constant_some x = lookup_some Q x g.constant_names g.constant_values sound.constants

  present_some : (x : ℕ) → IfSome Q (present_of g s x)
  present_some x =
      or_some Q (lookup x s.names s.present) _ (lookup_some Q x s.names s.present present)
      (or_some Q (constant_of g s x) _ (constant_some x) (cond_t (IfSome Q) (member x (concat g.enums)) (some (Val.Enum x)) none (sound.variants x) (λ t. tt)))

  pre_gives : (b : Bool) (e : Expr) → Gives Q (pre_of g s b e)
  pre_gives true e = tt
  pre_gives false e = some_gives Q (maybe none (before_of g s) (name_in e)) (go (name_in e))
    where
      go : (o : Option ℕ) → IfSome Q (maybe none (before_of g s) o)
      go none = tt
      go (some x) = or_some Q (lookup x s.names s.before) _ (lookup_some Q x s.names s.before before) (constant_some x)

  no_q : Q no_value_of
  no_q = sound.closed.bools false

  cells_q : (cs : List Value) (x : ℕ) → All Q cs → GivesAll Q (cells_of g s cs x)
  cells_q cs x f =
      or_q Q no_q (cells_named x s.names cs) (cells_named x g.constant_names g.constant_values) (named_q Q no_q x s.names cs f) (named_q Q no_q x g.constant_names g.constant_values sound.constants)

  pre_q : (b : Bool) (e : Expr) → GivesAll Q (pre_cells g s b e)
  pre_q true e = tt
  pre_q false e = go (name_in e)
    where
      go : (o : Option ℕ) → GivesAll Q (maybe (failure Why.Other) (cells_of g s s.before) o)
      go none = tt
      go (some x) = cells_q s.before x before

  -- one call of an iterated function
  pub applied_q : (k m : ℕ) (ws : List Value) → T (may_iterate g.nodes k m) → length ws ≡ m → All Q ws → Gives Q (applied g s calls k ws)
  applied_q k m ws t e f =
      let w = sound.iterates k m t in
      single_gives Q (calls k ws []).out (sound.keeps k ws [] (subst (λ m. T (may_be g.nodes k m)) (sym e) w.1) f w.0).out

  counts_length : (es : Exprs) → length (cell_counts g.nodes s.arrays g.arrays es) ≡ count es
  counts_length nil = refl
  counts_length (cons e es) = ap suc (counts_length es)

  iterated_gives : (k : ℕ) (es : Exprs) (o : Results (List (List Value))) → T (may_iterate g.nodes k (count es)) → GivesOf (All (All Q)) o
      → EachIs (cell_counts g.nodes s.arrays g.arrays es) o → GivesAll Q (then_results (map_all g s calls k) o)
  iterated_gives k es (values vss) t f c =
      let many : length vss ≡ count es = sym (length-map vss length) ∙ ap length c ∙ counts_length es in
      map_q Q no_q (applied g s calls k) vss 0 (length (get_or vss 0 [])) f
      (λ j. applied_q k (count es) (elements_at j vss) t (elements_length j vss ∙ many) (elements_q Q no_q j vss f))
  iterated_gives k es (failure d) t f c = tt
  iterated_gives k es overflow t f c = tt

  mutual
    unfolding eval

    pub eval_meets : (e : Expr) (seg : List ℕ) → Plain e → OkExpr e → Good g p (callees e) seg → Meets Q g p (callees e) (eval g s calls e seg)
    eval_meets (bool_lit b) seg x a h = record { seg = h; out = sound.closed.bools b }
    eval_meets (int_lit i) seg x a h = record { seg = h; out = sound.closed.ints i x }
    eval_meets (float_lit b) seg x a h = record { seg = h; out = sound.closed.doubles b }
    eval_meets (char_lit c) seg x a h = record { seg = h; out = sound.closed.ints (pos c) (omega arith) }
    eval_meets (var n) seg x a h = record { seg = h; out = some_gives Q (present_of g s n) (present_some n) }
    eval_meets (unary op e) seg x a h = map_meets (callees e) (eval g s calls e seg) (unary_of op) (eval_meets e seg x a h) (sound.closed.unaries op)
    eval_meets (binary op l r) seg x a h =
        let w = parts (callees l) h in
        arrays_meets (callees l ++ callees r) (is_array g s l) _ _ seg
        (next_cells_meets (callees l) (callees r) _ _ _ (array_meets l _ x.0 a.0 w.0) w.1
        (λ vs f. map_cells_meets (callees r) (eval_array g s calls r (drop (seg_size g l) seg)) (compare_cells op vs) (array_meets r _ x.1 a.1 w.1) (λ ws k. compare_q Q sound.closed.bools op vs ws)))
        (next_meets (callees l) (callees r) _ _ _ (eval_meets l _ x.0 a.0 w.0) w.1
        (λ v f. map_meets (callees r) (eval g s calls r (drop (seg_size g l) seg)) (binary_of op v) (eval_meets r _ x.1 a.1 w.1) (λ u k. sound.closed.binaries op v u f k)))
    eval_meets (if_then_else c t e) seg x a h =
        let w = parts (callees c) h in
        let u = parts (callees t) w.1 in
        next_meets (callees c) (callees t ++ callees e) _ _ _ (eval_meets c _ x.0 a.0 w.0) w.1
        (λ v f. condition_meets (callees t ++ callees e) _ v _ w.1
        (λ b. choose_meets sound.closed (callees t) (callees e) b _ _ u.0 u.1 (eval_meets t _ x.1 a.1 u.0) (eval_meets e _ x.2 a.2 u.1)))
    eval_meets (pre e) seg x a h = record { seg = h; out = pre_gives s.first e }
    eval_meets (arrow l r) seg x a h =
        let w = parts (callees l) h in
        choose_meets sound.closed (callees l) (callees r) s.first _ _ w.0 w.1 (eval_meets l _ x.0 a.0 w.0) (eval_meets r _ x.1 a.1 w.1)
    eval_meets (cast t e) seg x a h = map_meets (callees e) (eval g s calls e seg) (cast_to t) (eval_meets e seg x a h) (sound.closed.casts t)
    eval_meets (call k es) seg x a h =
        let w = head_good h in
        single_meets (k ∷ callees_all es) _
        (enter_meets k (callees_all es) (cells_all g.nodes s.arrays g.arrays es) (calls k) _ _ w.0 (flat_meets (callees_all es) _ (each_meet es _ x a.1 w.1))
        (all_count g s calls sound.counts shaped es (drop (record_size g k) seg) a.1)
        (λ ws f n. sound.keeps k ws _ (subst (λ m. T (may_be g.nodes k m)) (sym n) a.0) f w.0))
    eval_meets (tuple es) seg x a h = record { seg = h; out = tt }
    eval_meets (index b i) seg x a h =
        let w = parts (callees b) h in
        next_cells_meets (callees b) (callees i) _ _ _
        (cells_meets (callees b) (is_array g s b) (λ q. eval_array g s calls b q) (λ q. eval g s calls b q) _ (array_meets b _ x.0 a.0 w.0) (eval_meets b _ x.0 a.0 w.0)) w.1
        (λ vs f. map_meets (callees i) (eval g s calls i (drop (seg_size g b) seg)) (index_of (is_array g s b) vs) (eval_meets i _ x.1 a.1 w.1) (λ v k. index_q Q no_q (is_array g s b) vs v f))
    eval_meets (literal es) seg x a h = record { seg = h; out = tt }
    eval_meets (map_over k es) seg x a h = record { seg = h; out = tt }
    eval_meets (fold_over k e es) seg x a h =
        let w = parts (callees e) h in
        single_meets (callees e ++ callees_all es) _
        (seed_meets (callees e) (callees_all es) _ _ _ w.0 (each_meet es _ x.1 a.2 w.1)
        (λ vss f. several_meets (callees e) _ (map_meets (callees e) (eval g s calls e (take (seg_size g e) seg)) (fold_all g s calls k vss) (eval_meets e _ x.0 a.1 w.0)
        (λ v q. fold_q Q no_q (applied g s calls k) (get_or vss 0 []) v (first_q Q no_q vss f) q (λ b c qb qc. applied_q k 2 (b ∷ c ∷ []) a.0 refl (qb, (qc, tt)))))))

    pub array_meets : (e : Expr) (seg : List ℕ) → Plain e → OkExpr e → Good g p (callees e) seg → MeetsAll Q g p (callees e) (eval_array g s calls e seg)
    array_meets (bool_lit b) seg x a h = record { seg = h; out = tt }
    array_meets (int_lit i) seg x a h = record { seg = h; out = tt }
    array_meets (float_lit b) seg x a h = record { seg = h; out = tt }
    array_meets (char_lit c) seg x a h = record { seg = h; out = tt }
    array_meets (var n) seg x a h = record { seg = h; out = cells_q s.present n present }
    array_meets (unary op e) seg x a h = record { seg = h; out = tt }
    array_meets (binary op l r) seg x a h = record { seg = h; out = tt }
    array_meets (if_then_else c t e) seg x a h = record { seg = h; out = tt }
    array_meets (pre e) seg x a h = record { seg = h; out = pre_q s.first e }
    array_meets (arrow l r) seg x a h = record { seg = h; out = tt }
    array_meets (cast t e) seg x a h = record { seg = h; out = tt }
    array_meets (call k es) seg x a h =
        let w = head_good h in
        enter_meets k (callees_all es) (cells_all g.nodes s.arrays g.arrays es) (calls k) _ _ w.0 (flat_meets (callees_all es) _ (each_meet es _ x a.1 w.1))
        (all_count g s calls sound.counts shaped es (drop (record_size g k) seg) a.1)
        (λ ws f n. sound.keeps k ws _ (subst (λ m. T (may_be g.nodes k m)) (sym n) a.0) f w.0)
    array_meets (tuple es) seg x a h = record { seg = h; out = tt }
    array_meets (index b i) seg x a h = record { seg = h; out = tt }
    array_meets (literal es) seg x a h = flat_meets (callees_all es) _ (each_meet es seg x a.1 h)
    array_meets (map_over k es) seg x a h =
        let m = each_meet es seg x a.2 h in
        let c = each_kept g s calls sound.counts shaped es seg a.2 in
        record { seg = m.seg; out = iterated_gives k es (eval_each g s calls es seg).out a.0 m.out c }
    array_meets (fold_over k e es) seg x a h = record { seg = h; out = tt }

    pub each_meet : (es : Exprs) (seg : List ℕ) → PlainAll es → OkExprs es → Good g p (callees_all es) seg → MeetsEach Q g p (callees_all es) (eval_each g s calls es seg)
    each_meet nil seg x a h = record { seg = h; out = tt }
    each_meet (cons e es) seg x a h =
        let w = parts (callees e) h in
        next_all_meets (callees e) (callees_all es) _ _ _
        (cells_meets (callees e) (is_array g s e) (λ q. eval_array g s calls e q) (λ q. eval g s calls e q) _ (array_meets e _ x.0 a.0 w.0) (eval_meets e _ x.0 a.0 w.0)) w.1
        (each_meet es _ x.1 a.1 w.1)

  pub cells_meet : (e : Expr) (seg : List ℕ) → Plain e → OkExpr e → Good g p (callees e) seg → MeetsAll Q g p (callees e) (eval_cells g s calls e seg)
  cells_meet e seg x a h = cells_meets (callees e) (is_array g s e) (λ q. eval_array g s calls e q) (λ q. eval g s calls e q) seg (array_meets e seg x a h) (eval_meets e seg x a h)

  pub rhs_meets : (e : Expr) (seg : List ℕ) → Plain e → OkExpr e → Good g p (callees e) seg → MeetsAll Q g p (callees e) (eval_rhs g s calls (rhs_of e) seg)
  rhs_meets =
      by_right (λ e r. (seg : List ℕ) → Plain e → OkExpr e → Good g p (callees e) seg → MeetsAll Q g p (callees e) (eval_rhs g s calls r seg))
      cells_meet
      (λ k es seg x a h.
      let w = head_good h in
      enter_meets k (callees_all es) (cells_all g.nodes s.arrays g.arrays es) (calls k) _ _ w.0 (flat_meets (callees_all es) _ (each_meet es _ x a.1 w.1))
      (all_count g s calls sound.counts shaped es (drop (record_size g k) seg) a.1)
      (λ ws f n. sound.keeps k ws _ (subst (λ m. T (may_be g.nodes k m)) (sym n) a.0) f w.0))
      (λ es seg x a h. flat_meets (callees_all es) _ (each_meet es seg x a h))
