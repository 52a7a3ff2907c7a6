-- What the tests at the heads say of the tree: the first faulted head is the first faulted item of a walk.
use Prim.Native.Nat.{ℕ, zero, suc, ◌+◌, ◌-◌, ◌≤◌, ◌<◌}
use mathlib.Core.Bool.{Bool, true, false, cond}
use mathlib.Core.List.{List, [], ◌∷◌, ◌++◌, map, map-append}
use mathlib.Core.Option.{Option, none}
use mathlib.Core.Path.{◌≡◌, refl, sym, ap, subst, ◌∙◌}
use native.Mathlib.Omega.{arith}
use lib.ListN.{length, get_or, set, length-set}
use lib.Seq.{get_or-set_same, get_or-set_other}
use lib.Dec.{ltb, eqb}
use Rattle.ol_spec.specs.Lists.{or_else}
use Rattle.ol_spec.specs.Syntax.{Expr, bool_lit, int_lit, float_lit, char_lit, var, unary, binary, if_then_else, pre, arrow, cast, call, tuple, index, literal, map_over, fold_over, Exprs, nil, cons, count, File, rhs_of}
use Rattle.ol_spec.specs.Places.{exprs_size, collect_all}
use Rattle.ol_spec.specs.Admission.{Item, first, first_if, unseen_item, used_at, uses_where, bad_iterator, shape_item, arity, callee_in}
use Rattle.ol_spec.proofs.Walks.{first_append}
use Rattle.ol_tables.specs.At.{file_at}
use Rattle.ol_tables.specs.Tables.{Each, two_at}
use Rattle.ol_tables.proofs.TableLaws.{two_same, two_other, two_length, two_kept}
use Rattle.ol_check.specs.Arrays.{formed, formed_at}
use Rattle.ol_tables.specs.Heads.{parts_of, head_size, joined, HeadIs, Standing}
use Rattle.ol_tables.proofs.HeadLaws.{headed, head_some, head_ends, walk_head}
use Rattle.ol_check.specs.Judging.{head_at, heads, unseen_head, entry_length, entry_cell, entry_put, var_put, slot_head, slot_heads, formed_b, bad_b, called_head, outputs_b, arity_b, several_head, Knows}

-- a list of expressions, head by head
pub data Flat (s : List ℕ) : ℕ → Exprs → Type 0 where
  ended : {at : ℕ} → Flat s at nil
  head_and : {at : ℕ} {e : Expr} {es : Exprs} → at + head_size e ≤ length s → HeadIs s at e → Flat s (at + head_size e) (joined (parts_of e) es) → Flat s at (cons e es)

-- one head, where the rest of less size is walked
flat_step : {s : List ℕ} {enums at : ℕ} (fuel : ℕ) (es : Exprs) → exprs_size es ≤ suc fuel → Standing s enums at es
    → ((at' : ℕ) (rest : Exprs) → exprs_size rest ≤ fuel → Standing s enums at' rest → Flat s at' rest) → Flat s at es
flat_step fuel nil le st more = ended
flat_step {at = at} fuel (cons e es) le st more =
    let h = headed e es st in
    head_and h.whole h.head (more _ (joined (parts_of e) es) (omega (arith, head_ends e es at, head_some e)) h.rest)

flat_within : {s : List ℕ} {enums : ℕ} (fuel at : ℕ) (es : Exprs) → exprs_size es ≤ fuel → Standing s enums at es → Flat s at es
flat_within zero at es le st = flat_step 0 es (omega arith) st (λ at' rest le' st'. flat_none at' rest le' st')
  where
    flat_none : {s : List ℕ} {enums : ℕ} (at : ℕ) (es : Exprs) → exprs_size es ≤ 0 → Standing s enums at es → Flat s at es
    flat_none at nil le st = ended
    flat_none at (cons e es) le st = absurd (omega (arith, head_ends e es at, head_some e))
flat_within (suc fuel) at es le st = flat_step fuel es le st (λ at' rest le' st'. flat_within fuel at' rest le' st')

pub flat : {s : List ℕ} {enums at : ℕ} {es : Exprs} → Standing s enums at es → Flat s at es
flat {at = at} {es = es} st = flat_within (exprs_size es) at es (omega arith) st

-- ---- items at heads are items of the walk

first_one : (b : Bool) (p : ℕ) (r : Option ℕ) → first_if b p r ≡ or_else (first_if b p none) r
first_one true p r = refl
first_one false p r = refl

module _ {s : List ℕ} (item : ℕ → Item) (g : ℕ → Expr → List Item) (agree : (at : ℕ) (e : Expr) → HeadIs s at e → first (g at e) ≡ first_if (item at).1 (item at).0 none) where
  pub heads_first : {at : ℕ} {es : Exprs} → Flat s at es → first (map item (heads at es)) ≡ first (collect_all g at es)
  unfolding collect_all
  heads_first ended = refl
  heads_first (head_and {at} {e} {es} w h r) =
      let rest = joined (parts_of e) es in
      let next = at + head_size e in
      ap (λ l. first (map item l)) (walk_head head_at at e es)
      ∙ first_one (item at).1 (item at).0 (first (map item (heads next rest)))
      ∙ ap (λ o. or_else o (first (map item (heads next rest)))) (sym (agree at e h))
      ∙ ap (or_else (first (g at e))) (heads_first r)
      ∙ sym (ap first (walk_head g at e es) ∙ first_append (g at e) (collect_all g next rest))

-- a walk's items, mapped
pub walk_map : {A B : Type 0} {s : List ℕ} (h : A → B) (f : ℕ → Expr → List A) {at : ℕ} {es : Exprs} → Flat s at es → map h (collect_all f at es) ≡ collect_all (λ p e. map h (f p e)) at es
unfolding collect_all
walk_map h f ended = refl
walk_map h f (head_and {at} {e} {es} w q r) =
    ap (map h) (walk_head f at e es) ∙ map-append h (f at e) _ ∙ ap (λ l. map h (f at e) ++ l) (walk_map h f r) ∙ sym (walk_head (λ p x. map h (f p x)) at e es)

-- ---- 7

abbrev unseen_at : List ℕ → ℕ → Expr → List Item
unseen_at visible at e = map (unseen_item visible) (used_at at e)

module _ (s names visible : List ℕ) (knows : Knows names visible) where
  unseen_agree : (at : ℕ) (e : Expr) → HeadIs s at e → first (unseen_at visible at e) ≡ first_if (unseen_head s names at).1 (unseen_head s names at).0 none
  unseen_agree at (bool_lit b) h = rw h
  unseen_agree at (int_lit i) h = rw h
  unseen_agree at (float_lit b) h = rw h
  unseen_agree at (char_lit c) h = rw h
  unseen_agree at (var x) h = rw (h.0, h.1, knows x)
  unseen_agree at (unary op e) h = rw h
  unseen_agree at (binary op a b) h = rw h
  unseen_agree at (if_then_else c a b) h = rw h
  unseen_agree at (pre e) h = rw h
  unseen_agree at (arrow a b) h = rw h
  unseen_agree at (cast t e) h = rw h.0
  unseen_agree at (call k es) h = rw h.0
  unseen_agree at (tuple es) h = rw h.0
  unseen_agree at (index a i) h = rw h
  unseen_agree at (literal es) h = rw h.0
  unseen_agree at (map_over k es) h = rw h.0
  unseen_agree at (fold_over k e es) h = rw h.0

  pub unseen_law : {at : ℕ} {es : Exprs} → Flat s at es → first (map (unseen_head s names) (heads at es)) ≡ first (map (unseen_item visible) (collect_all used_at at es))
  unseen_law f = heads_first (unseen_head s names) (unseen_at visible) unseen_agree f ∙ ap first (sym (walk_map (unseen_item visible) used_at f))

-- ---- 9

module _ (s rows : List ℕ) (k : ℕ) (bad : ℕ → ℕ → Bool) (over : ℕ → Bool) (calls : (c n : ℕ) → bad_b rows k c n ≡ bad c n) (iterators : (c : ℕ) → bad_iterator k c ≡ over c) where
  called_agree : (at : ℕ) (e : Expr) → HeadIs s at e → first (uses_where bad over at e) ≡ first_if (called_head s rows k at).1 (called_head s rows k at).0 none
  called_agree at (bool_lit b) h = rw h
  called_agree at (int_lit i) h = rw h
  called_agree at (float_lit b) h = rw h
  called_agree at (char_lit c) h = rw h
  called_agree at (var x) h = rw h.0
  called_agree at (unary op e) h = rw h
  called_agree at (binary op a b) h = rw h
  called_agree at (if_then_else c a b) h = rw h
  called_agree at (pre e) h = rw h
  called_agree at (arrow a b) h = rw h
  called_agree at (cast t e) h = rw h.0
  called_agree at (call c es) h = rw (h.0, h.1, h.2) (ap (λ b. first_if b at none) (sym (calls c (count es))))
  called_agree at (tuple es) h = rw h.0
  called_agree at (index a i) h = rw h
  called_agree at (literal es) h = rw h.0
  called_agree at (map_over c es) h = rw (h.0, h.2) (ap (λ b. first_if b at none) (sym (iterators c)))
  called_agree at (fold_over c e es) h = rw (h.0, h.2) (ap (λ b. first_if b at none) (sym (iterators c)))

  pub called_law : {at : ℕ} {es : Exprs} → Flat s at es → first (map (called_head s rows k) (heads at es)) ≡ first (collect_all (uses_where bad over) at es)
  called_law f = heads_first (called_head s rows k) (uses_where bad over) called_agree f

-- ---- 10

module _ (s rows : List ℕ) (nodes : ℕ) (f : File) (outputs : (c : ℕ) → outputs_b rows nodes c ≡ length (callee_in f c).outputs) where
  pub arity_is : (at : ℕ) (e : Expr) → HeadIs s at e → arity_b s rows nodes at ≡ arity f (rhs_of e)
  arity_is at (bool_lit b) h = rw h
  arity_is at (int_lit i) h = rw h
  arity_is at (float_lit b) h = rw h
  arity_is at (char_lit c) h = rw h
  arity_is at (var x) h = rw h.0
  arity_is at (unary op e) h = rw h
  arity_is at (binary op a b) h = rw h
  arity_is at (if_then_else c a b) h = rw h
  arity_is at (pre e) h = rw h
  arity_is at (arrow a b) h = rw h
  arity_is at (cast t e) h = rw h.0
  arity_is at (call c es) h = rw (h.0, h.1) (outputs c)
  arity_is at (tuple es) h = rw h.0 h.1
  arity_is at (index a i) h = rw h
  arity_is at (literal es) h = rw h.0
  arity_is at (map_over k es) h = rw h.0
  arity_is at (fold_over k e es) h = rw h.0

  pub several_law : {at : ℕ} {es : Exprs} → Flat s at es → first (map (several_head s rows nodes) (heads at es)) ≡ first (collect_all (shape_item f) at es)
  several_law w = heads_first (several_head s rows nodes) (shape_item f) (λ at e h. ap (λ n. first_if (ltb 1 n) at none) (sym (arity_is at e h))) w

-- ---- what is about arrays

formed_agree : (s : List ℕ) (at : ℕ) (e : Expr) → HeadIs s at e → formed_b s at ≡ formed e
formed_agree s at (bool_lit b) h = rw h refl
formed_agree s at (int_lit i) h = rw h refl
formed_agree s at (float_lit b) h = rw h refl
formed_agree s at (char_lit c) h = rw h refl
formed_agree s at (var x) h = rw h.0 refl
formed_agree s at (unary op e) h = rw h refl
formed_agree s at (binary op a b) h = rw h refl
formed_agree s at (if_then_else c a b) h = rw h refl
formed_agree s at (pre e) h = rw h refl
formed_agree s at (arrow a b) h = rw h refl
formed_agree s at (cast t e) h = rw h.0 refl
formed_agree s at (call k es) h = rw h.0 refl
formed_agree s at (tuple es) h = rw h.0 refl
formed_agree s at (index a i) h = rw h refl
formed_agree s at (literal es) h = rw h.0 refl
formed_agree s at (map_over k es) h = rw h.0 refl
formed_agree s at (fold_over k e es) h = rw h.0 refl

pub formed_law : {s : List ℕ} {at : ℕ} {es : Exprs} → Flat s at es → map (formed_b s) (heads at es) ≡ collect_all formed_at at es
unfolding collect_all
formed_law ended = refl
formed_law {s} (head_and {at} {e} {es} w h r) =
    let rest = joined (parts_of e) es in
    ap (map (formed_b s)) (walk_head head_at at e es) ∙ ap (λ b. b ∷ map (formed_b s) (heads (at + head_size e) rest)) (formed_agree s at e h) ∙ ap (λ l. formed e ∷ l) (formed_law r) ∙ sym (walk_head formed_at at e es)

-- ---- slots

-- the cell of a Var's name and its array's length stand in its three bytes, which are inside the table of slots
pub record CellIs (f : File) (k : ℕ) (names slots : List ℕ) (p : ℕ × ℕ) : Type 0 where
  pub some : 1 ≤ p.0
  pub inside : p.0 + 1 < length slots
  pub length_is : get_or slots (p.0 - 1) 0 ≡ entry_length f k (get_or names p.1 0)
  pub cell_is : two_at slots p.0 ≡ entry_cell f k (get_or names p.1 0)

module _ (s names : List ℕ) (k : ℕ) where
  put_length : (slots : List ℕ) (p e : ℕ) → length (entry_put (file_at s) k slots p e) ≡ length slots
  unfolding entry_put
  put_length slots p e = two_length (set slots p (entry_length (file_at s) k e)) (p + 1) _ ∙ length-set slots p _

  put_kept : (slots : List ℕ) (p e j : ℕ) → (p ≤ j → j < p + 3 → ⊥) → get_or (entry_put (file_at s) k slots p e) j 0 ≡ get_or slots j 0
  unfolding entry_put
  put_kept slots p e j out = two_other (set slots p _) (p + 1) _ j (λ q. out (omega arith) (omega arith)) (λ q. out (omega arith) (omega arith)) ∙ get_or-set_other slots p j _ 0 (λ q. out (omega arith) (omega arith))

  slot_length : (slots : List ℕ) (p : ℕ) → length (slot_head s names k slots p) ≡ length slots
  slot_length slots p = go (eqb (get_or s p 0) 4)
    where
      go : (b : Bool) → length (cond b (var_put s names k slots p) slots) ≡ length slots
      go true = put_length slots p _
      go false = refl

  -- a head that is no Var changes nothing; a Var has three bytes
  head_kept : (slots : List ℕ) (at : ℕ) (e : Expr) → HeadIs s at e → (j : ℕ) → (at ≤ j → j < at + head_size e → ⊥) → get_or (slot_head s names k slots at) j 0 ≡ get_or slots j 0
  head_kept slots at (bool_lit b) h j out = rw h refl
  head_kept slots at (int_lit i) h j out = rw h refl
  head_kept slots at (float_lit b) h j out = rw h refl
  head_kept slots at (char_lit x) h j out = rw h refl
  head_kept slots at (var x) h j out = rw h.0 (put_kept slots at _ j out)
  head_kept slots at (unary op e) h j out = rw h refl
  head_kept slots at (binary op a b) h j out = rw h refl
  head_kept slots at (if_then_else x a b) h j out = rw h refl
  head_kept slots at (pre e) h j out = rw h refl
  head_kept slots at (arrow a b) h j out = rw h refl
  head_kept slots at (cast t e) h j out = rw h.0 refl
  head_kept slots at (call k es) h j out = rw h.0 refl
  head_kept slots at (tuple es) h j out = rw h.0 refl
  head_kept slots at (index a i) h j out = rw h refl
  head_kept slots at (literal es) h j out = rw h.0 refl
  head_kept slots at (map_over k es) h j out = rw h.0 refl
  head_kept slots at (fold_over k e es) h j out = rw h.0 refl

  pub slots_length : (ps slots : List ℕ) → length (slot_heads s names k slots ps) ≡ length slots
  unfolding slot_heads
  slots_length [] slots = refl
  slots_length (p ∷ ps) slots = slots_length ps (slot_head s names k slots p) ∙ slot_length slots p

  -- a walk leaves what stands outside its expressions
  pub slots_outside : {at : ℕ} {es : Exprs} → Flat s at es → (slots : List ℕ) (j : ℕ) → (at ≤ j → j < at + exprs_size es → ⊥) → get_or (slot_heads s names k slots (heads at es)) j 0 ≡ get_or slots j 0
  unfolding slot_heads collect_all
  slots_outside ended slots j out = refl
  slots_outside (head_and {at} {e} {es} w h r) slots j out =
      let ends = head_ends e es at in
      ap (λ l. get_or (slot_heads s names k slots l) j 0) (walk_head head_at at e es)
      ∙ slots_outside r (slot_head s names k slots at) j (λ a b. out (omega (arith, head_some e)) (omega arith)) ∙ head_kept slots at e h j (λ a b. out a (omega arith))

  pub slots_below : {at : ℕ} {es : Exprs} → Flat s at es → (slots : List ℕ) (j : ℕ) → j < at → get_or (slot_heads s names k slots (heads at es)) j 0 ≡ get_or slots j 0
  slots_below f slots j lt = slots_outside f slots j (λ a b. omega arith)

  module _ (small : (e : ℕ) → entry_cell (file_at s) k e < 65536) where
    -- a Var's cell and length, where its three bytes are kept
    cell_stored : (slots slots' : List ℕ) (at x : ℕ) → at + 3 ≤ length slots → at + 3 ≤ length slots' → ((j : ℕ) → at ≤ j → j < at + 3 → get_or slots' j 0 ≡ get_or (entry_put (file_at s) k slots at (get_or names x 0)) j 0) → CellIs (file_at s) k names slots' (at + 1, x)
    unfolding entry_put
    cell_stored slots slots' at x room far same =
        let e = get_or names x 0 in
        let first = set slots at (entry_length (file_at s) k e) in
        let back : at + 1 - 1 ≡ at = omega arith in
        record {
          some = omega arith;
          inside = omega arith;
          length_is = ap (λ j. get_or slots' j 0) back ∙ same at (omega arith) (omega arith) ∙ two_other first (at + 1) _ at (λ q. omega arith) (λ q. omega arith) ∙ get_or-set_same slots at _ 0 (omega arith);
          cell_is = two_kept (entry_put (file_at s) k slots at e) slots' (at + 1) (same (at + 1) (omega arith) (omega arith)) (same (at + 1 + 1) (omega arith) (omega arith))
              ∙ two_same first (at + 1) (entry_cell (file_at s) k e) (omega (arith, length-set slots at (entry_length (file_at s) k e))) (small e);
        }

    -- the names that a head uses, once its slots are kept
    each_cell : (slots slots' : List ℕ) (at : ℕ) (e : Expr) (rest : List (ℕ × ℕ)) → HeadIs s at e → at + head_size e ≤ length slots → at + head_size e ≤ length slots' → ((j : ℕ) → at ≤ j → j < at + head_size e → get_or slots' j 0 ≡ get_or (slot_head s names k slots at) j 0)
        → Each (CellIs (file_at s) k names slots') rest → Each (CellIs (file_at s) k names slots') (used_at at e ++ rest)
    each_cell slots slots' at (bool_lit b) rest h room far kept tail = tail
    each_cell slots slots' at (int_lit i) rest h room far kept tail = tail
    each_cell slots slots' at (float_lit b) rest h room far kept tail = tail
    each_cell slots slots' at (char_lit c) rest h room far kept tail = tail
    each_cell slots slots' at (var x) rest h room far kept tail =
        let put : slot_head s names k slots at ≡ entry_put (file_at s) k slots at (get_or names x 0) = rw (h.0, h.1) refl in
        let same : (j : ℕ) → at ≤ j → j < at + 3 → get_or slots' j 0 ≡ get_or (entry_put (file_at s) k slots at (get_or names x 0)) j 0 = λ j a b. kept j a b ∙ ap (λ l. get_or l j 0) put in
        (cell_stored slots slots' at x room far same, tail)
    each_cell slots slots' at (unary op e) rest h room far kept tail = tail
    each_cell slots slots' at (binary op a b) rest h room far kept tail = tail
    each_cell slots slots' at (if_then_else c a b) rest h room far kept tail = tail
    each_cell slots slots' at (pre e) rest h room far kept tail = tail
    each_cell slots slots' at (arrow a b) rest h room far kept tail = tail
    each_cell slots slots' at (cast t e) rest h room far kept tail = tail
    each_cell slots slots' at (call c es) rest h room far kept tail = tail
    each_cell slots slots' at (tuple es) rest h room far kept tail = tail
    each_cell slots slots' at (index a i) rest h room far kept tail = tail
    each_cell slots slots' at (literal es) rest h room far kept tail = tail
    each_cell slots slots' at (map_over c es) rest h room far kept tail = tail
    each_cell slots slots' at (fold_over c e es) rest h room far kept tail = tail

    -- every name used has the cell and the length of its entry, wherever what the walk leaves is kept
    pub slots_held : {at : ℕ} {es : Exprs} → Flat s at es → (slots final : List ℕ) → length s ≤ length slots → length s ≤ length final → ((j : ℕ) → at ≤ j → j < at + exprs_size es → get_or final j 0 ≡ get_or (slot_heads s names k slots (heads at es)) j 0)
        → Each (CellIs (file_at s) k names final) (collect_all used_at at es)
    unfolding slot_heads collect_all
    slots_held ended slots final room far same = tt
    slots_held (head_and {at} {e} {es} w h r) slots final room far same =
        let next = slot_head s names k slots at in
        let rest = joined (parts_of e) es in
        let all : slot_heads s names k slots (heads at (cons e es)) ≡ slot_heads s names k next (heads (at + head_size e) rest) = ap (slot_heads s names k slots) (walk_head head_at at e es) in
        let ends = head_ends e es at in
        let tail = slots_held r next final (omega (arith, slot_length slots at)) far (λ j a b. same j (omega (arith, head_some e)) (omega arith) ∙ ap (λ l. get_or l j 0) all) in
        subst (Each (CellIs (file_at s) k names final)) (sym (walk_head used_at at e es))
        (each_cell slots final at e (collect_all used_at (at + head_size e) rest) h (omega arith) (omega arith)
        (λ j a b. same j a (omega arith) ∙ ap (λ l. get_or l j 0) all ∙ slots_below r next j b) tail)
