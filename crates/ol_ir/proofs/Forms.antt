-- What each reader of the file form answers, by what the readers of its parts answer.
use Prim.Native.Nat.{ℕ, zero, suc, ◌+◌, ◌*◌, ◌≤◌, ◌<◌}
use mathlib.Core.List.{List, [], ◌∷◌, ◌++◌, map}
use mathlib.Core.Path.{◌≡◌, refl, sym, ap, ◌∙◌}
use mathlib.Core.Logic.{by_cases}
use native.Mathlib.Omega.{arith}
use native.Mathlib.Decide.{dec_le}
use lib.ListN.{length, get_or, get_elem?}
use Rattle.std.specs.Prelude.{Ok, Err}
use Rattle.ol_spec.specs.Lists.{up_to}
use Rattle.ol_spec.specs.Syntax.{Expr, scalar}
use Rattle.ol_spec.specs.Read.{Read, got, fault, Reader, then_read, known, many, many_exprs, byte, number, name_r, coded, count_r, section_r, ty_codes}
use Rattle.ol_spec.specs.Read.{enum_t, TyCode, ty_body, ty_r, scalar_t, array_t, var_ty_codes, var_ty_body, var_ty_r, expr_r, variable_r, constant_r, equation_r, node_r, node_kinds}
use Rattle.ol_spec.specs.Answers.{fault_at}
use Rattle.ol_spec.specs.declared.Limits.{Limits}
use Rattle.ol_ir.specs.Nexts.{Next, next_of, counted_of, onward, repeat}
use Rattle.ol_ir.specs.Nodes.{interface_r}
use Rattle.ol_ir.proofs.Bytes.{byte_in, byte_out, coded_is, coded_none, coded_end, get_some, get_out}
use Rattle.ol_ir.proofs.Onward.{next_then, next_give, counted_then, Chain, ItemChain, many_next, exprs_next, repeat_one}

onward_assoc : (x : Next) (k h : ℕ → Next) → onward (onward x k) h ≡ onward x (λ p. onward (k p) h)
unfolding onward
onward_assoc (Ok p) k h = refl
onward_assoc (Err f) k h = refl

onward_cong : (x : Next) (k h : ℕ → Next) → ((p : ℕ) → k p ≡ h p) → onward x k ≡ onward x h
unfolding onward
onward_cong (Ok p) k h e = e p
onward_cong (Err f) k h e = refl

-- ---- bytes and names

module _ (s : List ℕ) where
  abbrev pub byte_at : ℕ → Next
  byte_at p = next_of (byte s p)

  number_next : (k d at : ℕ) → next_of (number s k d at) ≡ repeat k byte_at at
  unfolding number next_of repeat
  number_next zero d at = refl
  number_next (suc k) d at = next_then (byte s at) _ _ (λ b n. number_next k _ n)

  bytes_in : (k at : ℕ) → at + k ≤ length s → repeat k byte_at at ≡ Ok (at + k)
  unfolding repeat next_of onward
  bytes_in zero at h = ap Ok (omega arith)
  bytes_in (suc k) at h =
      let here : at < length s = omega arith in
      rw (byte_in s at here) (bytes_in k (at + 1) (omega arith) ∙ ap Ok (omega arith))

  bytes_out : (k at : ℕ) → 1 ≤ k → length s < at + k → repeat k byte_at at ≡ Err (fault_at 2 (length s))
  unfolding repeat next_of onward
  bytes_out zero at p h = absurd (omega arith)
  bytes_out (suc k) at p h =
      by_cases (dec_le (length s) at) (λ gone. rw (byte_out s at gone) refl)
      (λ no. let here : at < length s = omega arith in rw (byte_in s at here) (bytes_out k (at + 1) (omega arith) (omega arith)))

  pub number_in : (k at : ℕ) → at + k ≤ length s → Ok (at + k) ≡ next_of (number s k 0 at)
  number_in k at h = sym (number_next k 0 at ∙ bytes_in k at h)

  pub number_out : (k at : ℕ) → 1 ≤ k → length s < at + k → Err (fault_at 2 (length s)) ≡ next_of (number s k 0 at)
  number_out k at p h = sym (number_next k 0 at ∙ bytes_out k at p h)

repeat_twice : (f : ℕ → Next) (n at : ℕ) → repeat n (repeat 2 f) at ≡ repeat (2 * n) f at
unfolding repeat onward
repeat_twice f zero at = refl
repeat_twice f (suc n) at =
    let two : 2 * suc n ≡ suc (suc (2 * n)) = omega arith in
    rw two (
    onward_assoc (f at) _ _
    ∙ onward_cong (f at) _ _ (λ p. onward_assoc (f p) _ _ ∙ onward_cong (f p) _ _ (λ q. repeat_twice f n q)))

repeat_cong : (f g : ℕ → Next) → ((p : ℕ) → f p ≡ g p) → (n at : ℕ) → repeat n f at ≡ repeat n g at
unfolding repeat
repeat_cong f g e zero at = refl
repeat_cong f g e (suc n) at = rw (e at) (onward_cong (g at) _ _ (λ p. repeat_cong f g e n p))

-- so many names are twice as many bytes
pub names_next : (s : List ℕ) (n at : ℕ) → next_of (number s (2 * n) 0 at) ≡ next_of (many n (name_r s) at)
names_next s n at =
    number_next s (2 * n) 0 at ∙ sym (repeat_twice (byte_at s) n at) ∙ repeat_cong _ _ (λ p. sym (number_next s 2 0 p)) n at
    ∙ sym (many_next (name_r s) n at)

-- ---- codes

code_known : {A B : Type 0} (t : List A) (u : List B) (place b n : ℕ) → length t ≡ length u → next_of (known place (get_elem? t b) n) ≡ next_of (known place (get_elem? u b) n)
unfolding next_of
code_known [] [] place zero n e = refl
code_known [] [] place (suc b) n e = refl
code_known [] (y ∷ u) place b n e = absurd (omega arith)
code_known (x ∷ t) [] place b n e = absurd (omega arith)
code_known (x ∷ t) (y ∷ u) place zero n e = refl
code_known (x ∷ t) (y ∷ u) place (suc b) n e = code_known t u place b n (omega arith)

-- only a table's length counts
pub code_next : {A B : Type 0} (s : List ℕ) (t : List A) (u : List B) (at : ℕ) → length t ≡ length u → next_of (coded s t at) ≡ next_of (coded s u at)
unfolding coded then_read next_of
code_next s t u at e = go (byte s at)
  where
    go : (r : Read ℕ) → next_of (then_read r (λ b. known at (get_elem? t b))) ≡ next_of (then_read r (λ b. known at (get_elem? u b)))
    go (got b n) = code_known t u at b n e
    go (fault n p) = refl

module _ {A : Type 0} (s : List ℕ) (table : List A) (at : ℕ) where
  -- a byte below the table's length, one that is not, and none
  pub code_in : at < length s → get_or s at 0 < length table → Ok (at + 1) ≡ next_of (coded s table at)
  unfolding next_of
  code_in h b = let w = get_some table (get_or s at 0) b in sym (ap next_of (coded_is s at table h w.0 w.1))

  pub code_out : at < length s → length table ≤ get_or s at 0 → Err (fault_at 3 at) ≡ next_of (coded s table at)
  unfolding next_of
  code_out h b = sym (ap next_of (coded_none s at table h (get_out table _ b)))

  pub code_end : length s ≤ at → Err (fault_at 2 (length s)) ≡ next_of (coded s table at)
  unfolding next_of
  code_end h = sym (ap next_of (coded_end s at table h))

-- ---- types

module _ (s : List ℕ) (l : Limits) (enums at : ℕ) where
  plain : (b p : ℕ) → b < 12 → next_of (then_read (known at (get_elem? ty_codes b) p) (ty_body s l enums)) ≡ Ok p
  unfolding next_of then_read
  plain zero p h = refl
  plain (suc zero) p h = refl
  plain (suc (suc zero)) p h = refl
  plain (suc (suc (suc zero))) p h = refl
  plain (suc (suc (suc (suc zero)))) p h = refl
  plain (suc (suc (suc (suc (suc zero))))) p h = refl
  plain (suc (suc (suc (suc (suc (suc zero)))))) p h = refl
  plain (suc (suc (suc (suc (suc (suc (suc zero))))))) p h = refl
  plain (suc (suc (suc (suc (suc (suc (suc (suc zero)))))))) p h = refl
  plain (suc (suc (suc (suc (suc (suc (suc (suc (suc zero))))))))) p h = refl
  plain (suc (suc (suc (suc (suc (suc (suc (suc (suc (suc zero)))))))))) p h = refl
  plain (suc (suc (suc (suc (suc (suc (suc (suc (suc (suc (suc zero))))))))))) p h = refl
  plain (suc (suc (suc (suc (suc (suc (suc (suc (suc (suc (suc (suc b)))))))))))) p h = absurd (omega arith)

  pub ty_plain : at < length s → get_or s at 0 < 12 → Ok (at + 1) ≡ next_of (ty_r s l enums at)
  unfolding coded then_read
  ty_plain h b = sym (rw (byte_in s at h) (plain (get_or s at 0) (at + 1) b))

  pub ty_enum : at < length s → get_or s at 0 ≡ 12 → next_of (coded s (up_to enums) (at + 1)) ≡ next_of (ty_r s l enums at)
  unfolding then_read
  ty_enum h b = sym (rw (coded_is s at ty_codes h enum_t (ap (get_elem? ty_codes) b)) (next_give (coded s (up_to enums) (at + 1)) _))

  pub ty_none : at < length s → 12 < get_or s at 0 → Err (fault_at 3 at) ≡ next_of (ty_r s l enums at)
  unfolding then_read next_of
  ty_none h b = sym (rw (coded_none s at ty_codes h (get_out ty_codes _ b)) refl)

  pub ty_end : length s ≤ at → Err (fault_at 2 (length s)) ≡ next_of (ty_r s l enums at)
  unfolding then_read next_of
  ty_end h = sym (rw (coded_end s at ty_codes h) refl)

  -- a variable's type whose code is not an array's is read as a scalar
  scalar_codes : (ts : List TyCode) (b p : ℕ) → (b ≡ length ts → ⊥) → next_of (then_read (known at (get_elem? ts b) p) (ty_body s l enums)) ≡ next_of (then_read (known at (get_elem? (map scalar_t ts ++ array_t ∷ []) b) p) (var_ty_body s l enums))
  unfolding then_read next_of
  scalar_codes [] zero p h = absurd (h refl)
  scalar_codes [] (suc zero) p h = refl
  scalar_codes [] (suc (suc b)) p h = refl
  scalar_codes (c ∷ ts) zero p h = sym (next_give (ty_body s l enums c p) scalar)
  scalar_codes (c ∷ ts) (suc b) p h = scalar_codes ts b p (λ e. h (ap suc e))

  pub var_scalar : at < length s → (get_or s at 0 ≡ 13 → ⊥) → next_of (ty_r s l enums at) ≡ next_of (var_ty_r s l enums at)
  unfolding coded then_read
  var_scalar h b = rw (byte_in s at h) (scalar_codes ty_codes (get_or s at 0) (at + 1) b)

  -- an array's length, then its element's type
  pub var_array : at < length s → get_or s at 0 ≡ 13 → ItemChain (next_of (var_ty_r s l enums at)) (counted_of (count_r s 1 l.elements (at + 1))) (λ n p. next_of (ty_r s l enums p))
  unfolding then_read
  var_array h b =
      record { is = rw (coded_is s at var_ty_codes h array_t (ap (get_elem? var_ty_codes) b)) (counted_then (count_r s 1 l.elements (at + 1)) _ _ (λ n p. next_give (ty_r s l enums p) _)) }

  pub var_end : length s ≤ at → Err (fault_at 2 (length s)) ≡ next_of (var_ty_r s l enums at)
  unfolding then_read next_of
  var_end h = sym (rw (coded_end s at var_ty_codes h) refl)

-- ---- chains

-- two chains that begin alike, of which one ends where h goes on
regroup : {A B C : Type 0} (r : Read A) (k : A → Reader B) (m : A → Reader C) (h : ℕ → Next) → ((a : A) (n : ℕ) → next_of (m a n) ≡ onward (next_of (k a n)) h) → next_of (then_read r m) ≡ onward (next_of (then_read r k)) h
unfolding then_read next_of onward
regroup (got a n) k m h e = e a n
regroup (fault n p) k m h e = refl

-- a section: its count, then its items
pub section_chain : {A : Type 0} (s : List ℕ) (lo hi : ℕ) (r : Reader A) (at : ℕ) → ItemChain (next_of (section_r s lo hi r at)) (counted_of (count_r s lo hi at)) (λ n p. next_of (many n r p))
section_chain s lo hi r at = record { is = counted_then (count_r s lo hi at) (λ n. many n r) _ (λ n p. refl) }

pub one_expr : (r : Reader Expr) (at : ℕ) → next_of (many_exprs 1 r at) ≡ next_of (r at)
one_expr r at = exprs_next r 1 at ∙ repeat_one (λ p. next_of (r p)) at

module _ (s : List ℕ) (l : Limits) (enums : ℕ) where
  -- a whole expression, of the levels that the limits allow
  pub root_next : {z : Next} {n : ℕ} (at : ℕ) → l.nesting ≡ n → z ≡ next_of (many_exprs 1 (expr_r s l enums n) at) → z ≡ next_of (expr_r s l enums l.nesting at)
  root_next {n = n} at e h = h ∙ one_expr (expr_r s l enums n) at ∙ ap (λ (k : ℕ). next_of (expr_r s l enums k at)) (sym e)

module _ (s : List ℕ) (l : Limits) (enums at : ℕ) where
  pub variable_chain : Chain (next_of (variable_r s l enums at)) (next_of (name_r s at)) (λ p. next_of (var_ty_r s l enums p))
  variable_chain = record { is = next_then (name_r s at) _ _ (λ x n. next_give (var_ty_r s l enums n) _) }

  pub constant_chain : Chain (next_of (constant_r s l enums at)) (next_of (variable_r s l enums at)) (λ p. next_of (expr_r s l enums l.nesting p))
  unfolding next_of onward
  constant_chain = record { is = regroup (name_r s at) _ _ _ (λ x n. regroup (var_ty_r s l enums n) _ _ _ (λ t m. next_give (expr_r s l enums l.nesting m) _)) }

  pub equation_chain : Chain (next_of (equation_r s l enums at)) (next_of (section_r s 1 l.names (name_r s) at)) (λ p. next_of (expr_r s l enums l.nesting p))
  equation_chain = record { is = next_then (section_r s 1 l.names (name_r s) at) _ _ (λ xs n. next_give (expr_r s l enums l.nesting n) _) }

  -- a section of a node's variables
  abbrev variables_at : ℕ → ℕ → ℕ → Next
  variables_at lo hi p = next_of (section_r s lo hi (variable_r s l enums) p)

  pub interface_chain : Chain (next_of (interface_r s l enums at)) (next_of (coded s node_kinds at)) (λ p. onward (variables_at 0 l.inputs p) (λ q. onward (variables_at 1 l.outputs q) (λ r. variables_at 0 l.locals r)))
  interface_chain =
      record {
        is =
            next_then (coded s node_kinds at) _ _ (λ k n.
            next_then (section_r s 0 l.inputs (variable_r s l enums) n) _ _ (λ is m.
            next_then (section_r s 1 l.outputs (variable_r s l enums) m) _ _ (λ os o.
            next_give (section_r s 0 l.locals (variable_r s l enums) o) _)));
      }

  pub node_chain : Chain (next_of (node_r s l enums at)) (next_of (interface_r s l enums at)) (λ p. next_of (section_r s 0 l.equations (equation_r s l enums) p))
  unfolding next_of onward
  node_chain =
      record {
        is =
            regroup (coded s node_kinds at) _ _ _ (λ k n.
            regroup (section_r s 0 l.inputs (variable_r s l enums) n) _ _ _ (λ is m.
            regroup (section_r s 1 l.outputs (variable_r s l enums) m) _ _ _ (λ os o.
            regroup (section_r s 0 l.locals (variable_r s l enums) o) _ _ _ (λ ls p.
            next_give (section_r s 0 l.equations (equation_r s l enums) p) _))));
      }
