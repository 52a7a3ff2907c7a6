-- An item that was read takes as many bytes as its size says, all of them in the file.
use Prim.Native.Nat.{ℕ, zero, suc, ◌+◌, ◌*◌, ◌≤◌, ◌<◌}
use mathlib.Core.Bool.{Bool, true, false, ◌&&◌}
use mathlib.Core.List.{List, [], ◌∷◌, map}
use mathlib.Core.Option.{Option, none, some}
use mathlib.Core.Path.{◌≡◌, refl, sym, ap, subst, ◌∙◌}
use mathlib.Core.Logic.{by_cases}
use native.Mathlib.Omega.{arith}
use native.Mathlib.Decide.{dec_le}
use lib.ListN.{length, get_elem?}
use lib.Dec.{leb}
use Rattle.ol_spec.specs.Lists.{sum, up_to}
use Rattle.ol_spec.specs.Numbers.{signed}
use Rattle.ol_spec.specs.Syntax.{Ty, VarTy, Expr, Exprs, count}
use Rattle.ol_spec.specs.Places.{ty_size, var_ty_size, expr_size, exprs_size, variable_size, equation_size, enum_size, constant_size, section_size, node_size}
use Rattle.ol_spec.specs.Read.{got, fault, Reader, then_read, give, known, many, many_exprs, byte, number, name_r, coded, within?, count_r, section_r}
use Rattle.ol_spec.specs.Read.{TyCode, bool_t, float32_t, float64_t, char_t, enum_t, int_t, ty_codes, ty_body, ty_r, VarTyCode, scalar_t, array_t, var_ty_codes, var_ty_body, var_ty_r, expr_codes, ExprCode, expr_body, expr_r}
use Rattle.ol_spec.specs.Read.{root_r, bool_code, int_code, float_code, char_code, var_code, unary_code, binary_code, if_code, pre_code, arrow_code, cast_code}
use Rattle.ol_spec.specs.Read.{call_code, tuple_code, index_code, literal_code, iterator_code, Iterator, maps, folds, iterators, iterator_body, bools, unary_ops, bin_ops, node_kinds, variable_r, constant_r, equation_r, node_r, enum_r}
use Rattle.ol_spec.specs.declared.Limits.{Limits}
use Rattle.ol_spec.proofs.Offsets.{steps, same_item, same_end}
use Rattle.ol_ir.proofs.Bytes.{byte_in, byte_out}

-- the bytes from `at` to n are of a size that P allows, and in the file
pub record Taken (s : List ℕ) (at n : ℕ) (P : ℕ → Type 0) : Type 0 where
  pub size : ℕ
  pub ends : n ≡ at + size
  pub holds : P size
  pub inside : at ≤ length s → n ≤ length s

-- whatever is read takes bytes of a size that P allows for it
pub record Takes {A : Type 0} (s : List ℕ) (r : Reader A) (P : A → ℕ → Type 0) : Type 0 where
  pub is : (at : ℕ) (a : A) (n : ℕ) → r at ≡ got a n → Taken s at n (P a)

abbrev Any : {A : Type 0} → A → ℕ → Type 0
Any a m = Unit {0}

module _ {A : Type 0} (s : List ℕ) where
  bind : {B : Type 0} (r : Reader A) (P : A → ℕ → Type 0) (k : A → Reader B) (Q : B → ℕ → Type 0) → Takes s r P → ((a : A) (m : ℕ) → P a m → Takes s (k a) (λ b j. Q b (m + j))) → Takes s (λ at. then_read (r at) k) Q
  bind r P k Q h f =
      record {
        is = λ at b n e.
            let t = steps (r at) k b n e in
            let u = h.is at t.value t.at t.first in
            let v = (f t.value u.size u.holds).is t.at b n t.rest in
            record { size = u.size + v.size; ends = omega (arith, u.ends, v.ends); holds = v.holds; inside = λ i. v.inside (u.inside i) };
      }

  given : (a : A) (P : A → ℕ → Type 0) → P a 0 → Takes s (give a) P
  given a P p = record { is = λ at b n e. let z : n ≡ at = cc in record { size = 0; ends = omega arith; holds = subst (λ c. P c 0) (same_item e) p; inside = λ i. omega arith } }

pub never : {A : Type 0} {a b n : ℕ} {x : A} → fault a b ≡ got x n → ⊥
never e = let z : ◌≡◌ {A = ℕ} 0 1 = cc in omega arith

one_taken : (s : List ℕ) (at : ℕ) → at < length s → Taken s at (at + 1) (λ m. m ≡ 1)
one_taken s at h = record { size = 1; ends = refl; holds = refl; inside = λ i. omega arith }

twos : (xs : List ℕ) → sum (map (λ x. 2) xs) ≡ 2 * length xs
twos [] = refl
twos (x ∷ xs) = omega (arith, twos xs)

-- ---- bytes, codes and counts

module _ (s : List ℕ) where
  pub takes_byte : Takes s (byte s) (λ b m. m ≡ 1)
  unfolding byte
  takes_byte = record { is = λ at b n e. by_cases (dec_le (length s) at) (λ gone. absurd (never (sym (byte_out s at gone) ∙ e))) (λ here. go at b n (omega arith) e) }
    where
      go : (at b n : ℕ) → at < length s → byte s at ≡ got b n → Taken s at n (λ m. m ≡ 1)
      go at b n h e = let z : n ≡ at + 1 = sym (same_end (sym (byte_in s at h) ∙ e)) in subst (λ k. Taken s at k (λ m. m ≡ 1)) (sym z) (one_taken s at h)

  pub takes_number : (k d : ℕ) → Takes s (number s k d) (λ n m. m ≡ k)
  unfolding number
  takes_number zero d = given s d _ refl
  takes_number (suc k) d = bind s (byte s) _ _ _ takes_byte (λ b m p. record { is = λ at v n e. let t = (takes_number k (d * 256 + b)).is at v n e in record { size = t.size; ends = t.ends; holds = omega (arith, t.holds); inside = t.inside } })

  pub takes_coded : {A : Type 0} (table : List A) → Takes s (coded s table) (λ a m. m ≡ 1)
  unfolding coded
  takes_coded table = record { is = λ at a n e. known_taken at a n (get_elem? table) e }
    where
      known_taken : {A : Type 0} (at : ℕ) (a : A) (n : ℕ) (look : ℕ → Option A) → then_read (byte s at) (λ b. known at (look b)) ≡ got a n → Taken s at n (λ m. m ≡ 1)
      known_taken at a n look e = (bind s (byte s) (λ b m. m ≡ 1) (λ b. known at (look b)) (λ a m. m ≡ 1) takes_byte (λ b m p. looked (look b) m p)).is at a n e
        where
          looked : {A : Type 0} (o : Option A) (m : ℕ) → m ≡ 1 → Takes s (known at o) (λ b j. m + j ≡ 1)
          looked none m p = record { is = λ at' b k f. absurd (never f) }
          looked (some c) m p = given s c _ (omega arith)

  pub takes_count : (lo hi : ℕ) → Takes s (count_r s lo hi) (λ n m. m ≡ 1)
  unfolding count_r
  takes_count lo hi = record { is = λ at v n e. (bind s (byte s) (λ b m. m ≡ 1) _ (λ a m. m ≡ 1) takes_byte (λ b m p. tested (leb lo b && leb b hi) at b m p)).is at v n e }
    where
      tested : (t : Bool) (place b m : ℕ) → m ≡ 1 → Takes s (within? s t place b) (λ c j. m + j ≡ 1)
      tested true place b m p = given s b _ (omega arith)
      tested false place b m p = record { is = λ at' c k f. absurd (never f) }

  -- ---- lists

  module _ {A : Type 0} (size : A → ℕ) (r : Reader A) (h : Takes s r (λ a m. m ≡ size a)) where
    pub takes_many : (k : ℕ) → Takes s (many k r) (λ xs m. m ≡ sum (map size xs))
    unfolding many
    takes_many zero = given s [] _ refl
    takes_many (suc k) = bind s r _ _ _ h (λ x m p. bind s (many k r) _ _ _ (takes_many k) (λ xs j q. given s (x ∷ xs) _ (omega arith)))

    pub takes_section : (lo hi : ℕ) → Takes s (section_r s lo hi r) (λ xs m. m ≡ section_size size xs)
    takes_section lo hi = bind s (count_r s lo hi) _ _ _ (takes_count lo hi) (λ n m p. record { is = λ at xs k e. let t = (takes_many n).is at xs k e in record { size = t.size; ends = t.ends; holds = omega (arith, t.holds); inside = t.inside } })

  module _ (r : Reader Expr) (h : Takes s r (λ e m. m ≡ expr_size e)) where
    pub takes_exprs : (k : ℕ) → Takes s (many_exprs k r) (λ es m. (m ≡ exprs_size es) × (count es ≡ k))
    unfolding many_exprs
    takes_exprs zero = given s Exprs.nil _ (refl, refl)
    takes_exprs (suc k) = bind s r _ _ _ h (λ e m p. bind s (many_exprs k r) _ _ _ (takes_exprs k) (λ es j q. given s (Exprs.cons e es) _ (omega (arith, q.0), ap suc q.1)))

  pub takes_name : Takes s (name_r s) (λ x m. m ≡ 2)
  takes_name = takes_number 2 0

  pub takes_names : (lo hi : ℕ) → Takes s (section_r s lo hi (name_r s)) (λ xs m. m ≡ 1 + 2 * length xs)
  takes_names lo hi =
      record { is = λ at xs n e. let t = (takes_section (λ x. 2) (name_r s) takes_name lo hi).is at xs n e in record { size = t.size; ends = t.ends; holds = omega (arith, t.holds, twos xs); inside = t.inside } }

  -- ---- types and expressions

  module _ (l : Limits) (enums : ℕ) where
    takes_ty_body : (c : TyCode) (m : ℕ) → m ≡ 1 → Takes s (ty_body s l enums c) (λ t j. m + j ≡ ty_size t)
    takes_ty_body bool_t m p = given s Ty.bool _ (omega arith)
    takes_ty_body float32_t m p = given s Ty.float32 _ (omega arith)
    takes_ty_body float64_t m p = given s Ty.float64 _ (omega arith)
    takes_ty_body char_t m p = given s Ty.char _ (omega arith)
    takes_ty_body enum_t m p = bind s (coded s (up_to enums)) _ _ _ (takes_coded (up_to enums)) (λ e j q. given s (Ty.enum e) _ (omega arith))
    takes_ty_body (int_t c) m p = given s (Ty.int c) _ (omega arith)

    pub takes_ty : Takes s (ty_r s l enums) (λ t m. m ≡ ty_size t)
    takes_ty = bind s (coded s ty_codes) _ _ _ (takes_coded ty_codes) (λ c m p. takes_ty_body c m p)

    pub takes_var_ty : Takes s (var_ty_r s l enums) (λ t m. m ≡ var_ty_size t)
    takes_var_ty = bind s (coded s var_ty_codes) _ _ _ (takes_coded var_ty_codes) (λ c m p. go c m p)
      where
        go : (c : VarTyCode) (m : ℕ) → m ≡ 1 → Takes s (var_ty_body s l enums c) (λ t j. m + j ≡ var_ty_size t)
        go (scalar_t c) m p = bind s (ty_body s l enums c) _ _ _ (takes_ty_body c m p) (λ t j q. given s (VarTy.scalar t) _ (omega arith))
        go array_t m p = bind s (count_r s 1 l.elements) _ _ _ (takes_count 1 l.elements) (λ n j q. bind s (ty_r s l enums) _ _ _ takes_ty (λ t k u. given s (VarTy.array n t) _ (omega arith)))

    module _ (r : Reader Expr) (h : Takes s r (λ e m. m ≡ expr_size e)) where
      takes_body : (c : ExprCode) (n : ℕ) → n ≡ 1 → Takes s (expr_body s l enums r c) (λ e m. n + m ≡ expr_size e)
      takes_body bool_code n i = bind s (coded s bools) _ _ _ (takes_coded bools) (λ b m p. given s (Expr.bool_lit b) _ (omega arith))
      takes_body int_code n i = bind s (number s 8 0) _ _ _ (takes_number 8 0) (λ b m p. given s (Expr.int_lit (signed 64 b)) _ (omega arith))
      takes_body float_code n i = bind s (number s 8 0) _ _ _ (takes_number 8 0) (λ b m p. given s (Expr.float_lit b) _ (omega arith))
      takes_body char_code n i = bind s (byte s) _ _ _ takes_byte (λ b m p. given s (Expr.char_lit b) _ (omega arith))
      takes_body var_code n i = bind s (name_r s) _ _ _ (takes_number 2 0) (λ x m p. given s (Expr.var x) _ (omega arith))
      takes_body unary_code n i = bind s (coded s unary_ops) _ _ _ (takes_coded unary_ops) (λ op m p. bind s r _ _ _ h (λ e j q. given s (Expr.unary op e) _ (omega arith)))
      takes_body binary_code n i = bind s (coded s bin_ops) _ _ _ (takes_coded bin_ops) (λ op m p. bind s r _ _ _ h (λ a j q. bind s r _ _ _ h (λ b k t. given s (Expr.binary op a b) _ (omega arith))))
      takes_body if_code n i = bind s r _ _ _ h (λ c m p. bind s r _ _ _ h (λ a j q. bind s r _ _ _ h (λ b k t. given s (Expr.if_then_else c a b) _ (omega arith))))
      takes_body pre_code n i = bind s r _ _ _ h (λ e m p. given s (Expr.pre e) _ (omega arith))
      takes_body arrow_code n i = bind s r _ _ _ h (λ a j q. bind s r _ _ _ h (λ b k t. given s (Expr.arrow a b) _ (omega arith)))
      takes_body cast_code n i = bind s (ty_r s l enums) _ _ _ takes_ty (λ t m p. bind s r _ _ _ h (λ e j q. given s (Expr.cast t e) _ (omega arith)))
      takes_body call_code n i =
          bind s (byte s) _ _ _ takes_byte (λ k m p. bind s (count_r s 0 l.arguments) _ _ _ (takes_count 0 l.arguments) (λ c j q.
          bind s (many_exprs c r) _ _ _ (takes_exprs r h c) (λ es o t. given s (Expr.call k es) _ (omega (arith, t.0)))))
      takes_body tuple_code n i =
          bind s (count_r s 2 l.items) _ _ _ (takes_count 2 l.items) (λ c j q. bind s (many_exprs c r) _ _ _ (takes_exprs r h c) (λ es o t. given s (Expr.tuple es) _ (omega (arith, t.0))))
      takes_body index_code n i = bind s r _ _ _ h (λ a j q. bind s r _ _ _ h (λ b k t. given s (Expr.index a b) _ (omega arith)))
      takes_body literal_code n i =
          bind s (count_r s 1 l.elements) _ _ _ (takes_count 1 l.elements) (λ c j q. bind s (many_exprs c r) _ _ _ (takes_exprs r h c) (λ es o t. given s (Expr.literal es) _ (omega (arith, t.0))))
      takes_body iterator_code n i =
          bind s (coded s iterators) _ _ _ (takes_coded iterators) (λ w m p. bind s (byte s) _ _ _ takes_byte (λ k j q.
          bind s (count_r s 0 l.arrays) _ _ _ (takes_count 0 l.arrays) (λ c o t. iterated w k c n m j o (omega arith))))
        where
          iterated : (w : Iterator) (k c n m j o : ℕ) → n + (m + (j + o)) ≡ 4 → Takes s (iterator_body s l enums r k c w) (λ e i. n + (m + (j + (o + i))) ≡ expr_size e)
          iterated maps k c n m j o p = bind s (many_exprs c r) _ _ _ (takes_exprs r h c) (λ es u t. given s (Expr.map_over k es) _ (omega (arith, t.0)))
          iterated folds k c n m j o p =
              bind s r _ _ _ h (λ e v q. bind s (many_exprs c r) _ _ _ (takes_exprs r h c) (λ es u t. given s (Expr.fold_over k e es) _ (omega (arith, t.0))))

    pub takes_expr : (k : ℕ) → Takes s (expr_r s l enums k) (λ e m. m ≡ expr_size e)
    unfolding expr_r
    takes_expr zero = record { is = λ at e n h. let t = steps (coded s expr_codes at) _ e n h in absurd (never t.rest) }
    takes_expr (suc k) = bind s (coded s expr_codes) _ _ _ (takes_coded expr_codes) (λ c n i. takes_body (expr_r s l enums k) (takes_expr k) c n i)

    -- ---- the items of a file

    pub takes_variable : Takes s (variable_r s l enums) (λ v m. m ≡ variable_size v)
    takes_variable = bind s (name_r s) _ _ _ takes_name (λ x m p. bind s (var_ty_r s l enums) _ _ _ takes_var_ty (λ t j q. given s (record { name = x; ty = t }) _ (omega arith)))

    pub takes_constant : Takes s (constant_r s l enums) (λ c m. m ≡ constant_size c)
    takes_constant =
        bind s (name_r s) _ _ _ takes_name (λ x m p. bind s (var_ty_r s l enums) _ _ _ takes_var_ty (λ t j q.
        bind s (root_r s l enums) _ _ _ (takes_expr l.nesting) (λ e k u. given s (record { name = x; ty = t; value = e }) _ (omega arith))))

    pub takes_equation : Takes s (equation_r s l enums) (λ q m. m ≡ equation_size q)
    takes_equation =
        bind s (section_r s 1 l.names (name_r s)) _ _ _ (takes_names 1 l.names) (λ xs m p. bind s (root_r s l enums) _ _ _ (takes_expr l.nesting) (λ e j q. given s (record { names = xs; rhs = e }) _ (omega arith)))

    pub takes_node : Takes s (node_r s l enums) (λ n m. m ≡ node_size n)
    takes_node =
        bind s (coded s node_kinds) _ _ _ (takes_coded node_kinds) (λ k m p.
        bind s (section_r s 0 l.inputs (variable_r s l enums)) _ _ _ (takes_section variable_size (variable_r s l enums) takes_variable 0 l.inputs) (λ is a pa.
        bind s (section_r s 1 l.outputs (variable_r s l enums)) _ _ _ (takes_section variable_size (variable_r s l enums) takes_variable 1 l.outputs) (λ os b pb.
        bind s (section_r s 0 l.locals (variable_r s l enums)) _ _ _ (takes_section variable_size (variable_r s l enums) takes_variable 0 l.locals) (λ ls c pc.
        bind s (section_r s 0 l.equations (equation_r s l enums)) _ _ _ (takes_section equation_size (equation_r s l enums) takes_equation 0 l.equations) (λ qs d pd.
        given s (record { kind = k; inputs = is; outputs = os; locals = ls; equations = qs }) _ (omega arith))))))

  pub takes_enum : (l : Limits) → Takes s (enum_r s l) (λ vs m. m ≡ enum_size vs)
  takes_enum l = takes_names 1 l.variants
