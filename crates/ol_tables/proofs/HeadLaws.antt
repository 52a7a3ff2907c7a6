-- The law of heads: a list of expressions that stands in a file is the head of its first, and behind that the list of its parts and the others.
use Prim.Native.Nat.{ℕ, ◌+◌, ◌/◌, ◌%◌, ◌^◌, ◌<◌, ◌≤◌}
use mathlib.Core.Bool.{true, false, cond, ◌&&◌}
use mathlib.Core.List.{List, [], ◌∷◌, ◌++◌, append_assoc, append-nil}
use mathlib.Core.Path.{◌≡◌, refl, sym, ap, subst, ◌∙◌}
use native.Mathlib.Omega.{arith}
use lib.ListN.{length, get_or, get_or-append}
use lib.Seq.{get_or-drop}
use lib.Dec.{T, eqb, leb, leb→le, ltb→lt}
use borrow.Author.Tests.{ne_eqb, lt-ltb}
use Rattle.ol_spec.specs.Syntax.{Ty, bool, int, float32, float64, char, enum, Expr, bool_lit, int_lit, float_lit, char_lit, var, unary, binary, if_then_else}
use Rattle.ol_spec.specs.Syntax.{pre, arrow, cast, call, tuple, index, literal, map_over, fold_over, Exprs, nil, cons, count, VarTy, scalar, array}
use Rattle.ol_spec.specs.Places.{ty_size, expr_size, exprs_size, collect, collect_all}
use Rattle.ol_spec.specs.Numbers.{bytes_of, residue}
use Rattle.ol_spec.specs.Encode.{bool_byte, unary_op_code, bin_op_code, ty_bytes, var_ty_bytes, name_bytes, expr_bytes, exprs_bytes}
use Rattle.ol_spec.specs.Limits.{base}
use Rattle.ol_spec.specs.Within.{ty_fits, var_ty_fits, expr_fits, exprs_fit, name_fits, byte_fits, count_fits}
use Rattle.ol_spec.proofs.Tests.{T_and, and_t}
use Rattle.ol_spec.proofs.RoundTrip.Parts.{Here, here_front, here_back, here_inside}
use Rattle.ol_spec.proofs.RoundTrip.Items.{ty_size_lem}
use Rattle.ol_tables.specs.Tables.{ty_code}
use Rattle.ol_tables.specs.Heads.{parts_of, head_size, joined, name_at, parts_at, next_at, TyIs, VarTyIs, HeadIs, Standing}

-- ---- bytes that stand there

-- each byte of what stands there
pub here_byte_at : {s : List ℕ} {at : ℕ} (w : List ℕ) → Here s at w → (i : ℕ) → i < length w → get_or s (at + i) 0 ≡ get_or w i 0
here_byte_at {s} {at} w h i lt = sym (get_or-drop at s i 0) ∙ ap (λ l. get_or l i 0) h.is ∙ get_or-append w _ 0 i lt

pub here_first : {s : List ℕ} {at : ℕ} (b : ℕ) (w : List ℕ) → Here s at (b ∷ w) → get_or s at 0 ≡ b
here_first {s} {at} b w h = let z : at + 0 ≡ at = omega arith in ap (λ n. get_or s n 0) (sym z) ∙ here_byte_at (b ∷ w) h 0 (omega arith)

pub here_name : {s : List ℕ} {at : ℕ} (x : ℕ) → T (name_fits x) → Here s at (name_bytes x) → name_at s at ≡ x
here_name {s} {at} x t h =
    let small = ltb→lt x 65536 t in
    let a = here_first (x / 256 ^ 1 % 256) _ h in
    let b = here_byte_at (name_bytes x) h 1 (omega arith) in
    omega (arith, a, b, small)

-- a type is told by its bytes, as an integer type's code is none of the others'
pub here_ty : {s : List ℕ} {at : ℕ} (enums : ℕ) (t : Ty) → T (ty_fits enums t) → Here s at (ty_bytes t) → TyIs s at t
here_ty enums bool f h = let e = here_first 0 [] h in record { code = e; size = rw e; number = rw e }
here_ty enums (int c) f h =
    let e = here_first c [] h in
    let w = T_and (leb 1 c) _ f in
    let no : eqb c 12 ≡ false = ne_eqb c 12 (λ q. omega (arith, leb→le c 8 w.1)) in
    let not_array : eqb c 13 ≡ false = ne_eqb c 13 (λ q. omega (arith, leb→le c 8 w.1)) in
    record { code = e; size = rw (e, not_array, no); number = rw (e, no) }
here_ty enums float32 f h = let e = here_first 9 [] h in record { code = e; size = rw e; number = rw e }
here_ty enums float64 f h = let e = here_first 10 [] h in record { code = e; size = rw e; number = rw e }
here_ty enums char f h = let e = here_first 11 [] h in record { code = e; size = rw e; number = rw e }
here_ty enums (enum n) f h =
    let e = here_first 12 (n ∷ []) h in
    record { code = e; size = rw e; number = rw e (here_byte_at (12 ∷ n ∷ []) h 1 (omega arith)) }

-- a scalar type's code is none of an array's
ty_scalar : (enums : ℕ) (t : Ty) → T (ty_fits enums t) → eqb (ty_code t) 13 ≡ false
ty_scalar enums bool f = refl
ty_scalar enums (int c) f = ne_eqb c 13 (λ q. omega (arith, leb→le c 8 (T_and (leb 1 c) _ f).1))
ty_scalar enums float32 f = refl
ty_scalar enums float64 f = refl
ty_scalar enums char f = refl
ty_scalar enums (enum n) f = refl

-- a scalar type's size, by its code
scalar_size : (enums : ℕ) (t : Ty) → T (ty_fits enums t) → ty_size t ≡ cond (eqb (ty_code t) 12) 2 1
scalar_size enums bool f = refl
scalar_size enums (int c) f = let no : eqb c 12 ≡ false = ne_eqb c 12 (λ q. omega (arith, leb→le c 8 (T_and (leb 1 c) _ f).1)) in rw no refl
scalar_size enums float32 f = refl
scalar_size enums float64 f = refl
scalar_size enums char f = refl
scalar_size enums (enum n) f = refl

-- a variable's or a constant's type is told by its bytes
pub here_var_ty : {s : List ℕ} {at : ℕ} (enums : ℕ) (t : VarTy) → T (var_ty_fits base enums t) → Here s at (var_ty_bytes t) → VarTyIs s at t
here_var_ty {s} {at} enums (scalar t) f h =
    let y = here_ty enums t f h in
    let no : eqb (get_or s at 0) 13 ≡ false = ap (λ c. eqb c 13) y.code ∙ ty_scalar enums t f in
    record { element = subst (λ p. TyIs s p t) (sym (ap (λ b. cond b (at + 2) at) no)) y; length = rw no refl; size = y.size }
here_var_ty {s} {at} enums (array n t) f h =
    let e = here_first 13 _ h in
    let b = here_byte_at (var_ty_bytes (array n t)) h 1 (omega arith) in
    let w = T_and (count_fits 1 32 n) _ f in
    let y = here_ty enums t w.1 (here_back (13 ∷ n ∷ []) (ty_bytes t) h) in
    record { element = subst (λ p. TyIs s p t) (sym (ap (λ c. cond (eqb c 13) (at + 2) at) e)) y; length = rw e b; size = rw (e, y.code) (ap (λ n. 2 + n) (sym (scalar_size enums t w.1))) }

-- ---- an expression's bytes are its head's and its parts'

abbrev head_bytes : Expr → List ℕ
head_bytes (bool_lit b) = 0 ∷ bool_byte b ∷ []
head_bytes (int_lit i) = 1 ∷ bytes_of 8 (residue 64 i)
head_bytes (float_lit b) = 2 ∷ bytes_of 8 b
head_bytes (char_lit c) = 3 ∷ c ∷ []
head_bytes (var x) = 4 ∷ name_bytes x
head_bytes (unary op e) = 5 ∷ unary_op_code op ∷ []
head_bytes (binary op a b) = 6 ∷ bin_op_code op ∷ []
head_bytes (if_then_else c a b) = 7 ∷ []
head_bytes (pre e) = 8 ∷ []
head_bytes (arrow a b) = 9 ∷ []
head_bytes (cast t e) = 10 ∷ ty_bytes t
head_bytes (call k es) = 11 ∷ k ∷ count es ∷ []
head_bytes (tuple es) = 12 ∷ count es ∷ []
head_bytes (index a i) = 13 ∷ []
head_bytes (literal es) = 14 ∷ count es ∷ []
head_bytes (map_over k es) = 15 ∷ 0 ∷ k ∷ count es ∷ []
head_bytes (fold_over k s es) = 15 ∷ 1 ∷ k ∷ count es ∷ []

head_size_lem : (e : Expr) → length (head_bytes e) ≡ head_size e
head_size_lem (bool_lit b) = refl
head_size_lem (int_lit i) = refl
head_size_lem (float_lit b) = refl
head_size_lem (char_lit c) = refl
head_size_lem (var x) = refl
head_size_lem (unary op e) = refl
head_size_lem (binary op a b) = refl
head_size_lem (if_then_else c a b) = refl
head_size_lem (pre e) = refl
head_size_lem (arrow a b) = refl
head_size_lem (cast t e) = omega (arith, ty_size_lem t)
head_size_lem (call k es) = refl
head_size_lem (tuple es) = refl
head_size_lem (index a i) = refl
head_size_lem (literal es) = refl
head_size_lem (map_over k es) = refl
head_size_lem (fold_over k s es) = refl

one_part : (e : Expr) → expr_bytes e ≡ exprs_bytes (cons e nil)
one_part e = sym (append-nil (expr_bytes e))

two_parts : (a b : Expr) → expr_bytes a ++ expr_bytes b ≡ exprs_bytes (cons a (cons b nil))
two_parts a b = ap (λ w. expr_bytes a ++ w) (one_part b)

bytes_head : (e : Expr) → expr_bytes e ≡ head_bytes e ++ exprs_bytes (parts_of e)
bytes_head (bool_lit b) = refl
bytes_head (int_lit i) = refl
bytes_head (float_lit b) = refl
bytes_head (char_lit c) = refl
bytes_head (var x) = refl
bytes_head (unary op e) = ap (λ w. 5 ∷ unary_op_code op ∷ w) (one_part e)
bytes_head (binary op a b) = ap (λ w. 6 ∷ bin_op_code op ∷ w) (two_parts a b)
bytes_head (if_then_else c a b) = ap (λ w. 7 ∷ w) (append_assoc (expr_bytes c) (expr_bytes a) (expr_bytes b) ∙ ap (λ w. expr_bytes c ++ w) (two_parts a b))
bytes_head (pre e) = ap (λ w. 8 ∷ w) (one_part e)
bytes_head (arrow a b) = ap (λ w. 9 ∷ w) (two_parts a b)
bytes_head (cast t e) = ap (λ w. 10 ∷ ty_bytes t ++ w) (one_part e)
bytes_head (call k es) = refl
bytes_head (tuple es) = refl
bytes_head (index a i) = ap (λ w. 13 ∷ w) (two_parts a i)
bytes_head (literal es) = refl
bytes_head (map_over k es) = refl
bytes_head (fold_over k s es) = refl

joined_bytes : (es fs : Exprs) → exprs_bytes (joined es fs) ≡ exprs_bytes es ++ exprs_bytes fs
unfolding joined
joined_bytes nil fs = refl
joined_bytes (cons e es) fs = ap (λ w. expr_bytes e ++ w) (joined_bytes es fs) ∙ sym (append_assoc (expr_bytes e) (exprs_bytes es) (exprs_bytes fs))

pub joined_count : (es fs : Exprs) → count (joined es fs) ≡ count es + count fs
unfolding joined
joined_count nil fs = omega arith
joined_count (cons e es) fs = omega (arith, joined_count es fs)

module _ (enums : ℕ) where
  joined_fit : (es fs : Exprs) → T (exprs_fit base enums es) → T (exprs_fit base enums fs) → T (exprs_fit base enums (joined es fs))
  unfolding joined
  joined_fit nil fs t u = u
  joined_fit (cons e es) fs t u = let w = T_and (expr_fits base enums e) _ t in and_t (expr_fits base enums e) _ w.0 (joined_fit es fs w.1 u)

  one_fits : (e : Expr) → T (expr_fits base enums e) → T (exprs_fit base enums (cons e nil))
  one_fits e t = and_t (expr_fits base enums e) true t tt

  two_fit : (a b : Expr) → T (expr_fits base enums a && expr_fits base enums b) → T (exprs_fit base enums (cons a (cons b nil)))
  two_fit a b t = let w = T_and (expr_fits base enums a) _ t in and_t (expr_fits base enums a) _ w.0 (one_fits b w.1)

  parts_fit : (e : Expr) → T (expr_fits base enums e) → T (exprs_fit base enums (parts_of e))
  parts_fit (bool_lit b) t = tt
  parts_fit (int_lit i) t = tt
  parts_fit (float_lit b) t = tt
  parts_fit (char_lit c) t = tt
  parts_fit (var x) t = tt
  parts_fit (unary op e) t = one_fits e t
  parts_fit (binary op a b) t = two_fit a b t
  parts_fit (if_then_else c a b) t = let w = T_and (expr_fits base enums c) _ t in and_t (expr_fits base enums c) _ w.0 (two_fit a b w.1)
  parts_fit (pre e) t = one_fits e t
  parts_fit (arrow a b) t = two_fit a b t
  parts_fit (cast y e) t = one_fits e (T_and (ty_fits enums y) _ t).1
  parts_fit (call k es) t = (T_and (count_fits 0 32 (count es)) _ (T_and (byte_fits k) _ t).1).1
  parts_fit (tuple es) t = (T_and (count_fits 2 16 (count es)) _ t).1
  parts_fit (index a i) t = two_fit a i t
  parts_fit (literal es) t = (T_and (count_fits 1 32 (count es)) _ t).1
  parts_fit (map_over k es) t = (T_and (count_fits 0 32 (count es)) _ (T_and (byte_fits k) _ t).1).1
  parts_fit (fold_over k s es) t = (T_and (count_fits 0 32 (count es)) _ (T_and (byte_fits k) _ t).1).1

  head_is : {s : List ℕ} {at : ℕ} (e : Expr) → T (expr_fits base enums e) → Here s at (head_bytes e) → HeadIs s at e
  head_is (bool_lit b) t h = here_first 0 _ h
  head_is (int_lit i) t h = here_first 1 _ h
  head_is (float_lit b) t h = here_first 2 _ h
  head_is (char_lit c) t h = here_first 3 _ h
  head_is (var x) t h = (here_first 4 _ h, here_name x t (here_back (4 ∷ []) (name_bytes x) h))
  head_is (unary op e) t h = here_first 5 _ h
  head_is (binary op a b) t h = here_first 6 _ h
  head_is (if_then_else c a b) t h = here_first 7 _ h
  head_is (pre e) t h = here_first 8 _ h
  head_is (arrow a b) t h = here_first 9 _ h
  head_is (cast y e) t h = (here_first 10 _ h, here_ty enums y (T_and (ty_fits enums y) _ t).0 (here_back (10 ∷ []) (ty_bytes y) h))
  head_is (call k es) t h = (here_first 11 _ h, here_byte_at (head_bytes (call k es)) h 1 (omega arith), here_byte_at (head_bytes (call k es)) h 2 (omega arith))
  head_is (tuple es) t h = (here_first 12 _ h, here_byte_at (head_bytes (tuple es)) h 1 (omega arith))
  head_is (index a i) t h = here_first 13 _ h
  head_is (literal es) t h = (here_first 14 _ h, here_byte_at (head_bytes (literal es)) h 1 (omega arith))
  head_is (map_over k es) t h =
      let w = head_bytes (map_over k es) in
      (here_first 15 _ h, here_byte_at w h 1 (omega arith), here_byte_at w h 2 (omega arith), here_byte_at w h 3 (omega arith))
  head_is (fold_over k s es) t h =
      let w = head_bytes (fold_over k s es) in
      (here_first 15 _ h, here_byte_at w h 1 (omega arith), here_byte_at w h 2 (omega arith), here_byte_at w h 3 (omega arith))

pub head_some : (e : Expr) → 1 ≤ head_size e
head_some (bool_lit b) = omega arith
head_some (int_lit i) = omega arith
head_some (float_lit b) = omega arith
head_some (char_lit c) = omega arith
head_some (var x) = omega arith
head_some (unary op e) = omega arith
head_some (binary op a b) = omega arith
head_some (if_then_else c a b) = omega arith
head_some (pre e) = omega arith
head_some (arrow a b) = omega arith
head_some (cast t e) = omega arith
head_some (call k es) = omega arith
head_some (tuple es) = omega arith
head_some (index a i) = omega arith
head_some (literal es) = omega arith
head_some (map_over k es) = omega arith
head_some (fold_over k s es) = omega arith

-- ---- the law of heads

-- the head of the first stands here, and behind it its parts and the others
pub record Headed (s : List ℕ) (enums at : ℕ) (e : Expr) (es : Exprs) : Type 0 where
  pub inside : at < length s
  pub whole : at + head_size e ≤ length s
  pub head : HeadIs s at e
  pub rest : Standing s enums (at + head_size e) (joined (parts_of e) es)

pub headed : {s : List ℕ} {enums at : ℕ} (e : Expr) (es : Exprs) → Standing s enums at (cons e es) → Headed s enums at e es
headed {s} {enums} {at} e es h =
    let w = T_and (expr_fits base enums e) _ h.fit in
    let p = exprs_bytes (parts_of e) in
    let all : expr_bytes e ++ exprs_bytes es ≡ head_bytes e ++ exprs_bytes (joined (parts_of e) es) =
    ap (λ b. b ++ exprs_bytes es) (bytes_head e) ∙ append_assoc (head_bytes e) p (exprs_bytes es) ∙ ap (λ b. head_bytes e ++ b) (sym (joined_bytes (parts_of e) es)) in
    let here = subst (Here s at) all h.here in
    let front = here_front (head_bytes e) _ here in
    record {
      inside = omega (arith, here_inside front (omega (arith, head_size_lem e, head_some e)), head_size_lem e, head_some e);
      whole = omega (arith, here_inside front (omega (arith, head_size_lem e, head_some e)), head_size_lem e);
      head = head_is enums e w.0 front;
      rest = record { here = subst (λ n. Here s (at + n) (exprs_bytes (joined (parts_of e) es))) (head_size_lem e) (here_back (head_bytes e) _ here); fit = joined_fit enums (parts_of e) es (parts_fit enums e w.0) w.1 };
    }

module _ (s : List ℕ) (at : ℕ) where
  -- the bytes tell how many parts an expression has, and where they start
  pub parts_told : (e : Expr) → HeadIs s at e → parts_at s at ≡ count (parts_of e)
  parts_told (bool_lit b) h = rw h
  parts_told (int_lit i) h = rw h
  parts_told (float_lit b) h = rw h
  parts_told (char_lit c) h = rw h
  parts_told (var x) h = rw h.0
  parts_told (unary op e) h = rw h
  parts_told (binary op a b) h = rw h
  parts_told (if_then_else c a b) h = rw h
  parts_told (pre e) h = rw h
  parts_told (arrow a b) h = rw h
  parts_told (cast t e) h = rw h.0
  parts_told (call k es) h = rw h.0 h.2
  parts_told (tuple es) h = rw h.0 h.1
  parts_told (index a i) h = rw h
  parts_told (literal es) h = rw h.0 h.1
  parts_told (map_over k es) h = rw (h.0, h.1) (omega (arith, h.3))
  parts_told (fold_over k s es) h = rw (h.0, h.1) (omega (arith, h.3))

  pub next_told : (e : Expr) → at < length s → HeadIs s at e → next_at s at ≡ at + head_size e
  next_told (bool_lit b) u h = rw (lt-ltb at (length s) u, h)
  next_told (int_lit i) u h = rw (lt-ltb at (length s) u, h)
  next_told (float_lit b) u h = rw (lt-ltb at (length s) u, h)
  next_told (char_lit c) u h = rw (lt-ltb at (length s) u, h)
  next_told (var x) u h = rw (lt-ltb at (length s) u, h.0)
  next_told (unary op e) u h = rw (lt-ltb at (length s) u, h)
  next_told (binary op a b) u h = rw (lt-ltb at (length s) u, h)
  next_told (if_then_else c a b) u h = rw (lt-ltb at (length s) u, h)
  next_told (pre e) u h = rw (lt-ltb at (length s) u, h)
  next_told (arrow a b) u h = rw (lt-ltb at (length s) u, h)
  next_told (cast t e) u h = rw (lt-ltb at (length s) u, h.0) (omega (arith, h.1.size))
  next_told (call k es) u h = rw (lt-ltb at (length s) u, h.0)
  next_told (tuple es) u h = rw (lt-ltb at (length s) u, h.0)
  next_told (index a i) u h = rw (lt-ltb at (length s) u, h)
  next_told (literal es) u h = rw (lt-ltb at (length s) u, h.0)
  next_told (map_over k es) u h = rw (lt-ltb at (length s) u, h.0)
  next_told (fold_over k e es) u h = rw (lt-ltb at (length s) u, h.0)

-- ---- walks

parts_size : (e : Expr) → expr_size e ≡ head_size e + exprs_size (parts_of e)
parts_size (bool_lit b) = refl
parts_size (int_lit i) = refl
parts_size (float_lit b) = refl
parts_size (char_lit c) = refl
parts_size (var x) = refl
parts_size (unary op e) = omega arith
parts_size (binary op a b) = omega arith
parts_size (if_then_else c a b) = omega arith
parts_size (pre e) = omega arith
parts_size (arrow a b) = omega arith
parts_size (cast t e) = omega arith
parts_size (call k es) = refl
parts_size (tuple es) = refl
parts_size (index a i) = omega arith
parts_size (literal es) = refl
parts_size (map_over k es) = refl
parts_size (fold_over k s es) = omega arith

joined_size : (es fs : Exprs) → exprs_size (joined es fs) ≡ exprs_size es + exprs_size fs
unfolding joined
joined_size nil fs = omega arith
joined_size (cons e es) fs = omega (arith, joined_size es fs)

-- a list ends where its first one's parts and the others end
pub head_ends : (e : Expr) (es : Exprs) (at : ℕ) → at + exprs_size (cons e es) ≡ at + head_size e + exprs_size (joined (parts_of e) es)
head_ends e es at = omega (arith, parts_size e, joined_size (parts_of e) es)

module _ {B : Type 0} (f : ℕ → Expr → List B) where
  collect_one : (at at' : ℕ) (e : Expr) → at ≡ at' → collect f at e ≡ collect_all f at' (cons e nil)
  unfolding collect collect_all
  collect_one at at' e q = ap (λ n. collect f n e) q ∙ sym (append-nil (collect f at' e))

  collect_two : (at at' next : ℕ) (a b : Expr) → at ≡ at' → next ≡ at' + expr_size a → collect f at a ++ collect f next b ≡ collect_all f at' (cons a (cons b nil))
  unfolding collect collect_all
  collect_two at at' next a b q r = ap (λ n. collect f n a ++ collect f next b) q ∙ ap (λ w. collect f at' a ++ w) (collect_one next _ b r)

  -- what f gives at an expression, then what the walk gives at its parts
  collect_head : (at : ℕ) (e : Expr) → collect f at e ≡ f at e ++ collect_all f (at + head_size e) (parts_of e)
  unfolding collect collect_all
  collect_head at (bool_lit b) = sym (append-nil _)
  collect_head at (int_lit i) = sym (append-nil _)
  collect_head at (float_lit b) = sym (append-nil _)
  collect_head at (char_lit c) = sym (append-nil _)
  collect_head at (var x) = sym (append-nil _)
  collect_head at (unary op e) = ap (λ w. f at (unary op e) ++ w) (collect_one _ _ e refl)
  collect_head at (binary op a b) = ap (λ w. f at (binary op a b) ++ w) (collect_two _ _ _ a b refl refl)
  collect_head at (if_then_else c a b) = ap (λ w. f at (if_then_else c a b) ++ (collect f (at + 1) c ++ w)) (collect_two _ _ _ a b refl refl)
  collect_head at (pre e) = ap (λ w. f at (pre e) ++ w) (collect_one _ _ e refl)
  collect_head at (arrow a b) = ap (λ w. f at (arrow a b) ++ w) (collect_two _ _ _ a b refl refl)
  collect_head at (cast t e) = ap (λ w. f at (cast t e) ++ w) (collect_one _ _ e (omega arith))
  collect_head at (call k es) = refl
  collect_head at (tuple es) = refl
  collect_head at (index a i) = ap (λ w. f at (index a i) ++ w) (collect_two _ _ _ a i refl refl)
  collect_head at (literal es) = refl
  collect_head at (map_over k es) = refl
  collect_head at (fold_over k s es) = refl

  collect_joined : (at : ℕ) (es fs : Exprs) → collect_all f at (joined es fs) ≡ collect_all f at es ++ collect_all f (at + exprs_size es) fs
  unfolding joined collect_all
  collect_joined at nil fs = ap (λ n. collect_all f n fs) (omega arith)
  collect_joined at (cons e es) fs =
      ap (λ w. collect f at e ++ w) (collect_joined (at + expr_size e) es fs) ∙ sym (append_assoc (collect f at e) (collect_all f (at + expr_size e) es) _)
      ∙ ap (λ n. (collect f at e ++ collect_all f (at + expr_size e) es) ++ collect_all f n fs) (omega arith)

  -- the law of heads, for a walk
  pub walk_head : (at : ℕ) (e : Expr) (es : Exprs) → collect_all f at (cons e es) ≡ f at e ++ collect_all f (at + head_size e) (joined (parts_of e) es)
  unfolding collect_all
  walk_head at e es =
      ap (λ w. w ++ collect_all f (at + expr_size e) es) (collect_head at e) ∙ append_assoc (f at e) _ _
      ∙ ap (λ w. f at e ++ w)
      (ap (λ n. collect_all f (at + head_size e) (parts_of e) ++ collect_all f n es) (omega (arith, parts_size e)) ∙ sym (collect_joined (at + head_size e) (parts_of e) es))

  -- what f gives at an expression, then what the walk gives at its parts, for one expression
  pub root_head : (at : ℕ) (e : Expr) → collect f at e ≡ f at e ++ collect_all f (at + head_size e) (parts_of e)
  root_head = collect_head

  pub walk_one : (at : ℕ) (e : Expr) → collect_all f at (cons e nil) ≡ collect f at e
  unfolding collect_all
  walk_one at e = append-nil (collect f at e)
