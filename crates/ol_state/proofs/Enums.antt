-- Inputs judged: where an enum stands, its names, and each cell by its type.
use Prim.Native.Nat.{ℕ, zero, suc, ◌+◌, ◌*◌, ◌<◌, ◌≤◌}
use mathlib.Core.Bool.{Bool, true, false, not, ◌&&◌, ◌||◌, cond}
use mathlib.Core.List.{List, [], ◌∷◌, ◌++◌, map}
use mathlib.Core.Path.{◌≡◌, refl, sym, ap, subst, ◌∙◌}
use native.Mathlib.Omega.{arith}
use Rattle.std.specs.List.{list_any, range_with_len}
use lib.Dec.{T, eqb, ltb→lt}
use lib.ListN.{length, drop, get_or, drop_of_length-le}
use lib.Seq.{drop-cons, drop-drop}
use borrow.Author.Tests.{eqb-true, eqb-false}
use Rattle.ol_spec.specs.Lists.{concat, all_of, member, same}
use Rattle.ol_spec.specs.Syntax.{File}
use Rattle.ol_spec.specs.Places.{enum_size, placed}
use Rattle.ol_spec.specs.Encode.{encode, name_bytes, section_bytes}
use Rattle.ol_spec.specs.Limits.{base, relay_loader}
use Rattle.ol_spec.specs.Within.{name_fits, count_fits, enum_fits, ty_fits, within}
use Rattle.ol_spec.specs.Read.{TyCode, bool_t, float32_t, float64_t, char_t, enum_t, int_t, ty_codes}
use Rattle.ol_spec.specs.Cell.{tag, cell, value_of, is_variant}
use Rattle.ol_spec.specs.Types.{IntTy, unsigned_to, int_ty, int_in, in_type}
use Rattle.ol_spec.specs.Admission.{variants}
use Rattle.ol_spec.specs.declared.Value.{Value}
use Rattle.ol_spec.specs.declared.Value.TheVariants as Val
use Rattle.ol_spec.proofs.ReadFacts.{All}
use Rattle.ol_spec.proofs.Tests.{T_and}
use Rattle.ol_spec.proofs.RoundTrip.Parts.{Here, here_front, here_back}
use Rattle.ol_spec.proofs.RoundTrip.Placed.{file_here}
use Rattle.ol_value.specs.Codes.{ty_from, ty_of, name_in, in_kind}
use Rattle.ol_value.proofs.TypeCodes.{in_type_is, variant_is}
use Rattle.ol_tables.specs.Heads.{name_at}
use Rattle.ol_tables.proofs.HeadLaws.{here_first, here_name}
use Rattle.ol_tables.proofs.HeadsFile.{moved}
use Rattle.ol_state.proofs.Fits.{fits, all_nth}
use Rattle.ol_state.specs.Inputs.{EnumAt, good_input}

-- ---- where an enum stands

abbrev EnumsAt : List ℕ → ℕ → List (List ℕ) → Type 0
EnumsAt s pos es = All (λ p. Here s p.0 (section_bytes name_bytes p.1)) (placed enum_size pos es)

-- the enums from number i on stand from `pos` on
pub record Walking (f : File) (s : List ℕ) (i pos : ℕ) : Type 0 where
  all : EnumsAt s pos (drop i f.enums)
  pub near : pos ≤ 2 + 511 * i

pub walk_start : {f : File} {s : List ℕ} → encode f ≡ s → Walking f s 0 2
walk_start {f} e = record { all = subst (λ l. EnumsAt l 2 f.enums) e (file_here f).enums.1; near = omega arith }

pub walk_on : {f : File} {s : List ℕ} {i pos b : ℕ} → b ≡ get_or s pos 0 → b < 256 → Walking f s i pos → Walking f s (i + 1) (pos + 1 + 2 * b)
walk_on {f} {s} {i} {pos} {b} e small w =
    record { all = subst (λ l. EnumsAt s (pos + 1 + 2 * b) l) (drop-drop 1 i f.enums) (go (drop i f.enums) w.all); near = omega (arith, w.near) }
  where
    go : (es : List (List ℕ)) → EnumsAt s pos es → EnumsAt s (pos + 1 + 2 * b) (drop 1 es)
    go [] a = tt
    go (vs ∷ es) a = let q : pos + enum_size vs ≡ pos + 1 + 2 * b = omega (arith, here_first (length vs) _ a.0, e) in subst (λ n. EnumsAt s n es) q a.1

pub walk_end : {f : File} {s : List ℕ} {i pos : ℕ} (e : ℕ) → Walking f s i pos → i ≡ e → e ≤ 255 → EnumAt f s e pos
walk_end {f} {s} {i} {pos} e w q small =
    record {
      here = λ h. (subst (λ es. EnumsAt s pos es) (ap (λ n. drop n f.enums) q ∙ drop-cons f.enums e [] h) w.all).0;
      near = omega (arith, w.near);
    }

-- ---- its names

-- the names from number j on stand behind the first j
pub record Looking (s : List ℕ) (at : ℕ) (vs : List ℕ) (j : ℕ) : Type 0 where
  here : Here s (at + 1 + 2 * j) (concat (map name_bytes (drop j vs)))
  fits : T (all_of name_fits (drop j vs))

module _ {s : List ℕ} {at : ℕ} (v : ℕ) (vs : List ℕ) where
  pub look_start : Here s at (section_bytes name_bytes vs) → T (all_of name_fits vs) → Looking s at vs 0
  look_start h t = record { here = moved (omega arith) (here_back (length vs ∷ []) _ h); fits = t }

  pub look_length : Here s at (section_bytes name_bytes vs) → get_or s at 0 ≡ length vs
  look_length h = here_first (length vs) _ h

  -- whether one of the names from number j on, of which there are m, is v
  pub looked : (m j : ℕ) → j + m ≡ length vs → Looking s at vs j → list_any (λ i. eqb v (name_at s (at + 1 + 2 * i))) (range_with_len j m) ≡ member v (drop j vs)
  looked zero j e l = sym (ap (member v) (drop_of_length-le vs {i = j} (omega arith)))
  looked (suc m) j e l =
      let x = get_or vs j 0 in
      let n : suc j ≡ j + 1 = omega arith in
      let h : drop j vs ≡ x ∷ drop (j + 1) vs = drop-cons vs j 0 (omega arith) ∙ ap (λ m. x ∷ drop m vs) n in
      let b = subst (λ ys. Here s (at + 1 + 2 * j) (concat (map name_bytes ys))) h l.here in
      let t = T_and (name_fits x) _ (subst (λ ys. T (all_of name_fits ys)) h l.fits) in
      let rest = looked m (j + 1) (omega arith) record { here = moved (omega arith) (here_back (name_bytes x) _ b); fits = t.1 } in
      ap (λ y. eqb v y || list_any (λ i. eqb v (name_at s (at + 1 + 2 * i))) (range_with_len (j + 1) m)) (here_name x t.0 (here_front (name_bytes x) _ b))
      ∙ ap (λ c. eqb v x || c) rest ∙ sym (ap (member v) h)

-- ---- a cell by its type

-- the names of an enum are short
pub enum_names : (f : File) → T (within relay_loader f) → (e : ℕ) → e < length f.enums → T (all_of name_fits (get_or f.enums e []))
enum_names f t e h = (T_and (count_fits 1 32 (length (get_or f.enums e []))) _ (all_nth (enum_fits base) f.enums [] e (fits f t).variants h)).1

-- an Enum is of an enum type, which is one of the file's
pub enum_below : (n code e : ℕ) (v : Value) → T (ty_fits n (ty_of code e)) → in_kind (ty_of code e) v ≡ true → eqb (tag v) 4 ≡ true → e < n
enum_below n code e v t k q = go (get_or ty_codes code enum_t) v t k q
  where
    differ : {a b : ℕ} (m : ℕ) → eqb m a ≡ true → eqb m b ≡ true → (a ≡ b → ⊥) → ⊥
    differ {a} {b} m p q no_same = no_same (sym (eqb-true m a p) ∙ eqb-true m b q)

    int : (y : IntTy) (v : Value) → int_in [] y v ≡ true → eqb (tag v) 4 ≡ true → ⊥
    int y (Val.Bool b) k q = eqb-false 0 4 refl (eqb-true 0 4 q)
    int y (Val.Int i) k q = eqb-false 1 4 refl (eqb-true 1 4 q)
    int y (Val.Float x) k q = eqb-false 2 4 refl (eqb-true 2 4 q)
    int y (Val.Float32 x) k q = eqb-false 3 4 refl (eqb-true 3 4 q)
    int y (Val.Enum w) k q = let z : ◌≡◌ {A = ℕ} 0 1 = cc in omega arith

    go : (c : TyCode) (v : Value) → T (ty_fits n (ty_from e c)) → in_kind (ty_from e c) v ≡ true → eqb (tag v) 4 ≡ true → e < n
    go bool_t v t k q = absurd (differ (tag v) k q (eqb-false 0 4 refl))
    go float32_t v t k q = absurd (differ (tag v) k q (eqb-false 3 4 refl))
    go float64_t v t k q = absurd (differ (tag v) k q (eqb-false 2 4 refl))
    go char_t v t k q = absurd (int (unsigned_to 8) v k q)
    go enum_t v t k q = ltb→lt e n t
    go (int_t c) v t k q = absurd (int (int_ty c) v k q)

false_true : false ≡ true → ⊥
false_true e = let z : ◌≡◌ {A = ℕ} 0 1 = ap (λ b. cond b 1 0) e in omega arith

-- a variant of an enum of the file is one of the file's
member_join : (x : ℕ) (xs ys : List ℕ) → member x xs ≡ true → member x (xs ++ ys) ≡ true
member_join x [] ys h = absurd (false_true h)
member_join x (y ∷ xs) ys h = go (eqb x y) h (member_join x xs ys)
  where
    go : (b : Bool) → (b || member x xs) ≡ true → (member x xs ≡ true → member x (xs ++ ys) ≡ true) → (b || member x (xs ++ ys)) ≡ true
    go true h on = refl
    go false h on = on h

member_behind : (x : ℕ) (xs ys : List ℕ) → member x ys ≡ true → member x (xs ++ ys) ≡ true
member_behind x [] ys h = h
member_behind x (y ∷ xs) ys h = go (eqb x y) (member_behind x xs ys h)
  where
    go : (b : Bool) → member x (xs ++ ys) ≡ true → (b || member x (xs ++ ys)) ≡ true
    go true k = refl
    go false k = k

in_all : (es : List (List ℕ)) (e x : ℕ) → member x (get_or es e []) ≡ true → member x (concat es) ≡ true
in_all [] e x h = absurd (false_true h)
in_all (vs ∷ es) zero x h = member_join x vs (concat es) h
in_all (vs ∷ es) (suc e) x h = member_behind x vs (concat es) (in_all es e x h)

-- an Enum of an enum's variant, and every other value, has a name of the file or none
enum_known : (es : List (List ℕ)) (e : ℕ) (v : Value) → member (name_in v) (get_or es e []) ≡ true → is_variant (concat es) v ≡ true
enum_known es e (Val.Bool b) h = refl
enum_known es e (Val.Int i) h = refl
enum_known es e (Val.Float x) h = refl
enum_known es e (Val.Float32 x) h = refl
enum_known es e (Val.Enum w) h = in_all es e w h

other_known : (names : List ℕ) (v : Value) → eqb (tag v) 4 ≡ false → is_variant names v ≡ true
other_known names (Val.Bool b) q = refl
other_known names (Val.Int i) q = refl
other_known names (Val.Float x) q = refl
other_known names (Val.Float32 x) q = refl
other_known names (Val.Enum w) q = absurd (false_true (sym q))

-- a value that is no Enum has another tag
pub other_tag : (v : Value) → ((w : ℕ) → v ≡ Val.Enum w → ⊥) → eqb (tag v) 4 ≡ false
other_tag (Val.Bool b) h = refl
other_tag (Val.Int i) h = refl
other_tag (Val.Float x) h = refl
other_tag (Val.Float32 x) h = refl
other_tag (Val.Enum w) h = absurd (h w refl)

and_none : (b : Bool) → (b && false) ≡ false
and_none true = refl
and_none false = refl

module _ (f : File) (code e : ℕ) (c : List ℕ) {v : Value} (is : v ≡ value_of c) where
  split : good_input f code e c ≡ (same (cell (value_of c)) c && is_variant (variants f) v) && (in_kind (ty_of code e) v && (not (eqb (tag v) 4) || member (name_in v) (get_or f.enums e [])))
  split =
      ap (λ w. (same (cell (value_of c)) c && is_variant (variants f) w) && in_type f.enums (ty_of code e) (value_of c)) (sym is)
      ∙ ap (λ b. (same (cell (value_of c)) c && is_variant (variants f) v) && b)
      (ap (in_type f.enums (ty_of code e)) (sym is) ∙ in_type_is f.enums code e v ∙ ap (λ b. in_kind (ty_of code e) v && b) (variant_is (get_or f.enums e []) v))

  pub input_enum : {b : Bool} → same (cell (value_of c)) c ≡ true → in_kind (ty_of code e) v ≡ true → eqb (tag v) 4 ≡ true → b ≡ member (name_in v) (get_or f.enums e []) → b ≡ good_input f code e c
  input_enum {b} g k q m = go b (sym m)
    where
      go : (b : Bool) → member (name_in v) (get_or f.enums e []) ≡ b → b ≡ good_input f code e c
      go true h = sym (split ∙ rw (g, k, q, h, enum_known f.enums e v h) refl)
      go false h = sym (split ∙ rw (g, k, q, h) (and_none (is_variant (variants f) v)))

  pub input_other : same (cell (value_of c)) c ≡ true → in_kind (ty_of code e) v ≡ true → eqb (tag v) 4 ≡ false → true ≡ good_input f code e c
  input_other g k q = sym (split ∙ rw (g, k, q, other_known (variants f) v q) refl)

  pub input_kind : same (cell (value_of c)) c ≡ true → in_kind (ty_of code e) v ≡ false → false ≡ good_input f code e c
  input_kind g k = sym (split ∙ rw (g, k) (and_none (is_variant (variants f) v)))

pub input_cell : (f : File) (code e : ℕ) (c : List ℕ) → same (cell (value_of c)) c ≡ false → false ≡ good_input f code e c
input_cell f code e c g = sym (ap (λ b. (b && is_variant (variants f) (value_of c)) && in_type f.enums (ty_of code e) (value_of c)) g)
