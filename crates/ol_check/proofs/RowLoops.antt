-- The loops that build rows, places and types: what holds after so many items.
use Prim.Native.Nat.{ℕ, zero, suc, ◌+◌, ◌*◌, ◌-◌, ◌/◌, ◌%◌, ◌≤◌, ◌<◌}
use mathlib.Core.Bool.{Bool, true, false, cond}
use mathlib.Core.List.{List, [], ◌∷◌, ◌++◌, map}
use mathlib.Core.Logic.{by_cases}
use mathlib.Core.Path.{◌≡◌, refl, sym, ap, subst, ◌∙◌}
use native.Mathlib.Omega.{arith}
use native.Mathlib.Decide.{dec_lt}
use Rattle.std.proofs.lemmas.List.{get_or_past, get_or-take}
use lib.ListN.{length, get_or, set, take, replicate, length-set, length-append, length-replicate, get_or-append}
use lib.Seq.{get_or-set_same, get_or-set_other, get_or-append-add, sets, length-sets}
use lib.Dec.{T, eqb, ltb, leb, leb→le, ltb→lt}
use borrow.Author.Tests.{eqb-true}
use Rattle.ol_spec.specs.Lists.{sum, concat, all_of}
use Rattle.ol_spec.specs.Syntax.{Ty, bool, int, float32, float64, char, enum, VarTy, scalar, array, Variable, Node, File, variables}
use Rattle.ol_spec.specs.Places.{var_ty_size, enum_size, variable_size, constant_size, node_size, outputs_start, locals_start, equations_start, placed, placed_nodes, constants_start, nodes_start}
use Rattle.ol_spec.specs.Encode.{name_bytes, section_bytes, variable_bytes}
use Rattle.ol_spec.specs.Limits.{base}
use Rattle.ol_spec.specs.Within.{count_fits, name_fits, enum_fits, ty_fits, var_ty_fits, variable_fits}
use Rattle.ol_spec.proofs.Tests.{T_and}
use Rattle.ol_spec.proofs.RoundTrip.Parts.{Here, here_front, here_back}
use Rattle.ol_spec.proofs.RoundTrip.Items.{names_size, variable_size_lem}
use Rattle.ol_tables.specs.Tables.{row_at, first_at, place_of, node_of, two_at, two_put, Told, element_of, ty_code, ty_enum}
use Rattle.ol_tables.specs.Heads.{name_at, ty_size_at, ty_enum_at, ty_length_at, element_at, VarTyIs}
use Rattle.ol_tables.specs.Stands.{Listed, NodeStands, FileStands}
use Rattle.ol_tables.proofs.HeadLaws.{here_first, here_name}
use Rattle.ol_tables.proofs.HeadsFile.{Passing, Item, passing_start, passing_item, passing_end, variable_stands, node_at_lem}
use Rattle.ol_tables.proofs.TableLaws.{two_same, two_other, two_length, two_kept}
use Rattle.ol_tables.proofs.Walking.{ty_small}
use Rattle.ol_tables.specs.Heads.{Byte}
use Rattle.ol_check.specs.Spans.{starts_from, Visits, end_from, behind_variable, behind_enum}
use Rattle.ol_check.specs.RowsDone.{Enums, EnumsAre, firsts_from, EnumsStored, packed_at, type_set, no_variable, VariablesAre, types_from, TypesStored, outputs_at, locals_at, equations_at, row_from, node_types, counts_put, node_stored, NodeStored}
use Rattle.ol_check.specs.RowsDone.{NodeRow, NodeTypes, CountsAre, CountedBy, NodeIs, PlacesAre, NodesAre, rows_from, nodes_stored, NodesStored, TablesDone}
use Rattle.ol_check.proofs.SpanLaws.{less_none, end_on_lem, end_none, variables_near}
use Rattle.ol_check.proofs.PlanLaws.{plan_room, node_inside, nodes_apart}

-- ---- for items that stand in the file, and what stays as it was

-- the first variants of so many enums are stored, and the nodes' rows are as before
pub record EnumsDone (s rows rows' : List ℕ) (count at r : ℕ) : Type 0 where
  pub kept : (j : ℕ) → j < 256 → get_or rows' j 0 ≡ get_or rows j 0
  pub done : (es : List (List ℕ)) → length es ≡ count → Enums s at es → EnumsAre es rows' at r

-- the types of so many variables are stored from `first` on, and the other bytes are as before
pub record VariablesDone (s types types' : List ℕ) (first count at r : ℕ) : Type 0 where
  pub near : r ≤ at + 6 * count
  pub below : (j : ℕ) → j < first → get_or types' j 0 ≡ get_or types j 0
  pub above : (j : ℕ) → first + 2 * count ≤ j → get_or types' j 0 ≡ get_or types j 0
  pub done : (enums : ℕ) → enums ≤ 16 → (vs : List Variable) → length vs ≡ count → first + 2 * count ≤ length types → Listed variable_bytes (variable_fits base enums) s at vs → VariablesAre vs types' first at r

-- node k's row, place and types are stored, the other rows and the bytes before its types but for its place are as before
pub record NodeDone (s rows rows' tab tab' : List ℕ) (plans k at : ℕ) : Type 0 where
  pub below : (j : ℕ) → j < k * 8 → get_or rows' j 0 ≡ get_or rows j 0
  pub above : (j : ℕ) → k * 8 + 8 ≤ j → get_or rows' j 0 ≡ get_or rows j 0
  pub kept : (j : ℕ) → j < plans + at → (8 * k ≤ j → j < 8 * k + 8 → ⊥) → get_or tab' j 0 ≡ get_or tab j 0
  pub done : (enums : ℕ) → enums ≤ 16 → (n : Node) → NodeStands s enums at n → plans + at + 2 * length (variables n) ≤ length tab → NodeIs n at k rows' plans tab'

pub record NodesDone (s places rows rows' tab tab' : List ℕ) (plans count : ℕ) : Type 0 where
  pub above : (j : ℕ) → 256 ≤ j → get_or rows' j 0 ≡ get_or rows j 0
  pub kept : (j : ℕ) → 256 ≤ j → j < plans → get_or tab' j 0 ≡ get_or tab j 0
  pub done : (f : File) → length f.nodes ≡ count → FileStands s f → PlacesAre f places → NodesAre f rows' plans tab'

-- ---- enums

-- a name of a section of names
pub first_name : {s : List ℕ} {at : ℕ} (vs : List ℕ) → 1 ≤ length vs → T (all_of name_fits vs) → Here s at (concat (map name_bytes vs)) → name_at s at ≡ get_or vs 0 0
first_name [] some t h = absurd (omega arith)
first_name (x ∷ vs) some t h = here_name x (T_and (name_fits x) _ t).0 (here_front (name_bytes x) _ h)

enum_some : (vs : List ℕ) → T (enum_fits base vs) → 1 ≤ length vs
enum_some vs t = leb→le 1 (length vs) (T_and (leb 1 (length vs)) _ (T_and (ltb (length vs) 256) _ (T_and (count_fits 1 32 (length vs)) _ t).0).1).0

abbrev pub EnumPassing : List ℕ → ℕ → List (List ℕ) → ℕ → ℕ → Type 0
EnumPassing s at es e next = Passing (section_bytes name_bytes) (enum_fits base) enum_size s at es e next

pub record EnumGoing (s : List ℕ) (es : List (List ℕ)) (rows : List ℕ) (at e next : ℕ) : Type 0 where
  pub passing : EnumPassing s at es e next
  pub firsts : (i : ℕ) → i < e → first_at rows i ≡ get_or (get_or es i []) 0 0

pub record EnumsGoing (s rows₀ rows : List ℕ) (count at next e : ℕ) : Type 0 where
  pub few : e ≤ count
  pub long : length rows ≡ 272
  pub kept : (j : ℕ) → j < 256 → get_or rows j 0 ≡ get_or rows₀ j 0
  pub going : (es : List (List ℕ)) → length es ≡ count → Enums s at es → EnumGoing s es rows at e next

module _ {s rows₀ : List ℕ} {count at : ℕ} where
  pub enums_start : length rows₀ ≡ 272 → EnumsGoing s rows₀ rows₀ count at at 0
  enums_start long = record { few = omega arith; long = long; kept = λ j h. refl; going = λ es e h. record { passing = passing_start (section_bytes name_bytes) (enum_fits base) enum_size h; firsts = λ i lt. absurd (omega arith) } }

  module _ {rows : List ℕ} {next e : ℕ} (g : EnumsGoing s rows₀ rows count at next e) where
    enum_item : (es : List (List ℕ)) → length es ≡ count → Enums s at es → e < count → Item (section_bytes name_bytes) (enum_fits base) enum_size s at es e next (get_or es e [])
    enum_item es q h lt = passing_item names_size [] (g.going es q h).passing (omega arith)

    pub enums_turn : count ≤ 16 → e < count → (x r : ℕ) → x ≡ name_at s (next + 1) → r ≡ next + 1 + 2 * get_or s next 0 → EnumsGoing s rows₀ (set rows (256 + e) x) count at r (e + 1)
    enums_turn most lt x r ex er =
        record {
          few = omega arith;
          long = length-set rows (256 + e) x ∙ g.long;
          kept = λ j h. get_or-set_other rows (256 + e) j x 0 (λ q. omega arith) ∙ g.kept j h;
          going = λ es q h.
              let it = enum_item es q h lt in
              let vs = get_or es e [] in
              let n = here_first (length vs) _ it.here in
              let name = first_name vs (enum_some vs it.fit) (T_and (count_fits 1 32 (length vs)) _ it.fit).1 (here_back (length vs ∷ []) _ it.here) in
              record {
                passing = subst (EnumPassing s at es (e + 1)) (omega (arith, er, n)) it.on;
                firsts = λ i below. by_cases (dec_lt i e)
                    (λ old. get_or-set_other rows (256 + e) (256 + i) x 0 (λ q. omega arith) ∙ (g.going es q h).firsts i old)
                    (λ new. let same : i ≡ e = omega arith in rw same (get_or-set_same rows (256 + e) x 0 (omega (arith, g.long)) ∙ ex ∙ name));
              };
        }

    pub enums_done : count ≤ e → EnumsDone s rows₀ rows count at next
    enums_done over =
        record {
          kept = g.kept;
          done = λ es q h.
              let w = g.going es q h in
              record { ends = passing_end w.passing (omega arith); firsts = λ i lt. w.firsts i (omega (arith, g.few)) };
        }

-- the first variants, stored one after the other
enums_replay : {s rows₀ : List ℕ} {count at : ℕ} (n : ℕ) {rows : List ℕ} {e next : ℕ} → count ≤ 16 → e + n ≡ count → EnumsGoing s rows₀ rows count at next e → EnumsDone s rows₀ (firsts_from s e n next rows) count at (end_from (behind_enum s) n next)
unfolding firsts_from end_from
enums_replay zero most eq g = enums_done g (omega arith)
enums_replay {s} (suc n) {rows} {e} {next} most eq g = enums_replay n most (omega arith) (enums_turn g most (omega arith) (name_at s (next + 1)) (behind_enum s next) refl refl)

pub enums_told : {s rows rows' : List ℕ} {count at r : ℕ} → count ≤ 16 → length rows ≡ 272 → EnumsStored s rows rows' count at r → EnumsDone s rows rows' count at r
enums_told {s} {rows} {rows'} {count} {at} {r} most long h =
    subst (λ p. EnumsDone s rows rows' count at p) (sym h.ends) (subst (λ l. EnumsDone s rows l count at (end_from (behind_enum s) count at)) (sym h.stored) (enums_replay count most (omega arith) (enums_start long)))

-- those from number e on are left
pub record FirstsGoing (s rows₀ rows : List ℕ) (count at e next : ℕ) : Type 0 where
  pub left : firsts_from s e (count - e) next rows ≡ firsts_from s 0 count at rows₀
  pub end : end_from (behind_enum s) (count - e) next ≡ end_from (behind_enum s) count at

module _ {s rows₀ : List ℕ} {count at : ℕ} where
  pub firsts_start : FirstsGoing s rows₀ rows₀ count at 0 at
  firsts_start = record { left = rw (less_none count) refl; end = rw (less_none count) refl }

  module _ {rows : List ℕ} {e next : ℕ} (g : FirstsGoing s rows₀ rows count at e next) where
    pub firsts_turn : e < count → {x r : ℕ} {rows' : List ℕ} → x ≡ name_at s (next + 1) → rows' ≡ set rows (256 + e) x → r ≡ behind_enum s next → FirstsGoing s rows₀ rows' count at (e + 1) r
    unfolding firsts_from
    firsts_turn lt {x} {r} {rows'} ex h er =
        let less : count - e ≡ suc (count - (e + 1)) = omega arith in
        record {
          left = ap (λ p. firsts_from s (e + 1) (count - (e + 1)) p rows') er ∙ ap (firsts_from s (e + 1) (count - (e + 1)) (behind_enum s next)) (h ∙ ap (set rows (256 + e)) ex)
              ∙ ap (λ n. firsts_from s e n next rows) (sym less) ∙ g.left;
          end = ap (end_from (behind_enum s) (count - (e + 1))) er ∙ sym (end_on_lem (behind_enum s) count e next lt) ∙ g.end;
        }

    pub firsts_done : count ≤ e → EnumsStored s rows₀ rows count at next
    unfolding firsts_from
    firsts_done over =
        let none_left : count - e ≡ 0 = omega arith in
        record { ends = sym (end_none (behind_enum s) count e next over) ∙ g.end; stored = ap (λ n. firsts_from s e n next rows) (sym none_left) ∙ g.left }

-- ---- types

pub record VariableGoing (s types : List ℕ) (vs : List Variable) (enums first at next i : ℕ) : Type 0 where
  pub passing : Passing variable_bytes (variable_fits base enums) variable_size s at vs i next
  pub typed : (j : ℕ) → j < i → Told types (first + 2 * j) (get_or vs j no_variable).ty

pub record VariablesGoing (s types₀ types : List ℕ) (first count at next i : ℕ) : Type 0 where
  pub few : i ≤ count
  pub near : next ≤ at + 6 * i
  pub long : length types ≡ length types₀
  pub below : (j : ℕ) → j < first → get_or types j 0 ≡ get_or types₀ j 0
  pub above : (j : ℕ) → first + 2 * i ≤ j → get_or types j 0 ≡ get_or types₀ j 0
  pub going : (enums : ℕ) → enums ≤ 16 → (vs : List Variable) → length vs ≡ count → first + 2 * count ≤ length types₀ → Listed variable_bytes (variable_fits base enums) s at vs → VariableGoing s types vs enums first at next i

-- ---- the limits of types

scalar_limits : (enums : ℕ) (t : Ty) → enums ≤ 16 → T (ty_fits enums t) → (ty_code t < 13) × (ty_enum t < 16)
scalar_limits enums bool few f = (omega arith, omega arith)
scalar_limits enums (int c) few f = (omega (arith, leb→le c 8 (T_and (leb 1 c) _ f).1), omega arith)
scalar_limits enums float32 few f = (omega arith, omega arith)
scalar_limits enums float64 few f = (omega arith, omega arith)
scalar_limits enums char few f = (omega arith, omega arith)
scalar_limits enums (enum e) few f = (omega arith, omega (arith, ltb→lt e enums f))

pub array_some : (enums n : ℕ) (t : Ty) → T (var_ty_fits base enums (array n t)) → 1 ≤ n
array_some enums n t f = leb→le 1 n (T_and (leb 1 n) _ (T_and (ltb n 256) _ (T_and (count_fits 1 32 n) _ f).0).1).0

pub array_few : (enums n : ℕ) (t : Ty) → T (var_ty_fits base enums (array n t)) → n ≤ 32
array_few enums n t f = leb→le n 32 (T_and (leb 1 n) _ (T_and (ltb n 256) _ (T_and (count_fits 1 32 n) _ f).0).1).1

pub type_length : (types : List ℕ) (p : ℕ) (s : List ℕ) (at : ℕ) → length (type_set types p s at) ≡ length types
type_length types p s at = length-set (set types p _) (p + 1) (ty_length_at s at) ∙ length-set types p _

-- other bytes stay
pub type_other : (types : List ℕ) (p : ℕ) (s : List ℕ) (at j : ℕ) → (j ≡ p → ⊥) → (j ≡ p + 1 → ⊥) → get_or (type_set types p s at) j 0 ≡ get_or types j 0
type_other types p s at j a b = get_or-set_other (set types p _) (p + 1) j _ 0 b ∙ get_or-set_other types p j _ 0 a

-- a type stays where its bytes do
pub type_same : {types types' : List ℕ} {t : VarTy} (p : ℕ) → get_or types' p 0 ≡ get_or types p 0 → get_or types' (p + 1) 0 ≡ get_or types (p + 1) 0 → Told types p t → Told types' p t
type_same p a b h = record { code = ap (λ n. n % 16) a ∙ h.code; number = ap (λ n. n / 16) a ∙ h.number; length = b ∙ h.length }

type_kept : (types : List ℕ) (p : ℕ) (s : List ℕ) (at j : ℕ) (t : VarTy) → j + 1 < p → Told types j t → Told (type_set types p s at) j t
type_kept types p s at j t lt h =
    type_same j (type_other types p s at j (λ e. omega arith) (λ e. omega arith)) (type_other types p s at (j + 1) (λ e. omega arith) (λ e. omega arith)) h

-- a scalar type in one byte, where its enum's number is below 16
packed_told : (s : List ℕ) (at c e : ℕ) → get_or s at 0 ≡ c → c < 13 → ty_enum_at s at ≡ e → e < 16 → (packed_at s at % 16 ≡ c) × (packed_at s at / 16 ≡ e)
packed_told s at c e ec low ee few = go (eqb (get_or s at 0) 12) refl
  where
    go : (b : Bool) → eqb (get_or s at 0) 12 ≡ b → (cond b (12 + 16 * (get_or s (at + 1) 0 % 16)) (get_or s at 0) % 16 ≡ c) × (cond b (12 + 16 * (get_or s (at + 1) 0 % 16)) (get_or s at 0) / 16 ≡ e)
    go true q =
        let is12 : get_or s at 0 ≡ 12 = eqb-true (get_or s at 0) 12 q in
        let num : get_or s (at + 1) 0 ≡ e = sym (ap (λ b. cond b (get_or s (at + 1) 0) 0) q) ∙ ee in
        (omega (arith, is12, ec, num), omega (arith, num))
    go false q =
        let none-there : 0 ≡ e = sym (ap (λ b. cond b (get_or s (at + 1) 0) 0) q) ∙ ee in
        (omega (arith, ec), omega (arith, ec, none-there))

-- a scalar type's code is below an array's, and an enum's number below 16
ty_limits : (enums : ℕ) (t : VarTy) → enums ≤ 16 → T (var_ty_fits base enums t) → (ty_code (element_of t) < 13) × (ty_enum (element_of t) < 16)
ty_limits enums (scalar t) few f = scalar_limits enums t few f
ty_limits enums (array n t) few f = scalar_limits enums t few (T_and (count_fits 1 32 n) _ f).1

pub type_new : (types : List ℕ) (p : ℕ) (s : List ℕ) (at enums : ℕ) (t : VarTy) → p + 1 < length types → enums ≤ 16 → T (var_ty_fits base enums t) → VarTyIs s at t → Told (type_set types p s at) p t
type_new types p s at enums t room few f h =
    let one = packed_at s (element_at s at) in
    let first = set types p one in
    let lim = ty_limits enums t few f in
    let pk = packed_told s (element_at s at) _ _ h.element.code lim.0 h.element.number lim.1 in
    let byte : get_or (type_set types p s at) p 0 ≡ one = get_or-set_other first (p + 1) p _ 0 (λ e. omega arith) ∙ get_or-set_same types p _ 0 (omega arith) in
    record {
      code = ap (λ n. n % 16) byte ∙ pk.0;
      number = ap (λ n. n / 16) byte ∙ pk.1;
      length = get_or-set_same first (p + 1) _ 0 (omega (arith, length-set types p one)) ∙ h.length;
    }

module _ {s types₀ : List ℕ} {first count at : ℕ} where
  pub variables_start : VariablesGoing s types₀ types₀ first count at at 0
  variables_start = record { few = omega arith; near = omega arith; long = refl; below = λ j h. refl; above = λ j h. refl; going = λ enums few vs q room h. record { passing = passing_start variable_bytes (variable_fits base enums) variable_size h; typed = λ j lt. absurd (omega arith) } }

  module _ {types : List ℕ} {next i : ℕ} (g : VariablesGoing s types₀ types first count at next i) where
    pub variables_turn : i < count → (n : ℕ) → n ≡ ty_size_at s (next + 2) → VariablesGoing s types₀ (type_set types (first + 2 * i) s (next + 2)) first count at (next + 2 + n) (i + 1)
    variables_turn lt n en =
        record {
          few = omega arith;
          near = omega (arith, g.near, en, ty_small s (next + 2));
          long = type_length types (first + 2 * i) s (next + 2) ∙ g.long;
          below = λ j h. type_other types (first + 2 * i) s (next + 2) j (λ e. omega arith) (λ e. omega arith) ∙ g.below j h;
          above = λ j h. type_other types (first + 2 * i) s (next + 2) j (λ e. omega arith) (λ e. omega arith) ∙ g.above j (omega arith);
          going = λ enums few vs q room h.
              let w = g.going enums few vs q room h in
              let it = passing_item variable_size_lem no_variable w.passing (omega arith) in
              let v = get_or vs i no_variable in
              let st = variable_stands v it.fit it.here in
              let same : n ≡ var_ty_size v.ty = en ∙ st.ty.size in
              record {
                passing = subst (Passing variable_bytes (variable_fits base enums) variable_size s at vs (i + 1)) (omega (arith, same)) it.on;
                typed = λ j below. by_cases (dec_lt j i)
                    (λ old. type_kept types (first + 2 * i) s (next + 2) (first + 2 * j) _ (omega arith) (w.typed j old))
                    (λ new. let e : j ≡ i = omega arith in rw e (type_new types (first + 2 * i) s (next + 2) enums _ (omega (arith, g.long)) few (T_and (name_fits v.name) _ it.fit).1 st.ty));
              };
        }

    pub variables_done : count ≤ i → VariablesDone s types₀ types first count at next
    variables_done over =
        record {
          near = omega (arith, g.near, g.few);
          below = g.below;
          above = λ j h. g.above j (omega (arith, g.few));
          done = λ enums few vs q room h.
              let w = g.going enums few vs q room h in
              record { ends = passing_end w.passing (omega arith); typed = λ j lt. w.typed j (omega arith) };
        }

-- the types, stored one after the other
types_replay : {s types₀ : List ℕ} {first count at : ℕ} (n : ℕ) {types : List ℕ} {next : ℕ} (i : ℕ) → i + n ≡ count → VariablesGoing s types₀ types first count at next i → VariablesDone s types₀ (types_from s (first + 2 * i) n next types) first count at (end_from (behind_variable s) n next)
unfolding types_from end_from
types_replay zero i eq g = variables_done g (omega arith)
types_replay {s} {types₀} {first} {count} {at} (suc n) {types} {next} i eq g =
    let number : first + 2 * (i + 1) ≡ first + 2 * i + 2 = omega arith in
    subst (λ m. VariablesDone s types₀ (types_from s m n (behind_variable s next) (type_set types (first + 2 * i) s (next + 2))) first count at (end_from (behind_variable s) n (behind_variable s next))) number
    (types_replay n (i + 1) (omega arith) (variables_turn g (omega arith) _ refl))

pub types_told : {s types types' : List ℕ} {first count at r : ℕ} → TypesStored s types types' first count at r → VariablesDone s types types' first count at r
types_told {s} {types} {types'} {first} {count} {at} {r} h =
    let none_yet : first + 2 * 0 ≡ first = omega arith in
    subst (λ p. VariablesDone s types types' first count at p) (sym h.ends)
    (subst (λ l. VariablesDone s types l first count at (end_from (behind_variable s) count at)) (ap (λ m. types_from s m count at types) none_yet ∙ sym h.stored) (types_replay count 0 (omega arith) variables_start))

types_length : (s : List ℕ) (n p at : ℕ) (types : List ℕ) → length (types_from s p n at types) ≡ length types
unfolding types_from
types_length s zero p at types = refl
types_length s (suc n) p at types = types_length s n (p + 2) (behind_variable s at) (type_set types p s (at + 2)) ∙ type_length types p s (at + 2)

-- what is done at each variable is to store its type
pub types_visits : {R : List ℕ → ℕ → ℕ → List ℕ → Type 0} (s : List ℕ) (first : ℕ) → ((t : List ℕ) (i p : ℕ) (u : List ℕ) → R t i p u → u ≡ type_set t (first + 2 * i) s (p + 2)) → (i count at : ℕ) (t u : List ℕ) → Visits R i (starts_from (behind_variable s) count at) t u
    → u ≡ types_from s (first + 2 * i) count at t
unfolding Visits starts_from types_from
types_visits s first told i zero at t u h = h
types_visits s first told i (suc n) at t u h =
    let number : first + 2 * (i + 1) ≡ first + 2 * i + 2 = omega arith in
    types_visits s first told (i + 1) n (behind_variable s at) h.0 u h.2 ∙ ap (λ m. types_from s m n (behind_variable s at) h.0) number ∙ ap (types_from s (first + 2 * i + 2) n (behind_variable s at)) (told t i at h.0 h.1)

pub types_near : {s types types' : List ℕ} {first count at r : ℕ} → TypesStored s types types' first count at r → r ≤ at + 6 * count
types_near {s} {count = count} {at = at} h = omega (arith, h.ends, variables_near s count at)

-- ---- nodes

-- a row's entries, and those outside it
put_outside : (rows ns : List ℕ) (i j : ℕ) → (i ≤ j → j < i + length ns → ⊥) → get_or (sets rows i ns) j 0 ≡ get_or rows j 0
put_outside rows [] i j h = refl
put_outside rows (n ∷ ns) i j h = put_outside (set rows i n) ns (suc i) j (λ a b. h (omega arith) (omega arith)) ∙ get_or-set_other rows i j n 0 (λ e. h (omega arith) (omega arith))

put_inside : (rows ns : List ℕ) (i j : ℕ) → j < length ns → i + length ns ≤ length rows → get_or (sets rows i ns) (i + j) 0 ≡ get_or ns j 0
put_inside rows [] i j h room = absurd (omega arith)
put_inside rows (n ∷ ns) i zero h room =
    let z : i + 0 ≡ i = omega arith in
    rw z (put_outside (set rows i n) ns (suc i) i (λ a b. omega arith) ∙ get_or-set_same rows i n 0 (omega arith))
put_inside rows (n ∷ ns) i (suc j) h room =
    let z : i + suc j ≡ suc i + j = omega arith in
    rw z (put_inside (set rows i n) ns (suc i) j (omega arith) (omega (arith, length-set rows i n)))

type_below : {types types' : List ℕ} {t : VarTy} (first p : ℕ) → ((j : ℕ) → j < first → get_or types' j 0 ≡ get_or types j 0) → p + 1 < first → Told types p t → Told types' p t
type_below first p same lt h = type_same p (same p (omega arith)) (same (p + 1) lt) h

-- the types of two lists of variables, one behind the other
types_append : (types : List ℕ) (first : ℕ) (vs ws : List Variable) → ((i : ℕ) → i < length vs → Told types (first + 2 * i) (get_or vs i no_variable).ty)
    → ((i : ℕ) → i < length ws → Told types (first + 2 * length vs + 2 * i) (get_or ws i no_variable).ty) → (i : ℕ) → i < length (vs ++ ws) → Told types (first + 2 * i) (get_or (vs ++ ws) i no_variable).ty
types_append types first vs ws a b i lt =
    by_cases (dec_lt i (length vs))
    (λ low. rw (get_or-append vs ws no_variable i low) (a i low))
    (λ high.
    let j = i - length vs in
    let e : length vs + j ≡ i = omega arith in
    let q : first + 2 * length vs + 2 * j ≡ first + 2 * (length vs + j) = omega arith in
    let w = b j (omega (arith, length-append vs ws)) in
    subst (λ m. Told types (first + 2 * m) (get_or (vs ++ ws) m no_variable).ty) e
    (rw (get_or-append-add vs ws j no_variable) (subst (λ m. Told types m (get_or ws j no_variable).ty) q w)))

-- four numbers in two bytes each, and what stands outside them
pub counts_other : (t : List ℕ) (p at a b c x : ℕ) → (p ≤ x → x < p + 8 → ⊥) → get_or (counts_put t p at a b c) x 0 ≡ get_or t x 0
unfolding counts_put
counts_other t p at a b c x out =
    two_other _ (p + 6) c x (λ e. out (omega arith) (omega arith)) (λ e. out (omega arith) (omega arith))
    ∙ two_other _ (p + 4) b x (λ e. out (omega arith) (omega arith)) (λ e. out (omega arith) (omega arith))
    ∙ two_other _ (p + 2) a x (λ e. out (omega arith) (omega arith)) (λ e. out (omega arith) (omega arith))
    ∙ two_other t p at x (λ e. out (omega arith) (omega arith)) (λ e. out (omega arith) (omega arith))

pub counts_length : (t : List ℕ) (p at a b c : ℕ) → length (counts_put t p at a b c) ≡ length t
unfolding counts_put
counts_length t p at a b c = two_length _ (p + 6) c ∙ two_length _ (p + 4) b ∙ two_length _ (p + 2) a ∙ two_length t p at

-- a number stays where another is stored behind it
two_before : (t : List ℕ) (p n q : ℕ) → q + 1 < p → two_at (two_put t p n) q ≡ two_at t q
two_before t p n q lt = two_kept t (two_put t p n) q (two_other t p n q (λ e. omega arith) (λ e. omega arith)) (two_other t p n (q + 1) (λ e. omega arith) (λ e. omega arith))

pub counts_told : (t : List ℕ) (p at a b c : ℕ) → p + 8 ≤ length t → at < 65536 → a < 65536 → b < 65536 → c < 65536
    → (two_at (counts_put t p at a b c) p ≡ at) × (two_at (counts_put t p at a b c) (p + 2) ≡ a) × (two_at (counts_put t p at a b c) (p + 4) ≡ b) × (two_at (counts_put t p at a b c) (p + 6) ≡ c)
unfolding counts_put
counts_told t p at a b c room lat la lb lc =
    let t₁ = two_put t p at in
    let t₂ = two_put t₁ (p + 2) a in
    let t₃ = two_put t₂ (p + 4) b in
    let l₁ = two_length t p at in
    let l₂ = two_length t₁ (p + 2) a in
    let l₃ = two_length t₂ (p + 4) b in (
      two_before t₃ (p + 6) c p (omega arith) ∙ two_before t₂ (p + 4) b p (omega arith) ∙ two_before t₁ (p + 2) a p (omega arith) ∙ two_same t p at (omega arith) lat,
      two_before t₃ (p + 6) c (p + 2) (omega arith) ∙ two_before t₂ (p + 4) b (p + 2) (omega arith) ∙ two_same t₁ (p + 2) a (omega (arith, l₁)) la,
      two_before t₃ (p + 6) c (p + 4) (omega arith) ∙ two_same t₂ (p + 4) b (omega (arith, l₁, l₂)) lb,
      two_same t₃ (p + 6) c (omega (arith, l₁, l₂, l₃)) lc,
    )

module _ (rows : List ℕ) {s rows' tab t₁ t₂ t₃ : List ℕ} {plans k at i o oc l lc q qc kind : ℕ} (low : k < 32) (long : length rows ≡ 272) (front : 256 ≤ plans) (near : at < 65536)
    (ib : i ≡ get_or s (at + 1) 0) (v₁ : VariablesDone s tab t₁ (plans + at) i (at + 2) o) (l₁ : length t₁ ≡ length tab)
    (ob : oc ≡ get_or s o 0) (v₂ : VariablesDone s t₁ t₂ (plans + at + 2 * i) oc (o + 1) l) (l₂ : length t₂ ≡ length t₁)
    (lb : lc ≡ get_or s l 0) (v₃ : VariablesDone s t₂ t₃ (plans + at + 2 * i + 2 * oc) lc (l + 1) q) (l₃ : length t₃ ≡ length t₂)
    (qb : qc ≡ get_or s q 0) (kb : kind ≡ get_or s at 0) (put : rows' ≡ sets rows (k * 8) (kind ∷ (q + 1) ∷ i ∷ oc ∷ (i + oc + lc) ∷ qc ∷ 0 ∷ at ∷ [])) where
  -- with its numbers
  abbrev pub t₄ : List ℕ
  t₄ = counts_put t₃ (8 * k) at i (i + oc) (i + oc + lc)

  far : (p : ℕ) → plans ≤ p → get_or t₄ p 0 ≡ get_or t₃ p 0
  far p h = counts_other t₃ (8 * k) at i (i + oc) (i + oc + lc) p (λ a b. omega arith)

  -- what stands in the file where the sections start
  node_is : (enums : ℕ) → enums ≤ 16 → (n : Node) → NodeStands s enums at n → plans + at + 2 * length (variables n) ≤ length tab → NodeIs n at k rows' plans t₄
  node_is enums few_enums n st room =
      let many : length (variables n) ≡ length n.inputs + length n.outputs + length n.locals = omega (arith, length-append (n.inputs ++ n.outputs) n.locals, length-append n.inputs n.outputs) in
      let ei : length n.inputs ≡ i = sym (ib ∙ st.input_count) in
      let w₁ = v₁.done enums few_enums n.inputs ei (omega (arith, many)) st.inputs in
      let eo : o ≡ outputs_start at n = omega (arith, w₁.ends) in
      let no : length n.outputs ≡ oc = sym (ob ∙ ap (λ p. get_or s p 0) eo ∙ st.output_count) in
      let w₂ = v₂.done enums few_enums n.outputs no (omega (arith, many)) (subst (λ p. Listed variable_bytes (variable_fits base enums) s (p + 1) n.outputs) (sym eo) st.outputs) in
      let el : l ≡ locals_start at n = omega (arith, w₂.ends, eo) in
      let nl : length n.locals ≡ lc = sym (lb ∙ ap (λ p. get_or s p 0) el ∙ st.local_count) in
      let w₃ = v₃.done enums few_enums n.locals nl (omega (arith, many)) (subst (λ p. Listed variable_bytes (variable_fits base enums) s (p + 1) n.locals) (sym el) st.locals) in
      let eq : q ≡ equations_start at n = omega (arith, w₃.ends, el) in
      let nq : length n.equations ≡ qc = sym (qb ∙ ap (λ p. get_or s p 0) eq ∙ st.equation_count) in
      let ns = kind ∷ (q + 1) ∷ i ∷ oc ∷ (i + oc + lc) ∷ qc ∷ 0 ∷ at ∷ [] in
      let at_entry : (j : ℕ) → j < 8 → row_at rows' k j ≡ get_or ns j 0 = λ j h. rw put (put_inside rows ns (k * 8) j h (omega (arith, long))) in
      let all : (j : ℕ) → j < length (variables n) → Told t₃ (plans + at + 2 * j) (get_or (variables n) j no_variable).ty =
      types_append t₃ (plans + at) (n.inputs ++ n.outputs) n.locals
      (types_append t₃ (plans + at) n.inputs n.outputs
      (λ j h. type_below {types = t₂} (plans + at + 2 * i + 2 * oc) _ v₃.below (omega arith) (type_below {types = t₁} (plans + at + 2 * i) _ v₂.below (omega arith) (w₁.typed j h)))
      (λ j h. subst (λ m. Told t₃ m (get_or n.outputs j no_variable).ty) (omega arith) (type_below (plans + at + 2 * i + 2 * oc) _ v₃.below (omega arith) (w₂.typed j h))))
      (λ j h. subst (λ m. Told t₃ m (get_or n.locals j no_variable).ty) (omega (arith, length-append n.inputs n.outputs)) (w₃.typed j h)) in
      record {
        row = record {
          kind = at_entry 0 (omega arith) ∙ kb ∙ st.kind;
          equations = at_entry 1 (omega arith) ∙ ap (λ p. p + 1) eq;
          inputs = at_entry 2 (omega arith) ∙ sym ei;
          outputs = at_entry 3 (omega arith) ∙ sym no;
          variables = at_entry 4 (omega arith) ∙ omega (arith, many);
          count = at_entry 5 (omega arith) ∙ sym nq;
          place = at_entry 7 (omega arith);
        };
        typed = record {
          place = (counts_told t₃ (8 * k) at i (i + oc) (i + oc + lc) (omega (arith, l₁, l₂, l₃)) near (omega (arith, ei, st.few_inputs)) (omega (arith, ei, no, st.few_inputs, st.few_outputs)) (omega (arith, ei, no, nl, st.few_inputs, st.few_outputs, st.few_locals))).0;
          are = λ j h. type_same (plans + at + 2 * j) (far _ (omega arith)) (far _ (omega arith)) (all j h);
        };
        counted =
            let w = counts_told t₃ (8 * k) at i (i + oc) (i + oc + lc) (omega (arith, l₁, l₂, l₃)) near (omega (arith, ei, st.few_inputs)) (omega (arith, ei, no, st.few_inputs, st.few_outputs)) (omega (arith, ei, no, nl, st.few_inputs, st.few_outputs, st.few_locals)) in
            record { first = w.1 ∙ sym ei; second = w.2 ∙ omega (arith, ei, no); third = w.3 ∙ omega (arith, ei, no, nl, many) };
      }

  pub node_done : NodeDone s rows rows' tab t₄ plans k at
  node_done =
      let ns = kind ∷ (q + 1) ∷ i ∷ oc ∷ (i + oc + lc) ∷ qc ∷ 0 ∷ at ∷ [] in
      record {
        below = λ j h. rw put (put_outside rows ns (k * 8) j (λ a b. omega arith));
        above = λ j h. rw put (put_outside rows ns (k * 8) j (λ a b. omega arith));
        kept = λ j h out. counts_other t₃ (8 * k) at i (i + oc) (i + oc + lc) j out ∙ v₃.below j (omega arith) ∙ v₂.below j (omega arith) ∙ v₁.below j h;
        done = node_is;
      }

-- what is stored, by the bytes
pub node_stored_lem : {s rows rows' tab t₁ t₂ t₃ t₄ : List ℕ} {plans k at i o oc l lc q qc kind : ℕ} → i ≡ get_or s (at + 1) 0 → TypesStored s tab t₁ (plans + at) i (at + 2) o → oc ≡ get_or s o 0 → TypesStored s t₁ t₂ (plans + at + 2 * i) oc (o + 1) l
    → lc ≡ get_or s l 0 → TypesStored s t₂ t₃ (plans + at + 2 * i + 2 * oc) lc (l + 1) q → t₄ ≡ counts_put t₃ (8 * k) at i (i + oc) (i + oc + lc) → qc ≡ get_or s q 0 → kind ≡ get_or s at 0 → rows' ≡ sets rows (k * 8) (kind ∷ (q + 1) ∷ i ∷ oc ∷ (i + oc + lc) ∷ qc ∷ 0 ∷ at ∷ []) → NodeStored s rows rows' tab t₄ plans k at
node_stored_lem {s} {rows} {rows'} {tab} {t₁} {t₂} {t₃} {t₄} {plans} {k} {at} {i} {o} {oc} {l} {lc} {q} {qc} {kind} ei v₁ eoc v₂ elc v₃ e₄ eqc ek put =
    let eo : o ≡ outputs_at s at = v₁.ends ∙ ap (λ n. end_from (behind_variable s) n (at + 2)) ei in
    let no : oc ≡ get_or s (outputs_at s at) 0 = eoc ∙ ap (λ p. get_or s p 0) eo in
    let el : l ≡ locals_at s at = v₂.ends ∙ ap (λ n. end_from (behind_variable s) n (o + 1)) no ∙ ap (λ p. end_from (behind_variable s) (get_or s (outputs_at s at) 0) (p + 1)) eo in
    let nl : lc ≡ get_or s (locals_at s at) 0 = elc ∙ ap (λ p. get_or s p 0) el in
    let eq : q ≡ equations_at s at = v₃.ends ∙ ap (λ n. end_from (behind_variable s) n (l + 1)) nl ∙ ap (λ p. end_from (behind_variable s) (get_or s (locals_at s at) 0) (p + 1)) el in
    let nq : qc ≡ get_or s (equations_at s at) 0 = eqc ∙ ap (λ p. get_or s p 0) eq in
    let p = plans + at in
    let typed : t₃ ≡ node_types s p at tab = v₃.stored ∙ ap (types_from s (p + 2 * i + 2 * oc) lc (l + 1)) (v₂.stored ∙ ap (types_from s (p + 2 * i) oc (o + 1)) v₁.stored) ∙ rw (nl, no, ei, el, eo) refl in
    record { row = put ∙ rw (ek, eq, nl, no, ei, nq) refl; typed = e₄ ∙ ap (λ t. counts_put t (8 * k) at i (i + oc) (i + oc + lc)) typed ∙ rw (nl, no, ei) refl }

node_length : (s : List ℕ) (plans k at : ℕ) (tab : List ℕ) → length (node_stored s plans k at tab) ≡ length tab
node_length s plans k at tab =
    counts_length (node_types s (plans + at) at tab) (8 * k) at _ _ _ ∙ types_length s (get_or s (locals_at s at) 0) _ (locals_at s at + 1) _ ∙ types_length s (get_or s (outputs_at s at) 0) _ (outputs_at s at + 1) _ ∙ types_length s (get_or s (at + 1) 0) (plans + at) (at + 2) tab

pub node_told : {s rows rows' tab tab' : List ℕ} {plans k at : ℕ} → k < 32 → length rows ≡ 272 → 256 ≤ plans → at < 65536 → NodeStored s rows rows' tab tab' plans k at → NodeDone s rows rows' tab tab' plans k at
node_told {s} {rows} {rows'} {tab} {tab'} {plans} {k} {at} low long front near h =
    let p = plans + at in
    let i = get_or s (at + 1) 0 in
    let oc = get_or s (outputs_at s at) 0 in
    let lc = get_or s (locals_at s at) 0 in
    let t₁ = types_from s p i (at + 2) tab in
    let t₂ = types_from s (p + 2 * i) oc (outputs_at s at + 1) t₁ in
    let t₃ = types_from s (p + 2 * i + 2 * oc) lc (locals_at s at + 1) t₂ in
    let v₁ : TypesStored s tab t₁ p i (at + 2) (outputs_at s at) = record { ends = refl; stored = refl } in
    let v₂ : TypesStored s t₁ t₂ (p + 2 * i) oc (outputs_at s at + 1) (locals_at s at) = record { ends = refl; stored = refl } in
    let v₃ : TypesStored s t₂ t₃ (p + 2 * i + 2 * oc) lc (locals_at s at + 1) (equations_at s at) = record { ends = refl; stored = refl } in
    subst (λ l. NodeDone s rows rows' tab l plans k at) (sym h.typed)
    (node_done rows low long front near refl (types_told v₁) (types_length s i p (at + 2) tab) refl (types_told v₂) (types_length s oc (p + 2 * i) (outputs_at s at + 1) t₁) refl (types_told v₃) (types_length s lc (p + 2 * i + 2 * oc) (locals_at s at + 1) t₂) refl refl h.row)

-- the nodes below number k have their rows, places and types
pub record NodeGoing (f : File) (rows : List ℕ) (plans : ℕ) (tab : List ℕ) (k : ℕ) : Type 0 where
  pub row : (j : ℕ) → j < k → NodeRow (node_of f j) (place_of (placed_nodes f) j) j rows
  pub typed : (j : ℕ) → j < k → NodeTypes (node_of f j) (place_of (placed_nodes f) j) j plans tab
  pub counted : (j : ℕ) → j < k → CountedBy (node_of f j) j tab

pub record NodesGoing (s places rows₀ rows tab₀ tab : List ℕ) (plans count k : ℕ) : Type 0 where
  pub few : k ≤ count
  pub long : length rows ≡ 272
  pub wide : length tab ≡ length tab₀
  pub above : (j : ℕ) → 256 ≤ j → get_or rows j 0 ≡ get_or rows₀ j 0
  pub kept : (j : ℕ) → 256 ≤ j → j < plans → get_or tab j 0 ≡ get_or tab₀ j 0
  pub going : (f : File) → length f.nodes ≡ count → FileStands s f → PlacesAre f places → NodeGoing f rows plans tab k

-- a row below what is written stays
row_below : {rows rows' : List ℕ} {n : Node} {at : ℕ} (k j : ℕ) → ((i : ℕ) → i < k * 8 → get_or rows' i 0 ≡ get_or rows i 0) → j < k → NodeRow n at j rows → NodeRow n at j rows'
row_below k j same lt h =
    record {
      kind = same (j * 8 + 0) (omega arith) ∙ h.kind;
      equations = same (j * 8 + 1) (omega arith) ∙ h.equations;
      inputs = same (j * 8 + 2) (omega arith) ∙ h.inputs;
      outputs = same (j * 8 + 3) (omega arith) ∙ h.outputs;
      variables = same (j * 8 + 4) (omega arith) ∙ h.variables;
      count = same (j * 8 + 5) (omega arith) ∙ h.count;
      place = same (j * 8 + 7) (omega arith) ∙ h.place;
    }

pub few_variables : {s : List ℕ} {enums at : ℕ} {n : Node} → NodeStands s enums at n → length (variables n) ≤ 112
few_variables {n = n} st = omega (arith, st.few_inputs, st.few_outputs, st.few_locals, length-append (n.inputs ++ n.outputs) n.locals, length-append n.inputs n.outputs)

-- the place and the types of a node stay where their bytes do
pub types_stay : {tab tab' : List ℕ} {n : Node} {at j plans : ℕ} (m : ℕ) → plans + at + 2 * length (variables n) ≤ m → ((i : ℕ) → plans + at ≤ i → i < m → get_or tab' i 0 ≡ get_or tab i 0) → get_or tab' (8 * j) 0 ≡ get_or tab (8 * j) 0 → get_or tab' (8 * j + 1) 0 ≡ get_or tab (8 * j + 1) 0
    → NodeTypes n at j plans tab → NodeTypes n at j plans tab'
types_stay {tab} {tab'} {n} {at} {j} {plans} m room same a b h =
    record { place = two_kept tab tab' (8 * j) a b ∙ h.place; are = λ i il. type_same (plans + at + 2 * i) (same _ (omega arith) (omega arith)) (same _ (omega arith) (omega arith)) (h.are i il) }

-- a node's counts stay where their bytes do
pub counts_stay : {tab tab' : List ℕ} {a b c : ℕ} (j : ℕ) → ((x : ℕ) → 8 * j ≤ x → x < 8 * j + 8 → get_or tab' x 0 ≡ get_or tab x 0) → CountsAre tab j a b c → CountsAre tab' j a b c
counts_stay {tab} {tab'} j same h =
    record {
      first = two_kept tab tab' (8 * j + 2) (same _ (omega arith) (omega arith)) (same _ (omega arith) (omega arith)) ∙ h.first;
      second = two_kept tab tab' (8 * j + 4) (same _ (omega arith) (omega arith)) (same _ (omega arith) (omega arith)) ∙ h.second;
      third = two_kept tab tab' (8 * j + 6) (same _ (omega arith) (omega arith)) (same _ (omega arith) (omega arith)) ∙ h.third;
    }

module _ {s places rows₀ tab₀ : List ℕ} {plans count : ℕ} (front : 256 ≤ plans) (room : plans + length s ≤ length tab₀) where
  pub nodes_start_lem : length rows₀ ≡ 272 → NodesGoing s places rows₀ rows₀ tab₀ tab₀ plans count 0
  nodes_start_lem long =
      record { few = omega arith; long = long; wide = refl; above = λ j h. refl; kept = λ j h g. refl; going = λ f q st at. record { row = λ j lt. absurd (omega arith); typed = λ j lt. absurd (omega arith); counted = λ j lt. absurd (omega arith) } }

  module _ {rows tab : List ℕ} {k : ℕ} (g : NodesGoing s places rows₀ rows tab₀ tab plans count k) where
    pub nodes_turn : (rows' tab' : List ℕ) (at : ℕ) → count ≤ 32 → k < count → length rows' ≡ length rows → length tab' ≡ length tab → at ≡ get_or places k 0 → NodeDone s rows rows' tab tab' plans k at → NodesGoing s places rows₀ rows' tab₀ tab' plans count (k + 1)
    nodes_turn rows' tab' at most lt el et ea d =
        record {
          few = omega arith;
          long = el ∙ g.long;
          wide = et ∙ g.wide;
          above = λ j h. d.above j (omega arith) ∙ g.above j h;
          kept = λ j h b. d.kept j (omega arith) (λ x y. omega arith) ∙ g.kept j h b;
          going = λ f q st pl.
              let w = g.going f q st pl in
              let here : at ≡ place_of (placed_nodes f) k = ea ∙ pl.at k (omega arith) in
              let n = node_of f k in
              let stands = node_at_lem st k (omega arith) in
              let is = d.done (length f.enums) st.few_enums n (subst (λ a. NodeStands s (length f.enums) a n) (sym here) stands) (omega (arith, here, g.wide, room, node_inside st k (omega arith), plan_room n stands)) in
              record {
                row = λ j below. by_cases (dec_lt j k)
                    (λ old. row_below k j d.below old (w.row j old))
                    (λ new. let e : j ≡ k = omega arith in rw e (subst (λ a. NodeRow n a k rows') here is.row));
                typed = λ j below. by_cases (dec_lt j k)
                    (λ old. types_stay (plans + at) (omega (arith, here, nodes_apart st j k old (omega arith), plan_room (node_of f j) (node_at_lem st j (omega arith)))) (λ i a b. d.kept i b (λ x y. omega arith))
                    (d.kept (8 * j) (omega arith) (λ x y. omega arith)) (d.kept (8 * j + 1) (omega arith) (λ x y. omega arith)) (w.typed j old))
                    (λ new. let e : j ≡ k = omega arith in rw e (subst (λ a. NodeTypes n a k plans tab') here is.typed));
                counted = λ j below. by_cases (dec_lt j k)
                    (λ old. counts_stay j (λ x a b. d.kept x (omega arith) (λ u v. omega arith)) (w.counted j old))
                    (λ new. let e : j ≡ k = omega arith in rw e is.counted);
              };
        }

    pub nodes_done : count ≤ k → NodesDone s places rows₀ rows tab₀ tab plans count
    nodes_done over =
        record {
          above = g.above;
          kept = g.kept;
          done = λ f q st pl. let w = g.going f q st pl in record { row = λ j lt. w.row j (omega (arith, g.few)); typed = λ j lt. w.typed j (omega (arith, g.few)); counted = λ j lt. w.counted j (omega (arith, g.few)) };
        }

  -- the rows, places and types, stored one after the other
  nodes_replay : (n : ℕ) {rows tab : List ℕ} {k : ℕ} → count ≤ 32 → ((j : ℕ) → j < count → get_or places j 0 ≤ 32768) → k + n ≡ count → NodesGoing s places rows₀ rows tab₀ tab plans count k → NodesDone s places rows₀ (rows_from s places k n rows) tab₀ (nodes_stored s places plans k n tab) plans count
  unfolding rows_from nodes_stored
  nodes_replay zero most near eq g = nodes_done g (omega arith)
  nodes_replay (suc n) {rows} {tab} {k} most near eq g =
      let at = get_or places k 0 in
      let d : NodeStored s rows (sets rows (k * 8) (row_from s at)) tab (node_stored s plans k at tab) plans k at = record { row = refl; typed = refl } in
      nodes_replay n most near (omega arith) (nodes_turn g _ _ at most (omega arith) (length-sets rows (k * 8) (row_from s at)) (node_length s plans k at tab) refl (node_told (omega arith) g.long front (omega (arith, near k (omega arith))) d))

  pub nodes_told : {rows' tab' : List ℕ} → count ≤ 32 → ((j : ℕ) → j < count → get_or places j 0 ≤ 32768) → length rows₀ ≡ 272 → NodesStored s places rows₀ rows' tab₀ tab' plans count → NodesDone s places rows₀ rows' tab₀ tab' plans count
  nodes_told {rows'} {tab'} most near long h =
      subst (λ l. NodesDone s places rows₀ l tab₀ tab' plans count) (sym h.stored) (subst (λ l. NodesDone s places rows₀ (rows_from s places 0 count rows₀) tab₀ l plans count) (sym h.typed) (nodes_replay count most near (omega arith) (nodes_start_lem long)))

-- those from number k on are left
pub record RowsGoing (s places rows₀ tab₀ rows tab : List ℕ) (plans count k : ℕ) : Type 0 where
  pub stored : rows_from s places k (count - k) rows ≡ rows_from s places 0 count rows₀
  pub typed : nodes_stored s places plans k (count - k) tab ≡ nodes_stored s places plans 0 count tab₀

module _ {s places rows₀ tab₀ : List ℕ} {plans count : ℕ} where
  pub rows_start : RowsGoing s places rows₀ tab₀ rows₀ tab₀ plans count 0
  rows_start = record { stored = rw (less_none count) refl; typed = rw (less_none count) refl }

  module _ {rows tab : List ℕ} {k : ℕ} (g : RowsGoing s places rows₀ tab₀ rows tab plans count k) where
    pub rows_turn : k < count → {at : ℕ} {rows' tab' : List ℕ} → at ≡ get_or places k 0 → NodeStored s rows rows' tab tab' plans k at → RowsGoing s places rows₀ tab₀ rows' tab' plans count (k + 1)
    unfolding rows_from nodes_stored
    rows_turn lt {at} {rows'} {tab'} ea h =
        let less : count - k ≡ suc (count - (k + 1)) = omega arith in
        record {
          stored = ap (rows_from s places (k + 1) (count - (k + 1))) (h.row ∙ ap (λ p. sets rows (k * 8) (row_from s p)) ea) ∙ ap (λ n. rows_from s places k n rows) (sym less) ∙ g.stored;
          typed = ap (nodes_stored s places plans (k + 1) (count - (k + 1))) (h.typed ∙ ap (λ p. node_stored s plans k p tab) ea) ∙ ap (λ n. nodes_stored s places plans k n tab) (sym less) ∙ g.typed;
        }

    pub rows_done : count ≤ k → NodesStored s places rows₀ rows tab₀ tab plans count
    unfolding rows_from nodes_stored
    rows_done over =
        let none_left : count - k ≡ 0 = omega arith in
        record { stored = ap (λ n. rows_from s places k n rows) (sym none_left) ∙ g.stored; typed = ap (λ n. nodes_stored s places plans k n tab) (sym none_left) ∙ g.typed }

-- ---- the whole file

-- the first node stands where the nodes start
first_at_lem : (ns : List Node) (at : ℕ) → 1 ≤ length ns → place_of (placed node_size at ns) 0 ≡ at
first_at_lem [] at some = absurd (omega arith)
first_at_lem (n ∷ ns) at some = refl

pub first_place_lem : {s places : List ℕ} {f : File} → FileStands s f → PlacesAre f places → get_or places 0 0 ≡ nodes_start f
first_place_lem {f = f} st pl = pl.at 0 st.some_node ∙ first_at_lem f.nodes (nodes_start f) st.some_node

-- every node stands inside the file
pub places_in : {s places : List ℕ} {f : File} → FileStands s f → PlacesAre f places → (k : ℕ) → k < length f.nodes → get_or places k 0 ≤ 32768
places_in st pl k lt = omega (arith, pl.at k lt, (node_at_lem st k lt).inside, st.short)

-- no node stands at 0, so the list has a place for each
node_behind : {s : List ℕ} {f : File} → FileStands s f → (k : ℕ) → k < length f.nodes → 0 < place_of (placed_nodes f) k
node_behind {f = f} st k lt =
    let first = first_at_lem f.nodes (nodes_start f) st.some_node in
    by_cases (dec_lt 0 k)
    (λ behind. omega (arith, first, nodes_apart st 0 k behind lt))
    (λ here. let e : k ≡ 0 = omega arith in rw e (omega (arith, first)))

pub places_long : {s places : List ℕ} {f : File} → FileStands s f → PlacesAre f places → length f.nodes ≤ length places
places_long {s} {places} {f} st pl =
    by_cases (dec_lt (length places) (length f.nodes))
    (λ short. absurd (omega (arith, pl.at (length places) short, get_or_past places (length places) 0 (omega arith), node_behind st (length places) short)))
    (λ enough. omega arith)

-- the front of the list has them
pub places_front : {places : List ℕ} {f : File} {n : ℕ} → PlacesAre f places → length f.nodes ≡ n → PlacesAre f (take n places)
places_front {places} {n = n} pl many = record { at = λ k lt. get_or-take n places k 0 (omega arith) ∙ pl.at k lt }

-- the places that the reader keeps
places_many : (ns : List Node) (at : ℕ) → length (map (λ p. p.0) (placed node_size at ns)) ≡ length ns
places_many [] at = refl
places_many (n ∷ ns) at = ap suc (places_many ns (at + node_size n))

module _ {s : List ℕ} {f : File} (st : FileStands s f) {rows₀ rows₁ : List ℕ} {ec c : ℕ} (eb : Byte s 1 ec) (long : length rows₀ ≡ 272) (stored : EnumsStored s rows₀ rows₁ ec 2 c) where
  -- there are at most 16
  pub enums_few : ec ≤ 16
  enums_few = omega (arith, eb.is ∙ st.enum_count, st.few_enums)

  pub enums : EnumsDone s rows₀ rows₁ ec 2 c
  enums = enums_told enums_few long stored

  abbrev pub enums_are : EnumsAre f.enums rows₁ 2 c
  enums_are = enums.done f.enums (sym (eb.is ∙ st.enum_count)) st.enums

  -- the count of the constants stands behind the enums
  pub constants_at : c + 1 ≡ constants_start f
  constants_at = omega (arith, enums_are.ends)

  module _ {places : List ℕ} (pl : PlacesAre f places) {p n : ℕ} (ep : p ≡ get_or places 0 0) (en : n ≡ p - 1) where
    -- the count of the nodes stands before the first
    pub nodes_at : n + 1 ≡ nodes_start f
    nodes_at = omega (arith, ep, en, first_place_lem st pl)

    pub nodes_count : {nc : ℕ} → Byte s n nc → length f.nodes ≡ nc
    nodes_count b =
        let at : n ≡ constants_start f + sum (map constant_size f.constants) = omega (arith, nodes_at) in
        sym (b.is ∙ ap (λ p. get_or s p 0) at ∙ st.node_count)

    pub tables_done : {rows₂ tab₁ tab₂ : List ℕ} {plans nc : ℕ} → length rows₁ ≡ 272 → 256 ≤ plans → plans + length s ≤ length tab₁ → Byte s n nc → NodesStored s places rows₁ rows₂ tab₁ tab₂ plans nc → TablesDone f rows₂ tab₁ tab₂ plans (record { constants = c; nodes = n })
    tables_done long₁ front room nb kept =
        let many = nodes_count nb in
        let nodes = nodes_told front room (omega (arith, many, st.few_nodes)) (λ j h. places_in st pl j (omega (arith, many, h))) long₁ kept in
        let w = nodes.done f many st pl in
        record {
          sections = record { constants = constants_at; nodes = nodes_at };
          are = record { row = w.row; firsts = λ e lt. nodes.above (256 + e) (omega arith) ∙ enums_are.firsts e lt; typed = w.typed; counted = w.counted };
          kept = nodes.kept;
        }

-- where the enums end, the count of the constants stands
pub behind_enums : {s : List ℕ} {f : File} → FileStands s f → {ec c : ℕ} → Byte s 1 ec → c ≡ end_from (behind_enum s) ec 2 → c + 1 ≡ constants_start f
behind_enums {s} {f} st {ec} {c} eb ee =
    let rows : List ℕ = replicate 272 0 in
    let stored : EnumsStored s rows (firsts_from s 0 ec 2 rows) ec 2 c = record { ends = ee; stored = refl } in
    constants_at st eb (length-replicate {A = ℕ} 272 0) stored
