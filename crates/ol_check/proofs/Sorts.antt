-- Where 6 does not hold, no name is of two sorts.
use Prim.Native.Nat.{ℕ, zero, suc, ◌+◌, ◌<◌}
use mathlib.Core.Bool.{Bool, true, false, not, ◌&&◌, ◌||◌}
use mathlib.Core.List.{List, [], ◌∷◌, ◌++◌, map, map-append}
use mathlib.Core.Logic.{◌⊎◌, inl, inr, ⊎_elim}
use mathlib.Core.Option.{none}
use mathlib.Core.Path.{◌≡◌, refl, sym, ap, ◌∙◌}
use native.Mathlib.Omega.{arith}
use lib.ListN.{length, get_or}
use lib.Dec.{eqb}
use borrow.Author.Tests.{eq-eqb, eqb-true}
use Rattle.ol_spec.specs.Lists.{member, any_of, concat}
use Rattle.ol_spec.specs.Syntax.{Variable, Constant, Node, File, name_of, constant_name, variable_names, no_node}
use Rattle.ol_spec.specs.Places.{placed, placed_enums, placed_constants, placed_nodes, placed_names, placed_variables, enum_size, constant_size, variable_size, node_size, nodes_start}
use Rattle.ol_spec.specs.Admission.{first, first_if, numbered, variants, constant_names, Sort, variant, constant, variable, Declared, apart, clash, declared_as}
use Rattle.ol_spec.specs.Admission.{placed_variable_name, placed_constant_name, enum_declares, node_declares, clashes, fault6}
use Rattle.ol_tables.specs.Tables.{Each, node_of}
use Rattle.ol_tables.proofs.Forms.{each_join}
use Rattle.ol_check.proofs.Truths.{no_truth, never, or_split, or_behind, member_front, member_behind}
use Rattle.ol_check.proofs.ClashFile.{as_append}
use Rattle.ol_check.proofs.Definitions.{clean_step}

-- variants, constants, variables
abbrev kind_of : Sort → ℕ
kind_of (variant i) = 0
kind_of constant = 1
kind_of (variable k) = 2

apart_kinds : (s t : Sort) → (kind_of s ≡ kind_of t → ⊥) → apart s t ≡ false
apart_kinds (variant i) (variant j) h = absurd (h refl)
apart_kinds (variant i) constant h = refl
apart_kinds (variant i) (variable j) h = refl
apart_kinds constant (variant j) h = refl
apart_kinds constant constant h = absurd (h refl)
apart_kinds constant (variable j) h = refl
apart_kinds (variable i) (variant j) h = refl
apart_kinds (variable i) constant h = refl
apart_kinds (variable i) (variable j) h = absurd (h refl)

-- a declaration of x of a lower kind is among the earlier ones
abbrev Seen : ℕ → ℕ → List Declared → Type 0
Seen x n [] = ⊥
Seen x n (d ∷ e) = ((d.name ≡ x) × (kind_of d.sort < n)) ⊎ Seen x n e

seen_clash : (x n : ℕ) (d : Declared) (e : List Declared) → d.name ≡ x → kind_of d.sort ≡ n → Seen x n e → any_of (clash d) e ≡ true
seen_clash x n d [] ex ek s = absurd s
seen_clash x n d (u ∷ e) ex ek s =
    ⊎_elim
    (λ h. ap (λ b. b || any_of (clash d) e) (ap (λ b. b && not (apart d.sort u.sort)) (eq-eqb d.name u.name (ex ∙ sym h.0)) ∙ ap not (apart_kinds d.sort u.sort (λ q. omega (arith, h.1)))))
    (λ h. or_behind (clash d u) (any_of (clash d) e) (seen_clash x n d e ex ek h)) s

-- so no later one of that kind declares it
later : (x n : ℕ) (b e : List Declared) → Seen x n e → Each (λ d. kind_of d.sort ≡ n) b → first (clashes e b) ≡ none → member x (map (λ d. d.name) b) ≡ false
later x n [] e s k c = refl
later x n (d ∷ b) e s k c =
    let w = clean_step (any_of (clash d) e) d.place (first (clashes (d ∷ e) b)) c in
    go (eqb x d.name) (λ t. eqb-true x d.name t) w.0 (later x n b (d ∷ e) (inr s) k.1 w.1)
  where
    go : (q : Bool) → (q ≡ true → x ≡ d.name) → any_of (clash d) e ≡ false → member x (map (λ u. u.name) b) ≡ false → q || member x (map (λ u. u.name) b) ≡ false
    go true t f r = absurd (no_truth (seen_clash x n d e (sym (t refl)) k.0 s) f)
    go false t f r = r

-- the earlier ones after a list
abbrev after : List Declared → List Declared → List Declared
after [] e = e
after (d ∷ a) e = after a (d ∷ e)

seen_after : (x n : ℕ) (a e : List Declared) → Seen x n e → Seen x n (after a e)
seen_after x n [] e s = s
seen_after x n (d ∷ a) e s = seen_after x n a (d ∷ e) (inr s)

member_seen : (x n : ℕ) (a e : List Declared) → Each (λ d. kind_of d.sort < n) a → member x (map (λ d. d.name) a) ≡ true → Seen x n (after a e)
member_seen x n [] e k m = absurd (no_truth m refl)
member_seen x n (d ∷ a) e k m =
    ⊎_elim (λ t. seen_after x n a (d ∷ e) (inl (sym (eqb-true x d.name t), k.0))) (λ t. member_seen x n a (d ∷ e) k.1 t) (or_split (eqb x d.name) (member x (map (λ u. u.name) a)) m)

clean_after : (a b e : List Declared) → first (clashes e (a ++ b)) ≡ none → first (clashes (after a e) b) ≡ none
clean_after [] b e c = c
clean_after (d ∷ a) b e c = clean_after a b (d ∷ e) (clean_step (any_of (clash d) e) d.place _ c).1

clean_front : (a b e : List Declared) → first (clashes e (a ++ b)) ≡ none → first (clashes e a) ≡ none
clean_front [] b e c = refl
clean_front (d ∷ a) b e c = let w = clean_step (any_of (clash d) e) d.place _ c in ap (λ q. first_if q d.place (first (clashes (d ∷ e) a))) w.0 ∙ clean_front a b (d ∷ e) w.1

-- names declared in two lists of which the second has a higher kind
pub two_sorts : (x n : ℕ) (a b : List Declared) → first (clashes [] (a ++ b)) ≡ none → Each (λ d. kind_of d.sort < n) a → Each (λ d. kind_of d.sort ≡ n) b → member x (map (λ d. d.name) a) ≡ true → member x (map (λ d. d.name) b) ≡ false
two_sorts x n a b c ka kb m = later x n b (after a []) (member_seen x n a [] ka m) kb (clean_after a b [] c)

-- ---- the declarations of a file

as_kind : (s : Sort) (P : Sort → Type 0) → P s → (ps : List (ℕ × ℕ)) → Each (λ d. P d.sort) (declared_as s ps)
as_kind s P h [] = tt
as_kind s P h (p ∷ ps) = (h, as_kind s P h ps)

names_as : (s : Sort) (at : ℕ) (xs : List ℕ) → map (λ d. d.name) (declared_as s (placed_names at xs)) ≡ xs
names_as s at [] = refl
names_as s at (x ∷ xs) = ap (λ l. x ∷ l) (names_as s (at + 2) xs)

enum_names : (i at : ℕ) (es : List (List ℕ)) → map (λ d. d.name) (concat (map enum_declares (numbered i (placed enum_size at es)))) ≡ concat es
enum_names i at [] = refl
enum_names i at (vs ∷ es) =
    map-append (λ d. d.name) (enum_declares (i, (at, vs))) (concat (map enum_declares (numbered (suc i) (placed enum_size (at + enum_size vs) es))))
    ∙ ap (λ l. l ++ map (λ d. d.name) (concat (map enum_declares (numbered (suc i) (placed enum_size (at + enum_size vs) es))))) (names_as (variant i) (at + 1) vs)
    ∙ ap (λ l. vs ++ l) (enum_names (suc i) (at + enum_size vs) es)

enum_kinds : (P : Sort → Type 0) → ((i : ℕ) → P (variant i)) → (i at : ℕ) (es : List (List ℕ)) → Each (λ d. P d.sort) (concat (map enum_declares (numbered i (placed enum_size at es))))
enum_kinds P h i at [] = tt
enum_kinds P h i at (vs ∷ es) = each_join (λ d. P d.sort) (enum_declares (i, (at, vs))) _ (as_kind (variant i) P (h i) (placed_names (at + 1) vs)) (enum_kinds P h (suc i) (at + enum_size vs) es)

constant_names_lem : (at : ℕ) (cs : List Constant) → map (λ d. d.name) (declared_as constant (map placed_constant_name (placed constant_size at cs))) ≡ map constant_name cs
constant_names_lem at [] = refl
constant_names_lem at (c ∷ cs) = ap (λ l. c.name ∷ l) (constant_names_lem (at + constant_size c) cs)

variable_names_lem : (s : Sort) (at : ℕ) (vs : List Variable) → map (λ d. d.name) (declared_as s (map placed_variable_name (placed variable_size at vs))) ≡ map name_of vs
variable_names_lem s at [] = refl
variable_names_lem s at (v ∷ vs) = ap (λ l. v.name ∷ l) (variable_names_lem s (at + variable_size v) vs)

-- the names of placed variables, one list behind the other
names_append : (s : Sort) (a b : List (ℕ × Variable)) → map (λ d. d.name) (declared_as s (map placed_variable_name (a ++ b))) ≡ map (λ d. d.name) (declared_as s (map placed_variable_name a)) ++ map (λ d. d.name) (declared_as s (map placed_variable_name b))
names_append s a b = ap (map (λ d. d.name)) (as_append s a b) ∙ map-append (λ d. d.name) (declared_as s (map placed_variable_name a)) (declared_as s (map placed_variable_name b))

three_names : (s : Sort) (x y z : ℕ) (is os ls : List Variable)
    → map (λ d. d.name) (declared_as s (map placed_variable_name (placed variable_size x is ++ placed variable_size y os ++ placed variable_size z ls))) ≡ map name_of (is ++ os ++ ls)
three_names s x y z is os ls =
    let a = placed variable_size x is in
    let b = placed variable_size y os in
    let c = placed variable_size z ls in
    let two : map (λ d. d.name) (declared_as s (map placed_variable_name (a ++ b))) ≡ map name_of (is ++ os) =
    names_append s a b ∙ ap (λ l. l ++ map (λ d. d.name) (declared_as s (map placed_variable_name b))) (variable_names_lem s x is) ∙ ap (λ l. map name_of is ++ l) (variable_names_lem s y os) ∙ sym (map-append name_of is os) in
    names_append s (a ++ b) c ∙ ap (λ l. l ++ map (λ d. d.name) (declared_as s (map placed_variable_name c))) two ∙ ap (λ l. map name_of (is ++ os) ++ l) (variable_names_lem s z ls) ∙ sym (map-append name_of (is ++ os) ls)

node_names : (i at : ℕ) (n : Node) → map (λ d. d.name) (node_declares (i, (at, n))) ≡ variable_names n
node_names i at n = three_names (variable i) _ _ _ n.inputs n.outputs n.locals

node_kinds_lem : (i at : ℕ) (ns : List Node) → Each (λ d. kind_of d.sort ≡ 2) (concat (map node_declares (numbered i (placed node_size at ns))))
node_kinds_lem i at [] = tt
node_kinds_lem i at (n ∷ ns) = each_join (λ d. kind_of d.sort ≡ 2) (node_declares (i, (at, n))) _ (as_kind (variable i) (λ s. kind_of s ≡ 2) refl (map placed_variable_name (placed_variables at n))) (node_kinds_lem (suc i) (at + node_size n) ns)

node_member : (x i at : ℕ) (ns : List Node) (k : ℕ) → k < length ns → member x (variable_names (get_or ns k no_node)) ≡ true → member x (map (λ d. d.name) (concat (map node_declares (numbered i (placed node_size at ns))))) ≡ true
node_member x i at [] k lt m = absurd (omega arith)
node_member x i at (n ∷ ns) zero lt m =
    let rest = concat (map node_declares (numbered (suc i) (placed node_size (at + node_size n) ns))) in
    ap (member x) (map-append (λ d. d.name) (node_declares (i, (at, n))) rest)
    ∙ member_front x (map (λ d. d.name) (node_declares (i, (at, n)))) (map (λ d. d.name) rest) (ap (member x) (node_names i at n) ∙ m)
node_member x i at (n ∷ ns) (suc k) lt m =
    let rest = concat (map node_declares (numbered (suc i) (placed node_size (at + node_size n) ns))) in
    ap (member x) (map-append (λ d. d.name) (node_declares (i, (at, n))) rest)
    ∙ member_behind x (map (λ d. d.name) (node_declares (i, (at, n)))) (map (λ d. d.name) rest) (node_member x (suc i) (at + node_size n) ns k (omega arith) m)

module _ (f : File) (no6 : fault6 f ≡ none) where
  abbrev enums_d : List Declared
  enums_d = concat (map enum_declares (numbered 0 (placed_enums f)))

  abbrev constants_d : List Declared
  constants_d = declared_as constant (map placed_constant_name (placed_constants f))

  abbrev nodes_d : List Declared
  nodes_d = concat (map node_declares (numbered 0 (placed_nodes f)))

  clean : first (clashes [] (enums_d ++ constants_d ++ nodes_d)) ≡ none
  unfolding fault6
  clean = no6

  -- a constant is no variant
  pub constants_apart : (x : ℕ) → member x (constant_names f) ≡ true → member x (variants f) ≡ false
  constants_apart x m =
      never (member x (variants f)) (λ t. no_truth (ap (member x) (constant_names_lem _ f.constants) ∙ m)
      (two_sorts x 1 enums_d constants_d (clean_front (enums_d ++ constants_d) nodes_d [] clean) (enum_kinds (λ s. kind_of s < 1) (λ i. omega arith) 0 2 f.enums) (as_kind constant (λ s. kind_of s ≡ 1) refl (map placed_constant_name (placed_constants f)))
      (ap (member x) (enum_names 0 2 f.enums) ∙ t)))

  -- a node's variable is neither
  pub variables_apart : (k : ℕ) → k < length f.nodes → (x : ℕ) → member x (variable_names (node_of f k)) ≡ true → (member x (constant_names f) ≡ false) × (member x (variants f) ≡ false)
  variables_apart k lt x m =
      let here = node_member x 0 (nodes_start f) f.nodes k lt m in
      let low : Each (λ d. kind_of d.sort < 2) (enums_d ++ constants_d) =
      each_join (λ d. kind_of d.sort < 2) enums_d constants_d (enum_kinds (λ s. kind_of s < 2) (λ i. omega arith) 0 2 f.enums) (as_kind constant (λ s. kind_of s < 2) (omega arith) (map placed_constant_name (placed_constants f))) in
      let not_there : member x (map (λ d. d.name) (enums_d ++ constants_d)) ≡ true → ⊥ = λ t. no_truth here (two_sorts x 2 (enums_d ++ constants_d) nodes_d clean low (node_kinds_lem 0 _ f.nodes) t) in (
        never (member x (constant_names f)) (λ t. not_there (ap (member x) (map-append (λ d. d.name) enums_d constants_d) ∙ member_behind x (map (λ d. d.name) enums_d) _ (ap (member x) (constant_names_lem _ f.constants) ∙ t))),
        never (member x (variants f)) (λ t. not_there (ap (member x) (map-append (λ d. d.name) enums_d constants_d) ∙ member_front x (map (λ d. d.name) enums_d) _ (ap (member x) (enum_names 0 2 f.enums) ∙ t))),
      )
