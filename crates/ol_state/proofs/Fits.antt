-- What the limits say of a file's parts: how many nodes there are, and that equations, types and variants fit.
use Prim.Native.Nat.{ℕ, zero, suc, ◌<◌, ◌≤◌}
use mathlib.Core.Bool.{Bool, true, false, cond}
use mathlib.Core.List.{List, [], ◌∷◌, ◌++◌}
use mathlib.Core.Option.{none, some}
use native.Mathlib.Omega.{arith}
use lib.Dec.{T, leb, eqb, leb→le}
use lib.ListN.{length, get_or}
use Rattle.ol_spec.specs.Lists.{maybe, all_of}
use Rattle.ol_spec.specs.Syntax.{Node, File, variables}
use Rattle.ol_spec.specs.Limits.{base, relay_loader}
use Rattle.ol_spec.specs.Within.{byte_fits, count_fits, section_fits, variable_fits, constant_fits, equation_fits, node_fits, enum_fits, sections_fit, within}
use Rattle.ol_spec.proofs.Tests.{T_and, and_t}

pub all_nth : {A : Type 0} (p : A → Bool) (xs : List A) (d : A) (i : ℕ) → T (all_of p xs) → i < length xs → T (p (get_or xs i d))
all_nth p [] d i t h = absurd (omega arith)
all_nth p (x ∷ xs) d zero t h = (T_and (p x) _ t).0
all_nth p (x ∷ xs) d (suc i) t h = all_nth p xs d i (T_and (p x) _ t).1 (omega arith)

pub all_join : {A : Type 0} (p : A → Bool) (xs ys : List A) → T (all_of p xs) → T (all_of p ys) → T (all_of p (xs ++ ys))
all_join p [] ys s t = t
all_join p (x ∷ xs) ys s t = let w = T_and (p x) _ s in and_t (p x) _ w.0 (all_join p xs ys w.1 t)

-- a section's count, and its items
record Section {A : Type 0} (lo hi : ℕ) (p : A → Bool) (xs : List A) : Type 0 where
  most : length xs ≤ hi
  least : lo ≤ length xs
  items : T (all_of p xs)

section : {A : Type 0} (lo hi : ℕ) (p : A → Bool) (xs : List A) → T (section_fits lo hi p xs) → Section lo hi p xs
section lo hi p xs t =
    let w = T_and (count_fits lo hi (length xs)) _ t in
    let c = T_and (leb lo (length xs)) _ (T_and (byte_fits (length xs)) _ w.0).1 in
    record { most = leb→le (length xs) hi c.1; least = leb→le lo (length xs) c.0; items = w.1 }

pub record Fits (f : File) : Type 0 where
  pub nodes : length f.nodes ≤ 32
  pub some : 1 ≤ length f.nodes
  pub enums : length f.enums ≤ 16
  pub variants : T (all_of (enum_fits base) f.enums)
  pub constants : length f.constants ≤ 64
  pub node : T (all_of (node_fits base (length f.enums)) f.nodes)

pub fits : (f : File) → T (within relay_loader f) → Fits f
unfolding within
fits f t = go (eqb f.format 1) (T_and (maybe false (sections_fit f) (cond (eqb f.format 1) (some base) none)) _ (T_and (byte_fits f.format) _ t).1).0
  where
    go : (b : Bool) → T (maybe false (sections_fit f) (cond b (some base) none)) → Fits f
    go false t = absurd t
    go true t =
        let w = T_and (section_fits 0 16 (enum_fits base) f.enums) _ t in
        let v = T_and (section_fits 0 64 (constant_fits base (length f.enums)) f.constants) _ w.1 in
        let e = section 0 16 (enum_fits base) f.enums w.0 in
        let c = section 0 64 (constant_fits base (length f.enums)) f.constants v.0 in
        let n = section 1 32 (node_fits base (length f.enums)) f.nodes v.1 in
        record { nodes = n.most; some = n.least; enums = e.most; variants = e.items; constants = c.most; node = n.items }

-- a node's equations and variables fit
pub record NodeFits (enums : ℕ) (n : Node) : Type 0 where
  pub inputs : length n.inputs ≤ 32
  pub outputs : length n.outputs ≤ 16
  pub locals : length n.locals ≤ 64
  pub vars : T (all_of (variable_fits base enums) (variables n))
  pub equations : T (all_of (equation_fits base enums) n.equations)
  pub count : length n.equations ≤ 80

pub node_fits_lem : {enums : ℕ} {n : Node} → T (node_fits base enums n) → NodeFits enums n
node_fits_lem {enums} {n} t =
    let w = T_and (section_fits 0 32 (variable_fits base enums) n.inputs) _ t in
    let v = T_and (section_fits 1 16 (variable_fits base enums) n.outputs) _ w.1 in
    let u = T_and (section_fits 0 64 (variable_fits base enums) n.locals) _ v.1 in
    let p = variable_fits base enums in
    let i = section 0 32 p n.inputs w.0 in
    let o = section 1 16 p n.outputs v.0 in
    let l = section 0 64 p n.locals u.0 in
    let q = section 0 80 (equation_fits base enums) n.equations u.1 in
    record {
      inputs = i.most;
      outputs = o.most;
      locals = l.most;
      vars = all_join p (n.inputs ++ n.outputs) n.locals (all_join p n.inputs n.outputs i.items o.items) l.items;
      equations = q.items;
      count = q.most;
    }
