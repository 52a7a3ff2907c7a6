-- The lists of a node's equations have room in a third of the file's bytes: a read has three.
use Prim.Native.Nat.{ℕ, suc, ◌+◌, ◌*◌, ◌≤◌, ◌<◌}
use mathlib.Core.List.{List, [], ◌∷◌, ◌++◌, map}
use mathlib.Core.Option.{Option, none, some}
use mathlib.Core.Path.{◌≡◌, sym, ap, ◌∙◌}
use mathlib.Core.Logic.{by_cases}
use native.Mathlib.Decide.{dec_le}
use native.Mathlib.Omega.{arith}
use lib.ListN.{length, length-append}
use Rattle.ol_spec.specs.Lists.{sum}
use Rattle.ol_spec.specs.Syntax.{Expr, bool_lit, int_lit, float_lit, char_lit, var, unary, binary, if_then_else, pre, arrow, cast, call, tuple, index, literal, map_over, fold_over, Exprs, nil}
use Rattle.ol_spec.specs.Syntax.{cons, Variable, Equation, Node, File, variables}
use Rattle.ol_spec.specs.Places.{expr_size, exprs_size, variable_size, equation_size, equations_start}
use Rattle.ol_spec.specs.Limits.{relay_loader}
use Rattle.ol_spec.specs.Read.{got, read_file, section_r, equation_r}
use Rattle.ol_spec.specs.Order.{reads, reads_all, definer}
use Rattle.ol_spec.specs.declared.Limits.{Limits}
use Rattle.ol_order.specs.Tables.{with_definer, definers_of, waited, waited_all, node_at}
use Rattle.ol_order.specs.Post.{NodeReads}
use Rattle.ol_ir.specs.Nexts.{counted_of}
use Rattle.ol_ir.proofs.Bytes.{counted_is}
use Rattle.ol_ir.proofs.Items.{section_at, node_at_lem}
use Rattle.ol_ir.proofs.Sizes.{never, takes_section, takes_equation}
use Rattle.ol_ir.proofs.Files.{file_long}

-- a file that reads is not longer than document 01 allows
pub short_file : (s : List ℕ) (f : File) (end : ℕ) → read_file s relay_loader ≡ got f end → length s ≤ 32768
short_file s f end e = by_cases (dec_le (length s) 32768) (λ h. h) (λ h. absurd (never (sym (file_long s (omega arith)) ∙ e)))

mutual
  reads_size : (e : Expr) → 3 * length (reads e) ≤ expr_size e
  reads_size (bool_lit b) = omega arith
  reads_size (int_lit i) = omega arith
  reads_size (float_lit b) = omega arith
  reads_size (char_lit c) = omega arith
  reads_size (var x) = omega arith
  reads_size (unary op e) = omega (arith, reads_size e)
  reads_size (binary op l r) = omega (arith, reads_size l, reads_size r, length-append (reads l) (reads r))
  reads_size (if_then_else c t e) = omega (arith, reads_size c, reads_size t, reads_size e, length-append (reads t) (reads e), length-append (reads c) (reads t ++ reads e))
  reads_size (pre e) = omega arith
  reads_size (arrow a b) = omega (arith, reads_size a, reads_size b, length-append (reads a) (reads b))
  reads_size (cast t e) = omega (arith, reads_size e)
  reads_size (call k es) = omega (arith, all_size es)
  reads_size (tuple es) = omega (arith, all_size es)
  reads_size (index a i) = omega (arith, reads_size a, reads_size i, length-append (reads a) (reads i))
  reads_size (literal es) = omega (arith, all_size es)
  reads_size (map_over k es) = omega (arith, all_size es)
  reads_size (fold_over k s es) = omega (arith, reads_size s, all_size es, length-append (reads s) (reads_all es))

  all_size : (es : Exprs) → 3 * length (reads_all es) ≤ exprs_size es
  all_size nil = omega arith
  all_size (cons e es) = omega (arith, reads_size e, all_size es, length-append (reads e) (reads_all es))

module _ (qs : List Equation) where
  definers_few : (xs : List ℕ) → length (definers_of qs xs) ≤ length xs
  definers_few [] = omega arith
  definers_few (x ∷ xs) = go (definer qs x) (definers_few xs)
    where
      go : (o : Option ℕ) → length (definers_of qs xs) ≤ length xs → length (with_definer o (definers_of qs xs)) ≤ suc (length xs)
      go none h = omega arith
      go (some j) h = omega arith

  waited_size : (q : Equation) → 3 * length (waited qs q) ≤ equation_size q
  unfolding waited
  waited_size q = omega (arith, definers_few (reads q.rhs), reads_size q.rhs)

  lists_size : (rs : List Equation) → 3 * length (waited_all qs rs) ≤ sum (map equation_size rs)
  unfolding waited_all
  lists_size [] = omega arith
  lists_size (r ∷ rs) = omega (arith, waited_size r, lists_size rs, length-append (waited qs r) (waited_all qs rs))

variables_size : (vs : List Variable) → length vs ≤ sum (map variable_size vs)
variables_size [] = omega arith
variables_size (v ∷ vs) = omega (arith, variables_size vs)

module _ (s : List ℕ) (l : Limits) (enums at : ℕ) (nr : NodeReads s l enums at) where
  abbrev node : Node
  node = node_at s l enums at

  abbrev section : section_r s 0 l.equations (equation_r s l enums) (equations_start at node) ≡ got node.equations nr.end
  section = (node_at_lem s l enums at node nr.end nr.is).equations

  -- its equations start inside the file
  node_inside : equations_start at node < length s
  unfolding counted_of
  node_inside =
      (counted_is s 0 l.equations (equations_start at node) (length node.equations) (equations_start at node + 1) (sym (ap counted_of (section_at s 0 l.equations (equation_r s l enums) (equations_start at node) node.equations nr.end section).counted))).inside

  pub node_room : 3 * length (waited_all node.equations node.equations) ≤ length s
  node_room =
      let t = (takes_section s equation_size (equation_r s l enums) (takes_equation s l enums) 0 l.equations).is (equations_start at node) node.equations nr.end section in
      omega (arith, lists_size node.equations node.equations, node_inside, t.ends, t.holds, t.inside (omega (arith, node_inside)))

  -- its variables stand between its place and its equations, and each has a byte
  pub variables_room : at + length (variables node) ≤ length s
  variables_room =
      omega (arith, node_inside, variables_size node.inputs, variables_size node.outputs, variables_size node.locals, length-append node.inputs node.outputs, length-append (node.inputs ++ node.outputs) node.locals)
