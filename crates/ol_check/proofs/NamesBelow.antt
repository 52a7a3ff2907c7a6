-- Every declared name is below a number: told of all declarations, or of variants, constants and nodes apart. Every name of a file that reads without fault is below 65,536.
use Prim.Native.Nat.{ℕ, zero, suc, ◌+◌, ◌<◌}
use mathlib.Core.List.{List, [], ◌∷◌, ◌++◌, map}
use mathlib.Core.Path.{◌≡◌, sym, ap, subst, ◌∙◌}
use native.Mathlib.Omega.{arith}
use lib.Dec.{T, ltb→lt}
use lib.ListN.{length, get_or}
use Rattle.ol_spec.specs.Lists.{concat, all_of}
use Rattle.ol_spec.specs.Syntax.{Variable, Constant, Node, File, no_node}
use Rattle.ol_spec.specs.Limits.{base}
use Rattle.ol_spec.specs.Within.{count_fits, section_fits, name_fits, variable_fits, constant_fits, enum_fits, node_fits}
use Rattle.ol_spec.specs.Places.{placed, placed_enums, placed_constants, placed_nodes, placed_names, placed_variables, enum_size, constant_size, variable_size, node_size, constants_start, nodes_start, outputs_start, locals_start}
use Rattle.ol_spec.specs.Admission.{Sort, variant, constant, variable, Declared, numbered, declared_as, placed_variable_name, placed_constant_name, enum_declares, node_declares, declared}
use Rattle.ol_spec.proofs.Tests.{T_and}
use Rattle.ol_tables.specs.Stands.{FileStands}
use Rattle.ol_tables.specs.Tables.{Each}
use Rattle.ol_tables.proofs.Forms.{each_append, each_join}
use Rattle.ol_check.specs.NodesJudged.{Covered}
use Rattle.ol_check.specs.FileJudged.{NamesWithin}
use Rattle.ol_check.proofs.ClashFile.{as_append}

-- ---- from the parts to all, and back

module _ (room : ℕ) where
  abbrev Below : Declared → Type 0
  Below d = d.name < room

  abbrev Named : Variable → Type 0
  Named v = v.name < room

  names_below : (u : Sort) (at : ℕ) (xs : List ℕ) → Each (λ x. x < room) xs → Each Below (declared_as u (placed_names at xs))
  names_below u at [] h = tt
  names_below u at (x ∷ xs) h = (h.0, names_below u (at + 2) xs h.1)

  below_names : (u : Sort) (at : ℕ) (xs : List ℕ) → Each Below (declared_as u (placed_names at xs)) → Each (λ x. x < room) xs
  below_names u at [] h = tt
  below_names u at (x ∷ xs) h = (h.0, below_names u (at + 2) xs h.1)

  enums_below : (i at : ℕ) (es : List (List ℕ)) → Each (λ x. x < room) (concat es) → Each Below (concat (map enum_declares (numbered i (placed enum_size at es))))
  enums_below i at [] h = tt
  enums_below i at (vs ∷ es) h =
      let w = each_append (λ x. x < room) vs (concat es) h in
      each_join Below (enum_declares (i, (at, vs))) _ (names_below (variant i) (at + 1) vs w.0) (enums_below (suc i) (at + enum_size vs) es w.1)

  below_enums : (i at : ℕ) (es : List (List ℕ)) → Each Below (concat (map enum_declares (numbered i (placed enum_size at es)))) → Each (λ x. x < room) (concat es)
  below_enums i at [] h = tt
  below_enums i at (vs ∷ es) h =
      let w = each_append Below (enum_declares (i, (at, vs))) (concat (map enum_declares (numbered (suc i) (placed enum_size (at + enum_size vs) es)))) h in
      each_join (λ x. x < room) vs (concat es) (below_names (variant i) (at + 1) vs w.0) (below_enums (suc i) (at + enum_size vs) es w.1)

  constants_below : (at : ℕ) (cs : List Constant) → Each (λ c. c.name < room) cs → Each Below (declared_as constant (map placed_constant_name (placed constant_size at cs)))
  constants_below at [] h = tt
  constants_below at (c ∷ cs) h = (h.0, constants_below (at + constant_size c) cs h.1)

  below_constants : (at : ℕ) (cs : List Constant) → Each Below (declared_as constant (map placed_constant_name (placed constant_size at cs))) → Each (λ c. c.name < room) cs
  below_constants at [] h = tt
  below_constants at (c ∷ cs) h = (h.0, below_constants (at + constant_size c) cs h.1)

  -- the variables of a section
  abbrev section_of : Sort → ℕ → List Variable → List Declared
  section_of u at vs = declared_as u (map placed_variable_name (placed variable_size at vs))

  variables_below : (u : Sort) (at : ℕ) (vs : List Variable) → Each Named vs → Each Below (section_of u at vs)
  variables_below u at [] h = tt
  variables_below u at (v ∷ vs) h = (h.0, variables_below u (at + variable_size v) vs h.1)

  below_variables : (u : Sort) (at : ℕ) (vs : List Variable) → Each Below (section_of u at vs) → Each Named vs
  below_variables u at [] h = tt
  below_variables u at (v ∷ vs) h = (h.0, below_variables u (at + variable_size v) vs h.1)

  -- a node's three sections
  three : (u : Sort) (at : ℕ) (n : Node)
      → declared_as u (map placed_variable_name (placed_variables at n)) ≡ section_of u (at + 2) n.inputs ++ section_of u (outputs_start at n + 1) n.outputs ++ section_of u (locals_start at n + 1) n.locals
  three u at n =
      let a = placed variable_size (at + 2) n.inputs in
      let b = placed variable_size (outputs_start at n + 1) n.outputs in
      let c = placed variable_size (locals_start at n + 1) n.locals in
      as_append u (a ++ b) c ∙ ap (λ l. l ++ section_of u (locals_start at n + 1) n.locals) (as_append u a b)

  node_below : (k at : ℕ) (n : Node) → Covered room n → Each Below (node_declares (k, (at, n)))
  node_below k at n h =
      let u = variable k in
      let w = each_append Named (n.inputs ++ n.outputs) n.locals h in
      let v = each_append Named n.inputs n.outputs w.0 in
      let a = section_of u (at + 2) n.inputs in
      let b = section_of u (outputs_start at n + 1) n.outputs in
      let c = section_of u (locals_start at n + 1) n.locals in
      subst (Each Below) (sym (three u at n))
      (each_join Below (a ++ b) c (each_join Below a b (variables_below u (at + 2) n.inputs v.0) (variables_below u (outputs_start at n + 1) n.outputs v.1)) (variables_below u (locals_start at n + 1) n.locals w.1))

  below_node : (k at : ℕ) (n : Node) → Each Below (node_declares (k, (at, n))) → Covered room n
  below_node k at n h =
      let u = variable k in
      let a = section_of u (at + 2) n.inputs in
      let b = section_of u (outputs_start at n + 1) n.outputs in
      let c = section_of u (locals_start at n + 1) n.locals in
      let w = each_append Below (a ++ b) c (subst (Each Below) (three u at n) h) in
      let v = each_append Below a b w.0 in
      each_join Named (n.inputs ++ n.outputs) n.locals (each_join Named n.inputs n.outputs (below_variables u (at + 2) n.inputs v.0) (below_variables u (outputs_start at n + 1) n.outputs v.1)) (below_variables u (locals_start at n + 1) n.locals w.1)

  nodes_below : (k at : ℕ) (ns : List Node) → ((j : ℕ) → j < length ns → Covered room (get_or ns j no_node)) → Each Below (concat (map node_declares (numbered k (placed node_size at ns))))
  nodes_below k at [] h = tt
  nodes_below k at (n ∷ ns) h = each_join Below (node_declares (k, (at, n))) _ (node_below k at n (h 0 (omega arith))) (nodes_below (suc k) (at + node_size n) ns (λ j lt. h (suc j) (omega (arith, lt))))

  below_nodes : (k at : ℕ) (ns : List Node) → Each Below (concat (map node_declares (numbered k (placed node_size at ns)))) → (j : ℕ) → j < length ns → Covered room (get_or ns j no_node)
  below_nodes k at [] h j lt = absurd (omega (arith, lt))
  below_nodes k at (n ∷ ns) h zero lt = below_node k at n (each_append Below (node_declares (k, (at, n))) (concat (map node_declares (numbered (suc k) (placed node_size (at + node_size n) ns)))) h).0
  below_nodes k at (n ∷ ns) h (suc j) lt = below_nodes (suc k) (at + node_size n) ns (each_append Below (node_declares (k, (at, n))) (concat (map node_declares (numbered (suc k) (placed node_size (at + node_size n) ns)))) h).1 j (omega (arith, lt))

  -- all declared names, from the parts
  pub declared_below : (f : File) → NamesWithin room f → Each (λ d. d.name < room) (declared f)
  declared_below f w =
      let es = concat (map enum_declares (numbered 0 (placed_enums f))) in
      let cs = declared_as constant (map placed_constant_name (placed_constants f)) in
      each_join Below (es ++ cs) _ (each_join Below es cs (enums_below 0 2 f.enums w.variants) (constants_below (constants_start f) f.constants w.constants)) (nodes_below 0 (nodes_start f) f.nodes w.nodes)

  -- the parts, from all declared names
  pub low_within : (f : File) → Each (λ d. d.name < room) (declared f) → NamesWithin room f
  low_within f h =
      let es = concat (map enum_declares (numbered 0 (placed_enums f))) in
      let cs = declared_as constant (map placed_constant_name (placed_constants f)) in
      let w = each_append Below (es ++ cs) (concat (map node_declares (numbered 0 (placed_nodes f)))) h in
      let v = each_append Below es cs w.0 in
      record { variants = below_enums 0 2 f.enums v.0; constants = below_constants (constants_start f) f.constants v.1; nodes = below_nodes 0 (nodes_start f) f.nodes w.1 }

-- ---- a file that reads without fault

abbrev ShortName : Variable → Type 0
ShortName v = v.name < 65536

names_fit : (xs : List ℕ) → T (all_of name_fits xs) → Each (λ x. x < 65536) xs
names_fit [] h = tt
names_fit (x ∷ xs) h = let w = T_and (name_fits x) _ h in (ltb→lt x 65536 w.0, names_fit xs w.1)

variants_fit : (es : List (List ℕ)) → T (all_of (enum_fits base) es) → Each (λ x. x < 65536) (concat es)
variants_fit [] h = tt
variants_fit (e ∷ es) h =
    let w = T_and (enum_fits base e) _ h in
    each_join (λ x. x < 65536) e (concat es) (names_fit e (T_and (count_fits 1 32 (length e)) _ w.0).1) (variants_fit es w.1)

constants_fit : (enums : ℕ) (cs : List Constant) → T (all_of (constant_fits base enums) cs) → Each (λ c. c.name < 65536) cs
constants_fit enums [] h = tt
constants_fit enums (c ∷ cs) h =
    let w = T_and (constant_fits base enums c) _ h in
    (ltb→lt c.name 65536 (T_and (name_fits c.name) _ w.0).0, constants_fit enums cs w.1)

variables_fit : (enums : ℕ) (vs : List Variable) → T (all_of (variable_fits base enums) vs) → Each ShortName vs
variables_fit enums [] h = tt
variables_fit enums (v ∷ vs) h =
    let w = T_and (variable_fits base enums v) _ h in
    (ltb→lt v.name 65536 (T_and (name_fits v.name) _ w.0).0, variables_fit enums vs w.1)

node_fit : (enums : ℕ) (x : Node) → T (node_fits base enums x) → Covered 65536 x
node_fit enums x t =
    let w = T_and (section_fits 0 32 (variable_fits base enums) x.inputs) _ t in
    let v = T_and (section_fits 1 16 (variable_fits base enums) x.outputs) _ w.1 in
    let u = T_and (section_fits 0 64 (variable_fits base enums) x.locals) _ v.1 in
    each_join ShortName (x.inputs ++ x.outputs) x.locals
    (each_join ShortName x.inputs x.outputs (variables_fit enums x.inputs (T_and (count_fits 0 32 (length x.inputs)) _ w.0).1)
    (variables_fit enums x.outputs (T_and (count_fits 1 16 (length x.outputs)) _ v.0).1))
    (variables_fit enums x.locals (T_and (count_fits 0 64 (length x.locals)) _ u.0).1)

nodes_fit : (enums : ℕ) (xs : List Node) → T (all_of (node_fits base enums) xs) → (k : ℕ) → k < length xs → Covered 65536 (get_or xs k no_node)
nodes_fit enums [] h k lt = absurd (omega (arith, lt))
nodes_fit enums (x ∷ xs) h zero lt = node_fit enums x (T_and (node_fits base enums x) _ h).0
nodes_fit enums (x ∷ xs) h (suc k) lt = nodes_fit enums xs (T_and (node_fits base enums x) _ h).1 k (omega (arith, lt))

-- every declared name is below 65,536
pub high_within : {s : List ℕ} (f : File) → FileStands s f → NamesWithin 65536 f
high_within f st =
    record {
      variants = variants_fit f.enums st.enums.fit;
      constants = constants_fit (length f.enums) f.constants st.constants.fit;
      nodes = nodes_fit (length f.enums) f.nodes st.nodes.fit;
    }

pub high_declared : {s : List ℕ} (f : File) → FileStands s f → Each (λ d. d.name < 65536) (declared f)
high_declared f st = declared_below 65536 f (high_within f st)
