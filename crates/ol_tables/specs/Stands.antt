-- Where the items of a file stand, told by its bytes: counts, names, types, and behind them the items, each a list that starts at an offset.
use Rattle.std.specs.Prelude.{ℕ, ◌+◌, ◌≤◌, ◌<◌, Bool, List, map, ◌≡◌, length, get_or, T}
use Rattle.ol_spec.specs.Lists.{sum, concat, all_of}
use Rattle.ol_spec.specs.Syntax.{Variable, Equation, Node, Constant, File, nil, cons}
use Rattle.ol_spec.specs.Places.{section_size, enum_size, constant_size, constants_start, nodes_start, outputs_start, locals_start, equations_start, rhs_place}
use Rattle.ol_spec.specs.Encode.{kind_code, name_bytes, section_bytes, variable_bytes, equation_bytes, constant_bytes, node_bytes}
use Rattle.ol_spec.specs.Read.{got, read_file}
use Rattle.ol_spec.specs.Limits.{base, relay_loader}
use Rattle.ol_spec.specs.Within.{name_fits, variable_fits, equation_fits, constant_fits, node_fits, enum_fits}
use Rattle.ol_spec.proofs.RoundTrip.Parts.{Here}
use Rattle.ol_tables.specs.At.{file_at}
use Rattle.ol_tables.specs.Heads.{name_at, VarTyIs, Standing}

-- the items xs stand in s from `at` on, one after the other, each as its bytes, and each is within the limits
pub record Listed {A : Type 0} (bytes : A → List ℕ) (fits : A → Bool) (s : List ℕ) (at : ℕ) (xs : List A) : Type 0 where
  pub here : Here s at (concat (map bytes xs))
  pub fit : T (all_of fits xs)

module _ (s : List ℕ) (enums at : ℕ) where
  -- so many names, variables, equations
  abbrev pub Names : List ℕ → Type 0
  Names xs = Listed name_bytes name_fits s at xs

  abbrev pub Variables : List Variable → Type 0
  Variables vs = Listed variable_bytes (variable_fits base enums) s at vs

  abbrev pub Equations : List Equation → Type 0
  Equations qs = Listed equation_bytes (equation_fits base enums) s at qs

  pub record VariableStands (v : Variable) : Type 0 where
    pub name : name_at s at ≡ v.name
    pub ty : VarTyIs s (at + 2) v.ty

  pub record ConstantStands (c : Constant) : Type 0 where
    pub name : name_at s at ≡ c.name
    pub ty : VarTyIs s (at + 2) c.ty
    pub value : Standing s enums (at + 2 + Rattle.ol_spec.specs.Places.var_ty_size c.ty) (cons c.value nil)

  pub record EquationStands (q : Equation) : Type 0 where
    pub count : get_or s at 0 ≡ length q.names
    pub names : Listed name_bytes name_fits s (at + 1) q.names
    pub rhs : Standing s enums (rhs_place at q) (cons q.rhs nil)

  pub record NodeStands (n : Node) : Type 0 where
    pub inside : at < length s
    pub kind : get_or s at 0 ≡ kind_code n.kind
    pub input_count : get_or s (at + 1) 0 ≡ length n.inputs
    pub inputs : Listed variable_bytes (variable_fits base enums) s (at + 2) n.inputs
    pub output_count : get_or s (outputs_start at n) 0 ≡ length n.outputs
    pub outputs : Listed variable_bytes (variable_fits base enums) s (outputs_start at n + 1) n.outputs
    pub local_count : get_or s (locals_start at n) 0 ≡ length n.locals
    pub locals : Listed variable_bytes (variable_fits base enums) s (locals_start at n + 1) n.locals
    pub equation_count : get_or s (equations_start at n) 0 ≡ length n.equations
    pub equations : Listed equation_bytes (equation_fits base enums) s (equations_start at n + 1) n.equations
    pub few_inputs : length n.inputs ≤ 32
    pub few_outputs : length n.outputs ≤ 16
    pub few_locals : length n.locals ≤ 64
    pub few_equations : length n.equations ≤ 80

-- the file's sections
pub record FileStands (s : List ℕ) (f : File) : Type 0 where
  pub short : length s ≤ 32768
  pub inside : nodes_start f ≤ length s
  pub enum_count : get_or s 1 0 ≡ length f.enums
  pub enums : Listed (section_bytes name_bytes) (enum_fits base) s 2 f.enums
  pub constant_count : get_or s (1 + section_size enum_size f.enums) 0 ≡ length f.constants
  pub constants : Listed constant_bytes (constant_fits base (length f.enums)) s (constants_start f) f.constants
  pub node_count : get_or s (constants_start f + sum (map constant_size f.constants)) 0 ≡ length f.nodes
  pub nodes : Listed node_bytes (node_fits base (length f.enums)) s (nodes_start f) f.nodes
  pub few_enums : length f.enums ≤ 16
  pub few_constants : length f.constants ≤ 64
  pub few_nodes : length f.nodes ≤ 32
  pub some_node : 1 ≤ length f.nodes

-- the file reads without fault
pub record FileReads (s : List ℕ) : Type 0 where
  pub end : ℕ
  pub is : read_file s relay_loader ≡ got (file_at s) end
