-- Linked modules as definitions see them: their names, and their types and values by number (X.680, clauses 13 and 16).
use Rattle.std.specs.Prelude.{◌≡◌, ◌<◌, ℕ, Some, List, map, slice_get, length}
use Rattle.trees.specs.Values.{Name}
use Rattle.trees.specs.declared.module.TagDefault.{TagDefault}
use Rattle.names.specs.declared.scope.Assigned.{Assigned}
use Rattle.names.specs.declared.scope.Assigned.TheVariants as assigned
use Rattle.names.specs.declared.sources.AssignedAt.{AssignedAt}
use Rattle.names.specs.declared.sources.Header.{Header}
use Rattle.names.specs.declared.sources.ValueAt.{ValueAt}
use Rattle.names.specs.Names.{Module, Meaning}
use Rattle.names.specs.Sources.{Value, assignment_of, header_of, value_seen}
use Rattle.type_table.specs.declared.table.TypeNode.{TypeNode}
use Rattle.type_table.specs.Seen.{types_of}
use Rattle.type_table.specs.Table.{Type', IsLinked}

-- linked modules, with all their assignments, types and values by number
pub record Program : Type 0 where
  -- what each module assigns, imports and exports, by the name of the module
  pub modules : List (Name × Module)
  -- the modules' names and tag defaults, in order
  pub headers : List (Name × TagDefault)
  -- all assignments, each with its module's number and its name
  pub assignments : List (ℕ × Name)
  -- all written types, by number
  pub types : List Type'
  -- all value assignments, by number
  pub values : List Value

-- linked modules as they are written: the program, and its types, values and assignments with their places in the text
pub record WrittenProgram : Type 0 where
  pub program : Program
  -- all written types, by number
  pub types : List TypeNode
  -- all value assignments, by number
  pub values : List ValueAt
  -- all assignments, by number
  pub assignments : List AssignedAt

-- the program of names, headers, assignments, types and values in memory
abbrev pub program_seen :
    List (Name × Module) → List Header → List AssignedAt → List TypeNode → List ValueAt → Program
program_seen ms hs gs ts vs = record {
  modules = ms;
  headers = map header_of hs;
  assignments = map assignment_of gs;
  types = types_of ts;
  values = map value_seen vs;
}

-- the type or value with this number is in the program
abbrev pub IsThere : Program → Assigned → Type 0
IsThere p (assigned.Type i) = i < length p.types
IsThere p (assigned.Value i) = i < length p.values

-- the properties of every linked program
pub record IsWhole (p : Program) : Type 0 where
  pub linked : IsLinked p.types
  -- the meaning of each name is in the program
  pub names : (M x : Name) (a : Assigned) → Meaning p.modules M x a → IsThere p a
  -- the type of each value, the assignment of each type and value, and the module of each assignment are in the program
  pub valued : (i : ℕ) (v : Value) → slice_get p.values i ≡ Some v →
      (v.ty < length p.types) × (v.assignment < length p.assignments)
  pub typed : (i : ℕ) (t : Type') → slice_get p.types i ≡ Some t → t.assignment < length p.assignments
  pub placed : (i : ℕ) (a : ℕ × Name) → slice_get p.assignments i ≡ Some a → a.0 < length p.headers

-- the assignment with this number is that of name x in module M
pub record IsAssignment (p : Program) (assignment : ℕ) (M x : Name) : Type 0 where
  pub owner : ℕ
  pub tags : TagDefault
  pub assigned : slice_get p.assignments assignment ≡ Some (owner, x)
  pub header : slice_get p.headers owner ≡ Some (M, tags)

-- type i is written in the assignment of name x in module M
abbrev pub IsHome : Program → ℕ → Name → Name → Type 0
IsHome p i M x = (t : Type') → slice_get p.types i ≡ Some t → IsAssignment p t.assignment M x

-- a written type of which Q holds, in the assignment of name x in module M
pub record IsTypeIn (p : Program) (M x : Name) (Q : Type' → Type 0) : Type 0 where
  pub number : ℕ
  pub written : Type'
  pub there : slice_get p.types number ≡ Some written
  pub is_so : IsAssignment p written.assignment M x
  pub such : Q written

-- a value that is assigned to name x in module M, of which Q holds
pub record IsValueIn (p : Program) (M x : Name) (Q : Value → Type 0) : Type 0 where
  pub number : ℕ
  pub value : Value
  pub there : slice_get p.values number ≡ Some value
  pub is_so : IsAssignment p value.assignment M x
  pub such : Q value
