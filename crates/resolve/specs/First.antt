-- Which of several faults of linked modules is reported, and where in the text. The lists in written types come first,
-- then circles of DEFAULTs, then names after modules' names: those in types, and last those in values. Types and values
-- are checked in the order of their numbers (X.680, clauses 13 to 29).
use Rattle.std.specs.Prelude.{◌≡◌, ◌<◌, ◌≤◌, ℕ, List, Some, length, map, slice_get}
use Rattle.trees.specs.declared.location.SourceLocation.{SourceLocation}
use Rattle.trees.specs.declared.module.TagDefault.{TagDefault}
use Rattle.trees.specs.declared.module.Module.{Module as ModuleSyntax}
use Rattle.trees.specs.declared.types.TypeSyntax.{TypeSyntax}
use Rattle.trees.specs.Modules.{ModuleTree, module_tree_of}
use Rattle.trees.specs.Values.{Name, tree_of}
use Rattle.names.specs.declared.fault.Limit.{Limit}
use Rattle.names.specs.declared.fault.Limit.TheVariants as limits
use Rattle.names.specs.declared.fault.NameFault.{NameFault}
use Rattle.names.specs.declared.fault.NameFault.TheVariants as faults
use Rattle.names.specs.declared.scope.Assigned.TheVariants as assigned
use Rattle.names.specs.declared.sources.AssignedAt.{AssignedAt}
use Rattle.names.specs.declared.sources.ValueAt.{ValueAt}
use Rattle.names.specs.ByNumber.{scopes_from, headers_of, owned_from, roots_of}
use Rattle.names.specs.Faults.{IsNamesFault, fault_module, fault_name}
use Rattle.names.specs.First.{IsFirstExports, IsFirstSpot, IsPassedLimitAt, all_written}
use Rattle.names.specs.Modules.{AreDifferent, AreFew, AreNamed, OccursIn, names_in}
use Rattle.names.specs.Names.{Module, Refers}
use Rattle.names.specs.Sources.{Value, assignment_of, value_seen}
use Rattle.names.specs.Written.{written_places, written_types, written_values}
use Rattle.circles.specs.Circles.{IsFirstDefaultCircle, NoDefaultCircles}
use Rattle.type_table.specs.declared.table.TypeNode.{TypeNode}
use Rattle.type_table.specs.Faults.{HasTooMany, IsFirstCircle, IsFirstNumbering}
use Rattle.type_table.specs.FirstInList.{IsFirstInList}
use Rattle.type_table.specs.Lists.{AreSound, IsSoundKind}
use Rattle.type_table.specs.Numbering.{AreNumberedTypes}
use Rattle.type_table.specs.Seen.{kind_of, type_of, types_of}
use Rattle.type_table.specs.Table.{Type', AllUnfold}
use Rattle.type_table.specs.Written.{AreWrittenTypes, type_place}
use Rattle.resolve.specs.Links.{IsProgramOf}
use Rattle.resolve.specs.Places.{type_places, value_places}
use Rattle.resolve.specs.Program.{Program, WrittenProgram, IsAssignment}
use Rattle.resolve.specs.Qualified.{qualified, qualified_in, MeanValues}
use Rattle.resolve.specs.Sound.{TypesMean}

-- the fault is the first one in the list of the first type whose list breaks a rule, reported for the assignment of
-- that type
pub record IsFirstList (p : Program) (ws : List TypeNode) (e : NameFault) : Type 0 where
  pub number : ℕ
  pub written : TypeNode
  pub there : slice_get ws number ≡ Some written
  pub within : Name
  pub assigns : Name
  pub is_so : IsAssignment p written.assignment within assigns
  pub wrong : IsSoundKind (kind_of written.shape) → ⊥
  pub fault : IsFirstInList within assigns written.shape e
  pub before : (k : ℕ) (t : Type') → k < number → slice_get p.types k ≡ Some t → IsSoundKind t.kind

-- the first list in a circle of DEFAULTs is reported where its type begins
pub record IsFirstInCircle (p : Program) (ws : List TypeNode) (s : SourceLocation) : Type 0 where
  pub number : ℕ
  pub written : TypeNode
  pub there : slice_get ws number ≡ Some written
  pub is_so : IsAssignment p written.assignment (fault_module s) (fault_name s)
  pub at : s.at ≡ written.at
  pub circle : IsFirstDefaultCircle p.types number

-- x is the first of these names after modules' names, read in module M, that isn't that of a value. The names have
-- the offsets ps, and that of x is the one that is reported.
pub record IsFirstUnknown (ms : List (Name × Module)) (M : Name) (rs : List (Name × Name)) (ps : List ℕ)
    (x : Name) (at : ℕ) : Type 0 where
  pub number : ℕ
  pub owner : Name
  pub there : slice_get rs number ≡ Some (owner, x)
  pub reported : slice_get ps number ≡ Some at
  pub nothing : (i : ℕ) → Refers ms M (Some owner) x (assigned.Value i) → ⊥
  pub before : (k : ℕ) (N y : Name) →
      k < number →
      slice_get rs k ≡ Some (N, y) →
      (i : ℕ) × Refers ms M (Some N) y (assigned.Value i)

-- the names in type i mean values
abbrev pub TypeMeans : Program → ℕ → Type 0
TypeMeans p i = (t : Type') (M x : Name) →
    slice_get p.types i ≡ Some t →
    IsAssignment p t.assignment M x →
    MeanValues p.modules M (qualified_in t)

-- the names in value i mean values
abbrev pub ValueMeans : Program → ℕ → Type 0
ValueMeans p i = (v : Value) (M x : Name) →
    slice_get p.values i ≡ Some v →
    IsAssignment p v.assignment M x →
    MeanValues p.modules M (qualified v.notation)

-- The name is the first one in the first type with a name that isn't that of a value. It is reported at the offset that
-- it has in that type.
pub record IsFirstInType (p : Program) (ws : List TypeNode) (s : SourceLocation) : Type 0 where
  pub number : ℕ
  pub written : TypeNode
  pub there : slice_get ws number ≡ Some written
  pub assigns : Name
  pub is_so : IsAssignment p written.assignment (fault_module s) assigns
  pub first :
      IsFirstUnknown p.modules (fault_module s) (qualified_in (type_of written)) (type_places written) (fault_name s)
      s.at
  pub before : (k : ℕ) → k < number → TypeMeans p k

-- The name is the first one in the first assigned value with a name that isn't that of a value. It is reported at the
-- offset that it has in that value.
pub record IsFirstInValue (p : Program) (vs : List ValueAt) (s : SourceLocation) : Type 0 where
  pub number : ℕ
  pub written : ValueAt
  pub there : slice_get vs number ≡ Some written
  pub assigns : Name
  pub is_so : IsAssignment p written.assignment (fault_module s) assigns
  pub first :
      IsFirstUnknown p.modules (fault_module s) (qualified (tree_of written.syntax)) (value_places written.syntax)
      (fault_name s) s.at
  pub before : (k : ℕ) → k < number → ValueMeans p k

-- the first fault of program p, whose types and values are written so
pub data IsFirstOfProgram (p : Program) (ws : List TypeNode) (vs : List ValueAt) : NameFault → Type 0 where
  in_list : {e : NameFault} → IsFirstList p ws e → IsFirstOfProgram p ws vs e
  in_circle : {s : SourceLocation} →
      AreSound p.types →
      IsFirstInCircle p ws s →
      IsFirstOfProgram p ws vs (faults.Circular s)
  in_type : {s : SourceLocation} →
      AreSound p.types →
      NoDefaultCircles p.types →
      IsFirstInType p ws s →
      IsFirstOfProgram p ws vs (faults.UnknownName s)
  in_value : {s : SourceLocation} →
      AreSound p.types →
      NoDefaultCircles p.types →
      TypesMean p →
      IsFirstInValue p vs s →
      IsFirstOfProgram p ws vs (faults.UnknownName s)

-- the types and the assigned values of the program, with their offsets in the text
pub record IsWrittenAs (p : Program) (ws : List TypeNode) (vs : List ValueAt) : Type 0 where
  pub types : types_of ws ≡ p.types
  pub values : map value_seen vs ≡ p.values

-- this fault is the first one of the program, whose types and values are written so; `Memory` says nothing
abbrev pub ReportsFirstOfProgram : Program → List TypeNode → List ValueAt → NameFault → Type 0
ReportsFirstOfProgram p ws vs faults.Memory = Unit {0}
ReportsFirstOfProgram p ws vs e = IsFirstOfProgram p ws vs e

-- ---- modules

-- the trees of these modules, without places in the text
abbrev pub trees_of : List ModuleSyntax → List ModuleTree
trees_of = map module_tree_of

-- the types, values and assignments of the program are those that these modules write, with their places in the text
pub record IsTextOf (ws : List ModuleSyntax) (p : WrittenProgram) : Type 0 where
  pub same : IsWrittenAs p.program p.types p.values
  pub types : AreWrittenTypes (written_types ws) p.types
  pub values : map (λ (v : ValueAt). v.syntax) p.values ≡ written_values ws
  pub assigned : map assignment_of p.assignments ≡ p.program.assignments
  pub names : map (λ (a : AssignedAt). a.name.at) p.assignments ≡ written_places ws

-- a type of these modules doesn't unfold; the one that is reported is reported where it begins in the text
pub record IsFirstCircular (ws : List ModuleSyntax) (s : SourceLocation) : Type 0 where
  pub table : List TypeNode
  -- no limit on types is passed
  pub few : length table ≤ 65536
  pub numbered :
      AreNumberedTypes (scopes_from 0 0 (trees_of ws)) (headers_of (trees_of ws)) (owned_from 0 (trees_of ws))
      (roots_of (trees_of ws)) (types_of table)
  pub places : AreWrittenTypes (written_types ws) table
  pub number : ℕ
  pub written : TypeNode
  pub there : slice_get table number ≡ Some written
  pub circle : IsFirstCircle (types_of table) number
  pub at : s.at ≡ written.at
  pub owner : ℕ
  pub default : TagDefault
  pub assigned : slice_get (owned_from 0 (trees_of ws)) written.assignment ≡ Some (owner, fault_name s)
  pub header : slice_get (headers_of (trees_of ws)) owner ≡ Some (fault_module s, default)

-- the names of modules are distinct, and so are the names in each module
abbrev pub HaveOneMeaning : List ModuleTree → Type 0
HaveOneMeaning ms =
    AreDifferent (map (λ m. m.name) ms) × ((m : ModuleTree) → OccursIn ms m → AreDifferent (names_in m))

-- The first fault of modules, which are given as they are written, so that their offsets are those of the text: a
-- passed limit; otherwise a name that is given twice; otherwise an export or an import; otherwise too many assignments;
-- otherwise the first type, by number, that is a reference to nothing or holds too many types; otherwise a type that
-- doesn't unfold; otherwise a fault of the linked program.
pub data IsFirstLink (ws : List ModuleSyntax) : NameFault → Type 0 where
  of_counts : {l : Limit} {s : SourceLocation} →
      IsNamesFault (trees_of ws) (faults.Limit l s) →
      IsPassedLimitAt ws (faults.Limit l s) →
      IsFirstLink ws (faults.Limit l s)
  of_meanings : {s : SourceLocation} → AreFew (trees_of ws) → IsFirstSpot ws s → IsFirstLink ws (faults.Twice s)
  of_offers : {e : NameFault} →
      AreFew (trees_of ws) →
      HaveOneMeaning (trees_of ws) →
      IsNamesFault (trees_of ws) e →
      IsFirstExports (scopes_from 0 0 (trees_of ws)) (all_written ws) e →
      IsFirstLink ws e
  of_many : {s : SourceLocation} (t : TypeSyntax) →
      AreNamed (trees_of ws) →
      AreFew (trees_of ws) →
      65536 < length (roots_of (trees_of ws)) →
      HasTooMany (headers_of (trees_of ws)) (owned_from 0 (trees_of ws)) (roots_of (trees_of ws)) (fault_module s)
      (fault_name s) →
      slice_get (written_types ws) 65536 ≡ Some t →
      s.at ≡ type_place t →
      IsFirstLink ws (faults.Limit limits.Types s)
  of_types : {e : NameFault} →
      AreNamed (trees_of ws) →
      AreFew (trees_of ws) →
      length (roots_of (trees_of ws)) ≤ 65536 →
      IsFirstNumbering (scopes_from 0 0 (trees_of ws)) (headers_of (trees_of ws)) (owned_from 0 (trees_of ws))
      (roots_of (trees_of ws)) (written_types ws) e →
      IsFirstLink ws e
  of_unfolding : {s : SourceLocation} →
      AreNamed (trees_of ws) →
      AreFew (trees_of ws) →
      IsFirstCircular ws s →
      IsFirstLink ws (faults.Circular s)
  of_program : {e : NameFault} (p : WrittenProgram) →
      AreNamed (trees_of ws) →
      AreFew (trees_of ws) →
      IsProgramOf (trees_of ws) p.program →
      length p.program.types ≤ 65536 →
      AllUnfold p.program.types →
      IsTextOf ws p →
      ReportsFirstOfProgram p.program p.types p.values e →
      IsFirstLink ws e

-- this fault of modules is the first one, where they are given as they are written; `Memory` says nothing
abbrev pub IsFirstOfWritten : List ModuleSyntax → NameFault → Type 0
IsFirstOfWritten ws faults.Memory = Unit {0}
IsFirstOfWritten ws e = IsFirstLink ws e
