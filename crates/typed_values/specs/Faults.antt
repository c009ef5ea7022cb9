-- What is wrong with a notation that stands for no value of a type, and where. This is the first fault, in the order in
-- which the notation is read (X.680, clauses 17 to 33 and 51; the limits are this project's). Notations are given as
-- they are written, with their offsets in the text of their module.
use Rattle.std.specs.Prelude.{◌≡◌, ℕ, suc, ◌+◌, ◌≤◌, Bool, List, [], ◌∷◌, ◌++◌, Option, Some, map, slice_get}
use Rattle.asn_base.specs.Abstract.{AbstractValue, Row, list}
use Rattle.asn_base.specs.Typed.{nodes, row_nodes}
use Rattle.trees.specs.declared.types.ListKind.{ListKind}
use Rattle.trees.specs.declared.types.ListKind.TheVariants.{Choice}
use Rattle.trees.specs.declared.types.ElementsKind.{ElementsKind}
use Rattle.trees.specs.declared.types.Standing.TheVariants.{Root}
use Rattle.trees.specs.declared.types.PresenceSyntax.{PresenceSyntax}
use Rattle.trees.specs.declared.types.PresenceSyntax.TheVariants.{Default}
use Rattle.trees.specs.declared.value.Named.{Named}
use Rattle.trees.specs.declared.value.ValueSyntax.{ValueSyntax}
use Rattle.trees.specs.Values.{Name, Tree, tree_of, member_of, name_at, chosen}
use Rattle.trees.specs.Types.{Plain}
use Rattle.names.specs.Modules.{OccursIn}
use Rattle.type_table.specs.declared.table.ListMember.{ListMember}
use Rattle.type_table.specs.Seen.{part_of}
use Rattle.type_table.specs.Table.{Type', WrittenKind, simple, elements, Part, IsUnderlying}
use Rattle.type_table.specs.Table as table
use Rattle.resolve.specs.Program.{Program, WrittenProgram, IsAssignment}
use Rattle.range_ends.specs.Ends.{IsTypeOfKind}
use Rattle.value_notations.specs.References.{IsLast}
use Rattle.value_notations.specs.Notations.{Fields, NotatedElements, field_names, part_names}
use Rattle.value_notations.specs.Values.{AreNotatedComponents, AreNotatedElements}
use Rattle.value_notations.specs.Wrong.{IsWrongHere, not_of_type}
use Rattle.value_notations.specs.Outside.{IsOutside}
use Rattle.value_notations.specs.Faults.{HasNoMeaningAt, IsCircularNameAt, IsUnknownBitAt, IsPastOidLimit}
use Rattle.value_notations.specs.Written.{IsFirstInBraces, IsLastAt, IsReachedNotation, IsWrittenWith, chosen_at, braced_fields, braced_values}
use Rattle.values.specs.Allowing.{Allows, AllowsCode}
use Rattle.values.specs.Arranged.{IsArranged, IsWrongField, IsRepeatedField, IsMissingPart, IsOutOfOrder}
use Rattle.typed_values.specs.declared.fault.Cause.{Cause}
use Rattle.typed_values.specs.declared.fault.Cause.TheVariants as cause
use Rattle.typed_values.specs.declared.fault.ValueFault.{ValueFault}

-- type i is of this kind, after its references and tags, and that type is written in module M
pub record HasKindIn (p : Program) (i : ℕ) (k : WrittenKind) (M : Name) : Type 0 where
  pub core : ℕ
  pub type : Type'
  pub chain : IsUnderlying p.types i core
  pub there : slice_get p.types core ≡ Some type
  pub kind : type.kind ≡ k
  pub assigns : Name
  pub is_so : IsAssignment p type.assignment M assigns

-- type i is of this kind of list, after its references and tags; it is written in module N, with these members
pub record IsListIn (w : WrittenProgram) (i : ℕ) (k : ListKind) (marked : Bool) (ms : List ListMember) (N : Name)
    : Type 0 where
  pub written : HasKindIn w.program i (table.members k marked (map part_of ms)) N
  pub text : IsWrittenWith w written.core ms

-- type i, after its references and tags, is of a kind for which P is true
pub record HasKindAfterReferences (p : Program) (i : ℕ) (P : WrittenKind → Type 0) : Type 0 where
  pub kind : WrittenKind
  pub is : IsTypeOfKind p.types i kind
  pub such : P kind

-- the references of notation n lead to notation l, a name that is read in module K and means neither something of the
-- type nor a value
pub record IsLostAt (w : WrittenProgram) (k : WrittenKind) (os : List ℕ) (M : Name) (n : ValueSyntax) (K : Name)
    (l : ValueSyntax) : Type 0 where
  pub meant : HasNoMeaningAt w.program k os M (tree_of n) K (tree_of l)
  pub text : IsReachedNotation w os n meant.lost.opened l

-- the references of notation n lead to notation l, a name that is read in module K and means value i, whose notation is
-- being read already
pub record IsCircularNameIn (w : WrittenProgram) (k : WrittenKind) (os : List ℕ) (M : Name) (n : ValueSyntax) (i : ℕ)
    (K : Name) (l : ValueSyntax) : Type 0 where
  pub meant : IsCircularNameAt w.program k os M (tree_of n) i K (tree_of l)
  pub text : IsReachedNotation w os n meant.round.opened l

-- type i holds no other types. The references of notation n lead to a notation that is read in module K, and P is true
-- of the type and of that notation.
pub record HasLeafIn (w : WrittenProgram) (os : List ℕ) (M K : Name) (i : ℕ) (n : ValueSyntax) (P : Plain →
    ValueSyntax → Type 0) : Type 0 where
  pub plain : Plain
  pub is : IsTypeOfKind w.program.types i (simple plain)
  pub opened : List ℕ
  pub notation : ValueSyntax
  pub last : IsLastAt w (simple plain) os M n opened K notation
  pub such : P plain notation

-- the same with any module
pub record HasLeaf (w : WrittenProgram) (os : List ℕ) (M : Name) (i : ℕ) (n : ValueSyntax) (P : Plain → ValueSyntax →
    Type 0) : Type 0 where
  pub within : Name
  pub leaf : HasLeafIn w os M within i n P

-- name b in the braces of notation l is no bit of the type, and the first of its name there
abbrev pub IsUnknownBitIn : ValueSyntax → Plain → ValueSyntax → Type 0
IsUnknownBitIn b k l = IsUnknownBitAt k (tree_of l) (tree_of b) × IsFirstInBraces l b

-- Type i is a SEQUENCE or SET, and the references of notation n lead to notation l, which is read in module K. P is
-- true of the kind of list, of its components and of the names of the fields in braces.
pub record HasNames (w : WrittenProgram) (os : List ℕ) (M K : Name) (i : ℕ) (n l : ValueSyntax)
    (P : ListKind → List Part → List Name → Type 0) : Type 0 where
  pub list : ListKind
  pub marked : Bool
  pub parts : List Part
  pub is : IsTypeOfKind w.program.types i (table.members list marked parts)
  pub no_choice : list ≡ Choice → ⊥
  pub opened : List ℕ
  pub last : IsLastAt w (table.members list marked parts) os M n opened K l
  pub fields : List (Named ValueSyntax)
  pub in_braces : braced_fields l ≡ Some fields
  pub such : P list parts (field_names (map member_of fields))

-- type i is a CHOICE that has no alternative of the name that notation n chooses
pub record HasNoAlternative (p : Program) (os : List ℕ) (M : Name) (i : ℕ) (n : Tree) : Type 0 where
  pub marked : Bool
  pub parts : List Part
  pub is : IsTypeOfKind p.types i (table.members Choice marked parts)
  pub opened : List ℕ
  pub within : Name
  pub name : Name
  pub inner : Tree
  pub last : IsLast p (table.members Choice marked parts) os M n opened within (chosen name inner)
  pub none : OccursIn (part_names parts) name → ⊥

-- the elements of a list are values of their type, each with fewer levels than `levels`
abbrev pub AreWithin : Program → (levels : ℕ) → WrittenKind → AbstractValue → Type 0
AreWithin p (suc levels) (elements k j) (list r) = AreNotatedElements p (Allows p) (AllowsCode p) levels j r
AreWithin p levels k v = Unit {0}

-- notation n stands for a value that the constraints of type i exclude; a fault within the value would be reported
-- first
pub record IsOutsideAlone (p : Program) (levels left : ℕ) (os : List ℕ) (M : Name) (i : ℕ) (n : Tree) : Type 0 where
  pub outside : IsOutside p (Allows p) (AllowsCode p) os M i n
  pub within : AreWithin p levels outside.kind outside.value
  pub few : nodes outside.value ≤ left

-- A level is needed first, then a node. Only if both are left can anything else be wrong with a notation.
abbrev pub AreLeftFor : (levels left : ℕ) → Cause → Type 0
AreLeftFor levels left cause.Memory = Unit {0}
AreLeftFor levels left cause.Depth = Unit {0}
AreLeftFor levels left cause.Nodes = levels ≡ 0 → ⊥
AreLeftFor levels left c = (levels ≡ 0 → ⊥) × (left ≡ 0 → ⊥)

-- what is wrong with notation n itself, read in module M under type i, if `levels` levels and `left` nodes are left
abbrev pub IsCause : WrittenProgram → (levels left : ℕ) → List ℕ → Name → ℕ → ValueSyntax → Cause → Type 0
IsCause w levels left os M i n cause.Memory = Unit {0}
IsCause w levels left os M i n cause.Depth = levels ≡ 0
IsCause w levels left os M i n cause.Nodes = left ≡ 0
IsCause w levels left os M i n (cause.NoMeaning K l) =
    HasKindAfterReferences w.program i (λ k. IsLostAt w k os M n K.now l.now)
IsCause w levels left os M i n (cause.Circular j K l) =
    HasKindAfterReferences w.program i (λ k. IsCircularNameIn w k os M n j K.now l.now)
IsCause w levels left os M i n cause.NotOfType = IsWrongHere w.program os M i (tree_of n) not_of_type
IsCause w levels left os M i n (cause.UnknownBit K b) = HasLeafIn w os M K.now i n (IsUnknownBitIn b.now)
IsCause w levels left os M i n cause.Oid = HasLeaf w os M i n (λ k l. IsPastOidLimit k (tree_of l))
IsCause w levels left os M i n cause.UnknownAlternative = HasNoAlternative w.program os M i (tree_of n)
IsCause w levels left os M i n (cause.UnknownField a K l) =
    HasNames w os M K.now i n l.now (λ k cs fs. IsWrongField k cs fs a)
IsCause w levels left os M i n (cause.Repeated a K l) =
    HasNames w os M K.now i n l.now (λ k cs fs. IsRepeatedField k cs fs a)
IsCause w levels left os M i n (cause.Missing a K l) =
    HasNames w os M K.now i n l.now (λ k cs fs. IsMissingPart k cs fs a)
IsCause w levels left os M i n (cause.OutOfOrder a K l) =
    HasNames w os M K.now i n l.now (λ k cs fs. IsOutOfOrder k cs fs a)
IsCause w levels left os M i n cause.Outside = IsOutsideAlone w.program levels left os M i (tree_of n)

-- Notation n, read in module M under type i, has the fields fs, read in module K, of a SEQUENCE or SET that is written
-- in module N. Their names are arranged like those of the components. The components before component c are read, each
-- as a value of its type with at most `levels` levels. Of the nodes that were left at n, `rest` are still left.
pub record AreReadTo (w : WrittenProgram) (levels left rest : ℕ) (os : List ℕ) (M : Name) (i : ℕ) (n : ValueSyntax)
    (ps : List ℕ) (K N : Name) (fs : List (Named ValueSyntax)) (c : ListMember) : Type 0 where
  pub kind : ListKind
  pub marked : Bool
  pub members : List ListMember
  pub list : IsListIn w i kind marked members N
  pub no_choice : kind ≡ Choice → ⊥
  pub notation : ValueSyntax
  pub last : IsLastAt w (table.members kind marked (map part_of members)) os M n ps K notation
  pub in_braces : braced_fields notation ≡ Some fs
  pub places : List (Option ℕ)
  pub arranged : IsArranged kind (map part_of members) (field_names (map member_of fs)) places
  pub before : List ListMember
  pub after : List ListMember
  pub split : members ≡ before ++ c ∷ after
  pub row : Row
  pub stand : Fields w.program ps K (map member_of fs) (map part_of before) row
  pub values : AreNotatedComponents w.program (Allows w.program) (AllowsCode w.program) levels N (map part_of before)
      row
  pub counted : left ≡ suc (row_nodes row + rest)

-- a component with this presence has notation d as its DEFAULT
abbrev pub IsWrittenDefault : PresenceSyntax → ValueSyntax → Type 0
IsWrittenDefault (Default b) d = b.value ≡ d
IsWrittenDefault q d = ⊥

-- Notation n, which is read in module M under type i, has this fault, if `levels` levels and `left` nodes are left.
-- Either something is wrong with the notation itself, and the fault has this very notation of the text; or a notation
-- nested in it has the fault. In the second case everything before the nested notation stands for allowed values, whose
-- nodes are counted. The DEFAULT of an absent component may have as many levels as a written value, and 2^24 nodes.
-- `os` are the values whose notations are being read already.
pub data IsRightValueFault (w : WrittenProgram) : (levels left : ℕ) (os : List ℕ) (M : Name) (i : ℕ) (n : ValueSyntax) →
    ValueFault → Type 0 where
  no_memory : {levels left : ℕ} {os : List ℕ} {M : Name} {i : ℕ} {n : ValueSyntax} {f : ValueFault} →
      f.cause ≡ cause.Memory →
      IsRightValueFault w levels left os M i n f
  itself : {levels left : ℕ} {os : List ℕ} {M : Name} {i : ℕ} {n : ValueSyntax} {f : ValueFault} →
      f.at.within.now ≡ M →
      f.at.ty.index ≡ i →
      f.at.notation.now ≡ n →
      AreLeftFor levels left f.cause →
      IsCause w levels left os M i n f.cause →
      IsRightValueFault w levels left os M i n f
  in_element : {levels left rest : ℕ} {os ps : List ℕ} {M K : Name} {i a : ℕ} {n l m : ValueSyntax} {k : ElementsKind}
      {r : Row} {f : ValueFault} (before after : List ValueSyntax) →
      IsTypeOfKind w.program.types i (elements k a) →
      IsLastAt w (elements k a) os M n ps K l →
      braced_values l ≡ Some (before ++ m ∷ after) →
      NotatedElements w.program ps K a (map tree_of before) r →
      AreNotatedElements w.program (Allows w.program) (AllowsCode w.program) levels a r →
      left ≡ suc (row_nodes r + rest) →
      IsRightValueFault w levels rest ps K a m f →
      IsRightValueFault w (suc levels) left os M i n f
  in_alternative : {levels left : ℕ} {os ps : List ℕ} {M K : Name} {i : ℕ} {n l m : ValueSyntax} {e : Bool}
      {cs : List Part} {x : Name} {f : ValueFault} (c : Part) →
      IsTypeOfKind w.program.types i (table.members Choice e cs) →
      IsLastAt w (table.members Choice e cs) os M n ps K l →
      chosen_at l ≡ Some (x, m) →
      OccursIn cs c →
      c.name ≡ x →
      IsRightValueFault w levels left ps K c.ty m f →
      IsRightValueFault w (suc levels) (suc left) os M i n f
  in_field : {levels left rest : ℕ} {os ps : List ℕ} {M K N : Name} {i : ℕ} {n : ValueSyntax}
      {fs : List (Named ValueSyntax)} {f : ValueFault} (c : ListMember) (g : Named ValueSyntax) →
      AreReadTo w levels left rest os M i n ps K N fs c →
      OccursIn fs g →
      name_at g.name ≡ name_at c.name →
      IsRightValueFault w levels rest ps K c.ty g.value f →
      IsRightValueFault w (suc levels) left os M i n f
  in_default : {levels left rest : ℕ} {os ps : List ℕ} {M K N : Name} {i : ℕ} {n d : ValueSyntax}
      {fs : List (Named ValueSyntax)} {f : ValueFault} (c : ListMember) →
      AreReadTo w levels left rest os M i n ps K N fs c →
      (OccursIn (field_names (map member_of fs)) (name_at c.name) → ⊥) →
      c.standing ≡ Root →
      IsWrittenDefault c.presence d →
      IsRightValueFault w levels 16777216 [] N c.ty d f →
      IsRightValueFault w (suc levels) left os M i n f
