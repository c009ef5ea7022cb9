-- What the parts of a reading return.
use Rattle.std.specs.Prelude.{◌≡◌, ◌<◌, ◌≤◌, ◌+◌, ℕ, suc, true, List, [], ◌∷◌, ◌++◌, Option, Some, None, IsTrue, MatchResult, Result, length, map, slice_get}
use Rattle.std.specs.List.{AllZip}
use Rattle.asn_base.specs.declared.value.Value.{Value}
use Rattle.asn_base.specs.Abstract.{AbstractValue, abstract, Row, row_of_list, row_of_options}
use Rattle.asn_base.specs.Typed.{nodes, row_nodes}
use Rattle.trees.specs.declared.types.Standing.TheVariants.{Root}
use Rattle.trees.specs.declared.value.Named.{Named}
use Rattle.trees.specs.declared.value.ValueSyntax.{ValueSyntax}
use Rattle.trees.specs.Values.{Name, Tree, tree_of, member_of, name_at}
use Rattle.names.specs.Modules.{OccursIn}
use Rattle.type_table.specs.declared.table.ListMember.{ListMember}
use Rattle.type_table.specs.declared.table.Shape.{Shape}
use Rattle.type_table.specs.declared.table.TypeNode.{TypeNode}
use Rattle.type_table.specs.Lists.{AreSound}
use Rattle.type_table.specs.Seen.{kind_of, part_of}
use Rattle.type_table.specs.Table.{WrittenKind, Part}
use Rattle.resolve.specs.Program.{Program, WrittenProgram}
use Rattle.value_notations.specs.Notations.{Notation, Fields, NotatedElements, field_names, part_names, may_lack_value}
use Rattle.value_notations.specs.Written.{IsLastAt}
use Rattle.value_notations.specs.declared.references.FollowFault.{FollowFault}
use Rattle.value_notations.specs.declared.references.FollowFault.TheVariants as follow
use Rattle.value_notations.specs.Values.{NotatedValueIn, AreNotatedComponents, AreNotatedElements, IsTyped, MayLackValue}
use Rattle.values.specs.Allowing.{Allows, AllowsCode}
use Rattle.values.specs.Arranged.{first_place}
use Rattle.typed_values.specs.declared.fault.ValueFault.{ValueFault}
use Rattle.typed_values.specs.declared.fault.Cause.TheVariants as cause
use Rattle.typed_values.specs.declared.followed.Followed.{Followed}
use Rattle.typed_values.specs.declared.reader.NotationReader.{NotationReader}
use Rattle.typed_values.specs.declared.naming.Led.{Led}
use Rattle.typed_values.specs.declared.naming.Led.TheVariants as led
use Rattle.typed_values.specs.Faults.{HasKindIn, IsCircularNameIn, IsLostAt, IsRightValueFault, IsWrittenDefault}
use Rattle.value_notations.specs.Wrong.{OpenedPath}
use Rattle.range_ends.specs.Ends.{IsTypeOfKind, IsValueAt}
use Rattle.typed_values.specs.declared.levels.Defaults.{Defaults}
use Rattle.typed_values.specs.declared.named.NamedValue.{NamedValue}
use Rattle.value_notations.specs.proving.Next.{IsNameOf}
use Rattle.typed_values.specs.Chains.{AreApart, AreBy, HasTurn}
use Rattle.typed_values.specs.Known.{AreKnown, ComesTo}
use Rattle.typed_values.specs.proving.Turns.{AreLower}
use Rattle.typed_values.specs.proving.Outcomes.{ShowsOption}

-- the notation stands for v, a value of the type with at most `levels` levels, whose nodes were counted
pub record Means (p : Program) (levels before after : ℕ) (os : List ℕ) (M : Name) (i : ℕ) (n : Tree) (v : AbstractValue)
    : Type 0 where
  pub is_so : Notation p os M i n v
  pub value : NotatedValueIn p (Allows p) (AllowsCode p) levels i v
  pub counted : before ≡ after + nodes v

-- the types of the reader's modules are sound, and what its table says is true
pub record IsReady (r : NotationReader) : Type 0 where
  pub sound : AreSound r.bounded.now.program.types
  pub known : AreKnown r.bounded.now.program r.defaults.now

-- the reader is ready again, for the same modules
pub record GoesOn (before after : NotationReader) : Type 0 where
  pub same : after.bounded.now.program ≡ before.bounded.now.program
  pub text : after.bounded.now ≡ before.bounded.now
  pub ready : IsReady after

-- type i is written with this shape, after its references and tags, in module N
pub record HasShapeIn (w : WrittenProgram) (i : ℕ) (s : Shape) (N : Name) : Type 0 where
  pub written : HasKindIn w.program i (kind_of s) N
  pub node : TypeNode
  pub there : slice_get w.types written.core ≡ Some node
  pub shape : node.shape ≡ s

-- the table after a while: its counts went on, and turns became earlier
pub record IsLater (before after : Defaults) : Type 0 where
  pub lowest : after.lowest ≤ before.lowest
  pub latest : before.named.latest ≤ after.named.latest
  pub turns : AreLower before.named.turns.items after.named.turns.items

-- the reader went on, and may read more values than before
pub record Moves (before after : NotationReader) : Type 0 where
  pub opened : (added : List ℕ) × (after.opened.now ≡ added ++ before.opened.now)
  pub later : IsLater before.defaults.now after.defaults.now

-- the reader went on, and reads the same values as before
pub record Returns (before after : NotationReader) : Type 0 where
  pub opened : after.opened.now ≡ before.opened.now
  pub later : IsLater before.defaults.now after.defaults.now

-- P is true of `levels` levels and of the values that are being read. It is also true of fewer levels, as many as the
-- table says were needed, and of other values that are being read, unless the notation leads to one of them. All that
-- it leads to is counted in the table.
pub record IsFound (levels : ℕ) (os : List ℕ) (t : Defaults) (P : ℕ → List ℕ → Type 0) : Type 0 where
  pub named : List ℕ
  pub by : AreBy t.named.turns.items t.named.latest named
  pub apart : AreApart os named
  pub holds : (n : ℕ) (qs : List ℕ) → levels ≤ n + t.lowest → AreApart qs named → P n qs

-- the references of a notation lead to its last one, and `ps` are then the values whose notations are being read
abbrev pub IsFollowed : WrittenProgram → WrittenKind → (os ps : List ℕ) → Followed → Type 0
IsFollowed w k os ps f = IsLastAt w k os f.at.within.now f.at.notation.now ps f.within.now f.last.now

-- what is wrong with the references of notation n, and at which notation of the text
abbrev pub IsFollowFaultAt : WrittenProgram → WrittenKind → List ℕ → Name → ValueSyntax → FollowFault → Type 0
IsFollowFaultAt w k os M n follow.Memory = Unit {0}
IsFollowFaultAt w k os M n (follow.NoMeaning K l) = IsLostAt w k os M n K.now l.now
IsFollowFaultAt w k os M n (follow.Circular i K l) = IsCircularNameIn w k os M n i K.now l.now

-- the types of these components, or alternatives, are in the table
abbrev pub HaveTypes : Program → List Part → Type 0
HaveTypes p cs = (j : ℕ) (c : Part) → slice_get cs j ≡ Some c → c.ty < length p.types

-- component c, of a list that is written in module N, may be absent if `levels` levels are left, and if fewer are, as
-- many as are needed when `lowest` levels were left below its DEFAULT
abbrev pub MayBeLeftOut : Program → (levels lowest : ℕ) → Name → Part → Type 0
MayBeLeftOut p levels lowest N c = (n : ℕ) → levels ≤ n + lowest → MayLackValue p (Allows p) (AllowsCode p) n N c

-- Notation l, read in module K, stands for the returned value, whichever values are being read, or notation n has the
-- returned fault.
abbrev pub Reports : WrittenProgram → (levels left : ℕ) → List ℕ → Name → ℕ → ValueSyntax → Name → ValueSyntax →
    Result Value ValueFault → Type 0
Reports w levels left os M i n K l result =
    MatchResult result
    (λ v. (m : ℕ) (qs : List ℕ) → Means w.program (suc m) (suc left) left qs K i (tree_of l) (abstract v))
    (IsRightValueFault w levels (suc left) os M i n)

-- the notation stands for this value, and what it leads to was counted
abbrev pub IsRead : Program → (levels before after : ℕ) → List ℕ → Name → ℕ → Tree → Defaults → AbstractValue → Type 0
IsRead p levels before after os M i n t v = IsFound levels os t (λ m qs. Means p m before after qs M i n v)

-- the notation stands for a value for which this is an outcome
pub record Makes {A : Type 0} (shows : A → AbstractValue → Type 0) (p : Program) (levels before after : ℕ) (os : List ℕ)
    (M : Name) (i : ℕ) (n : Tree) (t : Defaults) (x : A) : Type 0 where
  pub value : AbstractValue
  pub shown : shows x value
  pub read : IsRead p levels before after os M i n t value

-- the notation stands for a value for which the returned one is an outcome, or has the returned fault
abbrev pub Answers : {A : Type 0} → (A → AbstractValue → Type 0) → WrittenProgram → (levels before after : ℕ) →
    List ℕ → Name → ℕ → ValueSyntax → Defaults → Result A ValueFault → Type 0
Answers shows w levels before after os M i n t result =
    MatchResult result
    (Makes shows w.program levels before after os M i (tree_of n) t)
    (IsRightValueFault w levels before os M i n)

-- The notation to which references lead stands for such a value, or the one before the references has the returned
-- fault. A level and a node were counted for its own value. `ps` are the values that are being read after the
-- references.
abbrev pub AnswersWhole : {A : Type 0} → (A → AbstractValue → Type 0) →
    WrittenProgram → (before after : ℕ) → (os ps : List ℕ) → Followed → Defaults → Result A ValueFault → Type 0
AnswersWhole shows w before after os ps f t result =
    MatchResult result
    (Makes shows w.program (suc f.levels) (suc before) after ps f.within.now f.at.ty.index (tree_of f.last.now) t)
    (IsRightValueFault w (suc f.levels) (suc before) os f.at.within.now f.at.ty.index f.at.notation.now)

-- The references of notation n led, while the values `os` were being read, to a notation that is read, and `ps` are
-- being read after them. That notation stands for the value.
pub record IsEnded (p : Program) (levels before after : ℕ) (os : List ℕ) (M : Name) (i : ℕ) (n : Tree) (ps : List ℕ)
    (t : Defaults) (v : AbstractValue) : Type 0 where
  pub kind : WrittenKind
  pub is : IsTypeOfKind p.types i kind
  pub within : Name
  pub last : Tree
  pub path : OpenedPath p kind os M n ps within last
  pub read : IsRead p levels before after ps within i last t v

-- the same of an outcome
pub record EndsWith {A : Type 0} (shows : A → AbstractValue → Type 0) (p : Program) (levels before after : ℕ)
    (os : List ℕ) (M : Name) (i : ℕ) (n : Tree) (ps : List ℕ) (t : Defaults) (x : A) : Type 0 where
  pub value : AbstractValue
  pub shown : shows x value
  pub ended : IsEnded p levels before after os M i n ps t value

-- the same of an outcome, or the notation has the returned fault
abbrev pub AnswersEnd : {A : Type 0} → (A → AbstractValue → Type 0) → WrittenProgram → (levels before after : ℕ) →
    List ℕ → Name → ℕ → ValueSyntax → List ℕ → Defaults → Result A ValueFault → Type 0
AnswersEnd shows w levels before after os M i n ps t result =
    MatchResult result
    (EndsWith shows w.program levels before after os M i (tree_of n) ps t)
    (IsRightValueFault w levels before os M i n)

-- such a reading began with fewer values being read, and its value has at most so many levels and so many nodes
pub record CanClose (p : Program) (i levels nodes : ℕ) (ps : List ℕ) (t : Defaults) : Type 0 where
  pub most : ℕ
  pub before : ℕ
  pub after : ℕ
  pub enough : most ≤ levels + t.lowest
  pub counted : before ≡ after + nodes
  pub opened : List ℕ
  pub fewer : length opened < length ps
  pub within : Name
  pub notation : Tree
  pub value : AbstractValue
  pub ended : IsEnded p most before after opened within i notation ps t value

-- The notation of value assignment `number` stands under type i for a value with at most `most` levels and so many
-- nodes. Only that assignment was being read before.
pub record IsReadItself (p : Program) (number i most nodes : ℕ) (t : Defaults) : Type 0 where
  pub within : Name
  pub notation : Tree
  pub there : IsValueAt p number within notation
  pub before : ℕ
  pub after : ℕ
  pub counted : before ≡ after + nodes
  pub value : AbstractValue
  pub read : IsRead p most before after (number ∷ []) within i notation t value

-- such a reading began with `count` values being read
pub record HasEnded (p : Program) (levels before after count i : ℕ) (ps : List ℕ) (t : Defaults) : Type 0 where
  pub opened : List ℕ
  pub many : length opened ≡ count
  pub within : Name
  pub notation : Tree
  pub value : AbstractValue
  pub ended : IsEnded p levels before after opened within i notation ps t value

-- the same of a reading that began with `count` values being read
pub record CanCloseTo (p : Program) (i levels nodes count : ℕ) (ps : List ℕ) (t : Defaults) : Type 0 where
  pub most : ℕ
  pub before : ℕ
  pub after : ℕ
  pub enough : most ≤ levels + t.lowest
  pub counted : before ≡ after + nodes
  pub ended : HasEnded p most before after count i ps t

-- Entry e is what value assignment `number` comes to under type i. It has at most so many levels and nodes, and the
-- turns of the values `os`, which are being read, come after its latest one.
pub record CanStandFor (p : Program) (turns os : List ℕ) (levels nodes i number : ℕ) (e : NamedValue) : Type 0 where
  pub comes : ComesTo p turns e
  pub number_is : e.number ≡ number
  pub type_is : e.ty ≡ i
  pub levels_left : e.levels ≤ levels
  pub nodes_left : e.nodes ≤ nodes
  pub later : (x t : ℕ) → OccursIn os x → HasTurn turns x t → e.latest < t

-- references of notation n led to a name of a value, while `ps` are being read, for which entry e can stand
pub record IsLedTo (p : Program) (turns : List ℕ) (levels nodes : ℕ) (k : WrittenKind) (os : List ℕ) (M : Name) (i : ℕ)
    (n : Tree) (ps : List ℕ) (e : NamedValue) : Type 0 where
  pub number : ℕ
  pub within : Name
  pub last : Tree
  pub path : OpenedPath p k os M n ps within last
  pub named : IsNameOf p k within last number
  pub is_so : CanStandFor p turns ps levels nodes i number e

-- what the references of notation n lead to
abbrev pub IsLed : {A : Type 0} → (A → AbstractValue → Type 0) → WrittenProgram → (turns : List ℕ) →
    (levels nodes : ℕ) → WrittenKind → List ℕ → Name → ℕ → ValueSyntax → List ℕ → Led A → Type 0
IsLed shows w turns levels nodes k os M i n ps (led.Known e x) =
    IsLedTo w.program turns levels nodes k os M i (tree_of n) ps e × ((v : AbstractValue) → shows x v)
IsLed shows w turns levels nodes k os M i n ps (led.Last K l) = IsLastAt w k os M n ps K.now l.now

-- the notation stands for a value of the type, within the limits, for which this is an outcome
pub record IsMade {A : Type 0} (shows : A → AbstractValue → Type 0) (p : Program) (M : Name) (i : ℕ) (n : Tree) (x : A)
    : Type 0 where
  pub value : AbstractValue
  pub shown : shows x value
  pub typed : IsTyped p (Allows p) (AllowsCode p) M i n value

-- the notations stand for the values of a row, each one of type i
pub record MeanRow (p : Program) (levels before after : ℕ) (os : List ℕ) (M : Name) (i : ℕ) (ts : List Tree) (r : Row)
    : Type 0 where
  pub stand : NotatedElements p os M i ts r
  pub values : AreNotatedElements p (Allows p) (AllowsCode p) levels i r
  pub counted : before ≡ after + row_nodes r

-- the notations stand for values of type i for which these are outcomes, in order
pub record MakeRow {A : Type 0} (shows : A → AbstractValue → Type 0) (p : Program) (levels before after : ℕ)
    (os : List ℕ) (M : Name) (i : ℕ) (ts : List Tree) (t : Defaults) (xs : List A) : Type 0 where
  pub values : List AbstractValue
  pub shown : AllZip shows xs values
  pub mean : IsFound levels os t (λ n qs. MeanRow p n before after qs M i ts (row_of_list values))

-- one of the notations has this fault, and those before it stand for values of the type
pub record FailsInOne (w : WrittenProgram) (levels left : ℕ) (os : List ℕ) (M : Name) (i : ℕ) (ns : List ValueSyntax)
    (f : ValueFault) : Type 0 where
  pub before : List ValueSyntax
  pub one : ValueSyntax
  pub after : List ValueSyntax
  pub split : ns ≡ before ++ one ∷ after
  pub row : Row
  pub stand : NotatedElements w.program os M i (map tree_of before) row
  pub values : AreNotatedElements w.program (Allows w.program) (AllowsCode w.program) levels i row
  pub rest : ℕ
  pub counted : left ≡ row_nodes row + rest
  pub fault : IsRightValueFault w levels rest os M i one f

-- the nodes of a component; 0 if it is absent
abbrev pub option_nodes : Option AbstractValue → ℕ
option_nodes None = 0
option_nodes (Some v) = nodes v

-- component c, of a list that is written in module N, has no field and may be absent, or its field stands for value v
abbrev pub IsField :
    Program → ℕ → List ℕ → (K N : Name) → List (Name × Tree) → Part → Option AbstractValue → Type 0
IsField p levels ps K N fs c None =
    (OccursIn (field_names fs) c.name → ⊥)
    × IsTrue (may_lack_value c)
    × MayLackValue p (Allows p) (AllowsCode p) levels N c
IsField p levels ps K N fs c (Some v) =
    (m : Tree) × OccursIn fs (c.name, m) × Notation p ps K c.ty m v
    × NotatedValueIn p (Allows p) (AllowsCode p) levels c.ty v

-- component c, of a list that is written in module N, has no field and may be absent, or its field stands for a value;
-- this is an outcome for it, and its nodes were counted
pub record MakesField {A : Type 0} (shows : A → AbstractValue → Type 0) (p : Program) (levels before after : ℕ)
    (ps : List ℕ) (K N : Name) (fs : List (Name × Tree)) (c : Part) (t : Defaults) (x : Option A) : Type 0 where
  pub value : Option AbstractValue
  pub shown : ShowsOption shows x value
  pub field : IsFound levels ps t (λ n qs. IsField p n qs K N fs c value)
  pub counted : before ≡ after + option_nodes value

-- the DEFAULT of component c has this fault
pub record IsWrongDefault (w : WrittenProgram) (levels : ℕ) (N : Name) (c : ListMember) (f : ValueFault) : Type 0 where
  pub default : ValueSyntax
  pub standing : c.standing ≡ Root
  pub presence : IsWrittenDefault c.presence default
  pub fault : IsRightValueFault w levels 16777216 [] N c.ty default f

-- the field of component c has this fault, or its DEFAULT has, if the component has no field
pub data IsWrongField (w : WrittenProgram) (levels left : ℕ) (ps : List ℕ) (K N : Name) (fs : List (Named ValueSyntax))
    (c : ListMember) (f : ValueFault) : Type 0 where
  no_memory :
      f.cause ≡ cause.Memory →
      IsWrongField w levels left ps K N fs c f
  in_field : (g : Named ValueSyntax) →
      OccursIn fs g →
      name_at g.name ≡ name_at c.name →
      IsRightValueFault w levels left ps K c.ty g.value f →
      IsWrongField w levels left ps K N fs c f
  in_default :
      (OccursIn (field_names (map member_of fs)) (name_at c.name) → ⊥) →
      IsWrongDefault w levels N c f →
      IsWrongField w levels left ps K N fs c f

-- the places of the fields, in the order of components; a component without a field may be absent
pub record ArePlaced (cs : List Part) (fs : List Name) (ps : List (Option ℕ)) : Type 0 where
  pub placed : ps ≡ map (λ x. first_place x fs) (part_names cs)
  pub may : (i : ℕ) (c : Part) → slice_get cs i ≡ Some c → slice_get ps i ≡ Some None → may_lack_value c ≡ true

-- the fields stand for the values of a row, each one of its component
pub record MeanFields (p : Program) (levels before after : ℕ) (ps : List ℕ) (K N : Name) (fs : List (Name × Tree))
    (cs : List Part) (r : Row) : Type 0 where
  pub stand : Fields p ps K fs cs r
  pub values : AreNotatedComponents p (Allows p) (AllowsCode p) levels N cs r
  pub counted : before ≡ after + row_nodes r

-- the fields stand for values of their components, for which these are outcomes, in order
pub record MakeFields {A : Type 0} (shows : A → AbstractValue → Type 0) (p : Program) (levels before after : ℕ)
    (ps : List ℕ) (K N : Name) (fs : List (Name × Tree)) (cs : List Part) (t : Defaults) (xs : List (Option A))
    : Type 0 where
  pub values : List (Option AbstractValue)
  pub shown : AllZip (ShowsOption shows) xs values
  pub mean : IsFound levels ps t (λ n qs. MeanFields p n before after qs K N fs cs (row_of_options values))

-- a component has this fault, and the fields of those before it stand for values of their types
pub record FailsInField (w : WrittenProgram) (levels left : ℕ) (ps : List ℕ) (K N : Name)
    (fs : List (Named ValueSyntax)) (cs : List ListMember) (f : ValueFault) : Type 0 where
  pub before : List ListMember
  pub one : ListMember
  pub after : List ListMember
  pub split : cs ≡ before ++ one ∷ after
  pub row : Row
  pub stand : Fields w.program ps K (map member_of fs) (map part_of before) row
  pub values : AreNotatedComponents w.program (Allows w.program) (AllowsCode w.program) levels N (map part_of before)
      row
  pub rest : ℕ
  pub counted : left ≡ row_nodes row + rest
  pub fault : IsWrongField w levels rest ps K N fs one f
