-- The value that a notation stands for under a type (X.680, clause 17), apart from constraints and limits.
use Rattle.std.specs.Prelude.{◌≡◌, ℕ, Bool, true, false, List, [], ◌∷◌, map, Option, Some, None, slice_get, IsTrue}
use Rattle.asn_base.specs.Abstract.{AbstractValue, fields, list, alternative, Row, end, absent, present}
use Rattle.asn_base.specs.Types.{Component, Presence}
use Rattle.asn_base.specs.Types as types
use Rattle.asn_base.specs.Typed.{GroupsAreWhole}
use Rattle.trees.specs.declared.types.ListKind.{ListKind}
use Rattle.trees.specs.declared.types.ListKind.TheVariants.{Sequence, Set, Choice}
use Rattle.trees.specs.declared.types.ElementsKind.{ElementsKind}
use Rattle.trees.specs.declared.types.Standing.{Standing}
use Rattle.trees.specs.declared.types.Standing.TheVariants.{Root, Addition}
use Rattle.trees.specs.Values.{Name, Tree, chosen, nothing, items, Trees, no_tree, tree_and, NamedTrees, no_member, member_and}
use Rattle.trees.specs.Values as trees
use Rattle.trees.specs.Types.{Plain, PresenceTree, mandatory, optional, default}
use Rattle.names.specs.Modules.{OccursIn, AreDifferent}
use Rattle.type_table.specs.Table.{WrittenKind, simple, members, elements, Part}
use Rattle.resolve.specs.Program.{Program}
use Rattle.range_ends.specs.Ends.{IsTypeOfKind}
use Rattle.value_notations.specs.References.{IsLast}
use Rattle.value_notations.specs.Leaves.{IsLeafNotation}

-- ---- braces

-- the values of a notation, in order, as a list
abbrev pub list_of : Trees → List Tree
list_of no_tree = []
list_of (tree_and t ts) = t ∷ list_of ts

-- the values of a notation, each after its name, in order, as a list of pairs
abbrev pub named_list : NamedTrees → List (Name × Tree)
named_list no_member = []
named_list (member_and x n ms) = (x, n) ∷ named_list ms

-- the values in braces, in order, None if the notation is no such list; `{}` holds none
abbrev pub values_in : Tree → Option (List Tree)
values_in nothing = Some []
values_in (items ts) = Some (list_of ts)
values_in n = None

-- the values in braces, each after a name, in order, None if the notation is no such list; `{}` holds none
abbrev pub fields_in : Tree → Option (List (Name × Tree))
fields_in nothing = Some []
fields_in (trees.fields ms) = Some (named_list ms)
fields_in n = None

-- the names before the values in braces, in order
abbrev pub field_names : List (Name × Tree) → List Name
field_names fs = map (λ f. f.0) fs

-- the names of the written components or alternatives of a list, in order of definition
abbrev pub part_names : List Part → List Name
part_names cs = map (λ (c : Part). c.name) cs

-- ---- components

-- The presence of a written component, which may be absent if it is OPTIONAL, has a DEFAULT, or is an addition (X.680,
-- clause 25). A DEFAULT counts as OPTIONAL here.
abbrev pub presence_without_value : PresenceTree → Standing → Presence
presence_without_value mandatory Root = types.mandatory
presence_without_value optional Root = types.optional
presence_without_value (default d) Root = types.optional
presence_without_value mandatory (Addition g) = types.addition false g
presence_without_value optional (Addition g) = types.addition true g
presence_without_value (default d) (Addition g) = types.addition true g

-- a written component as a component of a schema, by which groups are judged; a DEFAULT counts as OPTIONAL in it
abbrev pub component_of : Part → Component
component_of c = record { name = c.name; type = c.ty; presence = presence_without_value c.presence c.standing }

-- whether a written component is OPTIONAL, has a DEFAULT (X.680, clause 25), or is an addition (own rule), so that a
-- value may lack it
abbrev pub may_lack_value : Part → Bool
may_lack_value c = elim (presence_without_value c.presence c.standing) [
  | types.mandatory ↦ false
  | types.optional ↦ true
  | types.default d ↦ true
  | types.addition o g ↦ true
]

-- the first list is the second one without some of its members, in the same order
pub data IsPartOf {A : Type 0} : List A → List A → Type 0 where
  none_left : IsPartOf [] []
  left_out : {x : A} {xs ys : List A} → IsPartOf xs ys → IsPartOf xs (x ∷ ys)
  taken : {x : A} {xs ys : List A} → IsPartOf xs ys → IsPartOf (x ∷ xs) (x ∷ ys)

-- The names `fields` in braces are those of components, none twice, and in a SEQUENCE in order of definition (X.680,
-- clauses 25 and 27). Those of a SET are in any order.
abbrev pub AreArranged : ListKind → (parts fields : List Name) → Type 0
AreArranged Sequence cs fs = AreDifferent fs × IsPartOf fs cs
AreArranged Set cs fs = AreDifferent fs × ((x : Name) → OccursIn fs x → OccursIn cs x)
AreArranged Choice cs fs = ⊥

-- ---- notations

-- Below, `os` are the numbers of the values whose notations are being read already.
mutual
  -- notation n, read in module M under type i, stands for the value; its constraints and limits are not asked about
  pub data Notation (p : Program) : (os : List ℕ) (M : Name) (i : ℕ) (n : Tree) → AbstractValue → Type 0 where
    notation : {os ps : List ℕ} {M K : Name} {i : ℕ} {n l : Tree} {k : WrittenKind} {v : AbstractValue} →
        IsTypeOfKind p.types i k →
        IsLast p k os M n ps K l →
        NotationOf p ps K k l v →
        Notation p os M i n v

  -- The notation, which is no reference and is read in module M, stands for the value under a type of this kind.
  pub data NotationOf (p : Program) : (os : List ℕ) (M : Name) → WrittenKind → Tree → AbstractValue → Type 0 where
    of_leaf : {os : List ℕ} {M : Name} {n : Tree} {k : Plain} {v : AbstractValue} →
        IsLeafNotation k n v →
        NotationOf p os M (simple k) n v
    -- a SEQUENCE or SET: the names in braces are those of components, and version brackets are whole
    of_fields : {os : List ℕ} {M : Name} {n : Tree} {k : ListKind} {e : Bool} {cs : List Part}
        {fs : List (Name × Tree)} {r : Row} →
        fields_in n ≡ Some fs →
        AreArranged k (part_names cs) (field_names fs) →
        Fields p os M fs cs r →
        GroupsAreWhole (map component_of cs) r →
        NotationOf p os M (members k e cs) n (fields r)
    -- a SEQUENCE OF or SET OF
    of_list : {os : List ℕ} {M : Name} {n : Tree} {k : ElementsKind} {j : ℕ} {ts : List Tree} {r : Row} →
        values_in n ≡ Some ts →
        NotatedElements p os M j ts r →
        NotationOf p os M (elements k j) n (list r)
    -- the alternatives are counted over root and additions
    of_choice : {os : List ℕ} {M : Name} {n : Tree} {x : Name} {e : Bool} {cs : List Part} {c : Part} {a : ℕ}
        {v : AbstractValue} →
        slice_get cs a ≡ Some c →
        c.name ≡ x →
        Notation p os M c.ty n v →
        NotationOf p os M (members Choice e cs) (chosen x n) (alternative a v)

  -- the row has a place for each written component, with the value of the field that has its name, or absent if it has
  -- no field and may be absent
  pub data Fields (p : Program) : (os : List ℕ) (M : Name) (fs : List (Name × Tree)) → List Part → Row → Type 0 where
    no_part : {os : List ℕ} {M : Name} {fs : List (Name × Tree)} → Fields p os M fs [] end
    part_absent : {os : List ℕ} {M : Name} {fs : List (Name × Tree)} {c : Part} {cs : List Part} {r : Row} →
        (OccursIn (field_names fs) c.name → ⊥) →
        IsTrue (may_lack_value c) →
        Fields p os M fs cs r →
        Fields p os M fs (c ∷ cs) (absent r)
    part_present : {os : List ℕ} {M : Name} {fs : List (Name × Tree)} {c : Part} {cs : List Part} {n : Tree}
        {v : AbstractValue} {r : Row} →
        OccursIn fs (c.name, n) →
        Notation p os M c.ty n v →
        Fields p os M fs cs r →
        Fields p os M fs (c ∷ cs) (present v r)

  -- the row has a value of type i for each notation, read in module M, in order (X.680, clauses 26 and 28)
  pub data NotatedElements (p : Program) : (os : List ℕ) (M : Name) (i : ℕ) → List Tree → Row → Type 0 where
    no_element : {os : List ℕ} {M : Name} {i : ℕ} → NotatedElements p os M i [] end
    one_element : {os : List ℕ} {M : Name} {i : ℕ} {n : Tree} {ts : List Tree} {v : AbstractValue} {r : Row} →
        Notation p os M i n v →
        NotatedElements p os M i ts r →
        NotatedElements p os M i (n ∷ ts) (present v r)
