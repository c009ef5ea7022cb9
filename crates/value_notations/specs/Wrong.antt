-- Why a notation stands for no value under a type (X.680, clause 17): what is wrong, and which notation within it is.
-- Constraints and limits are no part of this.
use Rattle.std.specs.Prelude.{◌≡◌, ℕ, ◌<◌, Bool, false, List, ◌∷◌, Option, Some, None, slice_get}
use Rattle.asn_base.specs.Abstract.{AbstractValue}
use Rattle.trees.specs.declared.types.ListKind.{ListKind}
use Rattle.trees.specs.declared.types.ListKind.TheVariants.{Sequence, Set, Choice}
use Rattle.trees.specs.declared.types.ElementsKind.{ElementsKind}
use Rattle.trees.specs.declared.types.Standing.TheVariants.{Addition}
use Rattle.trees.specs.Values.{Name, Tree, reference, chosen, items, Trees, tree_and}
use Rattle.trees.specs.Types.{Plain, a_bit_string, mandatory}
use Rattle.names.specs.declared.scope.Assigned.TheVariants as assigned
use Rattle.names.specs.Modules.{OccursIn, OccursTwice, AreDifferent}
use Rattle.names.specs.Names.{Refers, under}
use Rattle.type_table.specs.Table.{WrittenKind, simple, members, elements, Part}
use Rattle.resolve.specs.Program.{Program}
use Rattle.range_ends.specs.Ends.{IsTypeOfKind, IsValueAt}
use Rattle.value_notations.specs.References.{IsNamed, IsLast}
use Rattle.value_notations.specs.Leaves.{IsLeafNotation}
use Rattle.value_notations.specs.Notations.{values_in, fields_in, field_names, part_names, may_lack_value, IsPartOf}

-- what is wrong with a notation
pub data NotationTrouble : Type 0 where
  -- a name after a module's name, which means no value
  unknown_name : Name → NotationTrouble
  -- references lead to this value, which leads back to itself
  circular : ℕ → NotationTrouble
  -- the notation is of another form than the type's
  not_of_type : NotationTrouble
  -- a name that is neither a component, alternative, item or bit of the type nor a value
  unknown_item : Name → NotationTrouble
  -- a component that must be present
  missing : Name → NotationTrouble
  -- a component that is given twice
  repeated : Name → NotationTrouble
  -- components in another order: the first one must come before the second
  out_of_order : (first second : Name) → NotationTrouble

-- ---- references

-- notation n, read in module M under a type of kind k, is notation l, read in module K, or refers to it
pub data OpenedPath (p : Program) (k : WrittenKind)
    : (os : List ℕ) (M : Name) (n : Tree) (ps : List ℕ) (K : Name) (l : Tree) → Type 0 where
  there : {os : List ℕ} {M : Name} {n : Tree} → OpenedPath p k os M n os M n
  onward : {os ps : List ℕ} {M N K : Name} {q : Option Name} {x : Name} {m l : Tree} (i : ℕ) →
      (IsNamed k q x → ⊥) →
      Refers p.modules M q x (assigned.Value i) →
      (OccursIn os i → ⊥) →
      IsValueAt p i N m →
      OpenedPath p k (i ∷ os) N m ps K l →
      OpenedPath p k os M (reference q x) ps K l

-- the references lead to name x, which means neither something of the type nor a value
pub record HasNoMeaning (p : Program) (k : WrittenKind) (os : List ℕ) (M : Name) (n : Tree) (q : Option Name)
    (x : Name) : Type 0 where
  pub opened : List ℕ
  pub within : Name
  pub chain : OpenedPath p k os M n opened within (reference q x)
  pub none : IsNamed k q x → ⊥
  pub no_value : (i : ℕ) → Refers p.modules within q x (assigned.Value i) → ⊥

-- the references lead to a name that means value i, whose notation is being read already
pub record IsCircularName (p : Program) (k : WrittenKind) (os : List ℕ) (M : Name) (n : Tree) (i : ℕ) : Type 0 where
  pub opened : List ℕ
  pub within : Name
  pub prefix : Option Name
  pub name : Name
  pub chain : OpenedPath p k os M n opened within (reference prefix name)
  pub none : IsNamed k prefix name → ⊥
  pub refers : Refers p.modules within prefix name (assigned.Value i)
  pub again : OccursIn opened i

-- ---- forms

-- the first of the notations that is no bit's name is name x
pub data IsUnknownBit (bs : List (Name × ℕ)) (x : Name) : Trees → Type 0 where
  first_bit : {ts : Trees} →
      under x bs ≡ None →
      IsUnknownBit bs x (tree_and (reference None x) ts)
  later_bit : {y : Name} {place : ℕ} {ts : Trees} →
      under y bs ≡ Some place →
      IsUnknownBit bs x ts →
      IsUnknownBit bs x (tree_and (reference None y) ts)

-- name x is in the place of a bit's name, and is no bit of the type
pub record HasUnknownBit (k : Plain) (l : Tree) (x : Name) : Type 0 where
  pub bits : List (Name × ℕ)
  pub is : k ≡ a_bit_string bits
  pub names : Trees
  pub in_braces : l ≡ items names
  pub unknown : IsUnknownBit bits x names

-- the notation, which is no reference, doesn't have the form of a value of the type
abbrev pub IsMisfit : WrittenKind → Tree → Type 0
IsMisfit (simple k) l = ((v : AbstractValue) → IsLeafNotation k l v → ⊥) × ((x : Name) → HasUnknownBit k l x → ⊥)
IsMisfit (members Choice e cs) l = (x : Name) (m : Tree) → l ≡ chosen x m → ⊥
IsMisfit (members Sequence e cs) l = fields_in l ≡ None
IsMisfit (members Set e cs) l = fields_in l ≡ None
IsMisfit (elements k j) l = values_in l ≡ None
IsMisfit k l = ⊥

-- ---- components

-- each name of the first list is in the second
abbrev pub AreIn : List Name → List Name → Type 0
AreIn xs ys = (x : Name) → OccursIn xs x → OccursIn ys x

-- a component of this name has no field, though it is one of the root that must be present
pub record IsMissing (cs : List Part) (fs : List Name) (x : Name) : Type 0 where
  pub part : Part
  pub there : OccursIn cs part
  pub named : part.name ≡ x
  pub needed : may_lack_value part ≡ false
  pub none : OccursIn fs x → ⊥

-- an addition of this name has no field, though it must be present if another one of its group is, and one is
pub record IsMissingInGroup (cs : List Part) (fs : List Name) (x : Name) : Type 0 where
  pub group : ℕ
  pub part : Part
  pub there : OccursIn cs part
  pub named : part.name ≡ x
  pub standing : part.standing ≡ Addition (Some group)
  pub needed : part.presence ≡ mandatory
  pub none : OccursIn fs x → ⊥
  pub other : Part
  pub other_there : OccursIn cs other
  pub other_standing : other.standing ≡ Addition (Some group)
  pub other_present : OccursIn fs other.name

-- name x comes before name y
pub record IsBefore (xs : List Name) (x y : Name) : Type 0 where
  pub first : ℕ
  pub second : ℕ
  pub apart : first < second
  pub here : slice_get xs first ≡ Some x
  pub there : slice_get xs second ≡ Some y

-- What is wrong with the names of fields. The checks come in this order: a name that no component has, one that is
-- given twice, one that is missing, and in a SEQUENCE the order of names.
pub data IsDisarranged : ListKind → List Part → List Name → NotationTrouble → Type 0 where
  strange : {k : ListKind} {cs : List Part} {fs : List Name} {x : Name} →
      OccursIn fs x →
      (OccursIn (part_names cs) x → ⊥) →
      IsDisarranged k cs fs (unknown_item x)
  twice : {k : ListKind} {cs : List Part} {fs : List Name} {x : Name} →
      AreIn fs (part_names cs) →
      OccursTwice fs x →
      IsDisarranged k cs fs (repeated x)
  lacking : {k : ListKind} {cs : List Part} {fs : List Name} {x : Name} →
      AreIn fs (part_names cs) →
      AreDifferent fs →
      IsMissing cs fs x →
      IsDisarranged k cs fs (missing x)
  lacking_in_group : {k : ListKind} {cs : List Part} {fs : List Name} {x : Name} →
      AreIn fs (part_names cs) →
      AreDifferent fs →
      IsMissingInGroup cs fs x →
      IsDisarranged k cs fs (missing x)
  jumbled : {cs : List Part} {fs : List Name} {x y : Name} →
      AreIn fs (part_names cs) →
      AreDifferent fs →
      ((x : Name) → IsMissing cs fs x → ⊥) →
      ((x : Name) → IsMissingInGroup cs fs x → ⊥) →
      (IsPartOf fs (part_names cs) → ⊥) →
      IsBefore (part_names cs) x y →
      IsBefore fs y x →
      IsDisarranged Sequence cs fs (out_of_order x y)

-- ---- what is wrong, and where

-- what is wrong with notation n itself, read in module M under type i
pub data IsWrongHere (p : Program) (os : List ℕ) (M : Name) (i : ℕ) (n : Tree) : NotationTrouble → Type 0 where
  lost_name : {k : WrittenKind} {q x : Name} →
      IsTypeOfKind p.types i k →
      HasNoMeaning p k os M n (Some q) x →
      IsWrongHere p os M i n (unknown_name x)
  lost_item : {k : WrittenKind} {x : Name} →
      IsTypeOfKind p.types i k →
      HasNoMeaning p k os M n None x →
      IsWrongHere p os M i n (unknown_item x)
  round : {k : WrittenKind} {j : ℕ} →
      IsTypeOfKind p.types i k →
      IsCircularName p k os M n j →
      IsWrongHere p os M i n (circular j)
  misfit : {ps : List ℕ} {k : WrittenKind} {K : Name} {l : Tree} →
      IsTypeOfKind p.types i k →
      IsLast p k os M n ps K l →
      IsMisfit k l →
      IsWrongHere p os M i n not_of_type
  bit : {ps : List ℕ} {k : Plain} {K : Name} {l : Tree} {x : Name} →
      IsTypeOfKind p.types i (simple k) →
      IsLast p (simple k) os M n ps K l →
      HasUnknownBit k l x →
      IsWrongHere p os M i n (unknown_item x)
  other_alternative : {ps : List ℕ} {e : Bool} {cs : List Part} {K : Name} {x : Name} {m : Tree} →
      IsTypeOfKind p.types i (members Choice e cs) →
      IsLast p (members Choice e cs) os M n ps K (chosen x m) →
      (OccursIn (part_names cs) x → ⊥) →
      IsWrongHere p os M i n (unknown_item x)
  names : {ps : List ℕ} {k : ListKind} {e : Bool} {cs : List Part} {K : Name} {l : Tree}
      {fs : List (Name × Tree)} {t : NotationTrouble} →
      IsTypeOfKind p.types i (members k e cs) →
      (k ≡ Choice → ⊥) →
      IsLast p (members k e cs) os M n ps K l →
      fields_in l ≡ Some fs →
      IsDisarranged k cs (field_names fs) t →
      IsWrongHere p os M i n t

-- Notation m, read in module K under type j, is notation n, read in module M under type i, or is nested in it.
pub data IsRead (p : Program)
    : (os : List ℕ) (M : Name) (i : ℕ) (n : Tree) (qs : List ℕ) (K : Name) (j : ℕ) (m : Tree) → Type 0 where
  itself : {os : List ℕ} {M : Name} {i : ℕ} {n : Tree} → IsRead p os M i n os M i n
  in_field : {os ps qs : List ℕ} {M K N : Name} {i j : ℕ} {n l m u : Tree} {k : ListKind} {e : Bool} {cs : List Part}
      {fs : List (Name × Tree)} {c : Part} →
      IsTypeOfKind p.types i (members k e cs) →
      (k ≡ Choice → ⊥) →
      IsLast p (members k e cs) os M n ps K l →
      fields_in l ≡ Some fs →
      OccursIn cs c →
      OccursIn fs (c.name, m) →
      IsRead p ps K c.ty m qs N j u →
      IsRead p os M i n qs N j u
  in_element : {os ps qs : List ℕ} {M K N : Name} {i j a : ℕ} {n l m u : Tree} {k : ElementsKind} {ts : List Tree} →
      IsTypeOfKind p.types i (elements k a) →
      IsLast p (elements k a) os M n ps K l →
      values_in l ≡ Some ts →
      OccursIn ts m →
      IsRead p ps K a m qs N j u →
      IsRead p os M i n qs N j u
  in_alternative : {os ps qs : List ℕ} {M K N : Name} {i j : ℕ} {n m u : Tree} {e : Bool} {cs : List Part} {x : Name}
      {c : Part} →
      IsTypeOfKind p.types i (members Choice e cs) →
      IsLast p (members Choice e cs) os M n ps K (chosen x m) →
      OccursIn cs c →
      c.name ≡ x →
      IsRead p ps K c.ty m qs N j u →
      IsRead p os M i n qs N j u
