-- The values of types of a program: shape, constraints, items, components that must be present, and the limits on
-- values (X.680, clauses 18 to 33, 41 and 51). What constraints allow is a parameter: `Allows i z` says that type i
-- allows number or size z, and `AllowsCode i c` that it allows the character of code c.
use Rattle.std.specs.Prelude.{◌≡◌, ℕ, suc, ◌≤◌, ℤ, pos, Bool, List, [], ◌∷◌, length, map, Option, Some, slice_get, IsUtf8, chars}
use Rattle.std.specs.List.{AllByRecursion}
use Rattle.std.specs.Int.Digits.{AllBelowBase}
use Rattle.asn_base.specs.Abstract.{AbstractValue, boolean, integer, enumerated, bits, octets, text, null, oid, relative_oid, fields, list, alternative, Row, end, absent, present}
use Rattle.asn_base.specs.Typed.{IsWithinLimit, IsObjectIdentifier, IsRelativeOid, GroupsAreWhole, members, nodes}
use Rattle.trees.specs.declared.types.ListKind.{ListKind}
use Rattle.trees.specs.declared.types.ListKind.TheVariants.{Choice}
use Rattle.trees.specs.declared.types.ElementsKind.{ElementsKind}
use Rattle.trees.specs.declared.types.Standing.TheVariants.{Root, Addition}
use Rattle.trees.specs.Values.{Name, Tree}
use Rattle.trees.specs.Types.{Plain, a_boolean, an_integer, a_bit_string, an_octet_string, a_null, an_object_identifier, a_relative_oid, an_enumerated, a_utf8_string, a_restricted_string, optional, default}
use Rattle.names.specs.Modules.{OccursIn}
use Rattle.type_table.specs.Items.{additions_of, numbers_of}
use Rattle.type_table.specs.Table.{WrittenKind, simple, elements, Part, Type'}
use Rattle.type_table.specs.Table as table
use Rattle.resolve.specs.Program.{Program, IsAssignment}
use Rattle.value_notations.specs.Notations.{Notation, component_of}

-- Value v, in its form, number, size, characters and items, is one of type i, whose kind holds no other types.
abbrev pub IsPlainValue : (ℕ → ℤ → Type 0) → (ℕ → ℕ → Type 0) → ℕ → Plain → AbstractValue → Type 0
IsPlainValue Allows AllowsCode i a_boolean (boolean b) = Unit {0}
IsPlainValue Allows AllowsCode i (an_integer ns) (integer z) = IsWithinLimit z × Allows i z
IsPlainValue Allows AllowsCode i (an_enumerated root more) (enumerated z) =
    OccursIn (numbers_of root (additions_of more)) z
-- a BIT STRING with named bits takes no size
IsPlainValue Allows AllowsCode i (a_bit_string []) (bits s) = Allows i (pos (length s))
IsPlainValue Allows AllowsCode i (a_bit_string (b ∷ bs)) (bits s) = Unit {0}
IsPlainValue Allows AllowsCode i an_octet_string (octets o) = AllBelowBase 256 o × Allows i (pos (length o))
IsPlainValue Allows AllowsCode i a_null null = Unit {0}
IsPlainValue Allows AllowsCode i an_object_identifier (oid ns) = IsObjectIdentifier ns
IsPlainValue Allows AllowsCode i a_relative_oid (relative_oid ns) = IsRelativeOid ns
-- the size of a UTF8String is in characters
IsPlainValue Allows AllowsCode i a_utf8_string (text o) = IsUtf8 o × Allows i (pos (length (chars o)))
IsPlainValue Allows AllowsCode i (a_restricted_string k) (text o) =
    AllByRecursion (AllowsCode i) o × Allows i (pos (length o))
IsPlainValue Allows AllowsCode i k v = ⊥

mutual
  -- v is a value of type i of program p with at most n levels, without the limit on nodes
  pub data NotatedValueIn (p : Program) (Allows : ℕ → ℤ → Type 0) (AllowsCode : ℕ → ℕ → Type 0)
      : (n i : ℕ) → AbstractValue → Type 0 where
    value_in : {n i core : ℕ} {t : Type'} {M x : Name} {v : AbstractValue} →
        table.IsUnderlying p.types i core →
        slice_get p.types core ≡ Some t →
        IsAssignment p t.assignment M x →
        NotatedValueOf p Allows AllowsCode n i M t.kind v →
        NotatedValueIn p Allows AllowsCode (suc n) i v

  -- v is a value of type i of program p, which is of this kind and is written in module M; its members have at most n
  -- levels
  pub data NotatedValueOf (p : Program) (Allows : ℕ → ℤ → Type 0) (AllowsCode : ℕ → ℕ → Type 0)
      : (n i : ℕ) (M : Name) → WrittenKind → AbstractValue → Type 0 where
    of_leaf : {n i : ℕ} {M : Name} {k : Plain} {v : AbstractValue} →
        IsPlainValue Allows AllowsCode i k v →
        NotatedValueOf p Allows AllowsCode n i M (simple k) v
    of_fields : {n i : ℕ} {M : Name} {k : ListKind} {e : Bool} {cs : List Part} {r : Row} →
        (k ≡ Choice → ⊥) →
        AreNotatedComponents p Allows AllowsCode n M cs r →
        GroupsAreWhole (map component_of cs) r →
        NotatedValueOf p Allows AllowsCode n i M (table.members k e cs) (fields r)
    of_list : {n i j : ℕ} {M : Name} {k : ElementsKind} {r : Row} →
        AreNotatedElements p Allows AllowsCode n j r →
        Allows i (pos (members r)) →
        NotatedValueOf p Allows AllowsCode n i M (elements k j) (list r)
    of_choice : {n i a : ℕ} {M : Name} {e : Bool} {cs : List Part} {c : Part} {v : AbstractValue} →
        slice_get cs a ≡ Some c →
        NotatedValueIn p Allows AllowsCode n c.ty v →
        NotatedValueOf p Allows AllowsCode n i M (table.members Choice e cs) (alternative a v)

  -- A component of a list that is written in module M may be absent if it is OPTIONAL or an addition. It may also be
  -- absent if it has a DEFAULT whose notation is of a value of its type with at most n levels and 2^24 nodes. X.680
  -- has no limit on nodes: this is an own rule, as for a whole value.
  pub data MayLackValue (p : Program) (Allows : ℕ → ℤ → Type 0) (AllowsCode : ℕ → ℕ → Type 0)
      : (n : ℕ) (M : Name) → Part → Type 0 where
    where_optional : {n : ℕ} {M : Name} {c : Part} →
        c.presence ≡ optional →
        MayLackValue p Allows AllowsCode n M c
    where_addition : {n : ℕ} {M : Name} {c : Part} {g : Option ℕ} →
        c.standing ≡ Addition g →
        MayLackValue p Allows AllowsCode n M c
    where_default : {n : ℕ} {M : Name} {c : Part} {d : Tree} {v : AbstractValue} →
        c.standing ≡ Root →
        c.presence ≡ default d →
        Notation p [] M c.ty d v →
        NotatedValueIn p Allows AllowsCode n c.ty v →
        nodes v ≤ 16777216 →
        MayLackValue p Allows AllowsCode n M c

  -- The row has a place for each component of a list written in module M (X.680, clauses 25 and 27). The place has a
  -- value of its type, or is absent where the component may be.
  pub data AreNotatedComponents (p : Program) (Allows : ℕ → ℤ → Type 0) (AllowsCode : ℕ → ℕ → Type 0)
      : (n : ℕ) (M : Name) → List Part → Row → Type 0 where
    no_component : {n : ℕ} {M : Name} → AreNotatedComponents p Allows AllowsCode n M [] end
    component_absent : {n : ℕ} {M : Name} {c : Part} {cs : List Part} {r : Row} →
        MayLackValue p Allows AllowsCode n M c →
        AreNotatedComponents p Allows AllowsCode n M cs r →
        AreNotatedComponents p Allows AllowsCode n M (c ∷ cs) (absent r)
    component_present : {n : ℕ} {M : Name} {c : Part} {cs : List Part} {v : AbstractValue} {r : Row} →
        NotatedValueIn p Allows AllowsCode n c.ty v →
        AreNotatedComponents p Allows AllowsCode n M cs r →
        AreNotatedComponents p Allows AllowsCode n M (c ∷ cs) (present v r)

  -- each member of the row is a value of type j of program p with at most n levels, and none is absent (X.680, clauses
  -- 26 and 28)
  pub data AreNotatedElements (p : Program) (Allows : ℕ → ℤ → Type 0) (AllowsCode : ℕ → ℕ → Type 0)
      : (n j : ℕ) → Row → Type 0 where
    no_element : {n j : ℕ} → AreNotatedElements p Allows AllowsCode n j end
    one_element : {n j : ℕ} {v : AbstractValue} {r : Row} →
        NotatedValueIn p Allows AllowsCode n j v →
        AreNotatedElements p Allows AllowsCode n j r →
        AreNotatedElements p Allows AllowsCode n j (present v r)

-- v is a value of type i of program p with at most 64 levels and 2^24 nodes (own rule)
pub record IsNotatedValue (p : Program) (Allows : ℕ → ℤ → Type 0) (AllowsCode : ℕ → ℕ →
    Type 0) (i : ℕ) (v : AbstractValue)
    : Type 0 where
  pub shaped : NotatedValueIn p Allows AllowsCode 64 i v
  pub few_nodes : nodes v ≤ 16777216

-- Notation n, read in module M under type i, stands for v, which is a value of the type (X.680, clauses 16 and 17).
pub record IsTyped (p : Program) (Allows : ℕ → ℤ → Type 0) (AllowsCode : ℕ → ℕ → Type 0) (M : Name) (i : ℕ) (n : Tree)
    (v : AbstractValue) : Type 0 where
  pub is_so : Notation p [] M i n v
  pub value : IsNotatedValue p Allows AllowsCode i v
