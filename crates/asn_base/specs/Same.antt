-- When two values of a type are the same: they are equal at every level, with three exceptions. The order in a SET OF
-- and zeros at the end under named bits don't matter, and an absent component counts as its DEFAULT (X.680, clauses
-- 22.7, 25 and 28).
use Rattle.std.specs.Prelude.{◌≡◌, ℕ, Bool, false, List, [], ◌∷◌, ◌++◌, replicate, Some, slice_get}
use Rattle.asn_base.specs.declared.tag.Tag.{Tag}
use Rattle.asn_base.specs.Abstract.{AbstractValue, bits, fields, list, alternative, Row, end, absent, present}
use Rattle.asn_base.specs.Types.{Constraint, NamedBit, Alternative, Kind, a_named_bit_string, a_sequence, a_set}
use Rattle.asn_base.specs.Types.{a_sequence_of, a_set_of, a_choice, default, Component, Resolved, Is}
use Rattle.asn_base.specs.Typed.{IsValueWithoutNodes}

-- the values of this kind of resolved type hold no other values
abbrev pub IsLeaf : Kind → Type 0
IsLeaf (a_sequence e cs) = ⊥
IsLeaf (a_set e cs) = ⊥
IsLeaf (a_sequence_of c u) = ⊥
IsLeaf (a_set_of c u) = ⊥
IsLeaf (a_choice root e more) = ⊥
IsLeaf k = Unit {0}

-- the second row of values is the first with one more member, x, at some place
pub data Inserted : AbstractValue → Row → Row → Type 0 where
  here : {x : AbstractValue} {xs : Row} → Inserted x xs (present x xs)
  there : {x y : AbstractValue} {xs ys : Row} → Inserted x xs ys → Inserted x (present y xs) (present y ys)

mutual
  -- v and w, of type t of schema s, are equal but for order in SET OF, zeros under named bits, and absent DEFAULTs
  -- (X.680, clauses 22.7, 25 and 28)
  pub data Alike (s : List Resolved) : ℕ → AbstractValue → AbstractValue → Type 0 where
    alike : {t : ℕ} {tags : List Tag} {k : Kind} {v w : AbstractValue}
        → Is s t tags k
        → AlikeBy s k v w
        → Alike s t v w

  -- v and w, of this kind in schema s, are equal but for order in SET OF, zeros under named bits, and absent DEFAULTs
  pub data AlikeBy (s : List Resolved) : Kind → AbstractValue → AbstractValue → Type 0 where
    equal : {k : Kind} {v : AbstractValue} → IsLeaf k → AlikeBy s k v v
    -- the bits are equal after zeros are added at the end of each (X.680, clause 22.7)
    zeros : {ns : List NamedBit} {a b : List Bool} (m n : ℕ)
        → a ++ replicate m false ≡ b ++ replicate n false
        → AlikeBy s (a_named_bit_string ns) (bits a) (bits b)
    alike_sequence : {e : Bool} {cs : List Component} {vs ws : Row}
        → AlikeComponents s cs vs ws
        → AlikeBy s (a_sequence e cs) (fields vs) (fields ws)
    alike_set : {e : Bool} {cs : List Component} {vs ws : Row}
        → AlikeComponents s cs vs ws
        → AlikeBy s (a_set e cs) (fields vs) (fields ws)
    alike_sequence_of : {u : ℕ} {c : Constraint} {vs ws : Row}
        → AlikeElements s u vs ws
        → AlikeBy s (a_sequence_of c u) (list vs) (list ws)
    alike_set_of : {u : ℕ} {c : Constraint} {vs ws : Row}
        → AlikeInAnyOrder s u vs ws
        → AlikeBy s (a_set_of c u) (list vs) (list ws)
    alike_choice : {i : ℕ} {e : Bool} {root more : List Alternative} {a : Alternative} {v w : AbstractValue}
        → slice_get (root ++ more) i ≡ Some a
        → Alike s a.type v w
        → AlikeBy s (a_choice root e more) (alternative i v) (alternative i w)

  -- The components of two rows are alike one by one (X.680, clause 25). Both are absent, both are present and alike, or
  -- one is absent and the other like its DEFAULT.
  pub data AlikeComponents (s : List Resolved) : List Component → Row → Row → Type 0 where
    no_components : AlikeComponents s [] end end
    both_absent : {c : Component} {cs : List Component} {vs ws : Row}
        → AlikeComponents s cs vs ws
        → AlikeComponents s (c ∷ cs) (absent vs) (absent ws)
    both_present : {c : Component} {cs : List Component} {v w : AbstractValue} {vs ws : Row}
        → Alike s c.type v w
        → AlikeComponents s cs vs ws
        → AlikeComponents s (c ∷ cs) (present v vs) (present w ws)
    first_default : {c : Component} {cs : List Component} {d w : AbstractValue} {vs ws : Row}
        → c.presence ≡ default d
        → Alike s c.type d w
        → AlikeComponents s cs vs ws
        → AlikeComponents s (c ∷ cs) (absent vs) (present w ws)
    second_default : {c : Component} {cs : List Component} {d v : AbstractValue} {vs ws : Row}
        → c.presence ≡ default d
        → Alike s c.type v d
        → AlikeComponents s cs vs ws
        → AlikeComponents s (c ∷ cs) (present v vs) (absent ws)

  -- the elements of two rows, all of type u, are as many, and alike in order (X.680, clause 26)
  pub data AlikeElements (s : List Resolved) : ℕ → Row → Row → Type 0 where
    no_elements : {u : ℕ} → AlikeElements s u end end
    alike_element : {u : ℕ} {v w : AbstractValue} {vs ws : Row}
        → Alike s u v w
        → AlikeElements s u vs ws
        → AlikeElements s u (present v vs) (present w ws)

  -- the elements of two rows, all of type u, can be paired so that those of each pair are alike (X.680, clause 28)
  pub data AlikeInAnyOrder (s : List Resolved) : ℕ → Row → Row → Type 0 where
    none_left : {u : ℕ} → AlikeInAnyOrder s u end end
    pair : {u : ℕ} {v w : AbstractValue} {vs ws xs : Row}
        → Alike s u v w
        → AlikeInAnyOrder s u vs ws
        → Inserted w ws xs
        → AlikeInAnyOrder s u (present v vs) xs

-- v and w are values of type t of schema s, without the limit on nodes, and they are alike
pub record Same (s : List Resolved) (t : ℕ) (v w : AbstractValue) : Type 0 where
  pub first : IsValueWithoutNodes s t v
  pub second : IsValueWithoutNodes s t w
  pub are_alike : Alike s t v w
