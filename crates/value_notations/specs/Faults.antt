-- What the faults of one notation say (X.680, clause 17): the faults of following its references, and those of a value
-- that holds no others. Each fault has the notation that is wrong, and so its place in the text.
use Rattle.std.specs.Prelude.{◌≡◌, ℕ, List, Option, None}
use Rattle.asn_base.specs.Abstract.{AbstractValue}
use Rattle.trees.specs.declared.value.ValueSyntax.{ValueSyntax}
use Rattle.trees.specs.Values.{Name, Tree, tree_of, reference}
use Rattle.trees.specs.Types.{Plain}
use Rattle.type_table.specs.Table.{WrittenKind, simple}
use Rattle.resolve.specs.Program.{Program}
use Rattle.value_notations.specs.declared.references.FollowFault.{FollowFault}
use Rattle.value_notations.specs.declared.references.FollowFault.TheVariants as follow
use Rattle.value_notations.specs.declared.leaves.LeafFault.{LeafFault}
use Rattle.value_notations.specs.declared.leaves.LeafFault.TheVariants as leaf
use Rattle.value_notations.specs.Leaves.{IsLeafNotation}
use Rattle.value_notations.specs.Values.{IsPlainValue}
use Rattle.value_notations.specs.Outside.{HasPast}
use Rattle.value_notations.specs.Written.{IsFirstInBraces}
use Rattle.value_notations.specs.Wrong.{HasNoMeaning, IsCircularName, IsMisfit, HasUnknownBit}

-- the references of notation n lead to notation l, a name that is read in module K and means neither something of the
-- type nor a value
pub record HasNoMeaningAt (p : Program) (k : WrittenKind) (os : List ℕ) (M : Name) (n : Tree) (K : Name)
    (l : Tree) : Type 0 where
  pub prefix : Option Name
  pub name : Name
  pub lost : HasNoMeaning p k os M n prefix name
  pub within : lost.within ≡ K
  pub notation : reference prefix name ≡ l

-- the references of notation n lead to notation l, a name that is read in module K and means value i, whose notation is
-- being read already
pub record IsCircularNameAt (p : Program) (k : WrittenKind) (os : List ℕ) (M : Name) (n : Tree) (i : ℕ) (K : Name)
    (l : Tree)
    : Type 0 where
  pub round : IsCircularName p k os M n i
  pub within : round.within ≡ K
  pub notation : reference round.prefix round.name ≡ l

abbrev pub IsFollowFault : Program → WrittenKind → List ℕ → Name → Tree → FollowFault → Type 0
IsFollowFault p k os M n follow.Memory = Unit {0}
IsFollowFault p k os M n (follow.NoMeaning K l) = HasNoMeaningAt p k os M n K.now (tree_of l.now)
IsFollowFault p k os M n (follow.Circular i K l) = IsCircularNameAt p k os M n i K.now (tree_of l.now)

-- notation b in braces is a name, and no bit of the type
pub record IsUnknownBitAt (k : Plain) (n b : Tree) : Type 0 where
  pub name : Name
  pub unknown : HasUnknownBit k n name
  pub notation : b ≡ reference None name

-- the notation stands for an object identifier, relative or not, that passes the limit
pub record IsPastOidLimit (k : Plain) (n : Tree) : Type 0 where
  pub value : AbstractValue
  pub is_so : IsLeafNotation k n value
  pub past : HasPast value

abbrev pub IsLeafFault : Plain → Tree → LeafFault → Type 0
IsLeafFault k n leaf.Memory = Unit {0}
IsLeafFault k n leaf.NotOfType = IsMisfit (simple k) n
IsLeafFault k n (leaf.UnknownBit b) = IsUnknownBitAt k n (tree_of b.now)
IsLeafFault k n leaf.Oid = IsPastOidLimit k n

-- an unknown bit is the first notation in the braces of notation n that is this name
abbrev pub IsBitAt : ValueSyntax → LeafFault → Type 0
IsBitAt n (leaf.UnknownBit b) = IsFirstInBraces n b.now
IsBitAt n f = Unit {0}

-- a value of the type, apart from its constraints
abbrev pub IsUnconstrained : Plain → AbstractValue → Type 0
IsUnconstrained k v = IsPlainValue (λ i z. Unit {0}) (λ i c. Unit {0}) 0 k v

-- the notation stands for v, which is a value of the type apart from its constraints
pub record IsLeafValue (k : Plain) (n : Tree) (v : AbstractValue) : Type 0 where
  pub is_so : IsLeafNotation k n v
  pub within : IsUnconstrained k v
