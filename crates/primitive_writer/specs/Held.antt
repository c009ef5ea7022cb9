-- Whether a value has contents octets of a kind.
use Rattle.std.specs.Prelude.{List, ℕ}
use Rattle.asn_base.specs.Abstract.{AbstractValue}
use Rattle.encodings.specs.declared.leaf_kind.LeafKind.{LeafKind}
use Rattle.encodings.specs.Leaves.{HasContents}

-- the value has contents octets of this kind
abbrev pub HasSome : LeafKind → AbstractValue → Type 0
HasSome k v = (x : List ℕ) × HasContents k v x

-- the value has no contents octets of this kind
abbrev pub HasNone : LeafKind → AbstractValue → Type 0
HasNone k v = (x : List ℕ) → HasContents k v x → ⊥
