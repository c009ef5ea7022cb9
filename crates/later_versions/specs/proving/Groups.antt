-- Groups of adjacent components, recognized by neighbours.
use Rattle.std.specs.Prelude.{◌≡◌, ◌↔◌, ℕ, ◌+◌, ◌<◌, ◌≤◌, List, length}
use Rattle.asn_base.specs.Types.{Component}
use Rattle.asn_base.specs.Typed.{IsOfGroup}
use Rattle.later_versions.specs.Later.{AreInOneGroup}

abbrev pub AreOfOne : Component → Component → Type 0
AreOfOne c d = (g : ℕ) × IsOfGroup g c × IsOfGroup g d

-- the component at place i and the one before it are in one group
pub record AreJoined (cs : List Component) (i : ℕ) : Type 0 where
  pub before : ℕ
  pub next : i ≡ before + 1
  pub one : AreInOneGroup cs before i

-- A component of the first list is in a group if and only if the one at its place in the other list is. It is joined to
-- the one before it if and only if the other is. What follows in the other list isn't joined to them.
pub record HaveSameGroups (cs ds : List Component) : Type 0 where
  pub grouped : (i : ℕ) → i < length cs → (AreInOneGroup cs i i ↔ AreInOneGroup ds i i)
  pub joined : (i : ℕ) → i < length cs → (AreJoined cs i ↔ AreJoined ds i)
  pub after : AreJoined ds (length cs) → ⊥

-- Of the components up to itself, component i isn't in one group with the same ones in both lists. It is one of the
-- first list, or the first one after them. The components before it are in the same groups, by neighbours.
pub record HaveOtherGroups (cs ds : List Component) (i : ℕ) : Type 0 where
  pub within : i ≤ length cs
  pub grouped : (j : ℕ) → j < i → (AreInOneGroup cs j j ↔ AreInOneGroup ds j j)
  pub joined : (j : ℕ) → j < i → (AreJoined cs j ↔ AreJoined ds j)
  pub other : ((j : ℕ) → j < length cs → j ≤ i → (AreInOneGroup cs j i ↔ AreInOneGroup ds j i)) → ⊥
