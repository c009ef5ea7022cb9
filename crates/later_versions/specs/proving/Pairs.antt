-- The pairs of types that were met.
use Rattle.std.specs.Prelude.{◌≡◌, ◌⊎◌, ℕ, ◌<◌, ◌≤◌, ◌/◌, ◌%◌, List, [], ◌∷◌, ◌++◌, map, Option, Some, None, slice_get}
use Rattle.std.specs.BTreeMap.{BTreeMap, get}
use Rattle.std.specs.List.{AllByRecursion}
use Rattle.asn_base.specs.Names.{IsMember}
use Rattle.asn_base.specs.Types.{Resolved}
use Rattle.later_versions.specs.Projected.{members_of}
use Rattle.later_versions.specs.Differences.{TypeDiffers}
use Rattle.later_versions.specs.Later.{IsLaterType, leads}
use Rattle.later_versions.specs.declared.reason.Reason.{Reason}
use Rattle.later_versions.specs.declared.pairs.Met.{Met}
use Rattle.later_versions.specs.declared.pairs.Pair.{Pair}
use Rattle.later_versions.specs.declared.pairs.Pairs.{Pairs}
use Rattle.asn_base.specs.proving.Orderings.{pair_cmp}

-- the numbers of the two types
abbrev pub pair_of : Pair → ℕ × ℕ
pair_of p = (p.first.index, p.second.index)

abbrev pub met_pair : Met → ℕ × ℕ
met_pair m = pair_of m.pair

abbrev pub met : Pairs → List (ℕ × ℕ)
met ps = map met_pair ps.list.items

-- the numbers of an entry, of which an absent one has none
abbrev pub entry_codes : Option (List ℕ) → List ℕ
entry_codes None = []
entry_codes (Some cs) = cs

-- the numbers of the entry of a set at a key
abbrev pub codes_in : BTreeMap (ℕ × ℕ) (List ℕ) → ℕ × ℕ → List ℕ
codes_in known key = entry_codes (get pair_cmp known key)

-- the key of the entry of a pair: its first number, and the second one divided by 128
abbrev pub key_of : ℕ × ℕ → ℕ × ℕ
key_of p = (p.0, p.1 / 128)

-- the pair is in the set: its entry has the remainder of the second number
abbrev pub IsIn : BTreeMap (ℕ × ℕ) (List ℕ) → ℕ × ℕ → Type 0
IsIn known p = IsMember (p.1 % 128) (codes_in known (key_of p))

abbrev pub HasMet : Pairs → ℕ × ℕ → Type 0
HasMet ps p = IsMember p (met ps)

-- each pair of the set was met
abbrev pub AreKnown : Pairs → Type 0
AreKnown ps = (p : ℕ × ℕ) → IsIn ps.known p → HasMet ps p

-- the later pairs are the earlier ones, or x is the only one after them
abbrev pub IsNotedOnce : Pairs → Pairs → Met → Type 0
IsNotedOnce old new x = (new.list.items ≡ old.list.items) ⊎ (new.list.items ≡ old.list.items ++ x ∷ [])

-- pair p is that of two members at this place of the types of pair q
abbrev pub IsMemberPairAt : List Resolved → List Resolved → ℕ × ℕ → ℕ → ℕ × ℕ → Type 0
IsMemberPairAt s s' q i p = (slice_get (members_of s q.0) i ≡ Some p.0) × (slice_get (members_of s' q.1) i ≡ Some p.1)

-- the pair is that of two members at one place of the types of another pair
abbrev pub IsMemberPair : List Resolved → List Resolved → ℕ × ℕ → ℕ × ℕ → Type 0
IsMemberPair s s' q p = (i : ℕ)
    × (slice_get (members_of s q.0) i ≡ Some p.0)
    × (slice_get (members_of s' q.1) i ≡ Some p.1)

-- it was met as the members of pair q, whose number in the list is `at`
abbrev pub IsMetAt : List Resolved → List Resolved → ℕ → ℕ × ℕ → Met → Type 0
IsMetAt s s' at q m = (m.from ≡ at) × IsMemberPairAt s s' q m.place (met_pair m)

-- The later pairs are the earlier ones, followed by pairs of members of pair q in order of their places. The pair of
-- members at each place was met, and if it is a new one, at this place or before.
pub record AreMembersNoted (s s' : List Resolved) (at : ℕ) (q : ℕ × ℕ) (old new : Pairs) : Type 0 where
  pub more : List Met
  pub items : new.list.items ≡ old.list.items ++ more
  pub are : AllByRecursion (IsMetAt s s' at q) more
  pub ascend : (i j : ℕ) (x y : Met)
      → i < j
      → slice_get more i ≡ Some x
      → slice_get more j ≡ Some y
      → x.place < y.place
  pub each : (n : ℕ) (p : ℕ × ℕ)
      → IsMemberPairAt s s' q n p
      → HasMet old p ⊎ ((k : ℕ) × (x : Met) × (slice_get more k ≡ Some x) × (met_pair x ≡ p) × (x.place ≤ n))

-- each pair except the first was met as members of an earlier one
abbrev pub AreBack : List Met → Type 0
AreBack ms = (k : ℕ) (m : Met) → 0 < k → slice_get ms k ≡ Some m → m.from < k

-- The places of members that lead to each pair from the first one. Those to the first pair are none, and those to
-- another one are those to the pair as whose members it was met, and then its place.
pub record ArePaths (ms : List Met) (paths : List (List ℕ)) : Type 0 where
  pub first : slice_get paths 0 ≡ Some []
  pub next : (k : ℕ) (m : Met) (path : List ℕ)
      → 0 < k
      → slice_get ms k ≡ Some m
      → slice_get paths m.from ≡ Some path
      → slice_get paths k ≡ Some (path ++ m.place ∷ [])

-- the types of the pair differ by the reason
pub record PairDiffers (s s' : List Resolved) (p : ℕ × ℕ) (e : Reason) : Type 0 where
  pub one : Resolved
  pub other : Resolved
  pub at_first : slice_get s p.0 ≡ Some one
  pub at_second : slice_get s' p.1 ≡ Some other
  pub differs : TypeDiffers s one other e

-- the second type of the pair can be a later version of the first, apart from the types of members
abbrev pub IsFine : List Resolved → List Resolved → ℕ × ℕ → Type 0
IsFine s s' p = (q r : Resolved) → slice_get s p.0 ≡ Some q → slice_get s' p.1 ≡ Some r → IsLaterType s q r

-- one list of places leads to both types
abbrev pub IsReached : List Resolved → ℕ → List Resolved → ℕ → ℕ × ℕ → Type 0
IsReached s t s' t' p = (places : List ℕ) × (leads s t places ≡ Some p.0) × (leads s' t' places ≡ Some p.1)

-- Each pair that was met is reached, and the first pair is among them. The pairs before place `at` are fine, and the
-- pairs of their members were met.
pub record IsSoFar (s : List Resolved) (t : ℕ) (s' : List Resolved) (t' : ℕ) (ps : List (ℕ × ℕ)) (at : ℕ) : Type 0 where
  pub start : IsMember (t, t') ps
  pub reached : (p : ℕ × ℕ) → IsMember p ps → IsReached s t s' t' p
  pub fine : (i : ℕ) (p : ℕ × ℕ) → i < at → slice_get ps i ≡ Some p → IsFine s s' p
  pub members : (i : ℕ) (p q : ℕ × ℕ) → i < at → slice_get ps i ≡ Some p → IsMemberPair s s' p q → IsMember q ps

-- the places lead to both types of each pair
abbrev pub AreLed : List Resolved → ℕ → List Resolved → ℕ → List Met → List (List ℕ) → Type 0
AreLed s t s' t' ms paths = (k : ℕ) (p : ℕ × ℕ) (path : List ℕ)
    → slice_get (map met_pair ms) k ≡ Some p
    → slice_get paths k ≡ Some path
    → (leads s t path ≡ Some p.0) × (leads s' t' path ≡ Some p.1)
