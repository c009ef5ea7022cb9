-- The events that a routine emits when a value is written. Headers open and close, with contents octets between them;
-- components are left out; and members of a SET or SET OF end. The definitions also say which octets the events mean.
use Rattle.std.specs.Prelude.{◌≡◌, ℕ, ◌≤◌, Bool, true, List, [], ◌∷◌, ◌++◌, length, map}
use Rattle.std.specs.List.{concat, AllByRecursion}
use Rattle.std.specs.List.Sorted.{IsPermutation}
use Rattle.asn_base.specs.declared.tag.Tag.{Tag}
use Rattle.encodings.specs.Header.{Octets, Encodings}
use Rattle.encodings.specs.Fewest.{shortest_header}
use Rattle.encodings.specs.Orders.{Ascending, AtMost}
use Rattle.codec_code.specs.declared.step.RowKind.{RowKind}
use Rattle.codec_code.specs.declared.step.RowKind.TheVariants.{Set, SetOf}

pub data Event : Type 0 where
  -- a header opens, around all events up to the one that closes it
  opens : Tag → (constructed : Bool) → RowKind → Event
  puts : Octets → Event
  closes : Event
  -- a component isn't written: it is the same as its DEFAULT, or it is absent and has none
  leaves_out : (with_default : Bool) → Event
  -- a member of a SET OF ends, or a component of a SET that is written ends, which has this rank
  ends_member : (rank : ℕ) → Event

-- the order of the members: of a SET OF by their octets, of a SET by the ranks of the components
pub data Order : Type 0 where
  by_octets : Order
  by_rank : Order

abbrev pub row_of_order : Order → RowKind
row_of_order by_octets = SetOf
row_of_order by_rank = Set

-- parts of an encoding, one after the other
mutual
  pub data Tree : Type 0 where
    done : Tree
    piece : Octets → Tree → Tree
    lacking : (with_default : Bool) → Tree → Tree
    -- a header with the parts in it, and the parts that follow
    within : Tag → (constructed : Bool) → RowKind → Tree → Tree → Tree
    -- the header of a SET or SET OF with its members, and the parts that follow
    ordered : Tag → Order → Members → Tree → Tree

  pub data Members : Type 0 where
    no_member : Members
    no_component : (with_default : Bool) → Members → Members
    member : (rank : ℕ) → Tree → Members → Members

abbrev mutual
  -- the events of a tree, in order
  pub flat : Tree → List Event
  flat done = []
  flat (piece x t) = puts x ∷ flat t
  flat (lacking d t) = leaves_out d ∷ flat t
  flat (within g c k i t) = opens g c k ∷ (flat i ++ closes ∷ flat t)
  flat (ordered g o ms t) = opens g true (row_of_order o) ∷ (flats ms ++ closes ∷ flat t)

  pub flats : Members → List Event
  flats no_member = []
  flats (no_component d ms) = leaves_out d ∷ flats ms
  flats (member r i ms) = flat i ++ ends_member r ∷ flats ms

-- an encoding of a member, and the rank of its component
pub record SetMember : Type 0 where
  pub rank : ℕ
  pub octets : Octets

-- the ranks ascend
abbrev pub RanksAscend : List SetMember → Type 0
RanksAscend [] = Unit {0}
RanksAscend (p ∷ ps) = AllByRecursion (λ q. p.rank ≤ q.rank) ps × RanksAscend ps

abbrev pub encodings_of : List SetMember → Encodings
encodings_of = map (λ p. p.octets)

-- Encodings of a SET OF ascend, compared as octets (X.690, 11.6). Encodings of a SET are in the order of their tags
-- (10.3).
abbrev pub InOrder : Order → List SetMember → Type 0
InOrder by_octets ps = Ascending AtMost (encodings_of ps)
InOrder by_rank ps = RanksAscend ps

-- qs are the parts ps, put in order
pub record Arranged (o : Order) (ps qs : List SetMember) : Type 0 where
  pub same : IsPermutation ps qs
  pub in_order : InOrder o qs

abbrev mutual
  -- the octets that a tree means: each header has the fewest octets, and members of a SET or SET OF are in order
  pub HasOctets : Tree → Octets → Type 0
  HasOctets done o = o ≡ []
  HasOctets (piece x t) o = (y : Octets) × HasOctets t y × (o ≡ x ++ y)
  HasOctets (lacking d t) o = HasOctets t o
  HasOctets (within g c k i t) o =
      (x : Octets) × (y : Octets) × HasOctets i x × HasOctets t y × (o ≡ shortest_header g c (length x) ++ (x ++ y))
  HasOctets (ordered g a ms t) o =
      (ps : List SetMember) × (qs : List SetMember) × (x : Octets) × (y : Octets)
      × PartsOf ms ps × Arranged a ps qs × (x ≡ concat (encodings_of qs)) × HasOctets t y
      × (o ≡ shortest_header g true (length x) ++ (x ++ y))

  -- the parts of the members that are written
  pub PartsOf : Members → List SetMember → Type 0
  PartsOf no_member ps = ps ≡ []
  PartsOf (no_component d ms) ps = PartsOf ms ps
  PartsOf (member r i ms) ps =
      (x : Octets) × (qs : List SetMember) × HasOctets i x × PartsOf ms qs × (ps ≡ record { rank = r; octets = x } ∷ qs)
