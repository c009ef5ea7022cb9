-- An account of an encoding: how its octets are made up, header by header (X.690, clauses 8.1, 8.9 to 8.14, 10 and 11).
-- An account doesn't ask that a SET or SET OF is in the order of the distinguished rules.
use Rattle.std.specs.Prelude.{◌≡◌, ℕ, ◌+◌, Bool, true, List, [], ◌∷◌, ◌++◌, length, Some, slice_get}
use Rattle.std.specs.List.{concat}
use Rattle.asn_base.specs.declared.tag.Tag.{Tag}
use Rattle.asn_base.specs.Abstract.{AbstractValue, fields, list, alternative, Row, end, absent, present}
use Rattle.asn_base.specs.Types.{Constraint, Alternative, Kind, a_sequence, a_set, a_sequence_of, a_set_of, a_choice}
use Rattle.asn_base.specs.Types.{TypeNumber, default, Component, Resolved, Is}
use Rattle.asn_base.specs.Same.{IsLeaf, AlikeBy}
use Rattle.encodings.specs.Rules.{Distinguished}
use Rattle.encodings.specs.Header.{Octets, Encodings, identifier, HeaderBy}
use Rattle.encodings.specs.Contents.{Contents}
use Rattle.encodings.specs.Encoding.{IsDefault}

-- the number of identifier octets of a header, of its length octets, and of the contents octets that they promise
pub record Numbers : Type 0 where
  pub identifier : ℕ
  pub size : ℕ
  pub contents : ℕ

mutual
  -- an account from one header on, with the header's numbers and what is within it
  pub data Account : Type 0 where
    header : Numbers → Inside → Account

  -- What is within a header in an account: the contents of a value that holds no others; one more header, around which
  -- this one is explicit; or members. In SET and SET OF there are two lists besides: for each member its place in the
  -- octets, and for each place the member that is there.
  pub data Inside : Type 0 where
    leaf_row : Inside
    wrap_row : Account → Inside
    seq_row : Rows → Inside
    seqof_row : Rows → Inside
    set_row : Rows → (places inverse : List ℕ) → Inside
    setof_row : Rows → (places inverse : List ℕ) → Inside

  -- the members of an account, in order of definition or of the value, each absent, equal to its DEFAULT and left out,
  -- or written
  pub data Rows : Type 0 where
    no_row : Rows
    absent_row : Rows → Rows
    default_row : Rows → Rows
    written : Account → Rows → Rows

-- The numbers z are those of octets h, the header with the fewest octets of tag t and length n (X.690, clause 10.1).
-- Flag c says that the encoding is constructed.
pub record HeaderHasNumbers (t : Tag) (c : Bool) (n : ℕ) (h : Octets) (z : Numbers) : Type 0 where
  pub is_header : HeaderBy Distinguished t c n h
  pub identifier_counted : z.identifier ≡ length (identifier t.class t.number c)
  pub size_counted : z.identifier + z.size ≡ length h
  pub contents_counted : z.contents ≡ n

-- The octets are the contents x after the headers of these tags, the outermost first, and the account has the numbers
-- of these headers (X.690, clause 8.14). All but the innermost header are explicit, and so is each header of a CHOICE.
-- An untagged CHOICE has no header of its own, but that of its alternative.
pub data Headed : List Tag → Bool → Octets → Inside → Octets → Account → Type 0 where
  -- an untagged CHOICE has the account of its alternative
  headed_bare : {c : Bool} {x : Octets} {a : Account} → Headed [] c x (wrap_row a) x a
  headed_innermost : {t : Tag} {c : Bool} {h x : Octets} {z : Numbers} {i : Inside}
      → HeaderHasNumbers t c (length x) h z
      → Headed (t ∷ []) c x i (h ++ x) (header z i)
  headed_outer : {t u : Tag} {ts : List Tag} {c : Bool} {h x y : Octets} {z : Numbers} {i : Inside} {a : Account}
      → Headed (u ∷ ts) c x i y a
      → HeaderHasNumbers t true (length y) h z
      → Headed (t ∷ u ∷ ts) c x i (h ++ y) (header z (wrap_row a))

-- the lists are the places of n members, from 0, and their inverse, the member at each of the n places
pub record ArePlaces (n : ℕ) (places inverse : List ℕ) : Type 0 where
  pub each_member : length places ≡ n
  pub each_place : length inverse ≡ n
  -- if member i is at place j, the member at place j is i
  pub there : (i j : ℕ) → slice_get places i ≡ Some j → slice_get inverse j ≡ Some i
  -- if the member at place j is i, member i is at place j
  pub back : (i j : ℕ) → slice_get inverse j ≡ Some i → slice_get places i ≡ Some j

-- zs are the encodings xs of the members, each at its place
pub record ArePlacedAt (places inverse : List ℕ) (xs zs : Encodings) : Type 0 where
  pub are_places : ArePlaces (length xs) places inverse
  pub as_many : length zs ≡ length xs
  pub each : (i j : ℕ) → slice_get places i ≡ Some j → slice_get zs j ≡ slice_get xs i

mutual
  -- account a describes how octets o encode v, a value of type t of schema s
  pub data Describes (s : List Resolved) : TypeNumber → AbstractValue → Octets → Account → Type 0 where
    describes : {t : TypeNumber} {tags : List Tag} {k : Kind} {v : AbstractValue} {c : Bool} {x o : Octets} {i : Inside}
        {a : Account}
        → Is s t tags k
        → ContentsHaveRows s k v c x i
        → Headed tags c x i o a
        → Describes s t v o a

  -- what is within a header describes how contents octets x encode v, a value of kind k; the flag says that they are
  -- constructed
  pub data ContentsHaveRows (s : List Resolved) : Kind → AbstractValue → Bool → Octets → Inside → Type 0 where
    -- the contents are those of the distinguished rules; a string with named bits has no zeros at its end
    leaf_listed : {k : Kind} {v w : AbstractValue} {c : Bool} {x : Octets}
        → IsLeaf k
        → AlikeBy s k v w
        → Contents Distinguished k w c x
        → ContentsHaveRows s k v c x leaf_row
    sequence_listed : {e : Bool} {cs : List Component} {vs : Row} {xs : Encodings} {rs : Rows}
        → MembersHaveRows s cs vs xs rs
        → ContentsHaveRows s (a_sequence e cs) (fields vs) true (concat xs) (seq_row rs)
    set_listed : {e : Bool} {cs : List Component} {vs : Row} {xs zs : Encodings} {rs : Rows} {p q : List ℕ}
        → MembersHaveRows s cs vs xs rs
        → ArePlacedAt p q xs zs
        → ContentsHaveRows s (a_set e cs) (fields vs) true (concat zs) (set_row rs p q)
    sequence_of_listed : {u : TypeNumber} {c : Constraint} {vs : Row} {xs : Encodings} {rs : Rows}
        → ElementsHaveRows s u vs xs rs
        → ContentsHaveRows s (a_sequence_of c u) (list vs) true (concat xs) (seqof_row rs)
    set_of_listed : {u : TypeNumber} {c : Constraint} {vs : Row} {xs zs : Encodings} {rs : Rows} {p q : List ℕ}
        → ElementsHaveRows s u vs xs rs
        → ArePlacedAt p q xs zs
        → ContentsHaveRows s (a_set_of c u) (list vs) true (concat zs) (setof_row rs p q)
    -- alternatives are counted over root and additions
    choice_listed : {i : ℕ} {e : Bool} {root more : List Alternative} {b : Alternative} {v : AbstractValue} {x : Octets}
        {a : Account}
        → slice_get (root ++ more) i ≡ Some b
        → Describes s b.type v x a
        → ContentsHaveRows s (a_choice root e more) (alternative i v) true x (wrap_row a)

  -- The rows describe how the encodings are those of the components, in order of definition. A component that is the
  -- same as its DEFAULT, or absent with a DEFAULT, has the row `default_row`. Any other component that is absent has
  -- `absent_row`. The rest are written.
  pub data MembersHaveRows (s : List Resolved) : List Component → Row → Encodings → Rows → Type 0 where
    no_member_listed : MembersHaveRows s [] end [] no_row
    absent_listed : {c : Component} {cs : List Component} {vs : Row} {xs : Encodings} {rs : Rows}
        → ((d : AbstractValue) → c.presence ≡ default d → ⊥)
        → MembersHaveRows s cs vs xs rs
        → MembersHaveRows s (c ∷ cs) (absent vs) xs (absent_row rs)
    absent_default_listed : {c : Component} {cs : List Component} {vs : Row} {xs : Encodings} {rs : Rows}
        → (d : AbstractValue)
        → c.presence ≡ default d
        → MembersHaveRows s cs vs xs rs
        → MembersHaveRows s (c ∷ cs) (absent vs) xs (default_row rs)
    default_listed : {c : Component} {cs : List Component} {v : AbstractValue} {vs : Row} {xs : Encodings} {rs : Rows}
        → IsDefault s c v  -- 11.5
        → MembersHaveRows s cs vs xs rs
        → MembersHaveRows s (c ∷ cs) (present v vs) xs (default_row rs)
    member_listed : {c : Component} {cs : List Component} {v : AbstractValue} {vs : Row} {x : Octets} {xs : Encodings}
        {a : Account} {rs : Rows}
        → (IsDefault s c v → ⊥)
        → Describes s c.type v x a
        → MembersHaveRows s cs vs xs rs
        → MembersHaveRows s (c ∷ cs) (present v vs) (x ∷ xs) (written a rs)

  -- the rows describe how the encodings are those of the elements, all of type u, in the order of the value; each is
  -- written
  pub data ElementsHaveRows (s : List Resolved) : TypeNumber → Row → Encodings → Rows → Type 0 where
    no_element_listed : {u : TypeNumber} → ElementsHaveRows s u end [] no_row
    element_listed : {u : TypeNumber} {v : AbstractValue} {vs : Row} {x : Octets} {xs : Encodings} {a : Account}
        {rs : Rows}
        → Describes s u v x a
        → ElementsHaveRows s u vs xs rs
        → ElementsHaveRows s u (present v vs) (x ∷ xs) (written a rs)
