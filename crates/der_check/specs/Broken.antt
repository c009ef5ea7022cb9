-- Which rule of DER an encoding by the basic rules breaks, and at which octet (X.690, clauses 10 and 11).
use Rattle.std.specs.Prelude.{◌≡◌, ℕ, ◌+◌, ◌-◌, ◌<◌, ◌≤◌, Bool, true, false, List, [], ◌∷◌, ◌++◌, length}
use Rattle.std.specs.Prelude.{Some, slice_get}
use Rattle.std.specs.List.{concat}
use Rattle.asn_base.specs.declared.tag.Tag.{Tag}
use Rattle.asn_base.specs.Abstract.{AbstractValue, boolean, bits, fields, list, alternative, Row, absent, present}
use Rattle.asn_base.specs.Types.{Constraint, NamedBit, Alternative, Kind, a_boolean, a_bit_string, a_named_bit_string}
use Rattle.asn_base.specs.Types.{a_sequence, a_set, a_sequence_of, a_set_of, a_choice, TypeNumber, Component}
use Rattle.asn_base.specs.Types.{Resolved, Is}
use Rattle.encodings.specs.Header.{Octets, Encodings, Header, FewestOctets, identifier}
use Rattle.encodings.specs.Rules.{Basic, Distinguished}
use Rattle.encodings.specs.Strings.{WholeBits}
use Rattle.encodings.specs.Contents.{Contents, EndsInOne, FilledWithZeros}
use Rattle.encodings.specs.Orders.{AtMost, InTagOrder, Permutes, Merges}
use Rattle.encodings.specs.Encoding.{Framed, UnknownIf, last_run, EncodesTo, ContentsEncode, Members, Elements}
use Rattle.encodings.specs.Encoding.{IsDefault}
use Rattle.der_check.specs.declared.rule.RuleOfDer.{RuleOfDer}
use Rattle.der_check.specs.declared.rule.RuleOfDer.TheVariants.{FewestLengthOctets, PrimitiveString, OrderOfTags}
use Rattle.der_check.specs.declared.rule.RuleOfDer.TheVariants.{AllBitsOfTrue, ZerosAsUnusedBits, LastNamedBit}
use Rattle.der_check.specs.declared.rule.RuleOfDer.TheVariants.{NoDefault, OrderOfElements}

-- rule r is broken at offset n, and no rule is at a lower offset
pub record IsFirst (B : RuleOfDer → ℕ → Type 0) (r : RuleOfDer) (n : ℕ) : Type 0 where
  pub broken : B r n
  pub none_before : (q : RuleOfDer) (m : ℕ) → B q m → n ≤ m

-- ---- headers

-- By the basic rules the octets are the contents x in headers of these tags. One of the headers has more length octets
-- than its length needs, and the first one of these is at offset n (X.690, clause 10.1).
pub data HasLongHeader : List Tag → Bool → Octets → Octets → ℕ → Type 0 where
  -- it is the innermost one
  long_innermost : {t : Tag} {c : Bool} {h x : Octets}
      → Header t c (length x) h
      → (FewestOctets t c (length x) h → ⊥)
      → HasLongHeader (t ∷ []) c x (h ++ x) (length (identifier t.class t.number c))
  -- it is the outermost one, of several
  long_outer : {t u : Tag} {ts : List Tag} {c : Bool} {h x y : Octets}
      → Framed Basic (u ∷ ts) c x y
      → Header t true (length y) h
      → (FewestOctets t true (length y) h → ⊥)
      → HasLongHeader (t ∷ u ∷ ts) c x (h ++ y) (length (identifier t.class t.number true))
  -- it is within the outermost one
  long_within : {t u : Tag} {ts : List Tag} {c : Bool} {h x y : Octets} {n : ℕ}
      → HasLongHeader (u ∷ ts) c x y n
      → Header t true (length y) h
      → HasLongHeader (t ∷ u ∷ ts) c x (h ++ y) (length h + n)

-- By the basic rules the octets are the contents x in headers of these tags, and the innermost header is at offset n.
pub data HasInnermost : List Tag → Bool → Octets → Octets → ℕ → Type 0 where
  innermost_first : {t : Tag} {c : Bool} {h x : Octets}
      → Header t c (length x) h
      → HasInnermost (t ∷ []) c x (h ++ x) 0
  innermost_within : {t u : Tag} {ts : List Tag} {c : Bool} {h x y : Octets} {n : ℕ}
      → HasInnermost (u ∷ ts) c x y n
      → Header t true (length y) h
      → HasInnermost (t ∷ u ∷ ts) c x (h ++ y) (length h + n)

-- ---- contents that hold no others

-- The primitive contents octets encode a value of a kind that holds no others by the basic rules. They break a rule at
-- offset n of them.
pub data PrimitiveBreaks : Kind → AbstractValue → Octets → RuleOfDer → ℕ → Type 0 where
  -- not all bits of TRUE are set (11.1)
  other_true : {x : ℕ}
      → 0 < x
      → x < 256
      → (x ≡ 255 → ⊥)
      → PrimitiveBreaks a_boolean (boolean true) (x ∷ []) AllBitsOfTrue 0
  -- an unused bit is a one, and is in the last octet (11.2.1)
  one_unused : {z : Constraint} {bs : List Bool} {x : Octets}
      → WholeBits bs x
      → (FilledWithZeros bs x → ⊥)
      → PrimitiveBreaks (a_bit_string z) (bits bs) x ZerosAsUnusedBits (length x - 1)
  -- the same with named bits
  one_unused_named : {ns : List NamedBit} {bs : List Bool} {x : Octets}
      → WholeBits bs x
      → (FilledWithZeros bs x → ⊥)
      → PrimitiveBreaks (a_named_bit_string ns) (bits bs) x ZerosAsUnusedBits (length x - 1)
  -- all unused bits are zeros, and the last named bit is a zero, in the last octet (11.2.2)
  zero_last : {ns : List NamedBit} {bs : List Bool} {x : Octets}
      → WholeBits bs x
      → FilledWithZeros bs x
      → (EndsInOne bs → ⊥)
      → PrimitiveBreaks (a_named_bit_string ns) (bits bs) x LastNamedBit (length x - 1)

-- ---- places among encodings

-- an encoding starts at offset n of encodings that follow one another
pub data StartsAt (x : Octets) : ℕ → Encodings → Type 0 where
  starts_first : {ys : Encodings} → StartsAt x 0 (x ∷ ys)
  starts_later : {n : ℕ} {y : Octets} {ys : Encodings} → StartsAt x n ys → StartsAt x (length y + n) (y ∷ ys)

-- The first encoding that isn't in order R after the one before it is y, at offset n of encodings that follow one
-- another.
pub data FirstFall (R : Octets → Octets → Type 0) : Encodings → Octets → ℕ → Type 0 where
  falls_here : {x y : Octets} {ys : Encodings}
      → (R x y → ⊥)
      → FirstFall R (x ∷ y ∷ ys) y (length x)
  falls_later : {x y z : Octets} {ys : Encodings} {n : ℕ}
      → R x y
      → FirstFall R (y ∷ ys) z n
      → FirstFall R (x ∷ y ∷ ys) z (length x + n)

-- Of components, their values and the encodings of those that are present, component c is present, with value w and
-- encoding x. The encoding is at offset n of the encodings.
pub data HasMember : List Component → Row → Encodings → Component → AbstractValue → Octets → ℕ → Type 0 where
  member_first : {c : Component} {cs : List Component} {w : AbstractValue} {ws : Row} {x : Octets} {xs : Encodings}
      → HasMember (c ∷ cs) (present w ws) (x ∷ xs) c w x 0
  after_absent : {c d : Component} {cs : List Component} {w : AbstractValue} {ws : Row} {x : Octets} {xs : Encodings}
      {n : ℕ}
      → HasMember cs ws xs c w x n
      → HasMember (d ∷ cs) (absent ws) xs c w x n
  after_present : {c d : Component} {cs : List Component} {v w : AbstractValue} {ws : Row} {x y : Octets}
      {xs : Encodings} {n : ℕ}
      → HasMember cs ws xs c w x n
      → HasMember (d ∷ cs) (present v ws) (y ∷ xs) c w x (length y + n)

-- Of elements and their encodings, the element with value w has encoding x, which is at offset n of the encodings.
pub data HasElement : Row → Encodings → AbstractValue → Octets → ℕ → Type 0 where
  element_first : {w : AbstractValue} {ws : Row} {x : Octets} {xs : Encodings}
      → HasElement (present w ws) (x ∷ xs) w x 0
  element_later : {v w : AbstractValue} {ws : Row} {x y : Octets} {xs : Encodings} {n : ℕ}
      → HasElement ws xs w x n
      → HasElement (present v ws) (y ∷ xs) w x (length y + n)

-- ---- values

mutual
  -- By the basic rules the octets o encode w, a value of type t of schema s. They break this rule of DER at offset n of
  -- them.
  pub data Breaks (s : List Resolved) : TypeNumber → AbstractValue → Octets → RuleOfDer → ℕ → Type 0 where
    -- a header has more length octets than its length needs (10.1)
    long_length : {t : TypeNumber} {j n : ℕ} {tags : List Tag} {k : Kind} {w : AbstractValue} {c : Bool} {x o : Octets}
        → Is s t tags k
        → ContentsEncode s Basic k w j c x
        → HasLongHeader tags c x o n
        → Breaks s t w o FewestLengthOctets n
    -- a string is in segments (10.2)
    in_segments : {t : TypeNumber} {n : ℕ} {tags : List Tag} {k : Kind} {w : AbstractValue} {x o : Octets}
        → Is s t tags k
        → Contents Basic k w true x
        → HasInnermost tags true x o n
        → Breaks s t w o PrimitiveString n
    -- the contents octets break a rule
    by_contents : {t : TypeNumber} {n : ℕ} {tags : List Tag} {k : Kind} {w : AbstractValue} {c : Bool} {x o : Octets}
        {r : RuleOfDer}
        → Is s t tags k
        → Framed Basic tags c x o
        → ContentsBreak s k w c x r n
        → Breaks s t w o r ((length o - length x) + n)

  -- By the basic rules the contents octets x encode w, a value of kind k. They break this rule at offset n of them. The
  -- flag says that they are constructed.
  pub data ContentsBreak (s : List Resolved) : Kind → AbstractValue → Bool → Octets → RuleOfDer → ℕ → Type 0 where
    -- the contents hold no others (11.1, 11.2)
    by_primitive : {k : Kind} {w : AbstractValue} {x : Octets} {r : RuleOfDer} {n : ℕ}
        → PrimitiveBreaks k w x r n
        → ContentsBreak s k w false x r n
    -- the encoding of a component of a SEQUENCE breaks the rule
    in_sequence : {j k m n : ℕ} {e : Bool} {cs : List Component} {ws : Row} {xs us : Encodings} {c : Component}
        {w : AbstractValue} {x : Octets} {r : RuleOfDer}
        → Members s Basic cs ws j xs
        → UnknownIf s (last_run cs) e k us
        → HasMember cs ws xs c w x m
        → MemberBreaks s c w x r n
        → ContentsBreak s (a_sequence e cs) (fields ws) true (concat (xs ++ us)) r (m + n)
    -- the encoding of a component of a SET does, which is anywhere among the others
    in_set : {j k m n p : ℕ} {e : Bool} {cs : List Component} {ws : Row} {xs zs us ys : Encodings} {c : Component}
        {w : AbstractValue} {x : Octets} {r : RuleOfDer}
        → Members s Basic cs ws j xs
        → Permutes xs zs
        → UnknownIf s cs e k us
        → Merges zs us ys
        → HasMember cs ws xs c w x p
        → StartsAt x m ys
        → MemberBreaks s c w x r n
        → ContentsBreak s (a_set e cs) (fields ws) true (concat ys) r (m + n)
    -- The tag of a component's encoding doesn't come after that of the component's encoding before it (10.3). Such an
    -- encoding is first at offset n.
    by_tag : {j k n p : ℕ} {e : Bool} {cs : List Component} {ws : Row} {xs zs us ys : Encodings} {x : Octets}
        → Members s Basic cs ws j xs
        → Permutes xs zs
        → UnknownIf s cs e k us
        → Merges zs us ys
        → FirstFall InTagOrder zs x p
        → StartsAt x n ys
        → ContentsBreak s (a_set e cs) (fields ws) true (concat ys) OrderOfTags n
    -- the encoding of an element of a SEQUENCE OF breaks the rule
    in_sequence_of : {j m n : ℕ} {u : TypeNumber} {z : Constraint} {ws : Row} {xs : Encodings} {w : AbstractValue}
        {x : Octets} {r : RuleOfDer}
        → Elements s Basic u ws j xs
        → HasElement ws xs w x m
        → Breaks s u w x r n
        → ContentsBreak s (a_sequence_of z u) (list ws) true (concat xs) r (m + n)
    -- the same of a SET OF
    in_set_of : {j m n : ℕ} {u : TypeNumber} {z : Constraint} {ws : Row} {xs : Encodings} {w : AbstractValue}
        {x : Octets} {r : RuleOfDer}
        → Elements s Basic u ws j xs
        → HasElement ws xs w x m
        → Breaks s u w x r n
        → ContentsBreak s (a_set_of z u) (list ws) true (concat xs) r (m + n)
    -- The encoding of an element is less than the one before it (11.6). Such an encoding is first at offset n.
    by_element : {j n : ℕ} {u : TypeNumber} {z : Constraint} {ws : Row} {xs : Encodings} {x : Octets}
        → Elements s Basic u ws j xs
        → FirstFall AtMost xs x n
        → ContentsBreak s (a_set_of z u) (list ws) true (concat xs) OrderOfElements n
    -- the encoding of the alternative breaks the rule
    in_choice : {i n : ℕ} {e : Bool} {root more : List Alternative} {a : Alternative} {w : AbstractValue} {x : Octets}
        {r : RuleOfDer}
        → slice_get (root ++ more) i ≡ Some a
        → Breaks s a.type w x r n
        → ContentsBreak s (a_choice root e more) (alternative i w) true x r n

  -- The octets x encode w, the value of component c, by the basic rules. They break this rule at offset n of them.
  pub data MemberBreaks (s : List Resolved) : Component → AbstractValue → Octets → RuleOfDer → ℕ → Type 0 where
    in_member : {c : Component} {w : AbstractValue} {x : Octets} {r : RuleOfDer} {n : ℕ}
        → Breaks s c.type w x r n
        → MemberBreaks s c w x r n
    -- They break no rule otherwise, no additions were skipped within them, and the value is the same as the DEFAULT
    -- (11.5).
    by_default : {c : Component} {w : AbstractValue} {x : Octets}
        → EncodesTo s Distinguished c.type w 0 x
        → IsDefault s c w
        → MemberBreaks s c w x NoDefault 0
