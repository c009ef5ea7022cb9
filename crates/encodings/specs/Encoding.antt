-- Encodings of a value by the basic and the distinguished rules (X.690, clauses 8.9 to 8.14, 10 and 11).
use Rattle.std.specs.Prelude.{◌≡◌, ℕ, suc, ◌+◌, ◌≤◌, Bool, true, false, if◌then◌else◌, ◌||◌}
use Rattle.std.specs.Prelude.{List, [], ◌∷◌, ◌++◌, length, Some, slice_get}
use Rattle.std.specs.List.{concat, AllByRecursion}
use Rattle.std.specs.Int.Digits.{AllBelowBase}
use Rattle.asn_base.specs.declared.tag.Tag.{Tag}
use Rattle.asn_base.specs.Abstract.{AbstractValue, fields, list, alternative, Row, end, absent, present}
use Rattle.asn_base.specs.Types.{Constraint, Alternative, Kind, a_sequence, a_set, a_sequence_of, a_set_of, a_choice}
use Rattle.asn_base.specs.Types.{TypeNumber, default, Component, Resolved, Is}
use Rattle.asn_base.specs.Tags.{First, is_mandatory}
use Rattle.asn_base.specs.Same.{Alike, Same}
use Rattle.encodings.specs.Rules.{Rules, Basic, Distinguished, Strictly, Sorted}
use Rattle.encodings.specs.Header.{Octets, Encodings, Header, HeaderBy}
use Rattle.encodings.specs.Contents.{Contents}
use Rattle.encodings.specs.Orders.{Ascending, AtMost, InTagOrder, Permutes, Merges}

-- By rules r the whole octets are the contents x after the headers of these tags, the outermost first (X.690, clause
-- 8.14). All but the last tag are explicit, and an untagged CHOICE has no header.
pub data Framed (r : Rules) : List Tag → Bool → Octets → Octets → Type 0 where
  -- an untagged CHOICE has no header
  bare : {c : Bool} {x : Octets} → Framed r [] c x x
  innermost : {t : Tag} {c : Bool} {h x : Octets} → HeaderBy r t c (length x) h → Framed r (t ∷ []) c x (h ++ x)
  outer : {t u : Tag} {ts : List Tag} {c : Bool} {h x y : Octets}
      → Framed r (u ∷ ts) c x y
      → HeaderBy r t true (length y) h  -- 8.14.2
      → Framed r (t ∷ u ∷ ts) c x (h ++ y)

-- The encodings are k additions that the type lacks (X.680, clauses 7 and 52). Each is a header, whose tag is a first
-- tag of no known component (own rule), and as many contents octets as the header promises.
pub data Unknown (s : List Resolved) (known : List Component) : ℕ → Encodings → Type 0 where
  no_unknown : Unknown s known 0 []
  unknown : {k : ℕ} {g : Tag} {c : Bool} {h : Octets} (x : Octets) {xs : Encodings}
      → Header g c (length x) h
      → AllBelowBase 256 x
      → AllByRecursion (λ m. First s m.type g → ⊥) known
      → Unknown s known k xs
      → Unknown s known (suc k) ((h ++ x) ∷ xs)

-- The encodings are k additions that the type lacks, and there are none unless the type is extensible, as the flag says
-- (X.680, clauses 7 and 52).
pub data UnknownIf (s : List Resolved) (known : List Component) : Bool → ℕ → Encodings → Type 0 where
  closed : UnknownIf s known false 0 []
  extensible : {k : ℕ} {xs : Encodings} → Unknown s known k xs → UnknownIf s known true k xs

-- whether one of the components is in the root, not OPTIONAL and without DEFAULT (X.680, clause 25)
abbrev pub any_mandatory : List Component → Bool
any_mandatory [] = false
any_mandatory (c ∷ cs) = is_mandatory c || any_mandatory cs

-- the components after the last mandatory one, with the additions (own rule)
abbrev pub last_run : List Component → List Component
last_run [] = []
last_run (c ∷ cs) = if any_mandatory cs then last_run cs else (if is_mandatory c then cs else c ∷ cs)

-- component c has a DEFAULT, and its value w is the same as that (X.690, clause 11.5)
abbrev pub IsDefault : List Resolved → Component → AbstractValue → Type 0
IsDefault s c w = (d : AbstractValue) × (c.presence ≡ default d) × Alike s c.type w d

mutual
  -- by rules r the octets encode exactly w, a value of type t of schema s, with n unknown additions in it
  pub data EncodesTo (s : List Resolved) (r : Rules) : TypeNumber → AbstractValue → ℕ → Octets → Type 0 where
    -- the contents are in the headers of the type's tags
    says : {t : TypeNumber} {n : ℕ} {tags : List Tag} {k : Kind} {w : AbstractValue} {c : Bool} {x o : Octets}
        → Is s t tags k
        → ContentsEncode s r k w n c x
        → Framed r tags c x o
        → EncodesTo s r t w n o

  -- By rules r the contents octets x encode exactly w, a value of kind k, with n unknown additions (X.690, clauses 8.2
  -- to 8.13). The flag says that they are constructed.
  pub data ContentsEncode (s : List Resolved) (r : Rules) : Kind → AbstractValue → ℕ → Bool → Octets → Type 0 where
    leaf : {k : Kind} {w : AbstractValue} {c : Bool} {x : Octets} → Contents r k w c x → ContentsEncode s r k w 0 c x
    -- the components are in order of definition, and unknown additions are at the end
    sequence : {j k : ℕ} {e : Bool} {cs : List Component} {ws : Row} {xs us : Encodings}
        → Members s r cs ws j xs  -- 8.9.2, 8.9.3
        → UnknownIf s (last_run cs) e k us
        → ContentsEncode s r (a_sequence e cs) (fields ws) (j + k) true (concat (xs ++ us))
    -- the components are in any order, by the distinguished rules in that of their tags; unknown additions are anywhere
    set : {j k : ℕ} {e : Bool} {cs : List Component} {ws : Row} {xs zs us ys : Encodings}
        → Members s r cs ws j xs  -- 8.11.2, 8.11.3
        → Permutes xs zs
        → Sorted r (Ascending InTagOrder zs)  -- 10.3
        → UnknownIf s cs e k us
        → Merges zs us ys
        → ContentsEncode s r (a_set e cs) (fields ws) (j + k) true (concat ys)
    -- the elements are in the order of the value
    sequence_of : {u : TypeNumber} {n : ℕ} {c : Constraint} {ws : Row} {xs : Encodings}
        → Elements s r u ws n xs  -- 8.10.2, 8.10.3
        → ContentsEncode s r (a_sequence_of c u) (list ws) n true (concat xs)
    -- the elements are in the order of the value; by the distinguished rules this is the order of their encodings
    set_of : {u : TypeNumber} {n : ℕ} {c : Constraint} {ws : Row} {xs : Encodings}
        → Elements s r u ws n xs  -- 8.12.2, 8.12.3
        → Sorted r (Ascending AtMost xs)  -- 11.6
        → ContentsEncode s r (a_set_of c u) (list ws) n true (concat xs)
    -- the contents are the encoding of the alternative, after explicit tags if there are any
    choice : {i n : ℕ} {e : Bool} {root more : List Alternative} {a : Alternative} {w : AbstractValue} {x : Octets}
        → slice_get (root ++ more) i ≡ Some a
        → EncodesTo s r a.type w n x  -- 8.13
        → ContentsEncode s r (a_choice root e more) (alternative i w) n true x

  -- The encodings, in octets, are those of the components that are present, in order of definition, mandatory ones
  -- among them (X.690, clauses 8.9 and 8.11). By the distinguished rules no component is the same as its DEFAULT
  -- (11.5), unless additions were skipped within it (own rule).
  pub data Members (s : List Resolved) (r : Rules) : List Component → Row → ℕ → Encodings → Type 0 where
    no_member : Members s r [] end 0 []
    left_out : {c : Component} {cs : List Component} {ws : Row} {n : ℕ} {xs : Encodings}
        → is_mandatory c ≡ false
        → Members s r cs ws n xs
        → Members s r (c ∷ cs) (absent ws) n xs
    member : {c : Component} {cs : List Component} {w : AbstractValue} {ws : Row} {j n : ℕ} {x : Octets}
        {xs : Encodings}
        → EncodesTo s r c.type w j x
        → Strictly r (j ≡ 0 → IsDefault s c w → ⊥)  -- 11.5
        → Members s r cs ws n xs
        → Members s r (c ∷ cs) (present w ws) (j + n) (x ∷ xs)

  -- the encodings, in octets, are those of the elements, all of type u, in the order of the row (X.690, clauses 8.10
  -- and 8.12)
  pub data Elements (s : List Resolved) (r : Rules) : TypeNumber → Row → ℕ → Encodings → Type 0 where
    no_element : {u : TypeNumber} → Elements s r u end 0 []
    element : {u : TypeNumber} {w : AbstractValue} {ws : Row} {j n : ℕ} {x : Octets} {xs : Encodings}
        → EncodesTo s r u w j x
        → Elements s r u ws n xs
        → Elements s r u (present w ws) (j + n) (x ∷ xs)

-- By rules r the octets encode exactly a value that is the same as v, of type t of schema s, with k unknown additions.
abbrev pub EncodesBy : Rules → List Resolved → TypeNumber → AbstractValue → ℕ → Octets → Type 0
EncodesBy r s t v k o = (w : AbstractValue) × Same s t v w × EncodesTo s r t w k o

-- by the basic rules the octets encode v, a value of type t of schema s, with k unknown additions (X.690, clause 8)
abbrev pub Ber : List Resolved → TypeNumber → AbstractValue → ℕ → Octets → Type 0
Ber = EncodesBy Basic

-- by the distinguished rules the octets encode v, a value of type t of schema s, with k unknown additions (X.690,
-- clauses 8, 10 and 11)
abbrev pub Der : List Resolved → TypeNumber → AbstractValue → ℕ → Octets → Type 0
Der = EncodesBy Distinguished

-- octets o are an encoding of v by the basic rules, with no unknown additions, and no such encoding has fewer octets
pub record Shortest (s : List Resolved) (t : TypeNumber) (v : AbstractValue) (o : Octets) : Type 0 where
  pub is : Ber s t v 0 o
  pub least : (p : Octets) → Ber s t v 0 p → length o ≤ length p
