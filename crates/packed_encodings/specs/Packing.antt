-- The canonical unaligned packed encodings of a value, in bits (X.691, clauses 19 to 23).
use Rattle.std.specs.Prelude.{◌≡◌, ℕ, ◌+◌, ◌-◌, ◌<◌, ◌≤◌, ◌⊎◌, Bool, true, false, ◌||◌, List, [], ◌∷◌, ◌++◌}
use Rattle.std.specs.Prelude.{length, replicate, Some, slice_get}
use Rattle.asn_base.specs.declared.tag.Tag.{Tag}
use Rattle.asn_base.specs.Abstract.{AbstractValue, fields, list, alternative, Row, end, present}
use Rattle.asn_base.specs.Types.{Constraint, Alternative, Kind, a_sequence, a_set, a_sequence_of, a_set_of, a_choice}
use Rattle.asn_base.specs.Types.{TypeNumber, Component, Resolved, Is}
use Rattle.asn_base.specs.Typed.{IsValue}
use Rattle.asn_base.specs.Same.{Same}
use Rattle.bits.specs.Words.{low_bits}
use Rattle.encodings.specs.Header.{Octets}
use Rattle.encodings.specs.Encoding.{IsDefault}
use Rattle.packed_encodings.specs.Lengths.{Bits, Items, Sized}
use Rattle.packed_encodings.specs.Leaves.{place_bits, root_bit, LeafPer}
use Rattle.packed_encodings.specs.Orders.{canonical_place, Member, missing, standing, any_present, Beside, root_members}
use Rattle.packed_encodings.specs.Orders.{past_marker}
use Rattle.packed_encodings.specs.Orders.{canonical, has_bit, Addition, alone, bracketed, additions, BitsAscend}
use Rattle.packed_encodings.specs.Padding.{Padded, Open, UnknownAdditions}
use Rattle.packed_encodings.specs.Weights.{weight}

-- The form that is written, or the form that is read (X.691, clause 19). A reader also takes what another version of
-- the type writes, with fewer additions or with more of them.
pub data Form : Type 0 where
  exact : Form
  lenient : Form

-- whether one of the bits is 1
abbrev pub any_set : Bits → Bool
any_set [] = false
any_set (b ∷ bs) = b || any_set bs

-- In form f the bits m say which additions are present (X.691, clause 19.8), with q for the type's additions and u for
-- further ones. Written bits have the type's own additions. Bits that are read may lack the last of them, which are
-- then absent, or have more.
abbrev pub AnnounceAdditions : Form → Bits → Bits → Bits → Type 0
AnnounceAdditions exact q u m = (m ≡ q) × (u ≡ [])
AnnounceAdditions lenient q u m = (m ≡ q ++ u) ⊎ ((u ≡ []) × (n : ℕ) × (q ≡ m ++ replicate n false))

-- The last bits are the bits r of the root with additions after them, if the type has an extension marker, as the flag
-- says (X.691, clause 19). The bits q say which of the type's additions are present, and d are their open types. There
-- are k additions that the type lacks.
pub data Extended (f : Form) : Bool → Bits → Bits → Bits → ℕ → Bits → Type 0 where
  no_marker : {r : Bits} → Extended f false r [] [] 0 r
  -- no addition is present
  no_member_present : {r q : Bits}
      → any_set q ≡ false
      → Extended f true r q [] 0 (false ∷ r)  -- 19.1
  -- additions are present; x are the open types of those that the type lacks, and u their bits
  some_member_present : {r q d u x : Bits} {k : ℕ} (m : Bits)
      → AnnounceAdditions f q u m
      → any_set m ≡ true  -- 19.1
      → length m ≤ 64  -- 19.8
      → UnknownAdditions u k x
      -- 19.7 to 19.9
      → Extended f true r q d k (true ∷ (r ++ (false ∷ (low_bits 6 (length m - 1) ++ (m ++ (d ++ x))))))

mutual
  -- in form f the bits encode exactly w, a value of type t of schema s, with n additions in it that the type lacks
  pub data EncodesPer (s : List Resolved) (f : Form) : TypeNumber → AbstractValue → ℕ → Bits → Type 0 where
    says : {t n : ℕ} {tags : List Tag} {k : Kind} {w : AbstractValue} {b : Bits}
        → Is s t tags k
        → EncodesKindPer s f k w n b
        → EncodesPer s f t w n b

  -- in form f the bits encode exactly w, a value of kind k of schema s, with n additions in it that the type lacks
  pub data EncodesKindPer (s : List Resolved) (f : Form) : Kind → AbstractValue → ℕ → Bits → Type 0 where
    leaf : {k : Kind} {w : AbstractValue} {b : Bits} → LeafPer k w b → EncodesKindPer s f k w 0 b
    -- in order of definition
    sequence : {i j k : ℕ} {e : Bool} {cs : List Component} {ws : Row} {ms : List (Member AbstractValue)}
        {p b q d x : Bits}
        → Beside cs ws ms
        → MembersPer s f (root_members ms) i p b
        → Additions s f (additions (past_marker ms)) j q d
        → Extended f e (p ++ b) q d k x
        → EncodesKindPer s f (a_sequence e cs) (fields ws) (i + (j + k)) x  -- 19
    -- the root is in the canonical order of its tags, and additions are in order of definition
    set : {i j k : ℕ} {e : Bool} {cs : List Component} {ws : Row} {ms : List (Member AbstractValue)}
        {p b q d x : Bits}
        → Beside cs ws ms
        → MembersPer s f (canonical s (root_members ms)) i p b  -- 21.1
        → Additions s f (additions (past_marker ms)) j q d
        → Extended f e (p ++ b) q d k x
        → EncodesKindPer s f (a_set e cs) (fields ws) (i + (j + k)) x  -- 21
    sequence_of : {u n : ℕ} {c : Constraint} {ws : Row} {xs : Items} {b : Bits}
        → ElementsPer s f u ws n xs
        → Sized c.visible xs b
        → EncodesKindPer s f (a_sequence_of c u) (list ws) n b  -- 20
    -- the elements in the order of the value, which is that of their bits
    set_of : {u n : ℕ} {c : Constraint} {ws : Row} {xs : Items} {b : Bits}
        → ElementsPer s f u ws n xs
        → BitsAscend xs  -- 22.1
        → Sized c.visible xs b
        → EncodesKindPer s f (a_set_of c u) (list ws) n b  -- 22
    -- an alternative of the root after its place in the canonical order of tags
    choice : {i n : ℕ} {e : Bool} {root more : List Alternative} {a : Alternative} {w : AbstractValue} {x : Bits}
        → slice_get root i ≡ Some a
        → EncodesPer s f a.type w n x
        → EncodesKindPer s f (a_choice root e more) (alternative i w) n
        (root_bit e ++ (place_bits (length root) (canonical_place s root a.type) ++ x))  -- 23.4 to 23.7
    -- an alternative after the marker as an open type, after its place among those
    added_choice : {i n : ℕ} {root more : List Alternative} {a : Alternative} {w : AbstractValue} {x y : Bits} (j : ℕ)
        → i ≡ length root + j
        → slice_get more j ≡ Some a
        → j < 64
        → EncodesPer s f a.type w n x
        → Open x y
        -- 23.8
        → EncodesKindPer s f (a_choice root true more) (alternative i w) n (true ∷ (false ∷ (low_bits 6 j ++ y)))

  -- The bits p say which components of those that may be absent are present, and the bits b are the encodings of the
  -- present ones (X.691, clauses 19 and 21). No component that is present is the same as its DEFAULT (19.5), unless
  -- additions were skipped within it (own rule).
  pub data MembersPer (s : List Resolved) (f : Form) : List (Member AbstractValue) → ℕ → Bits → Bits → Type 0 where
    no_member : MembersPer s f [] 0 [] []
    -- a component that has no bit is present
    must_be_present : {c : Component} {w : AbstractValue} {ms : List (Member AbstractValue)} {j n : ℕ} {x p b : Bits}
        → has_bit c.presence ≡ false
        → EncodesPer s f c.type w j x
        → MembersPer s f ms n p b
        → MembersPer s f (standing c w ∷ ms) (j + n) p (x ++ b)  -- 19.4
    -- a component that has a bit is present
    may_be_present : {c : Component} {w : AbstractValue} {ms : List (Member AbstractValue)} {j n : ℕ} {x p b : Bits}
        → has_bit c.presence ≡ true
        → EncodesPer s f c.type w j x
        → (j ≡ 0 → IsDefault s c w → ⊥)  -- 19.5
        → MembersPer s f ms n p b
        → MembersPer s f (standing c w ∷ ms) (j + n) (true ∷ p) (x ++ b)  -- 19.2, 19.4
    is_missing : {c : Component} {ms : List (Member AbstractValue)} {n : ℕ} {p b : Bits}
        → has_bit c.presence ≡ true
        → MembersPer s f ms n p b
        → MembersPer s f (missing c ∷ ms) n (false ∷ p) b  -- 19.2

  -- The bits q say whether each addition is present, and the bits d are the open types of those that are (X.691, clause
  -- 19.9). The components in version brackets are one addition, which is encoded as a SEQUENCE.
  pub data Additions (s : List Resolved) (f : Form) : List (Addition AbstractValue) → ℕ → Bits → Bits → Type 0 where
    no_addition : Additions s f [] 0 [] []
    added : {c : Component} {w : AbstractValue} {as' : List (Addition AbstractValue)} {j n : ℕ} {x y q d : Bits}
        → EncodesPer s f c.type w j x
        → Open x y
        → Additions s f as' n q d
        → Additions s f (alone (standing c w) ∷ as') (j + n) (true ∷ q) (y ++ d)  -- 19.9
    not_added : {c : Component} {as' : List (Addition AbstractValue)} {n : ℕ} {q d : Bits}
        → Additions s f as' n q d
        → Additions s f (alone (missing c) ∷ as') n (false ∷ q) d
    -- a component in version brackets is present
    group : {ms : List (Member AbstractValue)} {as' : List (Addition AbstractValue)} {j n : ℕ} {p b y q d : Bits}
        → any_present ms ≡ true
        → MembersPer s f ms j p b
        → Open (p ++ b) y
        → Additions s f as' n q d
        → Additions s f (bracketed ms ∷ as') (j + n) (true ∷ q) (y ++ d)  -- 19.9
    -- all components in version brackets are absent
    no_group : {ms : List (Member AbstractValue)} {as' : List (Addition AbstractValue)} {n : ℕ} {q d : Bits}
        → any_present ms ≡ false
        → Additions s f as' n q d
        → Additions s f (bracketed ms ∷ as') n (false ∷ q) d  -- 19.9

  -- the items are the bits of the elements, all of type u, in the order of the row (X.691, clauses 20 and 22)
  pub data ElementsPer (s : List Resolved) (f : Form) : TypeNumber → Row → ℕ → Items → Type 0 where
    no_element : {u : TypeNumber} → ElementsPer s f u end 0 []
    element : {u : TypeNumber} {w : AbstractValue} {ws : Row} {j n : ℕ} {x : Bits} {xs : Items}
        → EncodesPer s f u w j x
        → ElementsPer s f u ws n xs
        → ElementsPer s f u (present w ws) (j + n) (x ∷ xs)

-- The bits are the written bits of a value that is the same as v, of type t of schema s.
abbrev pub Packed : List Resolved → TypeNumber → AbstractValue → Bits → Type 0
Packed s t v b = (w : AbstractValue) × Same s t v w × EncodesPer s exact t w 0 b

-- Octets o are a message of w, a value of type t of schema s, with k additions that the type lacks (X.691, clause
-- 11.1). They are bits of w in the form that is read, filled to octets. The nodes of w and the octets of its character
-- strings are together at most 2^24 (own rule).
pub record Reads (s : List Resolved) (t : TypeNumber) (w : AbstractValue) (k : ℕ) (o : Octets) : Type 0 where
  pub value : IsValue s t w
  pub light : weight w ≤ 16777216
  pub bits : Bits
  pub says_it : EncodesPer s lenient t w k bits
  pub filled : Padded bits o
