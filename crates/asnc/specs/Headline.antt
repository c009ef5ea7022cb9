-- The headline: from the octets of texts to the octets of an encoding, and from octets to a printed value. The rules
-- are in X.680, clauses 12 to 51; X.690, clauses 8, 10 and 11; and X.691, clauses 10 to 30. It uses the words of the
-- standards alone: no routine, table or kit occurs.
use Rattle.std.specs.Prelude.{◌≡◌, ℕ, ◌≤◌, List, length}
use Rattle.asn_base.specs.Abstract.{AbstractValue}
use Rattle.asn_base.specs.Same.{Same}
use Rattle.asn_base.specs.Typed.{IsValue}
use Rattle.asn_base.specs.Types.{Resolved}
use Rattle.encodings.specs.Account.{Account, Describes}
use Rattle.value_text.specs.Print.{print}
use Rattle.encodings.specs.Encoding.{Ber, Der, EncodesBy, Shortest}
use Rattle.encodings.specs.Levels.{levels}
use Rattle.encodings.specs.Rules.{Rules}
use Rattle.packed_encodings.specs.Lengths.{Bits}
use Rattle.packed_encodings.specs.Packing.{Packed, Reads}
use Rattle.packed_encodings.specs.Padding.{Padded}
use Rattle.trees.specs.Values.{Name, Tree}
use Rattle.resolve.specs.Program.{Program}
use Rattle.judging.specs.front_end.Accepted.{Accepted}
use Rattle.judging.specs.front_end.ValueError.{DenotesValue}
use Rattle.account_checker.specs.Reasons.{IsRightAccount as IsRightBesideIt}
use Rattle.judging.specs.named_values.Named.{AreGiven, TypeNamed}
use Rattle.judging.specs.named_values.Given.{Given}

-- For these texts of modules, the name of a type and a value that is given, octets o are the value's DER encoding, and
-- account a describes them.
pub record IsRight (texts : List (List ℕ)) (first : List ℕ) (second : Given) (o : List ℕ) (a : Account) : Type 0 where
  -- the texts are accepted, as this program with these types
  pub program : Program
  pub types : List Resolved
  pub accepted : Accepted texts program types
  -- the first name is that of this type; the value that is given, by its name or by a text, has this notation, which is
  -- read in this module
  pub type : ℕ
  pub within : Name
  pub notation : Tree
  pub named : AreGiven program first second type within notation
  -- the notation means this value under the type, and the value is one of the type
  pub value : AbstractValue
  pub is_so : DenotesValue program within type notation value
  pub is : IsValue types type value
  -- the octets are an encoding of the value by the distinguished rules, and the only one
  pub der : Der types type value 0 o
  pub only : (q : List ℕ) → Der types type value 0 q → q ≡ o
  -- no encoding of the value by the basic rules, in any definite form of lengths, is shorter
  pub shortest : Shortest types type value o
  -- the account describes how the octets are made up
  pub account : Describes types type value o a
  -- the checker accepts the account
  pub checked : IsRightBesideIt types type value o a

-- For these texts of modules, the name of a type and a value that is given, octets o are the value's one message of
-- unaligned canonical PER (X.691, clause 11.1).
pub record IsRightlyPacked (texts : List (List ℕ)) (first : List ℕ) (second : Given) (o : List ℕ) : Type 0 where
  -- the texts are accepted, as this program with these types
  pub program : Program
  pub types : List Resolved
  pub accepted : Accepted texts program types
  -- the first name is that of this type; the value that is given, by its name or by a text, has this notation, which is
  -- read in this module
  pub type : ℕ
  pub within : Name
  pub notation : Tree
  pub named : AreGiven program first second type within notation
  -- the notation stands for this value under the type, and it is one of the type
  pub value : AbstractValue
  pub is_so : DenotesValue program within type notation value
  pub is : IsValue types type value
  -- the octets are the bits of the value, filled to octets, and no others are
  pub bits : Bits
  pub packed : Packed types type value bits
  pub filled : Padded bits o
  pub only : (b : Bits) (q : List ℕ) → Packed types type value b → Padded b q → q ≡ o
  -- the octets are read as a value that is the same, with no additions that the type lacks
  pub back : AbstractValue
  pub same : Same types type value back
  pub reads : Reads types type back 0 o
  -- and as no other value
  pub sole : (w : AbstractValue) (k : ℕ) → Reads types type w k o → (w ≡ back) × (k ≡ 0)

-- For these texts of modules, rules r, the name of a type and octets o, the printed text is the value that the octets
-- encode. k additions were skipped.
pub record IsRightlyRead (texts : List (List ℕ)) (r : Rules) (name o printed : List ℕ) (k : ℕ) : Type 0 where
  -- the texts are accepted, as this program with these types
  pub program : Program
  pub types : List Resolved
  pub accepted : Accepted texts program types
  -- the name is that of this type, and the printed text is a value of the type
  pub type : ℕ
  pub named : TypeNamed program name type
  pub value : AbstractValue
  pub is : IsValue types type value
  pub text : printed ≡ print types type value
  -- the octets are an encoding of the value by the basic rules, with k additions that the type lacks
  pub ber : Ber types type value k o
  -- the octets are also an encoding of the value by the rules that the caller asked for
  pub by_rules : EncodesBy r types type value k o
  -- any value of which the octets are an encoding is the same, with as many unknown additions
  pub same : (v : AbstractValue) (j : ℕ) → Ber types type v j o → Same types type v value × (j ≡ k)

-- For these texts of modules, the name of a type and octets o, the printed text is the value that the octets are a
-- message of, by unaligned canonical PER (X.691, clause 11.1). k additions were skipped.
pub record IsRightlyUnpacked (texts : List (List ℕ)) (name o printed : List ℕ) (k : ℕ) : Type 0 where
  -- the texts are accepted, as this program with these types
  pub program : Program
  pub types : List Resolved
  pub accepted : Accepted texts program types
  -- the name is that of this type, and the printed text is a value of the type
  pub type : ℕ
  pub named : TypeNamed program name type
  pub value : AbstractValue
  pub is : IsValue types type value
  pub text : printed ≡ print types type value
  -- the octets are a message of the value, with k additions that the type lacks
  pub reads : Reads types type value k o
  -- and of no other value, with no other number of unknown additions
  pub sole : (w : AbstractValue) (j : ℕ) → Reads types type w j o → (w ≡ value) × (j ≡ k)

-- The octets o are an encoding by the basic rules, in any definite form of lengths, of v, a value of the type with this
-- name (X.690, clause 8). They are within the limits of messages (own rule): at most 400 levels of headers, and
-- 16,777,216 octets.
pub record IsMessageOf (p : Program) (s : List Resolved) (name o : List ℕ) (v : AbstractValue) : Type 0 where
  pub type : ℕ
  pub named : TypeNamed p name type
  pub is : IsValue s type v
  pub ber : Ber s type v 0 o
  pub few : levels ber.2 ≤ 400
  pub short : length o ≤ 16777216

-- The printed text is a value of the type with this name that is the same as v, and k, the number of skipped additions,
-- is 0.
pub record IsAnswer (p : Program) (s : List Resolved) (name printed : List ℕ) (k : ℕ) (v : AbstractValue) : Type 0 where
  pub type : ℕ
  pub named : TypeNamed p name type
  pub value : AbstractValue
  pub same : Same s type v value
  pub text : printed ≡ print s type value
  pub none_skipped : k ≡ 0
