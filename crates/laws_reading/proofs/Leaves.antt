-- Contents octets don't depend on constraints, items and names.
use Rattle.std.proofs.Common.{arith, ◌≡◌, ℕ, ◌≤◌, Bool, true, false, List, refl}
use Rattle.asn_base.specs.declared.strings.StringKind.{StringKind}
use Rattle.asn_base.specs.Abstract.{AbstractValue}
use Rattle.asn_base.specs.Types.{Constraint, Item, NamedBit, Kind, an_integer, an_enumerated, a_bit_string, a_named_bit_string, an_octet_string, a_utf8_string, a_restricted_string}
use Rattle.encodings.specs.Rules.{Basic, Rules}
use Rattle.encodings.specs.Strings.{whole, whole_bits}
use Rattle.encodings.specs.Contents.{Contents, of_false, of_true, of_integer, of_enumerated, of_bits, of_named_bits, of_octets, of_null, of_oid, of_relative_oid, of_utf8, of_restricted}
use Rattle.encodings.specs.Levels.{leaf_levels}
use Rattle.encodings.specs.declared.leaf_kind.LeafKind.{LeafKind}
use Rattle.encodings.specs.Leaves.{plain}
use Rattle.octet_answers.specs.Answers.{AreContents}

-- contents of another kind, with as many levels
abbrev pub Moves : Kind → Kind → Type 0
Moves j k = (v : AbstractValue) (c : Bool) (x : List ℕ) (p : Contents Basic j v c x) → (q : Contents Basic k v c x) × (leaf_levels q ≡ leaf_levels p)

pub itself : (k : Kind) → Moves k k
itself k v c x p = (p, refl)

pub to_integer : (z y : Constraint) → Moves (an_integer z) (an_integer y)
to_integer z y v c x (of_integer a) = (of_integer a, refl)

pub to_enumerated : (r r' m m' : List Item) (e e' : Bool) → Moves (an_enumerated r e m) (an_enumerated r' e' m')
to_enumerated r r' m m' e e' v c x (of_enumerated a) = (of_enumerated a, refl)

pub to_bits : (z y : Constraint) → Moves (a_bit_string z) (a_bit_string y)
to_bits z y v c x (of_bits p e f) = (of_bits p e f, refl)

pub to_named_bits : (ns ms : List NamedBit) → Moves (a_named_bit_string ns) (a_named_bit_string ms)
to_named_bits ns ms v c x (of_named_bits p e f t) = (of_named_bits p e f t, refl)

pub to_octets : (z y : Constraint) → Moves (an_octet_string z) (an_octet_string y)
to_octets z y v c x (of_octets p e) = (of_octets p e, refl)

pub to_utf8 : (z y : Constraint) → Moves (a_utf8_string z) (a_utf8_string y)
to_utf8 z y v c x (of_utf8 p e) = (of_utf8 p e, refl)

pub to_restricted : (k : StringKind) (a b : List ℕ) (z y : Constraint) → Moves (a_restricted_string k a z) (a_restricted_string k b y)
to_restricted k a b z y v c x (of_restricted p e) = (of_restricted p e, refl)

-- primitive contents have no levels
pub flat : {r : Rules} {k : Kind} {v : AbstractValue} {x : List ℕ} (p : Contents r k v false x) → leaf_levels p ≡ 0
flat of_false = refl
flat (of_true l m e) = refl
flat (of_integer a) = refl
flat (of_enumerated a) = refl
flat (of_bits (whole_bits w) e f) = refl
flat (of_named_bits (whole_bits w) e f t) = refl
flat (of_octets (whole b) e) = refl
flat of_null = refl
flat (of_oid a) = refl
flat (of_relative_oid a) = refl
flat (of_utf8 (whole b) e) = refl
flat (of_restricted (whole b) e) = refl

pub record LeafRead (k : Kind) (v : AbstractValue) (c : Bool) (levels : ℕ) (x : List ℕ) : Type 0 where
  pub contents : Contents Basic k v c x
  pub few : leaf_levels contents ≤ levels

pub leaf_read : (c : Bool) (lk : LeafKind) (k : Kind) (v : AbstractValue) (levels : ℕ) (x : List ℕ) → Moves (plain lk) k → AreContents c lk v levels x → LeafRead k v c levels x
leaf_read false lk k v levels x f a = let q = f v false x a.contents in let e = q.1 in let g = flat a.contents in record { contents = q.0; few = omega arith }
leaf_read true lk k v levels x f a = let q = f v true x a.contents in let e = q.1 in let g = a.few in record { contents = q.0; few = omega arith }
