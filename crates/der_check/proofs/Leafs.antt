-- Contents of kinds that hold no others don't depend on constraints, items and names.
use Rattle.std.proofs.Common.{arith, ◌≡◌, ◌-◌, ◌<◌, ℕ, Bool, false, List, [], ◌∷◌, length, refl, sym, ap, subst}
use Rattle.std.specs.Prelude.{◌↔◌, IsTrue}
use Rattle.asn_base.specs.declared.strings.StringKind.{StringKind}
use Rattle.asn_base.specs.Abstract.{AbstractValue, fields, list, alternative}
use Rattle.asn_base.specs.Types.{any_size, a_boolean, Constraint, Item, NamedBit, Kind, an_integer, an_enumerated, a_bit_string, a_named_bit_string, an_octet_string, a_utf8_string, a_restricted_string, Resolved}
use Rattle.encodings.specs.Rules.{Rules, Basic, Distinguished}
use Rattle.encodings.specs.Strings.{WholeBits, whole_bits}
use Rattle.encodings.specs.Contents.{Contents, of_false, of_true, of_integer, of_enumerated, of_bits, of_named_bits, of_octets, of_null, of_oid, of_relative_oid, of_utf8, of_restricted}
use Rattle.encodings.specs.Encoding.{ContentsEncode, leaf, sequence, set, sequence_of, set_of, choice}
use Rattle.encodings.specs.declared.leaf_kind.LeafKind.{LeafKind}
use Rattle.encodings.specs.declared.leaf_kind.LeafKind.TheVariants as leaves
use Rattle.codec_code.specs.declared.step.Step.TheVariants.{Leaf}
use Rattle.codec_code.specs.Routines.{body}
use Rattle.encodings.specs.Leaves.{plain}
use Rattle.asn_base.specs.declared.node.ValueKind.{ValueKind}
use Rattle.asn_base.specs.declared.node.ValueKind.TheVariants as kind
use Rattle.views.specs.Kinds.{Shows}
use Rattle.views.specs.Tree.{ViewTree, ViewMembers, value_of}
use Rattle.der_check.specs.declared.rule.RuleOfDer.{RuleOfDer}
use Rattle.der_check.specs.declared.rule.RuleOfDer.TheVariants.{AllBitsOfTrue, ZerosAsUnusedBits, LastNamedBit}
use Rattle.der_check.specs.Broken.{PrimitiveBreaks, other_true, one_unused, one_unused_named, zero_last}
use Rattle.der_check.specs.declared.rule.Breach.{Breach}
use Rattle.der_check.specs.Strict.{form_of, PrimitiveBreaksBy}

to_integer : {r : Rules} {v : AbstractValue} {c : Bool} {x : List ℕ} (z y : Constraint) → Contents r (an_integer z) v c x → Contents r (an_integer y) v c x
to_integer z y (of_integer a) = of_integer a

to_enumerated : {r : Rules} {v : AbstractValue} {c : Bool} {x : List ℕ} (a b m n : List Item) (e f : Bool) → Contents r (an_enumerated a e m) v c x → Contents r (an_enumerated b f n) v c x
to_enumerated a b m n e f (of_enumerated h) = of_enumerated h

to_bits : {r : Rules} {v : AbstractValue} {c : Bool} {x : List ℕ} (z y : Constraint) → Contents r (a_bit_string z) v c x → Contents r (a_bit_string y) v c x
to_bits z y (of_bits p e f) = of_bits p e f

to_named : {r : Rules} {v : AbstractValue} {c : Bool} {x : List ℕ} (ns ms : List NamedBit) → Contents r (a_named_bit_string ns) v c x → Contents r (a_named_bit_string ms) v c x
to_named ns ms (of_named_bits p e f t) = of_named_bits p e f t

to_octets : {r : Rules} {v : AbstractValue} {c : Bool} {x : List ℕ} (z y : Constraint) → Contents r (an_octet_string z) v c x → Contents r (an_octet_string y) v c x
to_octets z y (of_octets p e) = of_octets p e

to_utf8 : {r : Rules} {v : AbstractValue} {c : Bool} {x : List ℕ} (z y : Constraint) → Contents r (a_utf8_string z) v c x → Contents r (a_utf8_string y) v c x
to_utf8 z y (of_utf8 p e) = of_utf8 p e

to_restricted : {r : Rules} {v : AbstractValue} {c : Bool} {x : List ℕ} (k : StringKind) (a b : List ℕ) (z y : Constraint) → Contents r (a_restricted_string k a z) v c x → Contents r (a_restricted_string k b y) v c x
to_restricted k a b z y (of_restricted p e) = of_restricted p e

-- the plain kind of contents, and the way there and back
pub record IsPlain (s : List Resolved) (k : Kind) (v : AbstractValue) (c : Bool) (x : List ℕ) : Type 0 where
  pub kind : LeafKind
  pub steps : body s k ≡ Leaf kind ∷ []
  pub basic : Contents Basic (plain kind) v c x
  pub form : form_of k ≡ false
  pub there : Contents Distinguished k v c x → Contents Distinguished (plain kind) v c x
  pub back : Contents Distinguished (plain kind) v c x → Contents Distinguished k v c x
  pub breaks : (r : RuleOfDer) (n : ℕ) → PrimitiveBreaks (plain kind) v x r n → PrimitiveBreaks k v x r n
  pub only : (r : RuleOfDer) (n : ℕ) → PrimitiveBreaks k v x r n → PrimitiveBreaks (plain kind) v x r n

bits_break : {v : AbstractValue} {x : List ℕ} (z y : Constraint) (r : RuleOfDer) (n : ℕ) → PrimitiveBreaks (a_bit_string z) v x r n → PrimitiveBreaks (a_bit_string y) v x r n
bits_break z y r n (one_unused w f) = one_unused w f

named_break : {v : AbstractValue} {x : List ℕ} (ns ms : List NamedBit) (r : RuleOfDer) (n : ℕ) → PrimitiveBreaks (a_named_bit_string ns) v x r n → PrimitiveBreaks (a_named_bit_string ms) v x r n
named_break ns ms r n (one_unused_named w f) = one_unused_named w f
named_break ns ms r n (zero_last w f e) = zero_last w f e

pub is_plain : (s : List Resolved) {k : Kind} {v : AbstractValue} {c : Bool} {x : List ℕ} → Contents Basic k v c x → IsPlain s k v c x
is_plain s of_false = record { kind = leaves.Boolean; steps = refl; basic = of_false; form = refl; there = λ h. h; back = λ h. h; breaks = λ r n h. h; only = λ r n h. h }
is_plain s (of_true l m e) = record { kind = leaves.Boolean; steps = refl; basic = of_true l m e; form = refl; there = λ h. h; back = λ h. h; breaks = λ r n h. h; only = λ r n h. h }
is_plain s (of_integer a) = record { kind = leaves.Integer; steps = refl; basic = of_integer a; form = refl; there = to_integer _ _; back = to_integer _ _; breaks = λ r n h. elim h [ ]; only = λ r n h. elim h [ ] }
is_plain s (of_enumerated a) = record { kind = leaves.Enumerated; steps = refl; basic = of_enumerated a; form = refl; there = to_enumerated _ _ _ _ _ _; back = to_enumerated _ _ _ _ _ _; breaks = λ r n h. elim h [ ]; only = λ r n h. elim h [ ] }
is_plain s (of_bits p e f) = record { kind = leaves.BitString; steps = refl; basic = of_bits p e f; form = refl; there = to_bits _ _; back = to_bits _ _; breaks = bits_break _ _; only = bits_break _ _ }
is_plain s (of_named_bits p e f t) = record { kind = leaves.NamedBits; steps = refl; basic = of_named_bits p e f t; form = refl; there = to_named _ _; back = to_named _ _; breaks = named_break _ _; only = named_break _ _ }
is_plain s (of_octets p e) = record { kind = leaves.OctetString; steps = refl; basic = of_octets p e; form = refl; there = to_octets _ _; back = to_octets _ _; breaks = λ r n h. elim h [ ]; only = λ r n h. elim h [ ] }
is_plain s of_null = record { kind = leaves.Null; steps = refl; basic = of_null; form = refl; there = λ h. h; back = λ h. h; breaks = λ r n h. elim h [ ]; only = λ r n h. elim h [ ] }
is_plain s (of_oid a) = record { kind = leaves.ObjectIdentifier; steps = refl; basic = of_oid a; form = refl; there = λ h. h; back = λ h. h; breaks = λ r n h. elim h [ ]; only = λ r n h. elim h [ ] }
is_plain s (of_relative_oid a) = record { kind = leaves.RelativeOid; steps = refl; basic = of_relative_oid a; form = refl; there = λ h. h; back = λ h. h; breaks = λ r n h. elim h [ ]; only = λ r n h. elim h [ ] }
is_plain s (of_utf8 p e) = record { kind = leaves.Utf8String; steps = refl; basic = of_utf8 p e; form = refl; there = to_utf8 _ _; back = to_utf8 _ _; breaks = λ r n h. elim h [ ]; only = λ r n h. elim h [ ] }
is_plain s (of_restricted {k = k} p e) = record { kind = leaves.RestrictedString k; steps = refl; basic = of_restricted p e; form = refl; there = to_restricted k _ _ _ _; back = to_restricted k _ _ _ _; breaks = λ r n h. elim h [ ]; only = λ r n h. elim h [ ] }

-- a value that holds others
abbrev pub HoldsOthers : AbstractValue → Type 0
HoldsOthers (fields ws) = Unit {0}
HoldsOthers (list ws) = Unit {0}
HoldsOthers (alternative i w) = Unit {0}
HoldsOthers v = ⊥

pub flat_contents : {s : List Resolved} {r : Rules} {k : Kind} {v : AbstractValue} {n : ℕ} {c : Bool} {x : List ℕ} → (HoldsOthers v → ⊥) → ContentsEncode s r k v n c x → Contents r k v c x × (n ≡ 0)
flat_contents n (leaf con) = (con, refl)
flat_contents n (sequence ms u) = absurd (n tt)
flat_contents n (set ms p st u m) = absurd (n tt)
flat_contents n (sequence_of es) = absurd (n tt)
flat_contents n (set_of es st) = absurd (n tt)
flat_contents n (choice g a) = absurd (n tt)

-- what a reference shows holds no others, if it is of a kind that holds none
pub leaf_shown : (t : ViewTree) (k : ValueKind ViewTree ViewMembers ViewMembers) → Shows t k → ((n : ℕ) (ms : ViewMembers) → k ≡ kind.Fields n ms → ⊥) → ((ms : ViewMembers) → k ≡ kind.List ms → ⊥) → ((i : ℕ) (u : ViewTree) → k ≡ kind.Alternative i u → ⊥) → HoldsOthers (value_of t) → ⊥
leaf_shown t (kind.Bool b) e f g h = subst (λ q. HoldsOthers (value_of q) → ⊥) (sym e) (λ a. a)
leaf_shown t (kind.Int z) e f g h = subst (λ q. HoldsOthers (value_of q) → ⊥) (sym e) (λ a. a)
leaf_shown t (kind.Enum z) e f g h = subst (λ q. HoldsOthers (value_of q) → ⊥) (sym e) (λ a. a)
leaf_shown t (kind.Bits u os) e f g h = subst (λ q. HoldsOthers (value_of q) → ⊥) (sym e.1) (λ a. a)
leaf_shown t (kind.Octets os) e f g h = subst (λ q. HoldsOthers (value_of q) → ⊥) (sym e.1) (λ a. a)
leaf_shown t (kind.Text s) e f g h = subst (λ q. HoldsOthers (value_of q) → ⊥) (sym e.1) (λ a. a)
leaf_shown t kind.Null e f g h = subst (λ q. HoldsOthers (value_of q) → ⊥) (sym e) (λ a. a)
leaf_shown t (kind.Oid ns) e f g h = subst (λ q. HoldsOthers (value_of q) → ⊥) (sym e) (λ a. a)
leaf_shown t (kind.RelativeOid ns) e f g h = subst (λ q. HoldsOthers (value_of q) → ⊥) (sym e) (λ a. a)
leaf_shown t (kind.Fields n ms) e f g h = absurd (f n ms refl)
leaf_shown t (kind.List ms) e f g h = absurd (g ms refl)
leaf_shown t (kind.Alternative i u) e f g h = absurd (h i u refl)

-- ---- primitive contents that break a rule

some_bits : {s : List Bool} {x : List ℕ} → WholeBits s x → length x - 1 < length x
some_bits w = let e = ap length w.is in omega (arith, e)

pub true_breaks : {v : AbstractValue} {x : List ℕ} → Contents Basic a_boolean v false x → (Contents Distinguished a_boolean v false x → ⊥) → PrimitiveBreaks a_boolean v x AllBitsOfTrue 0 × (0 < length x)
true_breaks of_false n = absurd (n of_false)
true_breaks (of_true l m e) n = (other_true l m (λ q. n (of_true l m q)), omega arith)

pub unused_breaks : {z : Constraint} {v : AbstractValue} {x : List ℕ} → Contents Basic (a_bit_string z) v false x → (Contents Distinguished (a_bit_string z) v false x → ⊥) → PrimitiveBreaks (a_bit_string z) v x ZerosAsUnusedBits (length x - 1) × (length x - 1 < length x)
unused_breaks (of_bits (whole_bits w) e f) n = (one_unused w (λ q. n (of_bits (whole_bits w) refl q)), some_bits w)

pub as_bits : {ns : List NamedBit} {v : AbstractValue} {x : List ℕ} → Contents Basic (a_named_bit_string ns) v false x → Contents Basic (a_bit_string any_size) v false x
as_bits (of_named_bits p e f t) = of_bits p tt tt

pub named_unused : {ns : List NamedBit} {v : AbstractValue} {x : List ℕ} → Contents Basic (a_named_bit_string ns) v false x → (Contents Distinguished (a_bit_string any_size) v false x → ⊥) → PrimitiveBreaks (a_named_bit_string ns) v x ZerosAsUnusedBits (length x - 1) × (length x - 1 < length x)
named_unused (of_named_bits (whole_bits w) e f t) n = (one_unused_named w (λ q. n (of_bits (whole_bits w) refl q)), some_bits w)

pub named_last : {ns : List NamedBit} {v : AbstractValue} {x : List ℕ} → Contents Basic (a_named_bit_string ns) v false x → Contents Distinguished (a_bit_string any_size) v false x → (Contents Distinguished (a_named_bit_string ns) v false x → ⊥) → PrimitiveBreaks (a_named_bit_string ns) v x LastNamedBit (length x - 1) × (length x - 1 < length x)
named_last (of_named_bits (whole_bits w) e f t) (of_bits p q z) n = (zero_last w z (λ y. n (of_named_bits (whole_bits w) refl z y)), some_bits w)

-- the breach is that of primitive contents of this kind
abbrev pub BreaksBy : LeafKind → List ℕ → Breach → Type 0
BreaksBy k x b = (v : AbstractValue) → Contents Basic (plain k) v false x → (Contents Distinguished (plain k) v false x → ⊥) → PrimitiveBreaksBy (plain k) v x b

pub of_kind : {k l : LeafKind} {x : List ℕ} {b c : Breach} → k ≡ l → b ≡ c → BreaksBy l x c → BreaksBy k x b
of_kind {l = l} {x} {b} e f h = subst (λ q. BreaksBy q x b) (sym e) (subst (BreaksBy l x) (sym f) h)

-- of other kinds none does
abbrev pub IsOtherKind : LeafKind → Type 0
IsOtherKind leaves.Boolean = ⊥
IsOtherKind leaves.BitString = ⊥
IsOtherKind leaves.NamedBits = ⊥
IsOtherKind k = Unit {0}

never_breaks : (k : LeafKind) {v : AbstractValue} {x : List ℕ} → IsOtherKind k → Contents Basic (plain k) v false x → (Contents Distinguished (plain k) v false x → ⊥) → ⊥
never_breaks leaves.Boolean o h n = o
never_breaks leaves.BitString o h n = o
never_breaks leaves.NamedBits o h n = o
never_breaks leaves.Integer o (of_integer a) n = n (of_integer a)
never_breaks leaves.Enumerated o (of_enumerated a) n = n (of_enumerated a)
never_breaks leaves.OctetString o (of_octets p e) n = n (of_octets p refl)
never_breaks leaves.Null o of_null n = n of_null
never_breaks leaves.ObjectIdentifier o (of_oid a) n = n (of_oid a)
never_breaks leaves.RelativeOid o (of_relative_oid a) n = n (of_relative_oid a)
never_breaks leaves.Utf8String o (of_utf8 p e) n = n (of_utf8 p refl)
never_breaks (leaves.RestrictedString k) o (of_restricted p e) n = n (of_restricted p refl)

pub other_breaks : (k : LeafKind) {x : List ℕ} {b : Breach} → IsOtherKind k → BreaksBy k x b
other_breaks k o v h n = absurd (never_breaks k o h n)

pub if_not : {b : Bool} {P : Type 0} → b ≡ false → IsTrue b ↔ P → P → ⊥
if_not e h p = let y = h.1 p in cc
