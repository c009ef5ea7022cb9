-- What the form of a notation says of its value, and the other way round.
use Rattle.std.proofs.Common.{◌≡◌, ◌∙◌, ℕ, ◌≤◌, ◌<◌, refl, sym, ap, subst, Some, None, Bool, true, false, ℤ, pos, negsuc, arith}
use Rattle.std.specs.Prelude.{List, [], ◌∷◌, map, length, IsTrue, IsUtf8}
use Rattle.std.specs.List.{AllByRecursion}
use Rattle.std.specs.Int.Digits.{AllBelowBase}
use Rattle.std.proofs.lemmas.Option.{same_Some}
use Rattle.asn_base.specs.declared.strings.StringKind.{StringKind}
use Rattle.asn_base.specs.Abstract.{AbstractValue, boolean, integer, octets, text, null, oid, relative_oid}
use Rattle.asn_base.specs.Schemas.{is_character}
use Rattle.trees.specs.declared.value.ValueSyntax.{ValueSyntax}
use Rattle.trees.specs.Values.{Name, Tree, Trees, tree_of, yes, no, number, binary, hex, chars, reference, nothing, numbers, items, no_tree, tree_and}
use Rattle.trees.specs.Values as trees
use Rattle.trees.specs.Types.{a_boolean, an_integer, an_octet_string, a_null, an_object_identifier, a_relative_oid, a_utf8_string, a_restricted_string}
use Rattle.names.specs.Names.{under}
use Rattle.value_notations.specs.Leaves as leaves
use Rattle.value_notations.specs.Leaves.{IsLeafNotation, AreOctets, IsRooted}
use Rattle.value_notations.specs.proving.Forms.{truth_in, number_in, name_in, binary_in, hex_in, text_in, numbers_in, alone_in, is_null, IsNone}

-- ---- a notation of a value

truth_read : {n : Tree} {v : AbstractValue} → IsLeafNotation a_boolean n v → truth_in n ≡ None → ⊥
truth_read leaves.truth e = absurd cc
truth_read leaves.falsehood e = absurd cc

pub no_truth : (n : Tree) → truth_in n ≡ None → IsNone a_boolean n
no_truth n e v l = truth_read l e

integer_read : {n : Tree} {v : AbstractValue} {ns : List (Name × ℤ)}
    → IsLeafNotation (an_integer ns) n v
    → number_in n ≡ None
    → ((x : Name) → name_in n ≡ Some x → under x ns ≡ None)
    → ⊥
integer_read leaves.written_number e f = absurd cc
integer_read (leaves.named_number {x = x} h) e f = absurd (let g = f x refl in cc)

pub no_integer : (ns : List (Name × ℤ)) (n : Tree)
    → number_in n ≡ None
    → ((x : Name) → name_in n ≡ Some x → under x ns ≡ None)
    → IsNone (an_integer ns) n
no_integer ns n e f v l = integer_read l e f

null_read : {n : Tree} {v : AbstractValue} → IsLeafNotation a_null n v → is_null n ≡ false → ⊥
null_read leaves.nothing_more e = absurd cc

pub no_null : (n : Tree) → is_null n ≡ false → IsNone a_null n
no_null n e v l = null_read l e

octets_read : {n : Tree} {v : AbstractValue}
    → IsLeafNotation an_octet_string n v
    → ((ds : List ℕ) → binary_in n ≡ Some ds → AllBelowBase 2 ds → ⊥)
    → ((ds : List ℕ) → hex_in n ≡ Some ds → AllBelowBase 16 ds → ⊥)
    → ⊥
octets_read (leaves.octet_digits {ds = ds} a) e f = e ds refl a.digits_of
octets_read (leaves.octet_hex {ds = ds} a) e f = f ds refl a.digits_of

pub no_octets : (n : Tree)
    → ((ds : List ℕ) → binary_in n ≡ Some ds → AllBelowBase 2 ds → ⊥)
    → ((ds : List ℕ) → hex_in n ≡ Some ds → AllBelowBase 16 ds → ⊥)
    → IsNone an_octet_string n
no_octets n e f v l = octets_read l e f

identifier_read : {n : Tree} {v : AbstractValue}
    → IsLeafNotation an_object_identifier n v
    → ((ns : List ℕ) → numbers_in n ≡ Some ns → IsRooted ns → ⊥)
    → ⊥
identifier_read (leaves.identifier {ns = ns} a) e = e ns refl a

pub no_identifier : (n : Tree)
    → ((ns : List ℕ) → numbers_in n ≡ Some ns → IsRooted ns → ⊥)
    → IsNone an_object_identifier n
no_identifier n e v l = identifier_read l e

utf8_read : {n : Tree} {v : AbstractValue}
    → IsLeafNotation a_utf8_string n v
    → ((o : List ℕ) → text_in n ≡ Some o → IsUtf8 o → ⊥)
    → ⊥
utf8_read (leaves.utf8 {o = o} a) e = e o refl a

pub no_utf8 : (n : Tree) → ((o : List ℕ) → text_in n ≡ Some o → IsUtf8 o → ⊥) → IsNone a_utf8_string n
no_utf8 n e v l = utf8_read l e

restricted_read : {n : Tree} {v : AbstractValue} {k : StringKind}
    → IsLeafNotation (a_restricted_string k) n v
    → ((o : List ℕ) → text_in n ≡ Some o → AllByRecursion (λ c. IsTrue (is_character k c)) o → ⊥)
    → ⊥
restricted_read (leaves.restricted {o = o} a) e = e o refl a

pub no_restricted : (k : StringKind) (n : Tree)
    → ((o : List ℕ) → text_in n ≡ Some o → AllByRecursion (λ c. IsTrue (is_character k c)) o → ⊥)
    → IsNone (a_restricted_string k) n
no_restricted k n e v l = restricted_read l e

-- ---- what has a form is of it

truth_is : (n : Tree) (b : Bool) → truth_in n ≡ Some b → IsLeafNotation a_boolean n (boolean b)
truth_is yes b e = subst (λ (x : Bool). IsLeafNotation a_boolean yes (boolean x)) (same_Some true b e) leaves.truth
truth_is no b e = subst (λ (x : Bool). IsLeafNotation a_boolean no (boolean x)) (same_Some false b e) leaves.falsehood
truth_is n b e = absurd cc

pub truth_made : (n : Tree) (b : Bool) → truth_in n ≡ Some b → IsLeafNotation a_boolean n (boolean b)
truth_made = truth_is

number_is : (n : Tree) (z : ℤ) → number_in n ≡ Some z → n ≡ number z
number_is (number y) z e = ap number (same_Some y z e)
number_is n z e = absurd cc

pub name_is : (n : Tree) (x : Name) → name_in n ≡ Some x → n ≡ reference None x
name_is (reference None y) x e = ap (reference None) (same_Some y x e)
name_is n x e = absurd cc

binary_is : (n : Tree) (ds : List ℕ) → binary_in n ≡ Some ds → n ≡ binary ds
binary_is (binary es) ds e = ap binary (same_Some es ds e)
binary_is n ds e = absurd cc

hex_is : (n : Tree) (ds : List ℕ) → hex_in n ≡ Some ds → n ≡ hex ds
hex_is (hex es) ds e = ap hex (same_Some es ds e)
hex_is n ds e = absurd cc

text_is : (n : Tree) (o : List ℕ) → text_in n ≡ Some o → n ≡ chars o
text_is (chars p) o e = ap chars (same_Some p o e)
text_is n o e = absurd cc

numbers_is : (n : Tree) (ns : List ℕ) → numbers_in n ≡ Some ns → n ≡ numbers ns
numbers_is (numbers ms) ns e = ap numbers (same_Some ms ns e)
numbers_is n ns e = absurd cc

null_is : (n : Tree) → is_null n ≡ true → n ≡ trees.null
null_is trees.null e = refl
null_is n e = absurd cc

pub number_made : (ns : List (Name × ℤ)) (n : Tree) (z : ℤ) → number_in n ≡ Some z → IsLeafNotation (an_integer ns) n (integer z)
number_made ns n z e =
    subst (λ (x : Tree). IsLeafNotation (an_integer ns) x (integer z)) (sym (number_is n z e)) leaves.written_number

pub named_made : (ns : List (Name × ℤ)) (n : Tree) (x : Name) (z : ℤ)
    → name_in n ≡ Some x
    → under x ns ≡ Some z
    → IsLeafNotation (an_integer ns) n (integer z)
named_made ns n x z e f =
    subst (λ (y : Tree). IsLeafNotation (an_integer ns) y (integer z)) (sym (name_is n x e)) (leaves.named_number f)

pub null_made : (n : Tree) → is_null n ≡ true → IsLeafNotation a_null n null
null_made n e = subst (λ (x : Tree). IsLeafNotation a_null x null) (sym (null_is n e)) leaves.nothing_more

pub binary_made : (n : Tree) (ds os : List ℕ)
    → binary_in n ≡ Some ds
    → AreOctets 2 8 ds os
    → IsLeafNotation an_octet_string n (octets os)
binary_made n ds os e a =
    subst (λ (x : Tree). IsLeafNotation an_octet_string x (octets os)) (sym (binary_is n ds e)) (leaves.octet_digits a)

pub hex_made : (n : Tree) (ds os : List ℕ)
    → hex_in n ≡ Some ds
    → AreOctets 16 2 ds os
    → IsLeafNotation an_octet_string n (octets os)
hex_made n ds os e a =
    subst (λ (x : Tree). IsLeafNotation an_octet_string x (octets os)) (sym (hex_is n ds e)) (leaves.octet_hex a)

pub identifier_made : (n : Tree) (ns : List ℕ)
    → numbers_in n ≡ Some ns
    → IsRooted ns
    → IsLeafNotation an_object_identifier n (oid ns)
identifier_made n ns e a =
    subst (λ (x : Tree). IsLeafNotation an_object_identifier x (oid ns)) (sym (numbers_is n ns e)) (leaves.identifier a)

pub utf8_made : (n : Tree) (o : List ℕ) → text_in n ≡ Some o → IsUtf8 o → IsLeafNotation a_utf8_string n (text o)
utf8_made n o e a = subst (λ (x : Tree). IsLeafNotation a_utf8_string x (text o)) (sym (text_is n o e)) (leaves.utf8 a)

pub restricted_made : (k : StringKind) (n : Tree) (o : List ℕ)
    → text_in n ≡ Some o
    → AllByRecursion (λ c. IsTrue (is_character k c)) o
    → IsLeafNotation (a_restricted_string k) n (text o)
restricted_made k n o e a =
    subst (λ (x : Tree). IsLeafNotation (a_restricted_string k) x (text o)) (sym (text_is n o e)) (leaves.restricted a)

-- ---- relative object identifiers

relative_read : {n : Tree} {v : AbstractValue}
    → IsLeafNotation a_relative_oid n v
    → ((m : ℕ) (ns : List ℕ) → numbers_in n ≡ Some (m ∷ ns) → ⊥)
    → alone_in n ≡ None
    → ⊥
relative_read (leaves.relative {n = m} {ns = ns}) e f = e m ns refl
relative_read leaves.relative_alone e f = absurd cc

pub no_relative : (n : Tree) → numbers_in n ≡ None → alone_in n ≡ None → IsNone a_relative_oid n
no_relative n e f v l = relative_read l (λ m ns g. absurd (let h = sym e ∙ g in cc)) f

numbers_not_alone : (n : Tree) (ns : List ℕ) → numbers_in n ≡ Some ns → alone_in n ≡ None
numbers_not_alone (numbers ms) ns e = refl
numbers_not_alone n ns e = absurd cc

-- a list of no numbers stands for none
pub no_numbers : (n : Tree) (ns : List ℕ) → numbers_in n ≡ Some ns → length ns ≡ 0 → IsNone a_relative_oid n
no_numbers n [] e z v l = relative_read l (λ m ns g. absurd (let h = sym e ∙ g in cc)) (numbers_not_alone n [] e)
no_numbers n (m ∷ ns) e z v l = absurd (omega (arith, z))

pub relative_made : (n : Tree) (ns : List ℕ)
    → numbers_in n ≡ Some ns
    → 0 < length ns
    → IsLeafNotation a_relative_oid n (relative_oid ns)
relative_made n [] e l = absurd (omega (arith, l))
relative_made n (m ∷ ns) e l =
    subst (λ (x : Tree). IsLeafNotation a_relative_oid x (relative_oid (m ∷ ns))) (sym (numbers_is n (m ∷ ns) e)) leaves.relative

alone_is : (n : Tree) (m : ℕ) → alone_in n ≡ Some m → n ≡ items (tree_and (number (pos m)) no_tree)
alone_is (items (tree_and (number (pos k)) no_tree)) m e = ap (λ (x : ℕ). items (tree_and (number (pos x)) no_tree)) (same_Some k m e)
alone_is n m e = absurd cc

pub alone_made : (n : Tree) (m : ℕ) → alone_in n ≡ Some m → IsLeafNotation a_relative_oid n (relative_oid (m ∷ []))
alone_made n m e =
    subst (λ (x : Tree). IsLeafNotation a_relative_oid x (relative_oid (m ∷ []))) (sym
    (alone_is n m e)) leaves.relative_alone

many : (x y : Tree) (ts : Trees) → None ≡ alone_in (items (tree_and x (tree_and y ts)))
many (number (pos n)) y ts = refl
many (number (negsuc n)) y ts = refl
many x y ts = refl

pub not_alone : (vs : List ValueSyntax) → 2 ≤ length vs → None ≡ alone_in (items (trees.trees (map tree_of vs)))
not_alone [] h = absurd (omega arith)
not_alone (v ∷ []) h = absurd (omega arith)
not_alone (v ∷ w ∷ vs) h = many (tree_of v) (tree_of w) (trees.trees (map tree_of vs))
