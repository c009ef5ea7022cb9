-- The values of types that hold no other types, and what stands for them (X.680, clauses 18 to 24, 32, 33 and 41).
use Rattle.std.specs.Prelude.{◌≡◌, ◌↔◌, ◌≢◌, ℕ, suc, ◌*◌, ◌+◌, ◌≤◌, ◌<◌, ◌/◌, ◌%◌, ◌==◌, ℤ, pos, Bool, true, false, List, [], ◌∷◌, ◌++◌}
use Rattle.std.specs.Prelude.{length, take, drop, replicate, map, flat_map, Option, Some, None, slice_get, slice_index, IsTrue, IsUtf8}
use Rattle.std.specs.Int.Digits.{number_from_digits, AllBelowBase}
use Rattle.std.specs.List.{AllByRecursion}
use Rattle.asn_base.specs.declared.strings.StringKind.{StringKind}
use Rattle.asn_base.specs.Abstract.{AbstractValue, boolean, integer, enumerated, bits, octets, text, null, oid, relative_oid}
use Rattle.asn_base.specs.Schemas.{is_character}
use Rattle.trees.specs.Values.{Name, Tree, yes, no, number, binary, hex, chars, reference, nothing, numbers, items, Trees, no_tree, tree_and}
use Rattle.trees.specs.Values as trees
use Rattle.trees.specs.Types.{Plain, a_boolean, an_integer, a_bit_string, an_octet_string, a_null, an_object_identifier, a_relative_oid, an_enumerated, a_utf8_string, a_restricted_string}
use Rattle.names.specs.Modules.{OccursIn}
use Rattle.names.specs.Names.{under}
use Rattle.type_table.specs.Items.{WrittenItem, additions_of, numbers_of}

-- item x of a written enumeration, in the root or after the marker, has number z (X.680, clauses 20.5 and 20.6)
pub record IsItem (root more : List WrittenItem) (x : Name) (z : ℤ) : Type 0 where
  -- its place, from 0, over root and additions
  pub place : ℕ
  pub item : WrittenItem
  pub there : slice_get (root ++ more) place ≡ Some item
  pub named : item.0 ≡ x
  -- its number is the one written, or else the one that the rules of numbering give it
  pub numbered : slice_get (numbers_of root more) place ≡ Some z

-- the four bits of a hexadecimal digit, the most significant first (X.680, clause 22)
abbrev pub bits_of_digit : ℕ → List Bool
bits_of_digit n = (n / 8 == 1) ∷ (n / 4 % 2 == 1) ∷ (n / 2 % 2 == 1) ∷ (n % 2 == 1) ∷ []

-- Octets os are digits in groups of `most`, the last group filled with zeros (X.680, clause 23). Each group, its first
-- digit the most significant, is the number of an octet.
pub record AreOctets (base most : ℕ) (digits os : List ℕ) : Type 0 where
  pub digits_of : AllBelowBase base digits
  -- how many zero digits fill the last group
  pub zeros : ℕ
  pub few : zeros < most
  pub long : length digits + zeros ≡ most * length os
  pub each : (i : ℕ) →
      i < length os →
      slice_index os i ≡ number_from_digits base (take most (drop (most * i) (digits ++ replicate zeros 0)))

-- each notation is the name of a named bit, and these are the places of the bits (X.680, clause 22)
pub data AreBitNames (bs : List (Name × ℕ)) : Trees → List ℕ → Type 0 where
  no_bit : AreBitNames bs no_tree []
  bit_and : {x : Name} {ts : Trees} {place : ℕ} {places : List ℕ} →
      under x bs ≡ Some place →
      AreBitNames bs ts places →
      AreBitNames bs (tree_and (reference None x) ts) (place ∷ places)

-- in the bits s exactly those at these places are set, and s ends with the greatest of them
pub record AreSetBits (places : List ℕ) (s : List Bool) : Type 0 where
  pub set : (i : ℕ) → (slice_get s i ≡ Some true ↔ OccursIn places i)
  pub greatest : (n : ℕ) → length s ≡ suc n → OccursIn places n

-- The numbers begin as an object identifier does, with 0 or 1 and at most 39, or with 2 and any (X.680, clause 32;
-- X.660).
pub data IsRooted : List ℕ → Type 0 where
  is_rooted : {x y : ℕ} {ns : List ℕ} →
      x ≤ 2 →
      (x < 2 → y < 40) →
      IsRooted (x ∷ y ∷ ns)

-- The notation stands for a value of a type of this kind, which holds no other types. The type's constraints, and
-- limits, are not asked about.
pub data IsLeafNotation : Plain → Tree → AbstractValue → Type 0 where
  truth : IsLeafNotation a_boolean yes (boolean true)
  falsehood : IsLeafNotation a_boolean no (boolean false)
  written_number : {ns : List (Name × ℤ)} {z : ℤ} → IsLeafNotation (an_integer ns) (number z) (integer z)
  named_number : {ns : List (Name × ℤ)} {x : Name} {z : ℤ} →
      under x ns ≡ Some z →
      IsLeafNotation (an_integer ns) (reference None x) (integer z)
  named_item : {root : List WrittenItem} {more : Option (List WrittenItem)} {x : Name} {z : ℤ} →
      IsItem root (additions_of more) x z →
      IsLeafNotation (an_enumerated root more) (reference None x) (enumerated z)
  bit_digits : {bs : List (Name × ℕ)} {ds : List ℕ} {s : List Bool} →
      AllBelowBase 2 ds →
      s ≡ map (λ d. d == 1) ds →
      IsLeafNotation (a_bit_string bs) (binary ds) (bits s)
  bit_hex : {bs : List (Name × ℕ)} {ds : List ℕ} {s : List Bool} →
      AllBelowBase 16 ds →
      s ≡ flat_map bits_of_digit ds →
      IsLeafNotation (a_bit_string bs) (hex ds) (bits s)
  -- `{}` is the value of a BIT STRING with named bits of which none is set
  no_named_bit : {bs : List (Name × ℕ)} →
      bs ≢ [] →
      IsLeafNotation (a_bit_string bs) nothing (bits [])
  named_bits : {bs : List (Name × ℕ)} {ts : Trees} {places : List ℕ} {s : List Bool} →
      AreBitNames bs ts places →
      AreSetBits places s →
      IsLeafNotation (a_bit_string bs) (items ts) (bits s)
  -- eight binary digits are an octet
  octet_digits : {ds os : List ℕ} →
      AreOctets 2 8 ds os →
      IsLeafNotation an_octet_string (binary ds) (octets os)
  -- two hexadecimal digits are an octet
  octet_hex : {ds os : List ℕ} →
      AreOctets 16 2 ds os →
      IsLeafNotation an_octet_string (hex ds) (octets os)
  nothing_more : IsLeafNotation a_null trees.null null
  identifier : {ns : List ℕ} →
      IsRooted ns →
      IsLeafNotation an_object_identifier (numbers ns) (oid ns)
  relative : {n : ℕ} {ns : List ℕ} → IsLeafNotation a_relative_oid (numbers (n ∷ ns)) (relative_oid (n ∷ ns))
  -- one number in braces is read as a list of one value
  relative_alone : {n : ℕ} → IsLeafNotation a_relative_oid (items (tree_and (number (pos n)) no_tree))
      (relative_oid (n ∷ []))
  utf8 : {o : List ℕ} →
      IsUtf8 o →
      IsLeafNotation a_utf8_string (chars o) (text o)
  restricted : {k : StringKind} {o : List ℕ} →
      AllByRecursion (λ c. IsTrue (is_character k c)) o →
      IsLeafNotation (a_restricted_string k) (chars o) (text o)
