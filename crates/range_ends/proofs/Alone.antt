-- Names of numbers, with and without a module's name before them.
use Rattle.std.proofs.Common.{◌≡◌, None, Some, refl}
use Rattle.trees.specs.Types.{a_boolean, an_integer, a_bit_string, an_octet_string, a_null, an_object_identifier, a_relative_oid, an_enumerated, a_utf8_string, a_restricted_string}
use Rattle.trees.specs.Values.{Name}
use Rattle.names.specs.Names.{under}
use Rattle.type_table.specs.Table.{WrittenKind, simple, reference, tagged, members, elements}
use Rattle.resolve.specs.Listed.{numbers_listed}
use Rattle.range_ends.specs.Ends.{named}

-- a name alone has the number that the type lists
pub named_alone : (k : WrittenKind) (x : Name) → named k None x ≡ under x (numbers_listed k)
named_alone (simple a_boolean) x = refl
named_alone (simple (an_integer ns)) x = refl
named_alone (simple (a_bit_string bs)) x = refl
named_alone (simple an_octet_string) x = refl
named_alone (simple a_null) x = refl
named_alone (simple an_object_identifier) x = refl
named_alone (simple a_relative_oid) x = refl
named_alone (simple (an_enumerated root more)) x = refl
named_alone (simple a_utf8_string) x = refl
named_alone (simple (a_restricted_string s)) x = refl
named_alone (reference j) x = refl
named_alone (tagged t w j) x = refl
named_alone (members l m cs) x = refl
named_alone (elements l j) x = refl

-- a name after a module's name has none
pub named_after : (k : WrittenKind) (M x : Name) → named k (Some M) x ≡ None
named_after (simple a_boolean) M x = refl
named_after (simple (an_integer ns)) M x = refl
named_after (simple (a_bit_string bs)) M x = refl
named_after (simple an_octet_string) M x = refl
named_after (simple a_null) M x = refl
named_after (simple an_object_identifier) M x = refl
named_after (simple a_relative_oid) M x = refl
named_after (simple (an_enumerated root more)) M x = refl
named_after (simple a_utf8_string) M x = refl
named_after (simple (a_restricted_string s)) M x = refl
named_after (reference j) M x = refl
named_after (tagged t w j) M x = refl
named_after (members l m cs) M x = refl
named_after (elements l j) M x = refl
