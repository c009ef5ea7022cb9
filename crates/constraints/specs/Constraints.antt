-- What constraints mean, each by itself (X.680, clauses 49 to 51): which types take them, what is required of them, and
-- which numbers, sizes and characters they allow.
use Rattle.std.specs.Prelude.{◌≡◌, ℕ, ℤ, Bool, true, false, not, ◌||◌, ◌&&◌, ◌==◌, [], length}
use Rattle.asn_base.specs.Schemas.{IsNumber, IsSize}
use Rattle.trees.specs.Values.{Name}
use Rattle.trees.specs.Constraints.{ConstraintTree, values_in, sizes_in, chars_in}
use Rattle.trees.specs.Types.{an_integer, a_bit_string, an_octet_string, a_utf8_string, a_restricted_string}
use Rattle.type_table.specs.Table.{WrittenKind, simple, elements}
use Rattle.resolve.specs.Program.{Program}
use Rattle.range_ends.specs.Ranges.{IsWithinOne, AreRanges}
use Rattle.range_ends.specs.Characters.{IsAmongAny, AreFit}

-- ---- which types take which constraints (fewer than X.680, clause 51, table 9, allows: own rules)

-- the kind is INTEGER, which alone takes single values and ranges (own rule; X.680, clause 51, table 9, allows more)
abbrev pub is_integer : WrittenKind → Bool
is_integer (simple (an_integer ns)) = true
is_integer k = false

-- the kind takes SIZE: BIT STRING without named bits (own rule), OCTET STRING, a character string, SEQUENCE OF or SET
-- OF (X.680, clause 51.5)
abbrev pub has_size : WrittenKind → Bool
has_size (simple (a_bit_string [])) = true
has_size (simple an_octet_string) = true
has_size (simple a_utf8_string) = true
has_size (simple (a_restricted_string s)) = true
has_size (elements e j) = true
has_size k = false

-- the packed encoding doesn't use the size of a UTF8String (X.691, 10.3.10)
abbrev pub has_visible_size : WrittenKind → Bool
has_visible_size (simple a_utf8_string) = false
has_visible_size k = has_size k

-- the kind takes FROM: NumericString, PrintableString, IA5String or VisibleString, and not UTF8String (own rule; X.680,
-- clause 51.7)
abbrev pub has_alphabet : WrittenKind → Bool
has_alphabet (simple (a_restricted_string s)) = true
has_alphabet k = false

-- a type of kind k takes a constraint of this form
abbrev pub takes : WrittenKind → ConstraintTree → Bool
takes k (values_in r) = is_integer k
takes k (sizes_in r) = has_size k
takes k (chars_in xs) = has_alphabet k

-- ---- extension markers (X.680, 50.8 to 50.12; but only after one value or range, and not in the SIZE of a character
-- string)

-- a constraint on a type of this kind may have an extension marker, which one on a character string may not (own rule)
abbrev pub may_extend : WrittenKind → Bool
may_extend (simple (an_integer ns)) = true
may_extend (simple (a_bit_string bs)) = true
may_extend (simple an_octet_string) = true
may_extend (elements e j) = true
may_extend k = false

-- an extension marker is in the constraint (X.680, clause 52)
abbrev pub has_marker : ConstraintTree → Bool
has_marker (values_in r) = r.marker
has_marker (sizes_in r) = r.marker
has_marker (chars_in xs) = false

-- the constraint is one single value or one range, and not FROM
abbrev pub is_alone : ConstraintTree → Bool
is_alone (values_in r) = length r.ranges == 1
is_alone (sizes_in r) = length r.ranges == 1
is_alone (chars_in xs) = false

-- the constraint has no marker, or the marker is at an allowed place: after one value or one range (own rule)
abbrev pub is_marked : WrittenKind → ConstraintTree → Bool
is_marked k c = not (has_marker c) || (may_extend k && is_alone c)

-- ---- what is required of constraints of a type of kind k, read in module M, and what they allow

-- the constraint has a meaning: ends are numbers, in SIZE sizes, and in FROM single characters; no range has its lower
-- end above its upper one
abbrev pub ConstraintHasMeaning : Program → WrittenKind → Name → ConstraintTree → Type 0
ConstraintHasMeaning p k M (values_in r) = AreRanges p k M IsNumber r.ranges
ConstraintHasMeaning p k M (sizes_in r) = AreRanges p k M IsSize r.ranges
ConstraintHasMeaning p k M (chars_in xs) = AreFit xs

-- the type takes the constraint, which has a meaning
pub record IsFitting (p : Program) (k : WrittenKind) (M : Name) (c : ConstraintTree) : Type 0 where
  pub takes_it : takes k c ≡ true
  pub meant : ConstraintHasMeaning p k M c
  pub marked : is_marked k c ≡ true

-- the constraint without its marker allows number z, or a value of z bits, octets, characters or elements
abbrev pub AllowsNumber : Program → WrittenKind → Name → ConstraintTree → ℤ → Type 0
AllowsNumber p k M (values_in r) z = IsWithinOne p k M r.ranges z
AllowsNumber p k M (sizes_in r) z = IsWithinOne p k M r.ranges z
AllowsNumber p k M (chars_in xs) z = Unit {0}

-- the constraint allows the character with code c
abbrev pub AllowsCharacter : ConstraintTree → ℕ → Type 0
AllowsCharacter (chars_in xs) c = IsAmongAny xs c
AllowsCharacter (values_in r) c = Unit {0}
AllowsCharacter (sizes_in r) c = Unit {0}
