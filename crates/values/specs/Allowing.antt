-- What the constraints of a type allow, whatever the type is after its references and tags (X.680, clauses 49 to 51).
use Rattle.std.specs.Prelude.{ℕ, ℤ}
use Rattle.asn_base.specs.declared.strings.StringKind.{StringKind}
use Rattle.trees.specs.Types.{a_restricted_string}
use Rattle.type_table.specs.Table.{WrittenKind, simple}
use Rattle.resolve.specs.Program.{Program}
use Rattle.range_ends.specs.Ends.{IsTypeOfKind}
use Rattle.constraints.specs.Allowed.{IsNumberAllowed, IsInAlphabet}

-- the constraints of type i of program p allow number or size z in a value
abbrev pub Allows : Program → ℕ → ℤ → Type 0
Allows p i z = (k : WrittenKind) → IsTypeOfKind p.types i k → IsNumberAllowed p k i z

-- type i of program p, if it is one of the four restricted string types, allows the character with code c
abbrev pub AllowsCode : Program → ℕ → ℕ → Type 0
AllowsCode p i c = (s : StringKind) → IsTypeOfKind p.types i (simple (a_restricted_string s)) → IsInAlphabet p s i c
