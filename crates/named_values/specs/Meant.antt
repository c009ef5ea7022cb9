-- The value that the name of a type and a value that is given mean, and why they mean none (X.680, clauses 14.1, 16 and
-- 17).
use Rattle.std.specs.Prelude.{◌≡◌, ℕ, ◌<◌, List, length, string_bytes, String}
use Rattle.std.specs.Global.{Global}
use Rattle.asn_base.specs.Abstract.{AbstractValue}
use Rattle.trees.specs.declared.value.ValueSyntax.{ValueSyntax}
use Rattle.trees.specs.Values.{Name, Tree, tree_of}
use Rattle.names.specs.Faults.{fault_module}
use Rattle.resolve.specs.Program.{Program}
use Rattle.messages.specs.front_end.ValueError.{DenotesValue, HasNoValue}
use Rattle.messages.specs.value_diagnostics.declared.value_diagnostic.ValueDiagnostic.{ValueDiagnostic}
use Rattle.messages.specs.declared.fault.Fault.{Fault}
use Rattle.messages.specs.declared.fault.Fault.TheVariants as faults
use Rattle.messages.specs.declared.fault.NotationFault.{NotationFault}
use Rattle.messages.specs.declared.fault.NotationFault.TheVariants as texts
use Rattle.written_values.specs.Written.{HasNoTokens, IsNoValue}
use Rattle.named_values.specs.Given.{Given, named, written}
use Rattle.named_values.specs.Named.{AreGiven, TypeNamed, ValueNamed}

-- The first name is that of type t of program p, and the notation of the value that is given stands for v under this
-- type. A named value may be assigned with another type.
pub record IsMeant (p : Program) (first : List ℕ) (second : Given) (t : ℕ) (v : AbstractValue) : Type 0 where
  pub within : Name
  pub notation : Tree
  pub named : AreGiven p first second t within notation
  pub is_so : DenotesValue p within t notation v

-- The first name is that of a type, and the notation of the value that is given stands for no value of the type.
-- `diagnostic` is a fault of that notation.
pub record DenotesNoValue (p : Program) (first : List ℕ) (second : Given) (diagnostic : ValueDiagnostic) : Type 0 where
  pub type : ℕ
  pub within : Name
  pub notation : ValueSyntax
  pub named : AreGiven p first second type within (tree_of notation)
  pub none : HasNoValue p within type notation diagnostic

-- the first text names a type
abbrev pub NamesType : Program → List ℕ → Type 0
NamesType p first = (t : ℕ) × TypeNamed p first t

-- Why a name finds no type: it is that of none, and the fault has the name; or an allocation failed.
pub data IsNoType (p : Program) (name : List ℕ) : Fault → Type 0 where
  no_memory : IsNoType p name faults.Memory
  no_type : {x : String Global}
      → string_bytes x ≡ name
      → ((t : ℕ) → TypeNamed p name t → ⊥)
      → IsNoType p name (faults.NoType x)

-- the value is given by a text that is the name x, and no value has this name
abbrev pub NamesNoValue : Program → Given → String Global → Type 0
NamesNoValue p (named text) x = (string_bytes x ≡ text) × ((i : ℕ) → ValueNamed p text i → ⊥)
NamesNoValue p (written text) x = ⊥

-- The notation that the text x is stands for no value of the type, and the place of the fault is in that text. The
-- module of the fault is the one in which the notation is read.
pub record IsWrongWithin (p : Program) (first x : List ℕ) (diagnostic : ValueDiagnostic) : Type 0 where
  pub none : DenotesNoValue p first (written x) diagnostic
  pub within : fault_module diagnostic.source_location ≡ none.within
  pub at : diagnostic.source_location.at < length x

-- The first text names a type, and the value is given by a text with this fault. The text has no tokens, or its tokens
-- aren't those of one value, or the notation stands for no value of the type.
abbrev pub IsWrongText : Program → (first : List ℕ) → Given → NotationFault → Type 0
IsWrongText p first (named text) f = ⊥
IsWrongText p first (written x) (texts.Octets f) = NamesType p first × HasNoTokens x f
IsWrongText p first (written x) (texts.Tokens f) = NamesType p first × IsNoValue x f
IsWrongText p first (written x) (texts.Value t) = IsWrongWithin p first x t

-- The name and what is given mean no value. NoType: the name is that of no type. NoValue: it is, and the name of the
-- value is that of none. Value: the value's notation stands for no value of the type. Notation: the text of a notation
-- is wrong, and the fault is at a place in it. NoType and NoValue have the text that names nothing. Memory says
-- nothing.
abbrev pub IsNotMeant : Program → (first : List ℕ) → (second : Given) → Fault → Type 0
IsNotMeant p first second faults.Memory = Unit {0}
IsNotMeant p first second (faults.NoType x) = (string_bytes x ≡ first) × ((t : ℕ) → TypeNamed p first t → ⊥)
IsNotMeant p first second (faults.NoValue x) = NamesType p first × NamesNoValue p second x
IsNotMeant p first second (faults.Value t) = DenotesNoValue p first second t
IsNotMeant p first second (faults.Notation f) = IsWrongText p first second f
IsNotMeant p first second fault = ⊥
