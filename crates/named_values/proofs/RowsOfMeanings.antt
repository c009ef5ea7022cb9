-- Rows of meanings: what each part of what names and notations mean says, in full. A definition that lost a part would
-- fail one of them.
use Rattle.std.proofs.Common.{◌≡◌, ℕ, ◌<◌, List, ◌++◌, ◌∷◌, length}
use Rattle.std.specs.Prelude.{String, get_or, string_bytes}
use Rattle.std.specs.Global.{Global}
use Rattle.asn_base.specs.Abstract.{AbstractValue}
use Rattle.messages.specs.declared.fault.Fault.TheVariants as faults
use Rattle.messages.specs.declared.fault.NotationFault.TheVariants as texts
use Rattle.messages.specs.front_end.ValueError.{DenotesValue, HasNoValue}
use Rattle.messages.specs.value_diagnostics.declared.value_diagnostic.ValueDiagnostic.{ValueDiagnostic}
use Rattle.names.specs.Faults.{fault_module}
use Rattle.names.specs.Names.{Meaning}
use Rattle.names.specs.declared.scope.Assigned.{Assigned}
use Rattle.range_ends.specs.Ends.{IsValueAt}
use Rattle.resolve.specs.Program.{Program}
use Rattle.trees.specs.declared.value.ValueSyntax.{ValueSyntax}
use Rattle.trees.specs.Values.{Name, Tree, tree_of}
use Rattle.written_values.specs.Written.{IsNotation}
use Rattle.named_values.specs.Given.{Given, named, written}
use Rattle.named_values.specs.Meant.{IsMeant, IsNotMeant}
use Rattle.named_values.specs.Named.{AreGiven, IsQualifiedName, IsQualified, Names, TypeNamed, ValueNamed}

-- ---- names

module _ (p : Program) (x : List ℕ) where
  name_means : (a : Assigned)
      → IsQualifiedName p x a
      → (M : Name) × (n : Name) × (x ≡ M ++ (46 ∷ n)) × ((i : ℕ) → i < length M → get_or M i 0 ≡ 46 → ⊥)
      × Meaning p.modules M n a
  name_means a h = (h.within, h.name, h.is.spelled, h.is.plain, h.means)

  name_alone : (t : ℕ) → Names p x t → TypeNamed p x t × ((u : ℕ) → TypeNamed p x u → u ≡ t)
  name_alone t h = (h.is, h.only)

-- ---- values that are given

module _ (p : Program) (first : List ℕ) (t : ℕ) (M : Name) (n : Tree) where
  given_type : (second : Given) → AreGiven p first second t M n → TypeNamed p first t
  given_type second h = h.typed

  given_by_name : (x : List ℕ)
      → AreGiven p first (named x) t M n
      → (i : ℕ) × ValueNamed p x i × IsValueAt p i M n
  given_by_name x h = (h.given.number, h.given.valued, h.given.at)

  given_by_text : (x : List ℕ)
      → AreGiven p first (written x) t M n
      → (name : Name) × IsQualified first M name × IsNotation x n
  given_by_text x h = (h.given.within.name, h.given.within.is, h.given.is)

module _ (p : Program) (first : List ℕ) (second : Given) where
  given_means : (t : ℕ) (v : AbstractValue)
      → IsMeant p first second t v
      → (M : Name) × (n : Tree) × AreGiven p first second t M n × DenotesValue p M t n v
  given_means t v h = (h.within, h.notation, h.named, h.is_so)

  no_value_meant : (d : ValueDiagnostic)
      → IsNotMeant p first second (faults.Value d)
      → (t : ℕ) × (M : Name) × (n : ValueSyntax) × AreGiven p first second t M (tree_of n) × HasNoValue p M t n d
  no_value_meant d h = (h.type, h.within, h.notation, h.named, h.none)

  no_type_named : (x : String Global)
      → IsNotMeant p first second (faults.NoType x)
      → (string_bytes x ≡ first) × ((t : ℕ) → TypeNamed p first t → ⊥)
  no_type_named x h = h

  never_too_long : IsNotMeant p first second faults.TooLong → ⊥
  never_too_long h = h

module _ (p : Program) (first x : List ℕ) where
  no_value_named : (y : String Global)
      → IsNotMeant p first (named x) (faults.NoValue y)
      → ((t : ℕ) × TypeNamed p first t) × ((string_bytes y ≡ x) × ((i : ℕ) → ValueNamed p x i → ⊥))
  no_value_named y h = h

  no_name_in_a_text : (y : String Global) → IsNotMeant p first (written x) (faults.NoValue y) → ⊥
  no_name_in_a_text y h = h.1

  wrong_in_its_text : (d : ValueDiagnostic)
      → IsNotMeant p first (written x) (faults.Notation (texts.Value d))
      → (t : ℕ) × (M : Name) × (n : ValueSyntax) × AreGiven p first (written x) t M (tree_of n) × HasNoValue p M t n d
      × (fault_module d.source_location ≡ M) × (d.source_location.at < length x)
  wrong_in_its_text d h =
      (h.none.type, h.none.within, h.none.notation, h.none.named, h.none.none, h.within, h.at)
