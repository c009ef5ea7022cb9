-- What a table says of the DEFAULTs and of the named values of linked modules.
use Rattle.std.specs.Prelude.{◌≡◌, ℕ, Bool, List, ◌∷◌}
use Rattle.asn_base.specs.Abstract.{AbstractValue}
use Rattle.asn_base.specs.Typed.{nodes}
use Rattle.trees.specs.declared.types.ListKind.{ListKind}
use Rattle.trees.specs.Values.{Name, Tree}
use Rattle.names.specs.Modules.{OccursIn}
use Rattle.type_table.specs.Table.{Part, members}
use Rattle.resolve.specs.Program.{Program}
use Rattle.range_ends.specs.Ends.{IsValueAt}
use Rattle.value_notations.specs.Notations.{Notation}
use Rattle.value_notations.specs.Values.{MayLackValue, NotatedValueIn}
use Rattle.values.specs.Allowing.{Allows, AllowsCode}
use Rattle.typed_values.specs.Chains.{AreApart, AreBy, AreLed}
use Rattle.typed_values.specs.declared.levels.DefaultLevels.{DefaultLevels}
use Rattle.typed_values.specs.declared.levels.Defaults.{Defaults}
use Rattle.typed_values.specs.declared.named.NamedValue.{NamedValue}
use Rattle.typed_values.specs.Faults.{HasKindIn}

-- these are the components of a list that is written in module N
pub record AreListed (p : Program) (N : Name) (cs : List Part) : Type 0 where
  pub type : ℕ
  pub kind : ListKind
  pub marked : Bool
  pub written : HasKindIn p type (members kind marked cs) N

-- component c is in such a list
pub record IsListed (p : Program) (N : Name) (c : Part) : Type 0 where
  pub parts : List Part
  pub listed : AreListed p N parts
  pub there : OccursIn parts c

-- For some components the table has, by the numbers of their types, how many levels must be left if they are absent.
-- The DEFAULT then stands for a value with at most as many levels.
abbrev pub AreKnownDefaults : Program → List DefaultLevels → Type 0
AreKnownDefaults p table = (N : Name) (c : Part) (e : DefaultLevels) →
    IsListed p N c →
    OccursIn table e →
    e.ty ≡ c.ty →
    MayLackValue p (Allows p) (AllowsCode p) e.levels N c

-- The notation of a value assignment stands under a type for a value with so many levels and nodes. It does so wherever
-- it is named, unless one of the values `named` is being read there. These are all that its notation leads to, and none
-- of them has a later turn than the entry says.
pub record ComesTo (p : Program) (turns : List ℕ) (e : NamedValue) : Type 0 where
  pub within : Name
  pub notation : Tree
  pub there : IsValueAt p e.number within notation
  pub value : AbstractValue
  pub named : List ℕ
  pub itself : OccursIn named e.number
  pub by : AreBy turns e.latest named
  pub holds : (os : List ℕ) → AreApart os named → Notation p (e.number ∷ os) within e.ty notation value
  pub shaped : NotatedValueIn p (Allows p) (AllowsCode p) e.levels e.ty value
  pub counted : nodes value ≡ e.nodes

-- what the table says is true
pub record AreKnown (p : Program) (d : Defaults) : Type 0 where
  pub defaults : AreKnownDefaults p d.levels.items
  pub named : (e : NamedValue) → OccursIn d.named.entries.items e → ComesTo p d.named.turns.items e
  pub chains : AreLed p d.named.turns.items d.chains
