-- The names that references in memory have (X.680, clause 14.6). A name is the list of its octets.
use Rattle.std.specs.Prelude.{ℕ, Option, Some, None, List, string_bytes}
use Rattle.trees.specs.declared.location.Reference.{Reference}
use Rattle.trees.specs.declared.location.ReferenceNames.{ReferenceNames}
use Rattle.trees.specs.declared.location.ReferenceNames.TheVariants.{Alone, Qualified}

-- the name of the module, if one is given
abbrev pub owner_given : ReferenceNames → Option (List ℕ)
owner_given (Alone x) = None
owner_given (Qualified q) = Some (string_bytes q.value.module)

-- the name, without that of the module
abbrev pub name_given : ReferenceNames → List ℕ
name_given (Alone x) = string_bytes x
name_given (Qualified q) = string_bytes q.value.name

-- the name of a reference's module, if one is given
abbrev pub reference_module : Reference → Option (List ℕ)
reference_module r = owner_given r.names

-- the name of a reference, without that of the module
abbrev pub reference_name : Reference → List ℕ
reference_name r = name_given r.names
