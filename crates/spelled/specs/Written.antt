-- How the types of modules are spelled. The names of components, alternatives, items, bits and numbers are identifiers
-- (X.680, clauses 19.1, 20.1, 22.1, 25.1, 27.1 and 29.1, with 12.3). An enumeration and a CHOICE have an item or an
-- alternative before the marker (X.680, clauses 20.1 and 29.1).
use Rattle.std.specs.Prelude.{◌≤◌, ◌+◌, ℕ, ◌++◌, length, map}
use Rattle.std.specs.List.{AllByRecursion}
use Rattle.asn_base.specs.Names.{IsIdentifier}
use Rattle.trees.specs.declared.types.ListKind.{ListKind}
use Rattle.trees.specs.declared.types.ListKind.TheVariants.{Sequence, Set, Choice}
use Rattle.trees.specs.Types.{Plain, an_integer, a_bit_string, an_enumerated}
use Rattle.trees.specs.Types.{TypeTree, a_type, FormTree, a_simple, a_reference, a_list, an_elements, a_tagged}
use Rattle.trees.specs.Types.{TypeMembers, no_member, member_and}
use Rattle.trees.specs.Modules.{AssignmentTree, assigns_type, assigns_value, ModuleTree}
use Rattle.type_table.specs.Items.{additions_of}
use Rattle.type_table.specs.Lists.{in_root}

-- a type that holds no other type
abbrev pub IsSpelledPlain : Plain → Type 0
IsSpelledPlain (an_integer ns) = AllByRecursion IsIdentifier (map (λ n. n.0) ns)
IsSpelledPlain (a_bit_string bs) = AllByRecursion IsIdentifier (map (λ b. b.0) bs)
IsSpelledPlain (an_enumerated root more) =
    (1 ≤ length root)
    × AllByRecursion IsIdentifier (map (λ i. i.0) (root ++ additions_of more))
IsSpelledPlain k = Unit {0}

-- how many of these members come before the marker
abbrev pub roots_in : TypeMembers → ℕ
roots_in no_member = 0
roots_in (member_and x t o g ms) = in_root g + roots_in ms

-- a CHOICE with n alternatives before the marker has one there
abbrev pub HasRoot : ListKind → ℕ → Type 0
HasRoot Choice n = 1 ≤ n
HasRoot Sequence n = Unit {0}
HasRoot Set n = Unit {0}

abbrev mutual
  -- a type, and all types inside it
  pub IsSpelledTree : TypeTree → Type 0
  IsSpelledTree (a_type f cs) = IsSpelledForm f

  pub IsSpelledForm : FormTree → Type 0
  IsSpelledForm (a_simple p) = IsSpelledPlain p
  IsSpelledForm (a_reference N x) = Unit {0}
  IsSpelledForm (a_list k m us) = AreSpelledMembers us × HasRoot k (roots_in us)
  IsSpelledForm (an_elements e t) = IsSpelledTree t
  IsSpelledForm (a_tagged g w t) = IsSpelledTree t

  pub AreSpelledMembers : TypeMembers → Type 0
  AreSpelledMembers no_member = Unit {0}
  AreSpelledMembers (member_and x t o g ms) = IsIdentifier x × IsSpelledTree t × AreSpelledMembers ms

-- the type of an assignment
abbrev pub IsSpelledAssignment : AssignmentTree → Type 0
IsSpelledAssignment (assigns_type x t) = IsSpelledTree t
IsSpelledAssignment (assigns_value x t v) = IsSpelledTree t

-- the types of all assignments of a module
abbrev pub IsSpelledModule : ModuleTree → Type 0
IsSpelledModule m = AllByRecursion IsSpelledAssignment m.assignments
