-- What modules write, in order, with its places in the text: the types and the values of their assignments, and the
-- offsets of the assignments' names (X.680, clause 16).
use Rattle.std.specs.Prelude.{ℕ, List, [], ◌∷◌, ◌++◌, map}
use Rattle.trees.specs.declared.module.Assignment.{Assignment}
use Rattle.trees.specs.declared.module.Assignment.TheVariants as givens
use Rattle.trees.specs.declared.module.Module.{Module as ModuleSyntax}
use Rattle.trees.specs.declared.types.TypeSyntax.{TypeSyntax}
use Rattle.trees.specs.declared.value.ValueSyntax.{ValueSyntax}
use Rattle.names.specs.First.{name_place}

-- the type of an assignment, or that of the value that is assigned
abbrev pub assigned_type : Assignment → TypeSyntax
assigned_type (givens.Type a) = a.syntax
assigned_type (givens.Value a) = a.syntax

-- the types of all assignments of these modules, in order; that of assignment n is type n
abbrev pub written_types : List ModuleSyntax → List TypeSyntax
written_types [] = []
written_types (m ∷ ws) = map assigned_type m.assignments.items ++ written_types ws

-- the values that are assigned, in order
abbrev pub assigned_values : List Assignment → List ValueSyntax
assigned_values [] = []
assigned_values (givens.Type a ∷ gs) = assigned_values gs
assigned_values (givens.Value a ∷ gs) = a.value ∷ assigned_values gs

-- the values that these modules assign, in order
abbrev pub written_values : List ModuleSyntax → List ValueSyntax
written_values [] = []
written_values (m ∷ ws) = assigned_values m.assignments.items ++ written_values ws

-- the offsets of the names that these modules assign, in order
abbrev pub written_places : List ModuleSyntax → List ℕ
written_places [] = []
written_places (m ∷ ws) = map name_place m.assignments.items ++ written_places ws
