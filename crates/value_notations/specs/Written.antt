-- Notations as they are written, with their offsets in the text: what is in a notation, and what its references lead to
-- (X.680, clauses 16, 17, 25, 26 and 29).
use Rattle.std.specs.Prelude.{◌≡◌, ◌<◌, ℕ, List, [], ◌∷◌, Option, Some, None, slice_get, string_bytes}
use Rattle.trees.specs.Values.{Name, tree_of}
use Rattle.trees.specs.declared.value.Named.{Named}
use Rattle.trees.specs.declared.value.ValueForm.{ValueForm}
use Rattle.trees.specs.declared.value.ValueForm.TheVariants.{Chosen, Empty, Items, Fields}
use Rattle.trees.specs.declared.value.ValueSyntax.{ValueSyntax}
use Rattle.trees.specs.declared.value.ValueSyntax.TheViews.{out-ValueSyntax}
use Rattle.names.specs.declared.sources.ValueAt.{ValueAt}
use Rattle.type_table.specs.declared.table.ListMember.{ListMember}
use Rattle.type_table.specs.declared.table.Shape.{Shape}
use Rattle.type_table.specs.declared.table.Shape.TheVariants as shapes
use Rattle.type_table.specs.declared.table.TypeNode.{TypeNode}
use Rattle.type_table.specs.Table.{WrittenKind}
use Rattle.resolve.specs.Program.{WrittenProgram}
use Rattle.value_notations.specs.References.{IsLast}

-- ---- what is in a notation

abbrev pub form_values : ValueForm ValueSyntax → Option (List ValueSyntax)
form_values Empty = Some []
form_values (Items vs) = Some vs.items
form_values f = None

-- the values in the braces of a notation, in order
abbrev pub braced_values : ValueSyntax → Option (List ValueSyntax)
braced_values n = form_values (out-ValueSyntax n).form

abbrev pub form_fields : ValueForm ValueSyntax → Option (List (Named ValueSyntax))
form_fields Empty = Some []
form_fields (Fields fs) = Some fs.items
form_fields f = None

-- the values in the braces of a notation, each after its identifier, in order
abbrev pub braced_fields : ValueSyntax → Option (List (Named ValueSyntax))
braced_fields n = form_fields (out-ValueSyntax n).form

abbrev pub form_chosen : ValueForm ValueSyntax → Option (Name × ValueSyntax)
form_chosen (Chosen x v) = Some (string_bytes x, v.value)
form_chosen f = None

-- an alternative's identifier, and the value after its colon
abbrev pub chosen_at : ValueSyntax → Option (Name × ValueSyntax)
chosen_at n = form_chosen (out-ValueSyntax n).form

-- notation b is the first one of these with its tree
pub record IsFirstAmong (ns : List ValueSyntax) (b : ValueSyntax) : Type 0 where
  pub number : ℕ
  pub there : slice_get ns number ≡ Some b
  pub before : (m : ℕ) (c : ValueSyntax) → m < number → slice_get ns m ≡ Some c → tree_of c ≡ tree_of b → ⊥

-- notation b is the first one in the braces of notation n with its tree
abbrev pub IsFirstInBraces : (n b : ValueSyntax) → Type 0
IsFirstInBraces n b = (ns : List ValueSyntax) × (braced_values n ≡ Some ns) × IsFirstAmong ns b

-- ---- what is in the text of modules

-- the text of value assignment i has this notation
pub record IsNotationOf (w : WrittenProgram) (i : ℕ) (n : ValueSyntax) : Type 0 where
  pub value : ValueAt
  pub there : slice_get w.values i ≡ Some value
  pub notation : value.syntax ≡ n

-- the members that a list is written with; other types have none
abbrev pub list_members : Shape → List ListMember
list_members (shapes.Members k e ms) = ms.items
list_members s = []

-- type i is written with these members
pub record IsWrittenWith (w : WrittenProgram) (i : ℕ) (ms : List ListMember) : Type 0 where
  pub node : TypeNode
  pub there : slice_get w.types i ≡ Some node
  pub members : list_members node.shape ≡ ms

-- The notation to which references of notation n led, if `os` are the values whose notations were being read before,
-- and `ps` those being read now. It is n itself, or the notation of the value assignment that is being read last.
pub data IsReachedNotation (w : WrittenProgram) (os : List ℕ) (n : ValueSyntax) :
    (ps : List ℕ) → ValueSyntax → Type 0 where
  itself : IsReachedNotation w os n os n
  assigned : {ps : List ℕ} {m l : ValueSyntax} {i : ℕ} →
      IsReachedNotation w os n ps m →
      IsNotationOf w i l →
      IsReachedNotation w os n (i ∷ ps) l

-- the references of notation n lead to notation l, which is this one in the text
pub record IsLastAt (w : WrittenProgram) (k : WrittenKind) (os : List ℕ) (M : Name) (n : ValueSyntax) (ps : List ℕ)
    (K : Name) (l : ValueSyntax) : Type 0 where
  pub last : IsLast w.program k os M (tree_of n) ps K (tree_of l)
  pub text : IsReachedNotation w os n ps l
