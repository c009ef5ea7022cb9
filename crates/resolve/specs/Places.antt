-- The offsets in the text of names after modules' names, M.x, in the order in which `Qualified` lists these names. The
-- offset is that of M (X.680, clause 14.6).
use Rattle.std.specs.Prelude.{ℕ, List, [], ◌∷◌, ◌++◌, Option, Some, None, Box}
use Rattle.std.specs.Global.{Global}
use Rattle.trees.specs.Names.{reference_module}
use Rattle.trees.specs.Values.{Name}
use Rattle.trees.specs.declared.constraint.ConstraintForm.{ConstraintForm}
use Rattle.trees.specs.declared.constraint.ConstraintForm.TheVariants as constraints
use Rattle.trees.specs.declared.constraint.ConstraintSyntax.{ConstraintSyntax}
use Rattle.trees.specs.declared.constraint.EndSyntax.{EndSyntax}
use Rattle.trees.specs.declared.constraint.EndSyntax.TheVariants as ends
use Rattle.trees.specs.declared.constraint.RangeSyntax.{RangeSyntax}
use Rattle.trees.specs.declared.constraint.RangeSyntax.TheVariants as ranges
use Rattle.trees.specs.declared.location.Reference.{Reference}
use Rattle.trees.specs.declared.types.PresenceSyntax.{PresenceSyntax}
use Rattle.trees.specs.declared.types.PresenceSyntax.TheVariants as presences
use Rattle.trees.specs.declared.value.Named.{Named}
use Rattle.trees.specs.declared.value.ValueForm.{ValueForm}
use Rattle.trees.specs.declared.value.ValueForm.TheVariants as forms
use Rattle.trees.specs.declared.value.ValueSyntax.{ValueSyntax}
use Rattle.trees.specs.declared.value.ValueSyntax.TheOpen.{ValueSyntax-F}
use Rattle.trees.specs.declared.value.ValueSyntax.TheFolds.{fold-ValueSyntax}
use Rattle.type_table.specs.declared.table.ListMember.{ListMember}
use Rattle.type_table.specs.declared.table.Shape.{Shape}
use Rattle.type_table.specs.declared.table.Shape.TheVariants as shapes
use Rattle.type_table.specs.declared.table.TypeNode.{TypeNode}
use Rattle.resolve.specs.Qualified.{each}

-- the offset, if a module's name is given
abbrev pub place_after : Option Name → ℕ → List ℕ
place_after None n = []
place_after (Some m) n = n ∷ []

-- the offset of the reference, if it is a name after a module's name
abbrev pub reference_place : Reference → List ℕ
reference_place r = place_after (reference_module r) r.at

-- the offsets in one level of a value; those in the values inside it are given already
abbrev pub form_places : ValueForm (List ℕ) → List ℕ
form_places (forms.Reference r) = reference_place r
form_places (forms.Chosen x v) = v.value
form_places (forms.Items vs) = each (λ ps. ps) vs.items
form_places (forms.Fields fs) = each (λ (f : Named (List ℕ)). f.value) fs.items
form_places f = []

-- the offsets in one level of a value, the form's own
abbrev pub layer_places : ValueSyntax-F (List ℕ) → List ℕ
layer_places v = form_places v.form

-- the offsets of the names in a value
abbrev pub value_places : ValueSyntax → List ℕ
value_places = fold-ValueSyntax (List ℕ) layer_places

-- the offsets of the names in a value with an identifier
abbrev pub field_places : Named ValueSyntax → List ℕ
field_places f = value_places f.value

-- the offset of the name at an end of a range
abbrev pub end_places : EndSyntax → List ℕ
end_places (ends.Number n) = []
end_places (ends.Reference r) = reference_place r

-- the offset of the name at an end of a range, if that end is given
abbrev pub bound_places : Option (Box EndSyntax Global) → List ℕ
bound_places None = []
bound_places (Some e) = end_places e.value

-- the offsets of the names in a single value or a range
abbrev pub range_places : RangeSyntax → List ℕ
range_places (ranges.Single e) = end_places e
range_places (ranges.Between a b) = bound_places a ++ bound_places b

-- the offsets of the names in a constraint with this form; FROM has none
abbrev pub limit_places : ConstraintForm → List ℕ
limit_places (constraints.Values r) = each range_places r.ranges.items
limit_places (constraints.Size r) = each range_places r.ranges.items
limit_places (constraints.From cs) = []

-- the offsets of the names in a constraint
abbrev pub constraint_places : ConstraintSyntax → List ℕ
constraint_places c = limit_places c.form

-- the offsets of the names in the value after DEFAULT
abbrev pub presence_places : PresenceSyntax → List ℕ
presence_places (presences.Default v) = value_places v.value
presence_places o = []

-- the offsets of the names in the DEFAULT of a member
abbrev pub default_places : ListMember → List ℕ
default_places c = presence_places c.presence

-- the offsets of the names in the DEFAULTs of a list
abbrev pub shape_places : Shape → List ℕ
shape_places (shapes.Members k m cs) = each default_places cs.items
shape_places s = []

-- the offsets of the names in the DEFAULTs and constraints of a written type
abbrev pub type_places : TypeNode → List ℕ
type_places w = shape_places w.shape ++ each constraint_places w.constraints.items
