-- What a user reads about a fault of a value: the number, the reason, the module, the name and the place (own rule).
use Rattle.std.specs.Prelude.{◌≡◌, ℕ, Bool, true, false, List, [], Option, Some, None, string_bytes, slice_get}
use Rattle.trees.specs.Names.{reference_module, reference_name}
use Rattle.trees.specs.Values.{Name, name_at}
use Rattle.trees.specs.declared.value.ValueSyntax.{ValueSyntax}
use Rattle.trees.specs.declared.value.ValueSyntax.TheViews.{out-ValueSyntax}
use Rattle.trees.specs.declared.value.ValueForm.{ValueForm}
use Rattle.trees.specs.declared.value.ValueForm.TheVariants.{Reference, Fields}
use Rattle.trees.specs.declared.value.Named.{Named}
use Rattle.names.specs.Faults.{fault_module, fault_name}
use Rattle.type_table.specs.Table.{WrittenKind, Part, members}
use Rattle.resolve.specs.Program.{Program}
use Rattle.range_ends.specs.Ends.{IsTypeOfKind}
use Rattle.typed_values.specs.declared.fault.ValueSite.{ValueSite}
use Rattle.typed_values.specs.declared.fault.Cause.{Cause}
use Rattle.typed_values.specs.declared.fault.Cause.TheVariants as cause
use Rattle.typed_values.specs.declared.fault.ValueFault.{ValueFault}
use Rattle.value_diagnostics.specs.declared.value_diagnostic.Reason.{Reason}
use Rattle.value_diagnostics.specs.declared.value_diagnostic.Reason.TheVariants as reasons
use Rattle.value_diagnostics.specs.declared.value_diagnostic.ValueDiagnostic.{ValueDiagnostic}

-- the number by which a user knows a reason (own rule)
abbrev pub number_of : Reason → ℕ
number_of reasons.Depth = 2
number_of reasons.Nodes = 2
number_of reasons.Oid = 2
number_of reasons.NoSuchName = 31
number_of reasons.NoSuchItem = 62
number_of reasons.Circular = 33
number_of reasons.NotOfType = 60
number_of reasons.UnknownBit = 62
number_of reasons.UnknownAlternative = 62
number_of reasons.UnknownField = 62
number_of reasons.Repeated = 64
number_of reasons.Missing = 63
number_of reasons.OutOfOrder = 60
number_of reasons.Outside = 61

-- the form of a notation
abbrev pub notation_form : ValueSyntax → ValueForm ValueSyntax
notation_form l = (out-ValueSyntax l).form

-- the offset in its text at which a notation begins
abbrev pub begins : ValueSyntax → ℕ
begins l = (out-ValueSyntax l).at

-- the name that a notation is, or the empty name
abbrev pub notation_name : ValueForm ValueSyntax → Name
notation_name (Reference r) = reference_name r
notation_name f = []

-- whether there is something, which Some has and None lacks
abbrev pub is_given : {A : Type 0} → Option A → Bool
is_given None = false
is_given (Some x) = true

-- whether a module's name comes before the name that a notation is
abbrev pub has_prefix : ValueForm ValueSyntax → Bool
has_prefix (Reference r) = is_given (reference_module r)
has_prefix f = false

-- the reason for a name that means nothing: LostName if a module's name comes before it, else LostItem
abbrev pub unknown_as : Bool → Reason
unknown_as true = reasons.NoSuchName
unknown_as false = reasons.NoSuchItem

-- the name of a field, or the empty name if there is no field
abbrev pub name_in_field : Option (Named ValueSyntax) → Name
name_in_field None = []
name_in_field (Some f) = name_at f.name

-- the offset of the name of a field, or n if there is no field
abbrev pub place_in_field : ℕ → Option (Named ValueSyntax) → ℕ
place_in_field n None = n
place_in_field n (Some f) = f.name.at

-- the name of field i of a notation
abbrev pub field_name : ValueForm ValueSyntax → ℕ → Name
field_name (Fields fs) i = name_in_field (slice_get fs.items i)
field_name f i = []

-- the offset of that name, or n if there is no such field
abbrev pub place_in : ℕ → ValueForm ValueSyntax → ℕ → ℕ
place_in n (Fields fs) i = place_in_field n (slice_get fs.items i)
place_in n f i = n

-- the offset of the name of field i of notation l, or that of l if it has no such field
abbrev pub field_place : ValueSyntax → ℕ → ℕ
field_place l i = place_in (begins l) (notation_form l) i

-- the members of a list
abbrev pub parts_in : WrittenKind → List Part
parts_in (members k m cs) = cs
parts_in k = []

-- the name of a member of a list, or the empty name if there is no member
abbrev pub name_in_part : Option Part → Name
name_in_part None = []
name_in_part (Some c) = c.name

-- x is the name of member j of the list that type i is, after its references and tags
pub record IsComponentName (p : Program) (i j : ℕ) (x : Name) : Type 0 where
  pub kind : WrittenKind
  pub is : IsTypeOfKind p.types i kind
  pub name : x ≡ name_in_part (slice_get (parts_in kind) j)

-- T is true of the reason, the module, the name and the offset in the text that a fault's cause and place have. Memory
-- has none of these.
abbrev pub IsOfCause : (T : Reason → (M x : Name) → ℕ → Type 0) → Program → ValueSite → Cause → Type 0
IsOfCause T p a cause.Memory = ⊥
IsOfCause T p a cause.Depth = T reasons.Depth a.within.now [] (begins a.notation.now)
IsOfCause T p a cause.Nodes = T reasons.Nodes a.within.now [] (begins a.notation.now)
IsOfCause T p a cause.Oid = T reasons.Oid a.within.now [] (begins a.notation.now)
IsOfCause T p a cause.NotOfType = T reasons.NotOfType a.within.now [] (begins a.notation.now)
IsOfCause T p a cause.UnknownAlternative = T reasons.UnknownAlternative a.within.now [] (begins a.notation.now)
IsOfCause T p a cause.Outside = T reasons.Outside a.within.now [] (begins a.notation.now)
IsOfCause T p a (cause.NoMeaning K l) =
    T (unknown_as (has_prefix (notation_form l.now))) K.now (notation_name (notation_form l.now))
    (begins l.now)
IsOfCause T p a (cause.Circular j K l) = T reasons.Circular K.now (notation_name (notation_form l.now)) (begins l.now)
IsOfCause T p a (cause.UnknownBit K b) = T reasons.UnknownBit K.now (notation_name (notation_form b.now)) (begins b.now)
IsOfCause T p a (cause.UnknownField j K l) = T reasons.UnknownField K.now (field_name (notation_form l.now) j)
    (field_place l.now j)
IsOfCause T p a (cause.Repeated j K l) =
    T reasons.Repeated K.now (field_name (notation_form l.now) j) (field_place l.now j)
IsOfCause T p a (cause.OutOfOrder j K l) =
    T reasons.OutOfOrder K.now (field_name (notation_form l.now) j) (field_place l.now j)
IsOfCause T p a (cause.Missing j K l) =
    (x : Name) × IsComponentName p a.ty.index j x × T reasons.Missing K.now x (begins l.now)

-- the report has this reason, module, name and offset
pub record ReportsAs (t : ValueDiagnostic) (r : Reason) (M x : Name) (n : ℕ) : Type 0 where
  pub reason : t.reason ≡ r
  pub within : fault_module t.source_location ≡ M
  pub name : fault_name t.source_location ≡ x
  pub at : t.source_location.at ≡ n

-- the report of a fault has what the fault's cause and place have
abbrev pub IsDiagnostic : Program → ValueFault → ValueDiagnostic → Type 0
IsDiagnostic p f t = IsOfCause (ReportsAs t) p f.at f.cause
