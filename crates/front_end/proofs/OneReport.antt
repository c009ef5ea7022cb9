-- Two reports of one fault of a value say the same.
use Rattle.std.proofs.Common.{◌≡◌, ◌∙◌, ℕ, sym, ap, subst}
use Rattle.std.specs.Prelude.{[], slice_get}
use Rattle.trees.specs.Values.{Name}
use Rattle.trees.specs.declared.value.ValueSyntax.{ValueSyntax}
use Rattle.type_table.specs.Table.{WrittenKind}
use Rattle.resolve.specs.Program.{Program, WrittenProgram}
use Rattle.value_notations.specs.proving.Following.{one_kind}
use Rattle.extensions.specs.values.declared.arranging.NamesFault.TheVariants as names
use Rattle.extensions.specs.Faults.{IsRightExtensionFault}
use Rattle.extensions.specs.SchemaOfModules.{IsLinkedProgram}
use Rattle.extensions.specs.declared.fault.ExtFault.TheVariants.{Default, Assigned}
use Rattle.value_diagnostics.specs.typed_values.Laws.{ReportOneNotation, WrittenCause, written_cause}
use Rattle.value_diagnostics.specs.typed_values.Laws as written
use Rattle.value_diagnostics.specs.typed_values.declared.fault.Cause.{Cause}
use Rattle.value_diagnostics.specs.typed_values.declared.fault.Cause.TheVariants as cause
use Rattle.value_diagnostics.specs.typed_values.declared.fault.ValueFault.{ValueFault}
use Rattle.value_diagnostics.specs.typed_values.declared.fault.ValueSite.{ValueSite}
use Rattle.value_diagnostics.specs.Diagnosed.{IsComponentName, IsDiagnostic, IsOfCause, ReportsAs, begins, field_name, field_place, has_prefix, name_in_part, notation_form, notation_name, parts_in, unknown_as}
use Rattle.value_diagnostics.specs.declared.value_diagnostic.Reason.{Reason}
use Rattle.value_diagnostics.specs.declared.value_diagnostic.Reason.TheVariants as reasons
use Rattle.value_diagnostics.specs.declared.value_diagnostic.ValueDiagnostic.{ValueDiagnostic}
use Rattle.front_end.specs.Faults.{IsLinkedFault}
use Rattle.front_end.specs.OneReport.{ReportOneReason}
use Rattle.front_end.specs.declared.fault.CompileError.TheVariants as faults

-- what a report says of a cause without places in memory
abbrev seen : (Reason → (M x : Name) → ℕ → Type 0) → Program → Name → ℕ → ValueSyntax → WrittenCause → Type 0
seen T p M i n written.no_memory = ⊥
seen T p M i n written.no_level = T reasons.Depth M [] (begins n)
seen T p M i n written.no_node = T reasons.Nodes M [] (begins n)
seen T p M i n written.past_oid = T reasons.Oid M [] (begins n)
seen T p M i n written.not_of_type = T reasons.NotOfType M [] (begins n)
seen T p M i n written.unknown_alternative = T reasons.UnknownAlternative M [] (begins n)
seen T p M i n written.outside = T reasons.Outside M [] (begins n)
seen T p M i n (written.no_meaning K l) =
    T (unknown_as (has_prefix (notation_form l))) K (notation_name (notation_form l)) (begins l)
seen T p M i n (written.circular j K l) = T reasons.Circular K (notation_name (notation_form l)) (begins l)
seen T p M i n (written.unknown_bit K b) = T reasons.UnknownBit K (notation_name (notation_form b)) (begins b)
seen T p M i n (written.disarranged names.Memory K l) = ⊥
seen T p M i n (written.disarranged (names.Unknown j) K l) =
    T reasons.UnknownField K (field_name (notation_form l) j) (field_place l j)
seen T p M i n (written.disarranged (names.Repeated j) K l) =
    T reasons.Repeated K (field_name (notation_form l) j) (field_place l j)
seen T p M i n (written.disarranged (names.OutOfOrder j) K l) =
    T reasons.OutOfOrder K (field_name (notation_form l) j) (field_place l j)
seen T p M i n (written.disarranged (names.Missing j) K l) =
    (x : Name) × IsComponentName p i j x × T reasons.Missing K x (begins l)

to_seen : (T : Reason → (M x : Name) → ℕ → Type 0) (p : Program) (a : ValueSite) (c : Cause) → IsOfCause T p a c →
    seen T p a.within.now a.ty.index a.notation.now (written_cause c)
to_seen T p a cause.Memory h = h
to_seen T p a cause.Depth h = h
to_seen T p a cause.Nodes h = h
to_seen T p a cause.Oid h = h
to_seen T p a cause.NotOfType h = h
to_seen T p a cause.UnknownAlternative h = h
to_seen T p a cause.Outside h = h
to_seen T p a (cause.NoMeaning K l) h = h
to_seen T p a (cause.Circular j K l) h = h
to_seen T p a (cause.UnknownBit K b) h = h
to_seen T p a (cause.UnknownField j K l) h = h
to_seen T p a (cause.Repeated j K l) h = h
to_seen T p a (cause.OutOfOrder j K l) h = h
to_seen T p a (cause.Missing j K l) h = h

same_report : {t u : ValueDiagnostic} {r : Reason} {M x : Name} {n : ℕ} → ReportsAs t r M x n → ReportsAs u r M x n → ReportOneReason t u
same_report h k =
    record { reason = h.reason ∙ sym k.reason; location = (h.within ∙ sym k.within, h.name ∙ sym k.name, h.at ∙ sym k.at) }

one_component : (p : Program) (i j : ℕ) (x y : Name) → IsComponentName p i j x → IsComponentName p i j y → x ≡ y
one_component p i j x y h k =
    h.name ∙ ap (λ (z : WrittenKind). name_in_part (slice_get (parts_in z) j)) (one_kind p.types i h.kind k.kind h.is k.is) ∙ sym k.name

same_seen : (t u : ValueDiagnostic) (p : Program) (M : Name) (i : ℕ) (n : ValueSyntax) (c : WrittenCause) →
    seen (ReportsAs t) p M i n c → seen (ReportsAs u) p M i n c → ReportOneReason t u
same_seen t u p M i n written.no_memory h k = absurd h
same_seen t u p M i n written.no_level h k = same_report h k
same_seen t u p M i n written.no_node h k = same_report h k
same_seen t u p M i n written.past_oid h k = same_report h k
same_seen t u p M i n written.not_of_type h k = same_report h k
same_seen t u p M i n written.unknown_alternative h k = same_report h k
same_seen t u p M i n written.outside h k = same_report h k
same_seen t u p M i n (written.no_meaning K l) h k = same_report h k
same_seen t u p M i n (written.circular j K l) h k = same_report h k
same_seen t u p M i n (written.unknown_bit K b) h k = same_report h k
same_seen t u p M i n (written.disarranged names.Memory K l) h k = absurd h
same_seen t u p M i n (written.disarranged (names.Unknown j) K l) h k = same_report h k
same_seen t u p M i n (written.disarranged (names.Repeated j) K l) h k = same_report h k
same_seen t u p M i n (written.disarranged (names.OutOfOrder j) K l) h k = same_report h k
same_seen t u p M i n (written.disarranged (names.Missing j) K l) h k =
    let e = one_component p i j h.0 k.0 h.1 k.1 in
    same_report h.2 (subst (λ (z : Name). ReportsAs u reasons.Missing K z (begins l)) (sym e) k.2)

one_report : (p : Program) (f g : ValueFault) (t u : ValueDiagnostic) → ReportOneNotation f g → IsDiagnostic p f t → IsDiagnostic p g u →
    ReportOneReason t u
one_report p f g t u s h k =
    let x = to_seen (ReportsAs t) p f.at f.cause h in
    let y = to_seen (ReportsAs u) p g.at g.cause k in
    let T = ReportsAs u in
    same_seen t u p f.at.within.now f.at.ty.index f.at.notation.now (written_cause f.cause) x
    (subst (λ (z : Name). seen T p z f.at.ty.index f.at.notation.now (written_cause f.cause)) (sym s.within)
    (subst (λ (z : ℕ). seen T p g.at.within.now z f.at.notation.now (written_cause f.cause)) (sym s.type)
    (subst (λ (z : ValueSyntax). seen T p g.at.within.now g.at.ty.index z (written_cause f.cause)) (sym s.notation)
    (subst (λ (z : WrittenCause). seen T p g.at.within.now g.at.ty.index g.at.notation.now z) (sym s.cause) y))))

-- what the crate below says of first faults
abbrev pub OneDefault : Type 0
OneDefault = (w : WrittenProgram) (e f : ValueFault) → IsLinkedProgram w.program →
    IsRightExtensionFault w (Default e) → IsRightExtensionFault w (Default f) → ReportOneNotation e f

abbrev pub OneAssigned : Type 0
OneAssigned = (w : WrittenProgram) (e f : ValueFault) → IsLinkedProgram w.program →
    IsRightExtensionFault w (Assigned e) → IsRightExtensionFault w (Assigned f) → ReportOneNotation e f

pub one_of_defaults : OneDefault → (w : WrittenProgram) (t u : ValueDiagnostic) → IsLinkedProgram w.program →
    IsLinkedFault w (faults.Default t) → IsLinkedFault w (faults.Default u) → ReportOneReason t u
one_of_defaults law w t u r x y =
    let a = x.2 in
    let b = y.2 in
    one_report w.program a.fault b.fault t u (law w a.fault b.fault r a.is_so b.is_so) a.diagnostic b.diagnostic

pub one_of_values : OneAssigned → (w : WrittenProgram) (t u : ValueDiagnostic) → IsLinkedProgram w.program →
    IsLinkedFault w (faults.Assigned t) → IsLinkedFault w (faults.Assigned u) → ReportOneReason t u
one_of_values law w t u r x y =
    let a = x.2 in
    let b = y.2 in
    one_report w.program a.fault b.fault t u (law w a.fault b.fault r a.is_so b.is_so) a.diagnostic b.diagnostic
