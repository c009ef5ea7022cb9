-- Rows of what two faults have in common: each field in full, and causes that are not one.
use Rattle.std.proofs.Common.{◌≡◌, ℕ}
use Rattle.trees.specs.Values.{Name}
use Rattle.trees.specs.declared.value.ValueSyntax.{ValueSyntax}
use Rattle.values.specs.declared.arranging.NamesFault.TheVariants.{Missing, Repeated}
use Rattle.typed_values.specs.declared.fault.ValueFault.{ValueFault}
use Rattle.typed_values.specs.Laws.{ReportOneNotation, circular, disarranged, no_level, no_meaning, no_node, not_of_type, outside, past_oid, unknown_alternative, unknown_bit, written_cause}

module _ (f g : ValueFault) (h : ReportOneNotation f g) where
  one_module : f.at.within.now ≡ g.at.within.now
  one_module = h.within

  one_type : f.at.ty.index ≡ g.at.ty.index
  one_type = h.type

  one_notation : f.at.notation.now ≡ g.at.notation.now
  one_notation = h.notation

  one_cause : written_cause f.cause ≡ written_cause g.cause
  one_cause = h.cause

module _ (i j : ℕ) (K L : Name) (l m : ValueSyntax) where
  one_lost : no_meaning K l ≡ no_meaning L m → (K ≡ L) × (l ≡ m)
  one_lost e = (cc, cc)

  one_circle : circular i K l ≡ circular j L m → (i ≡ j) × (K ≡ L) × (l ≡ m)
  one_circle e = (cc, cc, cc)

  one_bit : unknown_bit K l ≡ unknown_bit L m → (K ≡ L) × (l ≡ m)
  one_bit e = (cc, cc)

  one_missing : disarranged (Missing i) K l ≡ disarranged (Missing j) L m → (i ≡ j) × (K ≡ L) × (l ≡ m)
  one_missing e = (cc, cc, cc)

  not_both : disarranged (Missing i) K l ≡ disarranged (Repeated j) L m → ⊥
  not_both e = absurd cc

deep_or_many : no_level ≡ no_node → ⊥
deep_or_many e = absurd cc

form_or_size : not_of_type ≡ outside → ⊥
form_or_size e = absurd cc

alternative_or_oid : unknown_alternative ≡ past_oid → ⊥
alternative_or_oid e = absurd cc
