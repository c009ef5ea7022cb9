-- What laws need besides faults.
use Rattle.std.specs.Prelude.{◌≡◌, ℕ}
use Rattle.trees.specs.declared.value.ValueSyntax.{ValueSyntax}
use Rattle.trees.specs.Values.{Name}
use Rattle.values.specs.declared.arranging.NamesFault.{NamesFault}
use Rattle.values.specs.declared.arranging.NamesFault.TheVariants.{Unknown, Repeated, Missing, OutOfOrder}
use Rattle.typed_values.specs.declared.fault.Cause.{Cause}
use Rattle.typed_values.specs.declared.fault.Cause.TheVariants as cause
use Rattle.typed_values.specs.declared.fault.ValueFault.{ValueFault}

-- what is wrong with a notation, without places in memory: names and notations are those of the text
pub data WrittenCause : Type 0 where
  no_memory : WrittenCause
  no_level : WrittenCause
  no_node : WrittenCause
  no_meaning : Name → ValueSyntax → WrittenCause
  circular : ℕ → Name → ValueSyntax → WrittenCause
  not_of_type : WrittenCause
  unknown_bit : Name → ValueSyntax → WrittenCause
  past_oid : WrittenCause
  unknown_alternative : WrittenCause
  disarranged : NamesFault → Name → ValueSyntax → WrittenCause
  outside : WrittenCause

abbrev pub written_cause : Cause → WrittenCause
written_cause cause.Memory = no_memory
written_cause cause.Depth = no_level
written_cause cause.Nodes = no_node
written_cause (cause.NoMeaning K l) = no_meaning K.now l.now
written_cause (cause.Circular i K l) = circular i K.now l.now
written_cause cause.NotOfType = not_of_type
written_cause (cause.UnknownBit K l) = unknown_bit K.now l.now
written_cause cause.Oid = past_oid
written_cause cause.UnknownAlternative = unknown_alternative
written_cause (cause.UnknownField i K l) = disarranged (Unknown i) K.now l.now
written_cause (cause.Repeated i K l) = disarranged (Repeated i) K.now l.now
written_cause (cause.Missing i K l) = disarranged (Missing i) K.now l.now
written_cause (cause.OutOfOrder i K l) = disarranged (OutOfOrder i) K.now l.now
written_cause cause.Outside = outside

-- two faults say the same: one notation of the text is wrong, which is read in one module under one type, in one way
pub record ReportOneNotation (f g : ValueFault) : Type 0 where
  pub within : f.at.within.now ≡ g.at.within.now
  pub type : f.at.ty.index ≡ g.at.ty.index
  pub notation : f.at.notation.now ≡ g.at.notation.now
  pub cause : written_cause f.cause ≡ written_cause g.cause
