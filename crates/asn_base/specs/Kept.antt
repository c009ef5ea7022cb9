-- The range whose ends are kept in few octets.
use Rattle.std.specs.Prelude.{Some, None}
use Rattle.asn_base.specs.declared.kept_range.Ends.{Ends}
use Rattle.asn_base.specs.declared.kept_range.Ends.TheVariants.{Between, From, UpTo, Long}
use Rattle.asn_base.specs.Types.{Range}

abbrev pub kept : Ends → Range
kept (Between l g) = record { least = Some l; greatest = Some g }
kept (From l) = record { least = Some l; greatest = None }
kept (UpTo g) = record { least = None; greatest = Some g }
kept (Long r) = record { least = r.value.least; greatest = r.value.greatest }
