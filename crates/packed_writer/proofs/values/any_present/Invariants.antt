use Rattle.std.proofs.Common.{◌≡◌, map}
use Rattle.std.specs.Prelude.{option_map}
use Rattle.asn_base.specs.Abstract.{abstract, row_of_options}
use Rattle.packed_code.specs.Meaning.{any_from}
use Rattle.packed_writer.proofs.values.any_present.Given as goal

abbrev pub invariant-loop-place : goal.invariant-loop-place
invariant-loop-place l = any_from l.from (row_of_options (map (option_map abstract) l.values)) ≡ any_from l.place (row_of_options (map (option_map abstract) l.values))
