use Rattle.asn_base.specs.Typed.{nodes}
use Rattle.views.specs.Tree.{value_of}
use Rattle.ber_reader.proofs.wrong.+fault_of.Given as goal

abbrev pub decreases-fault_of : goal.decreases-fault_of
decreases-fault_of l = nodes (value_of l.value.now)
