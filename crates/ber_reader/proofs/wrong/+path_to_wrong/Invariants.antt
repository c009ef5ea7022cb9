use Rattle.asn_base.specs.Typed.{nodes}
use Rattle.views.specs.Tree.{value_of}
use Rattle.ber_reader.proofs.wrong.+path_to_wrong.Given as goal

abbrev pub decreases-path_to_wrong : goal.decreases-path_to_wrong
decreases-path_to_wrong l = nodes (value_of l.value.now)
