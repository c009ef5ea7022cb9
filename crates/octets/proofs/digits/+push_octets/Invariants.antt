use Rattle.octets.proofs.digits.+push_octets.Given as goal

abbrev pub decreases-push_octets : goal.decreases-push_octets
decreases-push_octets l = l.number
