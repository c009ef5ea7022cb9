use Rattle.octets.proofs.digits.+septet_count.Given as goal

abbrev pub decreases-septet_count : goal.decreases-septet_count
decreases-septet_count l = l.number
