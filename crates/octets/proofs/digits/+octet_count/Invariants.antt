use Rattle.octets.proofs.digits.+octet_count.Given as goal

abbrev pub decreases-octet_count : goal.decreases-octet_count
decreases-octet_count l = l.number
