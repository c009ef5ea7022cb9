use Rattle.std.proofs.Common.{length}
use Rattle.expected_tokens.proofs.following.+put_those_that_go.Given as goal

abbrev pub decreases-put_those_that_go : goal.decreases-put_those_that_go
decreases-put_those_that_go l = length l.kinds.now
