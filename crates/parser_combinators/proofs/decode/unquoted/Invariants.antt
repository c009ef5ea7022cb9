use Rattle.std.proofs.Common.{◌≡◌, ◌++◌, length}
use Rattle.grammar.specs.Lexeme.{single_quotes}
use Rattle.parser_combinators.proofs.decode.unquoted.Given as goal

abbrev pub invariant-loop-octet : goal.invariant-loop-octet
invariant-loop-octet l = l.unquoted.items ++ single_quotes l.rest ≡ single_quotes l.fn.octets

abbrev pub decreases-loop-octet : goal.decreases-loop-octet
decreases-loop-octet l = length l.rest
