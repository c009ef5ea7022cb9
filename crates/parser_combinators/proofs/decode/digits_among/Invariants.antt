use Rattle.std.proofs.Common.{◌≡◌, take}
use Rattle.std.specs.List.{filter_map}
use Rattle.grammar.specs.Lexeme.{digit_of}
use Rattle.parser_combinators.proofs.decode.digits_among.Given as goal

abbrev pub invariant-loop-octet : goal.invariant-loop-octet
invariant-loop-octet l = l.digits.items ≡ filter_map digit_of (take l.octet-index l.octets)
