use Rattle.std.proofs.Common.{sym, ◌∙◌}
use Rattle.grammar.specs.Lexeme.{digit_of}
use Rattle.parser_combinators.proofs.Tokens.{filter_some, filter_none}
use Rattle.parser_combinators.proofs.decode.digits_among.Goals.{in-Some+in_ok-push, in_default}
use Rattle.parser_combinators.proofs.decode.digits_among.Goals as goal

pub loop-octet-preserved : goal.loop-octet-preserved
loop-octet-preserved c =
    let i = c.loop-octet.octet-index in
    let xs = c.args.octets.now in
    elim c.match-digit.branch [
      | in-Some+in_ok-push w ↦ rw (w.digits-is, w.in_ok-push.ensures.items, c.loop-octet.invariant) (sym (filter_some digit_of xs i w.in-Some.value c.loop-octet-test.true (sym c.digit.ensures ∙ w.in-Some.is)))
      | in_default w ↦ rw (w.digits-is, c.loop-octet.invariant) (sym (filter_none digit_of xs i c.loop-octet-test.true (sym c.digit.ensures ∙ w.in_default.is)))
    ]
