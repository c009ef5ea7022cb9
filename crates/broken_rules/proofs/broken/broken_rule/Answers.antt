use Rattle.std.proofs.Common.{string_bytes}
use Rattle.views.specs.Tree.{value_of}
use Rattle.broken_rules.proofs.Asked.{explains_found}
use Rattle.broken_rules.proofs.broken.broken_rule.Goals as goal

-- src/broken.rt:76:1
pub returns-in_ok-describe-in-Some-clause-explained :
    goal.returns-in_ok-describe-in-Some-clause-explained
returns-in_ok-describe-in-Some-clause-explained c k e l =
    explains_found c.args.encoded.code.now c.args.encoded.ty.index (value_of c.args.part.now)
    c.args.encoded.octets.now c.in_ok-breach.field-0 c.in-Some.breach
    c.in_ok-describe-in-Some.field-0.offset (string_bytes c.in_ok-describe-in-Some.field-0.found)
    (string_bytes c.in_ok-describe-in-Some.field-0.expected) c.in-Some.is
    (c.in_ok-breach.ensures.broken k e l) (c.in_ok-breach.ensures.first k e l)
    c.in_ok-describe-in-Some.ensures.offset c.in_ok-describe-in-Some.ensures.words
    c.in_ok-describe-in-Some.ensures.expected
