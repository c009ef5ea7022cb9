use Rattle.std.proofs.Common.{arith, ◌∙◌}
use Rattle.account_checker.proofs.Headers.{begins, after_none}
use Rattle.account_checker.proofs.header.after_shortest.Goals as goal

pub returns-in-Some-following : goal.returns-in-Some-following
returns-in-Some-following c =
    begins c.header_laws.ensures.is c.args.tag c.args.constructed c.args.contents (let f = c.ranges.contents.fits in omega arith) c.args.octets.now c.as_slice.result.now c.in-Some.sized.now c.as_slice-in-Some.result.now c.in-Some-following.x.now
    (c.as_slice.ensures.value ∙ c.identifier_octets-identifier.ensures)
    (c.as_slice-in-Some.ensures.value ∙ c.size_octets-size.ensures)
    c.in-Some.ensures c.in-Some-following.ensures

pub returns-in-None-following : goal.returns-in-None-following
returns-in-None-following c = λ x b.
    c.in-None-following.ensures x
    (after_none c.header_laws.ensures.only c.args.tag c.args.constructed c.args.contents c.args.octets.now c.as_slice.result.now c.in-Some.sized.now c.as_slice-in-Some.result.now x
    (c.as_slice.ensures.value ∙ c.identifier_octets-identifier.ensures)
    (c.as_slice-in-Some.ensures.value ∙ c.size_octets-size.ensures)
    c.in-Some.ensures b)
