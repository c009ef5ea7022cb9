use Rattle.std.proofs.Common.{subst, ap, map, ◌∙◌}
use Rattle.asn_base.specs.Seen.{range_of}
use Rattle.codec_code.specs.ByLeaves.{HaveAllFromOne}
use Rattle.codec_code.proofs.ByLeaves.{some_allowed}
use Rattle.codec_code.proofs.by_leaves.allows_any_some.Goals as goal

pub returns-in_ok-list-in-Some : goal.returns-in_ok-list-in-Some
returns-in_ok-list-in-Some c h =
    some_allowed _ _ c.in-Some.is
    (subst HaveAllFromOne (ap (map range_of) c.as_slice.ensures.value ∙ c.in_ok-list-in-Some.ensures) (c.is_first_from_one.ensures h))
