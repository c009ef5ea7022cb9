use Rattle.std.proofs.Common.{length, sym, ap, ◌∙◌}
use Rattle.std.proofs.lemmas.List.{length-map}
use Rattle.asn_base.specs.Seen.{resolved_of}
use Rattle.later_versions.specs.Projected.{members_of}
use Rattle.later_versions.proofs.Places.{none_got}
use Rattle.later_versions.proofs.members.member_or_none.Goals as goal

pub returns-in-None : goal.returns-in-None
returns-in-None c =
    sym (length-map c.types.result.now resolved_of) ∙ ap length c.types.ensures
    ∙ sym (none_got (members_of c.args.schema.now c.args.id.index) c.args.place (length c.args.schema.now) (sym c.in-None.ensures))
