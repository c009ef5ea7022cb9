use Rattle.std.proofs.Common.{ap, ◌∙◌}
use Rattle.std.specs.Prelude.{Some, option_map}
use Rattle.asn_base.specs.Abstract.{abstract}
use Rattle.codec_machine.proofs.Places.{place_is, no_place}
use Rattle.codec_machine.proofs.value_parts.value_at.Goals as goal

pub returns-in-Some-clause-ok : goal.returns-in-Some-clause-ok
returns-in-Some-clause-ok c =
    place_is c.args.values.now c.args.place c.index-values-place.result c.if-place-values.false c.index-values-place.is
    ∙ ap (λ q. Some (option_map abstract q)) c.in-Some.is

pub returns-in-None-clause-ok : goal.returns-in-None-clause-ok
returns-in-None-clause-ok c =
    place_is c.args.values.now c.args.place c.index-values-place.result c.if-place-values.false c.index-values-place.is
    ∙ ap (λ q. Some (option_map abstract q)) c.in-None.is

pub returns-then-place-values-clause-refused : goal.returns-then-place-values-clause-refused
returns-then-place-values-clause-refused c = no_place c.args.values.now c.args.place c.if-place-values.true
