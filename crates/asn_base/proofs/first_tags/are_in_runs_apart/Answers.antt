use Rattle.std.proofs.Common.{◌∙◌, map}
use Rattle.asn_base.specs.Seen.{component_of}
use Rattle.asn_base.proofs.FirstTags.{in_runs_apart, decided, from_none}
use Rattle.asn_base.proofs.first_tags.are_in_runs_apart.Goals as goal

pub returns : goal.returns
returns c =
    let s = c.args.types.now in
    let e = c.as_slice.ensures.value ∙ from_none _ _ _ c.in_ok-add_runs.ensures c.new-keys.ensures.items in
    decided c.are_different.result e (in_runs_apart s c.requires.own c.requires.apart (map component_of c.args.components.now)) c.are_different.ensures
