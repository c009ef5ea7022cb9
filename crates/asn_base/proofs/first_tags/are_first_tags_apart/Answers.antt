use Rattle.std.proofs.Common.{ap, ◌∙◌}
use Rattle.asn_base.specs.Seen.{kind_of}
use Rattle.asn_base.specs.proving.Firsts.{flat, in_one}
use Rattle.asn_base.proofs.FirstTags.{decided, from_none, own_apart}
use Rattle.asn_base.proofs.first_tags.are_first_tags_apart.Goals as goal

pub returns : goal.returns
returns c =
    let s = c.args.types.now in
    let row = c.as_slice.ensures.value ∙ c.in_ok-row.ensures in
    let keys = c.as_slice-2.ensures.value ∙ from_none _ _ _ c.in_ok-add_row.ensures c.new-keys.ensures.items in
    decided c.are_different.result (keys ∙ ap (λ q. flat s (in_one q)) row) (own_apart s c.requires.own (kind_of c.args.core.now) c.requires.tags) c.are_different.ensures
