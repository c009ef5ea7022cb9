use Rattle.packed_leaves.proofs.Texts.{few_codes}
use Rattle.packed_leaves.proofs.text.push_text.Goals as goal

pub by_code-alphabet-requires-clause-few : goal.by_code-alphabet-requires-clause-few
by_code-alphabet-requires-clause-few c = few_codes c.args.codes.now c.requires.codes.below_128 c.requires.codes.ascend

pub places_of-places-requires : goal.places_of-places-requires
places_of-places-requires c = few_codes c.args.codes.now c.requires.codes.below_128 c.requires.codes.ascend
