use Rattle.source_text.proofs.Ends.{all_of_them}
use Rattle.source_text.proofs.caret.to_character.Goals as goal

pub returns : goal.returns
returns c = all_of_them c.args.octets.now c.loop-place.place c.loop-place-test.false c.loop-place.invariant
