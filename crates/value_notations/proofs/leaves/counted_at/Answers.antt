use Rattle.std.proofs.Common.{subst}
use Rattle.type_table.specs.Items.{root_numbers}
use Rattle.type_table.specs.Seen.{root_items, more_of}
use Rattle.type_table.specs.proving.Checks.{IsGreatAt}
use Rattle.value_notations.proofs.LeafValues.{no_great}
use Rattle.value_notations.proofs.leaves.counted_at.Goals as goal

pub returns-in-Err-TooGreat-clause-number : goal.returns-in-Err-TooGreat-clause-number
returns-in-Err-TooGreat-clause-number c =
    let root = root_items c.args.given.now in
    let more = more_of c.args.given.now in
    absurd (no_great root more c.in-Err-TooGreat.field-0-0 c.requires.sound
    (subst (IsGreatAt (root_numbers root) more) c.in-Err-TooGreat.field-0-is c.in-Err-TooGreat.ensures.fault))
