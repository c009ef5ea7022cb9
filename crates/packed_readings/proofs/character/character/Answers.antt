use Rattle.std.proofs.Common.{sym}
use Rattle.std.proofs.lemmas.Bool.{ltb-false}
use Rattle.packed_readings.proofs.Items.{placed_character, no_character_there}
use Rattle.packed_readings.proofs.character.character.Goals as goal

pub returns-in-Some-clause-ok : goal.returns-in-Some-clause-ok
returns-in-Some-clause-ok c =
    placed_character c.args.alphabet.now c.args.number c.in-Some.code.now c.args.by_code c.requires c.if-by_code.false c.in-Some.ensures.lookup.3.0
    c.in-Some.ensures.lookup.1

pub returns-in-None-clause-err : goal.returns-in-None-clause-err
returns-in-None-clause-err c =
    no_character_there c.args.alphabet.now c.args.number c.args.by_code c.requires c.if-by_code.false (ltb-false _ _ (sym c.in-None.ensures.lookup.0))
