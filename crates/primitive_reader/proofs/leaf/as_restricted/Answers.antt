use Rattle.primitive_reader.proofs.Characters.{are_utf8}
use Rattle.primitive_reader.proofs.Decoding.{read_characters, is_text}
use Rattle.primitive_reader.specs.Refused.{without_form}
use Rattle.primitive_reader.proofs.leaf.as_restricted.Goals as goal

pub fact_in-text : goal.fact_in-text
fact_in-text c = is_text c.in-Some.text.now c.args.contents.now c.in-Some.ensures.some.0 (are_utf8 c.args.kind c.args.contents.now c.in-Some.ensures.some.1)

pub returns-in-Some-clause-ok : goal.returns-in-Some-clause-ok
returns-in-Some-clause-ok c = read_characters c.args.kind c.args.contents.now c.in-Some.text c.in-Some.ensures.some.0 c.in-Some.ensures.some.1 c.are_octets.ensures

pub returns-in-None-clause-err : goal.returns-in-None-clause-err
returns-in-None-clause-err c = without_form c.in-None.ensures.none
