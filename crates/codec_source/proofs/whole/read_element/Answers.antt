use Rattle.codec_code.specs.Routines.{routine_at}
use Rattle.codec_source.specs.proving.Wholes.{no_link}
use Rattle.codec_source.proofs.Smalls.{elements_read}
use Rattle.codec_source.proofs.whole.read_element.Goals as goal

pub returns-in-Ok-clause-ok : goal.returns-in-Ok-clause-ok
returns-in-Ok-clause-ok g c = elements_read (routine_at c.args.code.now) g.S.Source.takes c.args.id c.args.sorted c.in-Some.head c.in-Some.kind c.args.source.now c.read_elements.new.source c.in-Some.ensures c.in-Ok.ensures.ok

pub returns-in-None-clause-ok : goal.returns-in-None-clause-ok
returns-in-None-clause-ok g c = no_link
