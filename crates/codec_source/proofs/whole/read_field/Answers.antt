use Rattle.codec_code.specs.Routines.{routine_at}
use Rattle.codec_source.proofs.Smalls.{field_read}
use Rattle.codec_source.proofs.whole.read_field.Goals as goal

pub returns-in-Some-clause-taken : goal.returns-in-Some-clause-taken
returns-in-Some-clause-taken g c = field_read (routine_at c.args.code.now) g.S.Source.takes c.args.field c.in-Some.head c.in-Some.kind c.args.source.now c.small_component.new.self c.small_component.result c.in-Some.ensures c.small_component.ensures.taken
