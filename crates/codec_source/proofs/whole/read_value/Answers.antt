use Rattle.codec_code.specs.Routines.{routine_at}
use Rattle.codec_source.proofs.Smalls.{value_read}
use Rattle.codec_source.proofs.whole.read_value.Goals as goal

pub returns-in-Some-clause-taken : goal.returns-in-Some-clause-taken
returns-in-Some-clause-taken g c = value_read (routine_at c.args.code.now) g.S.Source.takes c.args.id c.in-Some.head c.in-Some.kind c.args.source.now c.small_value.new.self c.small_value.result c.in-Some.ensures c.small_value.ensures.taken
