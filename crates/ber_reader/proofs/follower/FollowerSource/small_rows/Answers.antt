use Rattle.codec_source.specs.proving.Wholes.{no_link}
use Rattle.ber_reader.proofs.follower.FollowerSource.small_rows.Goals as goal

pub returns-clause-ok : goal.returns-clause-ok
returns-clause-ok c = no_link
