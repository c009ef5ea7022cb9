use Rattle.codec_source.specs.Events.{holds, to_hold}
use Rattle.ber_source.specs.Seen.{state_of}
use Rattle.ber_source.specs.Log.{logged}
use Rattle.ber_source.specs.proving.Taken.{takes, never, left_as}
use Rattle.ber_source.proofs.cursor.ViewerSource.leaf.Goals as goal

pub returns-clause-ok : goal.returns-clause-ok
returns-clause-ok c =
    takes c.lemma_one_answer.ensures.takes c.hold.result (state_of (λ t. logged t.log) c.self.inside.place) c.args.self.now (state_of (λ t. logged t.log) c.hold.new.place) (holds c.args.kind) c.self.view_is c.hold.ensures.ok

pub returns-clause-err : goal.returns-clause-err
returns-clause-err c = never c.hold.result (state_of (λ t. logged t.log) c.self.inside.place) c.args.self.now (holds c.args.kind) c.self.view_is c.hold.ensures.err

pub returns-clause-left : goal.returns-clause-left
returns-clause-left c = left_as c.hold.result (state_of (λ t. logged t.log) c.self.inside.place) c.args.self.now (state_of (λ t. logged t.log) c.hold.new.place) (to_hold c.args.kind) c.self.view_is c.hold.ensures.left
