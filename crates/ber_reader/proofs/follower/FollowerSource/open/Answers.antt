use Rattle.std.proofs.Common.{refl}
use Rattle.codec_source.specs.Events.{opens, to_open}
use Rattle.ber_source.specs.Seen.{state_of}
use Rattle.ber_source.specs.Log.{logged}
use Rattle.ber_reader.proofs.Answering.{follows, never_follows, left_follows}
use Rattle.ber_reader.proofs.follower.FollowerSource.open.Goals as goal

pub returns-clause-ok : goal.returns-clause-ok
returns-clause-ok c = follows c.lemma_one_answer.ensures.takes c.open.result (state_of (λ t. logged t.log) c.self.inside.place) (state_of (λ t. logged t.log) c.open.new.place) c.self.inside.path.now c.self.inside.before c.args.self.now (opens c.args.head) c.self.view_is (λ a. refl) c.open.ensures.ok

pub returns-clause-err : goal.returns-clause-err
returns-clause-err c = never_follows c.open.result (state_of (λ t. logged t.log) c.self.inside.place) c.self.inside.path.now c.self.inside.before c.args.self.now (opens c.args.head) c.self.view_is c.open.ensures.err

pub returns-clause-left : goal.returns-clause-left
returns-clause-left c = left_follows c.open.result (state_of (λ t. logged t.log) c.self.inside.place) (state_of (λ t. logged t.log) c.open.new.place) c.self.inside.path.now c.self.inside.before c.self.inside.path.now c.self.inside.before c.args.self.now (to_open c.args.head) c.self.view_is c.open.ensures.left
