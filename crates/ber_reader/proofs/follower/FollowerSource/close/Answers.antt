use Rattle.std.proofs.Common.{refl}
use Rattle.codec_source.specs.Events.{closes, to_close}
use Rattle.ber_source.specs.Seen.{state_of}
use Rattle.ber_source.specs.Log.{logged}
use Rattle.ber_reader.proofs.Answering.{follows, never_follows, left_follows}
use Rattle.ber_reader.proofs.follower.FollowerSource.close.Goals as goal

pub returns-clause-ok : goal.returns-clause-ok
returns-clause-ok c = follows c.lemma_one_answer.ensures.takes c.close.result (state_of (λ t. logged t.log) c.self.inside.place) (state_of (λ t. logged t.log) c.close.new.place) c.self.inside.path.now c.self.inside.before c.args.self.now (closes) c.self.view_is (λ a. refl) c.close.ensures.ok

pub returns-clause-err : goal.returns-clause-err
returns-clause-err c = never_follows c.close.result (state_of (λ t. logged t.log) c.self.inside.place) c.self.inside.path.now c.self.inside.before c.args.self.now (closes) c.self.view_is c.close.ensures.err

pub returns-clause-left : goal.returns-clause-left
returns-clause-left c = left_follows c.close.result (state_of (λ t. logged t.log) c.self.inside.place) (state_of (λ t. logged t.log) c.close.new.place) c.self.inside.path.now c.self.inside.before c.self.inside.path.now c.self.inside.before c.args.self.now (to_close) c.self.view_is c.close.ensures.left
