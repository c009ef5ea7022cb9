use Rattle.std.proofs.Common.{refl}
use Rattle.codec_source.specs.Events.{picks, which_picked}
use Rattle.ber_source.specs.Seen.{state_of}
use Rattle.ber_source.specs.Log.{logged}
use Rattle.ber_reader.proofs.Answering.{follows_one, never_one_follows, left_follows}
use Rattle.ber_reader.proofs.follower.FollowerSource.alternative.Goals as goal

pub returns-clause-ok : goal.returns-clause-ok
returns-clause-ok c = follows_one c.lemma_one_answer.ensures.takes c.choose_next.result (state_of (λ t. logged t.log) c.self.inside.place) (state_of (λ t. logged t.log) c.choose_next.new.place) c.self.inside.path.now c.self.inside.before c.args.self.now (λ q. picks c.args.calls.now q) c.self.view_is (λ x a. refl) c.choose_next.ensures.ok

pub returns-clause-err : goal.returns-clause-err
returns-clause-err c = never_one_follows c.choose_next.result (state_of (λ t. logged t.log) c.self.inside.place) c.self.inside.path.now c.self.inside.before c.args.self.now (λ q. picks c.args.calls.now q) c.self.view_is c.choose_next.ensures.err

pub returns-clause-left : goal.returns-clause-left
returns-clause-left c = left_follows c.choose_next.result (state_of (λ t. logged t.log) c.self.inside.place) (state_of (λ t. logged t.log) c.choose_next.new.place) c.self.inside.path.now c.self.inside.before c.self.inside.path.now c.self.inside.before c.args.self.now (which_picked c.args.calls.now) c.self.view_is c.choose_next.ensures.left
