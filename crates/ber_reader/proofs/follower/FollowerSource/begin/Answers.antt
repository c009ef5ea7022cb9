use Rattle.std.proofs.Common.{subst, sym}
use Rattle.codec_source.specs.Events.{begins}
use Rattle.octet_answers.specs.Answers.{Answers}
use Rattle.ber_source.specs.Seen.{state_of}
use Rattle.ber_source.specs.Log.{logged}
use Rattle.ber_reader.proofs.Answering.{follows_begun}
use Rattle.ber_reader.proofs.follower.FollowerSource.begin.Goals as goal

pub returns-in-Ok-begin-clause-ok : goal.returns-in-Ok-begin-clause-ok
returns-in-Ok-begin-clause-ok c =
    follows_begun c.lemma_one_answer.ensures.takes (state_of (λ f. logged f.log) c.self.inside.place) (state_of (λ f. logged f.log) c.begin.new.place) c.self.inside.path.now c.self.inside.before c.in-Ok.before c.args.self.now c.args.id
    c.self.view_is (c.in-Ok.ensures c.self.inside.place.code.now c.self.invariant.suited) c.in-Ok-begin.ensures.ok

pub returns-in-Err-begin-clause-err : goal.returns-in-Err-begin-clause-err
returns-in-Err-begin-clause-err c = λ n b t. c.in-Err-begin.ensures.err n b.state (subst (λ q. Answers q.state (begins c.args.id) b.state) (sym c.self.view_is) t.taken.answer)
