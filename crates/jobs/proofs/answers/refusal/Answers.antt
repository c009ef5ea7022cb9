use Rattle.jobs.proofs.Answering.{refused_line}
use Rattle.jobs.proofs.answers.refusal.Goals as goal

pub returns-clause-answer : goal.returns-clause-answer
returns-clause-answer c = λ d p s ty l r.
    refused_line d p s ty l c.args.fault.now c.in_ok-octets.octets.items c.push.new.self.items c.in_ok-octets.ensures
    c.requires c.in_ok-push.ensures.items r
