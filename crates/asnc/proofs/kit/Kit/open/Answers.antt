use Rattle.std.proofs.Common.{map}
use Rattle.judging.specs.front_end.Accepted.{octets_of}
use Rattle.asnc.specs.Kits.{Opened}
use Rattle.asnc.proofs.Opening.{kit_answers}
use Rattle.asnc.proofs.kit.Kit.open.Goals as goal

pub kit_of-requires : goal.kit_of-requires
kit_of-requires c = c.in-Ok.ensures.accepted.types

pub returns-in-Ok-clause-only : goal.returns-in-Ok-clause-only
returns-in-Ok-clause-only c = λ p a.
    kit_answers (λ (k : Opened). k.program) c.in-Ok.front.modules p c.kit_of.result (c.in-Ok.ensures.only p a) c.kit_of.ensures.program c.kit_of.ensures.memory

pub returns-in-Err-clause-only : goal.returns-in-Err-clause-only
returns-in-Err-clause-only c = λ p a. c.refusal.ensures.memory (c.in-Err.ensures.only p a)

pub returns-in-Err-clause-fault : goal.returns-in-Err-clause-fault
returns-in-Err-clause-fault c = c.refusal.ensures.valid (map octets_of c.args.texts.now) c.in-Err.ensures.fault
