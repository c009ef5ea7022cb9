use Rattle.std.proofs.Common.{rules}
use Rattle.asn_base.specs.Abstract.{abstract}
use Rattle.codec_machine.proofs.Chosen.{leaf_not_ran, leaf_ran}
use Rattle.codec_machine.proofs.sequence.choice_in_row.Goals as goal

pub returns-in-Ok-clause-ok : goal.returns-in-Ok-clause-ok
returns-in-Ok-clause-ok g c =
    leaf_ran (abstract c.in-Some.held.now) c.in-Some.head c.in-Some.kind c.in-Some.ensures c.in-Ok.ensures.ok

pub returns-in-Err-clause-refused : goal.returns-in-Err-clause-refused
returns-in-Err-clause-refused g c =
    leaf_not_ran (abstract c.in-Some.held.now) c.in-Some.head c.in-Some.kind c.in-Some.ensures c.in-Err.ensures.not_of_type

pub whole_in_row-requires : goal.whole_in_row-requires
whole_in_row-requires g c = λ k. (search rules, c.in-Some.ensures.row)
