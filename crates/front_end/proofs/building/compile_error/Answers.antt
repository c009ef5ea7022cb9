use Rattle.std.proofs.Common.{subst}
use Rattle.extensions.specs.Faults.{IsRightExtensionFault}
use Rattle.resolve.specs.Program.{IsWhole, WrittenProgram}
use Rattle.front_end.proofs.Standing.{default_there}
use Rattle.front_end.proofs.building.compile_error.Goals as goal

pub diagnostic-requires : goal.diagnostic-requires
diagnostic-requires c =
    let w = subst (λ (q : WrittenProgram). IsWhole q.program) c.linked-linked.ensures c.lemma_whole.ensures in
    let s = subst (IsRightExtensionFault c.args.bounded.now) c.in-Default.is c.requires.is_so in
    default_there c.lemma_types_exist.ensures c.args.bounded.now c.in-Default.fault w s.1

pub returns-in-Ok : goal.returns-in-Ok
returns-in-Ok c =
    let s = subst (IsRightExtensionFault c.args.bounded.now) c.in-Default.is c.requires.is_so in
    (c.requires.tagged, c.requires.bounded, record { fault = c.in-Default.fault; is_so = s; diagnostic = c.in-Ok.ensures })

pub returns-in-Ok-diagnostic : goal.returns-in-Ok-diagnostic
returns-in-Ok-diagnostic c =
    let s = subst (IsRightExtensionFault c.args.bounded.now) c.in-Assigned.is c.requires.is_so in
    (c.requires.tagged, c.requires.bounded, record { fault = c.in-Assigned.fault; is_so = s; diagnostic = c.in-Ok-diagnostic.ensures })
