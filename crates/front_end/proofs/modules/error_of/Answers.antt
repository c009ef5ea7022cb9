use Rattle.std.proofs.Common.{[], refl, subst}
use Rattle.resolve.specs.Program.{IsWhole, WrittenProgram}
use Rattle.front_end.proofs.Notations.{no_value}
use Rattle.front_end.proofs.modules.error_of.Goals as goal

pub diagnostic-requires : goal.diagnostic-requires
diagnostic-requires c =
    let w = subst (λ (q : WrittenProgram). IsWhole q.program) c.linked-linked.ensures c.lemma_whole.ensures in
    let h = c.requires.is_so in
    c.lemma_types_exist.ensures c.args.bounded.now 64 16777216 c.args.at.ty.index [] c.args.at.within.now c.args.at.notation.now c.args.fault w.linked c.requires.there h.is_so h.caused

pub returns-in-Ok : goal.returns-in-Ok
returns-in-Ok c =
    record {
      none = no_value c.lemma_faults_exclude.ensures c.args.bounded.now c.args.at.within.now c.args.at.ty.index c.args.at.notation.now c.args.fault c.requires.kept c.requires.is_so;
      text = c.args.bounded.now;
      of = refl;
      report = record { fault = c.args.fault; is_so = c.requires.is_so; diagnostic = c.in-Ok.ensures };
    }
