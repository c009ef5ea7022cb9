use Rattle.std.proofs.Common.{refl, subst, ap, sym}
use Rattle.type_table.specs.Seen.{part_of}
use Rattle.resolve.specs.Program.{Program, IsWhole, WrittenProgram}
use Rattle.typed_values.specs.Known.{AreKnownDefaults}
use Rattle.typed_values.proofs.Absences.{noted}
use Rattle.typed_values.proofs.levels.Defaults.note.Goals as goal

pub returns-in-Ok-clause-known : goal.returns-in-Ok-clause-known
returns-in-Ok-clause-known c =
    subst (λ ls. AreKnownDefaults c.args.bounded.now.program ls.items) (sym c.keep_place.ensures.levels)
    (noted {p = c.args.bounded.now.program} c.args.self.now.levels.items c.push.new.self.items (part_of c.args.component.now)
    (record { ty = c.args.component.now.ty; levels = c.args.levels }) c.in-Ok.ensures.items refl
    (subst (λ (p : Program). IsWhole p) (ap (λ (w : WrittenProgram). w.program) c.linked.ensures) c.lemma_whole.ensures).linked
    c.requires.known c.requires.listed c.requires.may)
