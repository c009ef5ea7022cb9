use Rattle.std.proofs.Common.{◌<◌, ◌∙◌, ap, length, sym, subst}
use Rattle.type_table.specs.Seen.{kind_of}
use Rattle.resolve.specs.Program.{Program, WrittenProgram}
use Rattle.typed_values.proofs.Going.{kind_in}
use Rattle.typed_values.proofs.Readings.{written_of}
use Rattle.typed_values.proofs.reader.NotationReader.prepare.Goals as goal

pub judge_from-requires-clause-there : goal.judge_from-requires-clause-there
judge_from-requires-clause-there c =
    subst (λ (p : Program). c.in-Referred.number < length p.values) (ap (λ (w : WrittenProgram). w.program) c.linked-linked.ensures) c.in-Referred.ensures.2

pub judge_from-requires-clause-is : goal.judge_from-requires-clause-is
judge_from-requires-clause-is c = ap kind_of (sym c.shape.ensures ∙ c.in-Simple.is)

pub judge_from-requires-clause-written : goal.judge_from-requires-clause-written
judge_from-requires-clause-written c = (
  c.written-shape.result.1.now,
  written_of (ap kind_of (sym c.shape.ensures ∙ c.in-Simple.is)) (kind_in (sym (ap (λ (w : WrittenProgram). w.program) c.linked-linked.ensures)) c.written-shape.ensures.written),
)
