use Rattle.std.proofs.Common.{sym, subst}
use Rattle.typed_values.specs.declared.reader.NotationReader.{NotationReader}
use Rattle.typed_values.specs.proving.Turns.{AreLower}
use Rattle.typed_values.proofs.Found.{lower_same}
use Rattle.typed_values.proofs.Going.{below_in}
use Rattle.typed_values.proofs.reader.NotationReader.start.Goals.{in-None, in-Some}
use Rattle.typed_values.proofs.reader.NotationReader.start.Goals as goal

pub prepare-requires-clause-there : goal.prepare-requires-clause-there
prepare-requires-clause-there g c = below_in c.begin-before.ensures.ready.same c.requires.there

pub returns-clause-turns : goal.returns-clause-turns
returns-clause-turns g c =
    let t = c.args.self.now.defaults.now.named in
    let b = c.begin-before.ensures.turns in
    elim c.match-unbuilt.branch [
      | in-None w ↦ subst (λ (r : NotationReader). AreLower t.turns.items r.defaults.now.named.turns.items) (sym w.self-is)
          (subst (λ z. AreLower t.turns.items z.items) (sym b) (lower_same t.turns.items))
      | in-Some w ↦ subst (λ (r : NotationReader). AreLower t.turns.items r.defaults.now.named.turns.items) (sym w.self-is)
          (subst (λ z. AreLower z.items w.prepare.new.self.defaults.now.named.turns.items) b w.prepare.ensures.later.turns)
    ]
