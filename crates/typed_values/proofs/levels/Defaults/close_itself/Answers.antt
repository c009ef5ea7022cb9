use Rattle.std.proofs.Common.{refl, arith, sym, subst}
use Rattle.typed_values.specs.proving.Turns.{AreLower}
use Rattle.typed_values.proofs.Closing.{comes_itself}
use Rattle.typed_values.proofs.Tables.{known_as, true_as}
use Rattle.typed_values.proofs.levels.Defaults.close_itself.Goals as goal

pub note-requires-clause-known : goal.note-requires-clause-known
note-requires-clause-known c = true_as c.args.self.now.named c.close.new.self c.close.ensures.entries c.close.ensures.lower c.requires.known.named

pub note-requires-clause-comes : goal.note-requires-clause-comes
note-requires-clause-comes c =
    let x = c.close.ensures in
    let same = c.latest.ensures in
    let low = x.latest in
    let most = x.counted.2 in
    let enough = c.used-used.ensures.enough in
    comes_itself c.requires.read c.close.new.self.turns.items c.used-used.result c.latest.result x.counted.0 x.lower
    (omega (arith, same, low)) x.counted.1 (omega (arith, same, most)) enough

pub returns-clause-known : goal.returns-clause-known
returns-clause-known c =
    let t = c.args.self.now in
    let y = c.note.ensures in
    let lower = subst (λ z. AreLower t.named.turns.items z.items) (sym y.turns) c.close.ensures.lower in
    known_as refl refl lower y.known c.requires.known

pub returns-clause-turns : goal.returns-clause-turns
returns-clause-turns c =
    subst (λ z. AreLower c.args.self.now.named.turns.items z.items) (sym c.note.ensures.turns) c.close.ensures.lower
