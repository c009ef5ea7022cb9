use Rattle.std.proofs.Common.{[], refl, sym, subst, ap}
use Rattle.asn_base.specs.Abstract.{abstract}
use Rattle.trees.specs.Values.{tree_of}
use Rattle.resolve.specs.Program.{Program, WrittenProgram}
use Rattle.range_ends.specs.Ends.{IsValueAt}
use Rattle.value_notations.specs.References as last
use Rattle.value_notations.specs.Written.{itself}
use Rattle.typed_values.specs.proving.Turns.{AreLower}
use Rattle.typed_values.proofs.ChainedNames.{comes_to_leaf, own_end}
use Rattle.typed_values.proofs.Found.{lower_same}
use Rattle.typed_values.proofs.Tables.{known_as}
use Rattle.typed_values.proofs.reader.NotationReader.judge.Goals as goal

pub note-requires-clause-comes : goal.note-requires-clause-comes
note-requires-clause-comes c =
    let there = subst (λ (p : Program). IsValueAt p c.args.end c.notation_at.result.0.now (tree_of c.notation_at.result.1.now))
    (ap (λ (w : WrittenProgram). w.program) c.linked-linked.ensures) c.notation_at.ensures.is_so in
    let own = own_end c.requires.leads there in
    comes_to_leaf c.args.chain c.args.end c.args.ty.index (abstract c.in-Ok.field-0) c.requires.leads there
    (λ qs. c.in-Ok.ensures 0 0 [] [] c.requires.written.0 c.requires.written.1
    (record { last = last.own own; text = itself }) 0 qs)

pub returns-clause-ready : goal.returns-clause-ready
returns-clause-ready c =
    let t = c.args.self.now.defaults.now in
    let y = c.note.ensures in
    let lower = subst (λ z. AreLower t.named.turns.items z.items) (sym y.turns) (lower_same t.named.turns.items) in
    record {
      same = refl;
      text = refl;
      ready = record { sound = c.requires.ready.sound; known = known_as refl refl lower y.known c.requires.ready.known };
    }
