use Rattle.std.proofs.Common.{◌≡◌, Some, subst, arith}
use Rattle.std.specs.Prelude.{slice_get}
use Rattle.typed_values.specs.Known.{ComesTo}
use Rattle.typed_values.proofs.Alike.{comes_too}
use Rattle.typed_values.proofs.Tables.{got_here}
use Rattle.typed_values.proofs.named.NamedValues.entry.Goals as goal

pub returns-clause-comes : goal.returns-clause-comes
returns-clause-comes c =
    let xs = c.args.self.now.entries.items in
    let i = c.in-Some.place in
    let e = c.index-entry.result.now in
    let same = c.len.ensures in
    let many = c.args.self.now.entries.ok.0 in
    let test = c.if-place-len.false in
    let there : slice_get xs i ≡ Some e = got_here xs i e e (omega (arith, same, many, test)) c.index-entry.ensures in
    let h = comes_too e c.args.ty.index (c.requires.known e (i, there)) (c.are_alike.ensures c.if-not-are_alike.false) in
    subst (λ k. ComesTo c.args.bounded.now.program c.args.self.now.turns.items (record { number = k; ty = c.args.ty.index; levels = e.levels; nodes = e.nodes; latest = e.latest })) c.if-entry-number.false h
