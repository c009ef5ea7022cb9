use Rattle.std.proofs.Common.{map, arith, ◌≡◌, Some}
use Rattle.std.specs.Prelude.{slice_get}
use Rattle.type_table.specs.Table.{Part}
use Rattle.additions.specs.Additions.{Keeps, BreaksIn}
use Rattle.type_table.specs.Seen.{part_of}
use Rattle.additions.proofs.Placing.{keep_more, none_of}
use Rattle.additions.proofs.members.list_breaks.Goals as goal

pub loop-place-preserved : goal.loop-place-preserved
loop-place-preserved c =
    let ts = c.args.tagged.now.program.types in
    let k = c.args.kind in
    let m = c.args.marker in
    let cs = map part_of c.args.components.now in
    let n = c.loop-place.place in
    keep_more ts k m cs n c.loop-place.invariant (none_of ((x : Part) → slice_get cs n ≡ Some x → Keeps ts k m cs n x) (λ r. BreaksIn ts r k m cs n) c.in_ok-broken.broken c.in-None.is c.in_ok-broken.ensures)

pub returns : goal.returns
returns c = λ m d l e. c.loop-place.invariant m d (omega (arith, l, c.loop-place-test.false)) e
