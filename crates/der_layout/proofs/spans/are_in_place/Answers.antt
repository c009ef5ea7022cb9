use Rattle.std.proofs.Common.{rules, ◌≡◌, ◌<◌, ◌≤◌, length, refl, slice_index_or}
use Rattle.der_layout.specs.declared.table.Member.{Member}
use Rattle.der_layout.proofs.InPlace.{next_in_place}
use Rattle.der_layout.proofs.spans.are_in_place.Goals as goal

pub loop-i-preserved : goal.loop-i-preserved
loop-i-preserved c =
    let ms = c.args.members.now in
    let i = c.loop-i.i in
    let none : Member = record { rank = 0; number = 0; start = 0; end = 0 } in
    let m = slice_index_or ms i none in
    let some : i < length ms = (let n = c.loop-i-test.true in search rules) in
    let starts : m.start ≡ c.loop-i.at = (let n = c.if-member-at.false in search rules) in
    let ends : c.loop-i.at ≤ m.end = (let n = c.if-member-at-2.false in search rules) in
    next_in_place ms c.args.start i c.loop-i.at m none some refl starts ends c.loop-i.invariant
