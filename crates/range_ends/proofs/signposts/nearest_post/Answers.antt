use Rattle.std.proofs.Common.{◌≡◌, ◌≤◌, map, length, Some, arith}
use Rattle.std.proofs.lemmas.List.{length-map}
use Rattle.trees.specs.Types.{numbered_name}
use Rattle.names.specs.Names.{names_of}
use Rattle.names.specs.proving.Distinct.{occurs_map}
use Rattle.range_ends.specs.proving.Keys.{key_in, texts}
use Rattle.range_ends.proofs.Lists.{seen_here}
use Rattle.range_ends.proofs.Posts.{among_none, among_all, nearest_next}
use Rattle.range_ends.proofs.signposts.nearest_post.Goals as goal

pub loop-i-init : goal.loop-i-init
loop-i-init c = λ p os a o.
    let s = c.args.signs.now in
    among_none p os (λ x. key_in (texts s.names.items) x ≡ Some c.len.result) (names_of (map numbered_name c.args.numbers.now))
    c.args.post.now c.in-Some.last (c.in-Some.ensures p os a o)

pub loop-i-preserved : goal.loop-i-preserved
loop-i-preserved c = λ p os a o.
    let s = c.args.signs.now in
    let numbers = c.args.numbers.now in
    let i = c.loop-i.i in
    let x = c.index-numbers-i.result in
    let es = map numbered_name numbers in
    let here = seen_here numbered_name numbers i x c.loop-i-test.true c.index-numbers-i.is in
    let there = occurs_map (λ e. e.0) es i (numbered_name x) here in
    let h = c.in-Some-shown_for.ensures p os a o in
    nearest_next p os (texts s.names.items) (names_of es) i (numbered_name x).0 h.key c.args.post.now c.loop-i.nearest
    c.in-Some-shown_for.next there h.key_is (c.loop-i.invariant p os a o) h.ahead c.nearer-nearest.result c.nearer-nearest.ensures

pub returns : goal.returns
returns c = λ p os a o.
    let numbers = c.args.numbers.now in
    let es = map numbered_name numbers in
    let all = length-map es (λ e. e.0) in
    let many = length-map numbers numbered_name in
    let past : length (names_of es) ≤ c.loop-i.i = omega (arith, all, many, c.loop-i-test.false) in
    among_all p os (names_of es) c.loop-i.i c.args.post.now c.loop-i.nearest past (c.loop-i.invariant p os a o)
