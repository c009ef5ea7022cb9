use Rattle.std.proofs.Common.{◌≡◌, ◌+◌, ◌-◌, ◌<◌, suc, length, sym, ap, ◌∙◌, arith}
use Rattle.std.proofs.lemmas.List.{length-map}
use Rattle.std.proofs.lemmas.Option.{slice_get-get_or}
use Rattle.names.specs.proving.Distinct.{occurs_map}
use Rattle.range_ends.specs.proving.Keys.{key_between, middle, texts}
use Rattle.range_ends.proofs.Searching.{goes_up, goes_down}
use Rattle.range_ends.proofs.keys.key_of.Goals.{in-Less, in-Greater}
use Rattle.range_ends.proofs.keys.key_of.Goals as goal

pub bounds-names-middle : goal.bounds-names-middle
bounds-names-middle c =
    omega (arith, c.loop-round.invariant.inside, c.if-low-high.false)

pub loop-round-preserved : goal.loop-round-preserved
loop-round-preserved c =
    let names = c.args.names.now in
    let ns = texts names in
    let x = c.args.name.now in
    let low = c.loop-round.low in
    let high = c.loop-round.high in
    let round = c.loop-round.round in
    let many = length-map names (λ n. n.now) in
    let r = length ns - (round + 1) in
    let q : length ns - round ≡ suc r = omega (arith, c.loop-round-test.true, many) in
    let below : low < high = omega (arith, c.if-low-high.false) in
    let inside : middle low high < length names = omega (arith, c.loop-round.invariant.inside, c.if-low-high.false) in
    let e = occurs_map (λ n. n.now) names (middle low high) _ (slice_get-get_or names (middle low high) _ inside) in
    let before = ap (λ z. key_between z ns x low high) (sym q) ∙ c.loop-round.invariant.same in
    elim c.match-cmp.branch [
      | in-Less w ↦ record {
        inside = omega (arith, w.high-is, c.loop-round.invariant.inside);
        same = ap (λ z. key_between r ns x z c.match-cmp.high) w.low-is ∙ ap (λ z. key_between r ns x (middle low high + 1) z) w.high-is
            ∙ sym (goes_up ns x r low high _ below e (sym c.cmp.ensures ∙ w.in-Less.is)) ∙ before;
      }
      | in-Greater w ↦ record {
        inside = omega (arith, w.high-is, inside);
        same = ap (λ z. key_between r ns x z c.match-cmp.high) w.low-is ∙ ap (λ z. key_between r ns x low z) w.high-is
            ∙ sym (goes_down ns x r low high _ below e (sym c.cmp.ensures ∙ w.in-Greater.is)) ∙ before;
      }
    ]
