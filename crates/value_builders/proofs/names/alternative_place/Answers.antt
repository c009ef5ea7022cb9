use Rattle.std.proofs.Common.{arith, map, sym, ◌∙◌}
use Rattle.asn_base.specs.Seen.{alternative_of}
use Rattle.value_builders.specs.Named.{alternative_names}
use Rattle.value_builders.proofs.Places.{seen_by, place_at, place_past, no_place}
use Rattle.value_builders.proofs.names.alternative_place.Goals as goal
use Rattle.asn_base.specs.proving.Lists.{seen_here, length_mapped}

pub returns-then-is_alternative : goal.returns-then-is_alternative
returns-then-is_alternative c =
    let here = seen_by (λ x. x.name) (map alternative_of c.args.alternatives.now) c.loop-i.i (alternative_of c.index-alternatives-i.result)
    (seen_here alternative_of c.args.alternatives.now c.loop-i.i c.index-alternatives-i.result c.loop-i-test.true c.index-alternatives-i.is) in
    sym (place_at c.args.name.now (alternative_names (map alternative_of c.args.alternatives.now)) c.loop-i.i (alternative_of c.index-alternatives-i.result).name c.loop-i.invariant here (sym c.is_alternative.ensures ∙ c.if-is_alternative.true))

pub loop-i-preserved : goal.loop-i-preserved
loop-i-preserved c =
    let here = seen_by (λ x. x.name) (map alternative_of c.args.alternatives.now) c.loop-i.i (alternative_of c.index-alternatives-i.result)
    (seen_here alternative_of c.args.alternatives.now c.loop-i.i c.index-alternatives-i.result c.loop-i-test.true c.index-alternatives-i.is) in
    place_past c.args.name.now (alternative_names (map alternative_of c.args.alternatives.now)) c.loop-i.i (alternative_of c.index-alternatives-i.result).name c.loop-i.invariant here (sym c.is_alternative.ensures ∙ c.if-is_alternative.false)

pub returns : goal.returns
returns c =
    let long = length_mapped (λ x. x.name) (map alternative_of c.args.alternatives.now) in
    let long' = length_mapped alternative_of c.args.alternatives.now in
    let l = c.loop-i-test.false in
    sym (no_place c.args.name.now (alternative_names (map alternative_of c.args.alternatives.now)) c.loop-i.i c.loop-i.invariant (omega (arith, long, long', l)))
