use Rattle.std.proofs.Common.{arith, ◌≡◌, ◌+◌, ◌-◌, ◌<◌, length, map, get_or, sym, subst, ap, ◌∙◌}
use Rattle.asn_base.specs.Seen.{alternative_of}
use Rattle.asn_base.proofs.decide.chosen_type.Goals as goal
use Rattle.asn_base.specs.proving.Lists.{of_first, of_second, of_none, length_mapped}

pub returns-then-index-root : goal.returns-then-index-root
returns-then-index-root c =
    let e = c.as_slice-root.ensures.value in
    let lt : c.args.index < length c.args.alternatives.now.root.items = subst (λ q. c.args.index < length q) e c.if-index-root.true in
    (_, of_first alternative_of c.args.alternatives.now.root.items (map alternative_of c.args.alternatives.now.additions.items) c.args.index c.index-root-index.result lt, ap (λ q. (alternative_of (get_or q c.args.index c.index-root-index.result)).type) (sym e))

pub returns-then-index-root-2 : goal.returns-then-index-root-2
returns-then-index-root-2 c =
    let e = c.as_slice-root.ensures.value in
    let f = c.as_slice-additions.ensures.value in
    let many = ap length e ∙ sym (length_mapped alternative_of c.args.alternatives.now.root.items) in
    let lt : c.args.index - length c.as_slice-root.result.now < length c.args.alternatives.now.additions.items = subst (λ q. c.args.index - length c.as_slice-root.result.now < length q) f c.if-index-root-2.true in
    let at : c.args.index ≡ length (map alternative_of c.args.alternatives.now.root.items) + (c.args.index - length c.as_slice-root.result.now) = omega (arith, many, c.if-index-root.false) in
    (_, of_second alternative_of (map alternative_of c.args.alternatives.now.root.items) c.args.alternatives.now.additions.items c.args.index (c.args.index - length c.as_slice-root.result.now) c.index-additions-index.result at lt, ap (λ q. (alternative_of (get_or q (c.args.index - length c.as_slice-root.result.now) c.index-additions-index.result)).type) (sym f))

pub returns : goal.returns
returns c =
    let many = ap length c.as_slice-root.ensures.value ∙ sym (length_mapped alternative_of c.args.alternatives.now.root.items) in
    let more = ap length c.as_slice-additions.ensures.value ∙ sym (length_mapped alternative_of c.args.alternatives.now.additions.items) in
    of_none (map alternative_of c.args.alternatives.now.root.items) (map alternative_of c.args.alternatives.now.additions.items) c.args.index (omega (arith, many, c.if-index-root.false)) (omega (arith, many, more, c.if-index-root.false, c.if-index-root-2.false))
