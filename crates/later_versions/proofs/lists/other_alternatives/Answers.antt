use Rattle.std.proofs.Common.{arith, inl, inr, map}
use Rattle.std.proofs.lemmas.List.{length-map}
use Rattle.asn_base.specs.Seen.{alternative_of}
use Rattle.later_versions.specs.Differences.{other_addition, other_marker, other_root}
use Rattle.later_versions.proofs.Fronts.{front_whole, other_beq, same_beq, same_mapped}
use Rattle.later_versions.proofs.lists.other_alternatives.Goals as goal
use Rattle.later_versions.proofs.lists.other_alternatives.Goals.{then-root-len-via-then-root-len, then-root-len-via-else-root-len+then-root-len-2}

pub returns-then-alternatives-others : goal.returns-then-alternatives-others
returns-then-alternatives-others c = other_marker (other_beq c.args.alternatives.now.extensible c.args.others.now.extensible c.if-alternatives-others.true)

pub returns-then-root-len : goal.returns-then-root-len
returns-then-root-len c =
    let root = rw (c.as_slice.ensures.value, c.as_slice-2.ensures.value) at c.same_alternatives-root.ensures in
    let m = length-map c.args.alternatives.now.root.items alternative_of in
    let n = length-map c.args.others.now.root.items alternative_of in
    other_root (same_beq c.args.alternatives.now.extensible c.args.others.now.extensible c.if-alternatives-others.false) root
    (elim c.then-root-len.branch [
      | then-root-len-via-then-root-len w ↦ inl (let a = c.len.ensures in let b = w.if-root-len.true in omega (arith, m, a, b))
      | then-root-len-via-else-root-len+then-root-len-2 w ↦ inr (let a = w.len-else-root-len.ensures in let b = w.if-root-len-2.true in omega (arith, n, a, b))
    ])

pub returns-then-additions-len : goal.returns-then-additions-len
returns-then-additions-len c =
    let root = rw (c.as_slice.ensures.value, c.as_slice-2.ensures.value) at c.same_alternatives-root.ensures in
    let more = rw (c.as_slice-3.ensures.value, c.as_slice-4.ensures.value) at c.same_alternatives-additions.ensures in
    let m = length-map c.args.alternatives.now.root.items alternative_of in
    let n = length-map c.args.others.now.root.items alternative_of in
    let k = length-map c.args.alternatives.now.additions.items alternative_of in
    let a = c.len.ensures in
    let b = c.len-else-root-len.ensures in
    let d = c.len-2.ensures in
    let e = c.if-root-len.false in
    let f = c.if-root-len-2.false in
    let g = c.if-additions-len.true in
    let i = root.in_first in
    let j = root.in_second in
    other_addition (same_beq c.args.alternatives.now.extensible c.args.others.now.extensible c.if-alternatives-others.false)
    (omega (arith, m, n, a, b, e, f, i, j)) (front_whole root (omega (arith, m, a, e))) more (omega (arith, k, d, g))

pub returns : goal.returns
returns c =
    let root = rw (c.as_slice.ensures.value, c.as_slice-2.ensures.value) at c.same_alternatives-root.ensures in
    let more = rw (c.as_slice-3.ensures.value, c.as_slice-4.ensures.value) at c.same_alternatives-additions.ensures in
    let m = length-map c.args.alternatives.now.root.items alternative_of in
    let n = length-map c.args.others.now.root.items alternative_of in
    let k = length-map c.args.alternatives.now.additions.items alternative_of in
    let a = c.len.ensures in
    let b = c.len-else-root-len.ensures in
    let d = c.len-2.ensures in
    let e = c.if-root-len.false in
    let f = c.if-root-len-2.false in
    let g = c.if-additions-len.false in
    let i = root.in_first in
    let j = root.in_second in (
      same_beq c.args.alternatives.now.extensible c.args.others.now.extensible c.if-alternatives-others.false,
      same_mapped (λ a. a.name) (map alternative_of c.args.alternatives.now.root.items) (map alternative_of c.args.others.now.root.items) (omega (arith, m, n, a, b, e, f, i, j)) (front_whole root (omega (arith, m, a, e))),
      front_whole more (omega (arith, k, d, g)),
    )
