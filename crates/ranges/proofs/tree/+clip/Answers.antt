use Rattle.std.proofs.Common.{◌∙◌, ap, sym, subst, arith, refl}
use Rattle.asn_base.specs.Trees.{ranges_in}
use Rattle.ranges.specs.Numbers.{EndsBefore}
use Rattle.ranges.specs.proving.Trees.{within}
use Rattle.std.specs.Prelude.{length, ◌<◌}
use Rattle.asn_base.specs.declared.range_node.Node.{out-Node}
use Rattle.asn_base.specs.Seen.{range_of}
use Rattle.ranges.proofs.Clips.{after_apart, before_apart, fewer_after, fewer_before, clip_after, clip_before, clip_with, clip_without}
use Rattle.ranges.proofs.Unrolled.{least_of, greatest_of}
use Rattle.ranges.proofs.TreeLists.{all_within}
use Rattle.ranges.proofs.tree.+clip.Goals as goal

pub returns-then-is_endless : goal.returns-then-is_endless
returns-then-is_endless t c =
    c.in_ok-shared.ensures
    ∙ all_within (range_of c.args.range) (ranges_in c.args.link.now) (c.is_endless.ensures.least c.if-is_endless.true)
    (c.is_endless.ensures.greatest c.if-is_endless.true) c.requires

pub returns-in-None : goal.returns-in-None
unfolding within
returns-in-None t c = rw c.in-None.is refl

pub returns-then-ends_before : goal.returns-then-ends_before
returns-then-ends_before t c =
    c.in_ok-clip-in-Some.ensures
    ∙ clip_after c.args.link.now c.in-Some.node c.deref.result.now c.deref-then-ends_before.result.now (range_of c.args.range)
    c.in-Some.is c.deref.ensures c.deref-then-ends_before.ensures c.requires
    (subst (λ r. EndsBefore r (range_of c.args.range)) c.range-own.ensures (c.ends_before.ensures.0 c.if-ends_before.true))

pub returns-then-ends_before-2 : goal.returns-then-ends_before-2
returns-then-ends_before-2 t c =
    c.in_ok-clip-in-Some-2.ensures
    ∙ clip_before c.args.link.now c.in-Some.node c.deref.result.now c.deref-then-ends_before-2.result.now (range_of c.args.range)
    c.in-Some.is c.deref.ensures c.deref-then-ends_before-2.ensures c.requires
    (subst (λ r. EndsBefore (range_of c.args.range) r) c.range-own.ensures (c.ends_before-in-Some.ensures.0 c.if-ends_before-2.true))

pub returns-then-holds_some : goal.returns-then-holds_some
returns-then-holds_some t c =
    clip_with c.args.link.now (range_of c.args.range) (range_of c.common-part.result) _ _ _
    (record {
      node = c.in-Some.node;
      n = c.deref.result.now;
      b = c.deref-in-Some.result.now;
      a = c.deref-in-Some-2.result.now;
      own = range_of c.range-own.result;
      is = c.in-Some.is;
      n_is = c.deref.ensures;
      b_is = c.deref-in-Some.ensures;
      a_is = c.deref-in-Some-2.ensures;
      own_is = c.range-own.ensures;
      apart = c.requires;
      not_before = λ h. absurd (let e = c.ends_before.ensures.1 h in let f = c.if-ends_before.false in grind arith);
      not_after = λ h. absurd (let e = c.ends_before-in-Some.ensures.1 h in let f = c.if-ends_before-2.false in grind arith);
      before = c.in_ok-before-in-Some.ensures ∙ ap (λ x. within x (least_of c.deref-in-Some.result.now)) c.onwards.ensures;
      after = c.in_ok-after-in-Some.ensures ∙ ap (λ x. within x (greatest_of c.deref-in-Some-2.result.now)) c.up_to.ensures;
      common_is = c.common-part.ensures;
    }) (sym c.holds_some.ensures.is ∙ c.if-holds_some.true) c.in_ok-join-in-Some.ensures

pub returns : goal.returns
returns t c =
    clip_without c.args.link.now (range_of c.args.range) (range_of c.common-part.result) _ _ _
    (record {
      node = c.in-Some.node;
      n = c.deref.result.now;
      b = c.deref-in-Some.result.now;
      a = c.deref-in-Some-2.result.now;
      own = range_of c.range-own.result;
      is = c.in-Some.is;
      n_is = c.deref.ensures;
      b_is = c.deref-in-Some.ensures;
      a_is = c.deref-in-Some-2.ensures;
      own_is = c.range-own.ensures;
      apart = c.requires;
      not_before = λ h. absurd (let e = c.ends_before.ensures.1 h in let f = c.if-ends_before.false in grind arith);
      not_after = λ h. absurd (let e = c.ends_before-in-Some.ensures.1 h in let f = c.if-ends_before-2.false in grind arith);
      before = c.in_ok-before-in-Some.ensures ∙ ap (λ x. within x (least_of c.deref-in-Some.result.now)) c.onwards.ensures;
      after = c.in_ok-after-in-Some.ensures ∙ ap (λ x. within x (greatest_of c.deref-in-Some-2.result.now)) c.up_to.ensures;
      common_is = c.common-part.ensures;
    }) (sym c.holds_some.ensures.is ∙ c.if-holds_some.false) c.in_ok-glue-in-Some.ensures

pub clip-requires : goal.clip-requires
clip-requires t c =
    let e = c.in-Some.is in
    let d = c.deref-then-ends_before.ensures in (
      subst (λ n. length (ranges_in (out-Node c.deref-then-ends_before.result.now).after) < n) c.decreases
          (fewer_after c.args.link.now c.in-Some.node c.deref-then-ends_before.result.now e d),
      after_apart c.args.link.now c.in-Some.node c.deref-then-ends_before.result.now e d c.requires,
    )

pub clip-requires-then-ends_before-2 : goal.clip-requires-then-ends_before-2
clip-requires-then-ends_before-2 t c =
    let e = c.in-Some.is in
    let d = c.deref-then-ends_before-2.ensures in (
      subst (λ n. length (ranges_in (out-Node c.deref-then-ends_before-2.result.now).before) < n) c.decreases
          (fewer_before c.args.link.now c.in-Some.node c.deref-then-ends_before-2.result.now e d),
      before_apart c.args.link.now c.in-Some.node c.deref-then-ends_before-2.result.now e d c.requires,
    )

pub clip-requires-in-Some : goal.clip-requires-in-Some
clip-requires-in-Some t c =
    let e = c.in-Some.is in
    let d = c.deref-in-Some.ensures in (
      subst (λ n. length (ranges_in (out-Node c.deref-in-Some.result.now).before) < n) c.decreases
          (fewer_before c.args.link.now c.in-Some.node c.deref-in-Some.result.now e d),
      before_apart c.args.link.now c.in-Some.node c.deref-in-Some.result.now e d c.requires,
    )

pub clip-requires-in-Some-2 : goal.clip-requires-in-Some-2
clip-requires-in-Some-2 t c =
    let e = c.in-Some.is in
    let d = c.deref-in-Some-2.ensures in (
      subst (λ n. length (ranges_in (out-Node c.deref-in-Some-2.result.now).after) < n) c.decreases
          (fewer_after c.args.link.now c.in-Some.node c.deref-in-Some-2.result.now e d),
      after_apart c.args.link.now c.in-Some.node c.deref-in-Some-2.result.now e d c.requires,
    )
