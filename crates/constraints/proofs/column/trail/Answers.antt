use Rattle.std.proofs.Common.{◌≡◌, length, None, sym, ap, ◌∙◌, arith}
use Rattle.std.proofs.lemmas.Option.{slice_get-get_or}
use Rattle.type_table.specs.Seen.{type_of, types_of}
use Rattle.type_table.specs.Table.{walk, next, target_of}
use Rattle.type_table.specs.proving.Tables.{as_long}
use Rattle.type_table.specs.proving.Walks.{one_more}
use Rattle.constraints.proofs.Firsts.{target_next, long_next}
use Rattle.constraints.proofs.Noting.{noted_by}
use Rattle.constraints.proofs.Letters.{seen_here}
use Rattle.constraints.proofs.Trails.{front_ends, front_more, front_known, never_long}
use Rattle.constraints.proofs.column.trail.Goals as goal

pub returns-then-is_some-clause-trail : goal.returns-then-is_some-clause-trail
returns-then-is_some-clause-trail c =
    let l = c.loop-step.invariant.inside in
    let long = c.requires.long in
    let e = slice_get-get_or c.args.at.now c.loop-step.ty None (omega (arith, l, long)) in
    front_known (types_of c.args.types.now) c.args.at.now c.args.start c.loop-step.ty c.loop-step.all.items
    c.loop-step.invariant.front (noted_by c.args.at.now c.loop-step.ty _ e (sym c.is_some.ensures ∙ c.if-is_some.true))

pub returns-in-None-clause-trail : goal.returns-in-None-clause-trail
returns-in-None-clause-trail c =
    let ts = types_of c.args.types.now in
    let w = c.index-types-ty.result in
    let here = seen_here type_of c.args.types.now c.loop-step.ty w c.loop-step.invariant.inside c.index-types-ty.is in
    let l = c.loop-step.invariant.inside in
    front_ends ts c.args.start c.loop-step.ty c.loop-step.all.items c.push.new.self.items c.loop-step.invariant.front
    (omega (arith, l, as_long c.args.types.now)) c.in_ok-push.ensures.items c.args.at.now
    (ap target_of here ∙ sym c.target.ensures ∙ c.in-None.is)

pub loop-step-preserved : goal.loop-step-preserved
loop-step-preserved c =
    let ts = types_of c.args.types.now in
    let w = c.index-types-ty.result in
    let here = seen_here type_of c.args.types.now c.loop-step.ty w c.loop-step.invariant.inside c.index-types-ty.is in
    let l = c.loop-step.invariant.inside in
    let n = ap target_of here ∙ sym c.target.ensures ∙ c.in-Some.is in
    let i = c.requires.linked.closed c.loop-step.ty c.in-Some.next n in
    record {
      inside = omega (arith, i, as_long c.args.types.now);
      chain = one_more (next ts) c.loop-step.step c.args.start c.loop-step.ty c.in-Some.next c.loop-step.invariant.chain n;
      long = long_next c.loop-step.all.items c.push.new.self.items c.loop-step.ty c.loop-step.step c.loop-step.invariant.long
          c.in_ok-push.ensures.items;
      target = target_next ts c.args.start c.loop-step.ty c.loop-step.step c.loop-step.all.items c.push.new.self.items
          c.loop-step.invariant.long c.loop-step.invariant.target c.loop-step.invariant.chain c.in_ok-push.ensures.items;
      front = front_more ts c.args.start c.loop-step.ty c.loop-step.all.items c.push.new.self.items c.loop-step.invariant.front
          (omega (arith, l, as_long c.args.types.now)) c.in_ok-push.ensures.items c.in-Some.next n;
    }

pub returns-clause-trail : goal.returns-clause-trail
returns-clause-trail c =
    let ts = types_of c.args.types.now in
    let e = c.loop-step.auto.step-end in
    let f = c.loop-step-test.false in
    let t = c.requires.there in
    let all : c.loop-step.step ≡ length ts = omega (arith, e, f, as_long c.args.types.now) in
    absurd (never_long ts c.args.start c.loop-step.ty c.requires.linked (omega (arith, t, as_long c.args.types.now))
    (ap (λ k. walk ts k c.args.start) (sym all) ∙ c.loop-step.invariant.chain))

pub returns-in-None-clause-target : goal.returns-in-None-clause-target
returns-in-None-clause-target c =
    target_next (types_of c.args.types.now) c.args.start c.loop-step.ty c.loop-step.step c.loop-step.all.items
    c.push.new.self.items c.loop-step.invariant.long c.loop-step.invariant.target c.loop-step.invariant.chain
    c.in_ok-push.ensures.items
