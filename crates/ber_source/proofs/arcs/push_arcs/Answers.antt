use Rattle.std.proofs.Common.{arith, ◌≡◌, ◌<◌, ◌^◌, length, sym, ap, subst, rules}
use Rattle.primitive_reader.specs.Arcs.{Front}
use Rattle.primitive_reader.specs.proving.Adding.{Adding, adding_more, small_more, none_great, no_number, all_added}
use Rattle.ber_source.proofs.Septets.{one_front}
use Rattle.ber_source.proofs.arcs.push_arcs.Goals as goal

pub loop-first-preserved-then-first-lt128 : goal.loop-first-preserved-then-first-lt128
loop-first-preserved-then-first-lt128 c =
    let f = ap length c.in-Some.ensures.cases.0 in
    let i = c.loop-first.invariant.0 in
    let n = c.push_reserved.ensures.len in
    let m = c.push_reserved.ensures.capacity in
    let l = c.if-first-lt128.true in (
      omega (arith, f, i, n, m),
      λ ns s e.
          subst (λ q. Adding ns c.args.arcs.now.items q c.in-Some.following.now) (sym c.push_reserved.ensures.items)
          (adding_more c.in-Some.first.now (c.loop-first.invariant.1 ns s e) (one_front c.in-Some.first.now c.loop-first.rest.now c.in-Some.following.now c.in-Some.ensures.cases.0 (omega (arith, l)))),
    )

pub overflow_cast-number : goal.overflow_cast-number
overflow_cast-number c =
    let r = c.requires.numbers in
    let s : c.in-Some-Some-default.number < 2 ^ 64 = small_more c.in-Some-Some-default.number (c.loop-first.invariant.1 r.0 r.1 r.2) (subst (λ q. Front q c.in-Some-Some-default.others.now c.loop-first.rest.now) c.in-Some-Some-default.field-0-0-is c.in-Some-Some-default.ensures.some) in
    search rules

pub loop-first-preserved : goal.loop-first-preserved
loop-first-preserved c =
    let f = c.in-Some-Some-default.ensures.shorter in
    let i = c.loop-first.invariant.0 in
    let n = c.push_reserved-in-Some-Some-default.ensures.len in
    let m = c.push_reserved-in-Some-Some-default.ensures.capacity in (
      omega (arith, f, i, n, m),
      λ ns s e.
          subst (λ q. Adding ns c.args.arcs.now.items q c.in-Some-Some-default.others.now) (sym c.push_reserved-in-Some-Some-default.ensures.items)
          (adding_more c.in-Some-Some-default.number (c.loop-first.invariant.1 ns s e) (subst (λ q. Front q c.in-Some-Some-default.others.now c.loop-first.rest.now) c.in-Some-Some-default.field-0-0-is c.in-Some-Some-default.ensures.some)),
    )

pub returns-in-Some-None-default : goal.returns-in-Some-None-default
returns-in-Some-None-default c ns s e =
    absurd (none_great (c.loop-first.invariant.1 ns s e) (subst (λ q. Front q c.in-Some-None-default.field-0-1.now c.loop-first.rest.now) c.in-Some-None-default.field-0-0-is c.in-Some-None-default.ensures.some))

pub returns-in-None : goal.returns-in-None
returns-in-None c ns s e =
    let l = ap length c.in-Some.ensures.cases.0 in
    let some : 0 < length c.loop-first.rest.now = omega (arith, l) in
    absurd (no_number some (c.loop-first.invariant.1 ns s e) c.in-None.ensures.none)

pub returns : goal.returns
returns c ns s e =
    let none : length c.loop-first.rest.now ≡ 0 = search rules in
    all_added ns c.args.arcs.now.items c.loop-first.arcs.items c.loop-first.rest.now none (c.loop-first.invariant.1 ns s e)
