use Rattle.std.proofs.Common.{arith, ◌<◌, length, refl, ap, sym, subst}
use Rattle.codec_code.specs.Routines.{routine_at}
use Rattle.codec_source.specs.proving.Wholes.{ReadsOn, not_once}
use Rattle.octet_answers.specs.Answers.{Takes}
use Rattle.ber_source.specs.Rows.{ArePlain, IsComponentRead, moved}
use Rattle.ber_source.proofs.Elements.{one_component, plain_first}
use Rattle.ber_source.proofs.rows.components_from.Goals as goal

pub loop-field-init : goal.loop-field-init
loop-field-init g c = (λ a e few headers. not_once, c.requires.short, omega arith, λ s h. h, c.requires.plain)

pub component_next-requires : goal.component_next-requires
component_next-requires g c = λ lifetimes.
    let p = plain_first (subst (ArePlain c.args.code.now c.args.own.now) c.in-Some.ensures c.loop-field.invariant.4) in
    ((refl, tt), (c.loop-field.invariant.3 c.args.own.now c.requires.suits, (p.0, c.loop-field.invariant.1)))

pub returns-then-row-eq0-clause-ok : goal.returns-then-row-eq0-clause-ok
returns-then-row-eq0-clause-ok g c = c.loop-field.invariant.0

pub returns-then-row-eq0-clause-short : goal.returns-then-row-eq0-clause-short
returns-then-row-eq0-clause-short g c = c.loop-field.invariant.1

pub returns-then-row-eq0-clause-suits : goal.returns-then-row-eq0-clause-suits
returns-then-row-eq0-clause-suits g c = c.loop-field.invariant.3

pub loop-field-smaller : goal.loop-field-smaller
loop-field-smaller g c = let e = ap length c.in-Some.ensures in omega (arith, e)

pub loop-field-preserved : goal.loop-field-preserved
loop-field-preserved g c =
    let r = routine_at c.args.code.now in
    let f = c.in-Some.field in
    let o = c.loop-field.row.here.octets.now in
    let at = c.loop-field.row.here.at in
    let ts = g.T.TokenSink.tokens c.loop-field.emitted in
    let rest = c.in-Ok-Some.here.octets.now in
    let next = c.in-Ok-Some.here.at in
    let us = g.T.TokenSink.tokens c.component_next.new.emitted in
    let left = c.loop-field.row.budget in
    let v = rw c.in-Ok-Some.field-0-is at c.in-Ok-Some.ensures.ok in
    let short = rw c.in-Ok-Some.field-0-is at c.in-Ok-Some.ensures.short in
    let some : 0 < left = (let t = c.if-row-eq0.false in omega (arith, t)) in (
      λ a e few headers.
          let read = subst (λ q. IsComponentRead q f v.header v.kind o at ts rest next us) (sym e) v.is_read in
          one_component c.lemma_one_answer.ensures.takes r a (moved a c.args.start.here.octets.now c.args.start.here.at (g.T.TokenSink.tokens c.args.emitted.now) c.args.start.budget) f v.header v.kind c.args.start.left.now c.loop-field.row.left.now c.in-Some.following.now o rest at next ts us left v.routine read some few headers c.in-Some.ensures (c.loop-field.invariant.0 a e few headers),
      short,
      (let b = c.loop-field.invariant.2 in omega (arith, b)),
      λ s h. c.component_next.ensures.suits s (c.loop-field.invariant.3 s h),
      (plain_first (subst (ArePlain c.args.code.now c.args.own.now) c.in-Some.ensures c.loop-field.invariant.4)).1,
    )

pub returns-in-Ok-None-clause-ok : goal.returns-in-Ok-None-clause-ok
returns-in-Ok-None-clause-ok g c =
    let v = rw c.in-Ok-None.field-0-is at c.in-Ok-None.ensures.ok in
    λ a e few headers. subst (λ q. ReadsOn (routine_at c.args.code.now) Takes c.args.start.left.now c.loop-field.row.left.now (moved a c.args.start.here.octets.now c.args.start.here.at (g.T.TokenSink.tokens c.args.emitted.now) c.args.start.budget) (moved a c.loop-field.row.here.octets.now c.loop-field.row.here.at q c.loop-field.row.budget)) (sym v) (c.loop-field.invariant.0 a e few headers)

pub returns-in-Ok-None-clause-short : goal.returns-in-Ok-None-clause-short
returns-in-Ok-None-clause-short g c = c.loop-field.invariant.1

pub returns-in-Ok-None-clause-budget : goal.returns-in-Ok-None-clause-budget
returns-in-Ok-None-clause-budget g c = c.loop-field.invariant.2

pub returns-in-Ok-None-clause-suits : goal.returns-in-Ok-None-clause-suits
returns-in-Ok-None-clause-suits g c = λ s h. c.component_next.ensures.suits s (c.loop-field.invariant.3 s h)

pub returns-in-Err-clause-suits : goal.returns-in-Err-clause-suits
returns-in-Err-clause-suits g c = λ s h. c.component_next.ensures.suits s (c.loop-field.invariant.3 s h)

pub returns-clause-ok : goal.returns-clause-ok
returns-clause-ok g c = c.loop-field.invariant.0

pub returns-clause-short : goal.returns-clause-short
returns-clause-short g c = c.loop-field.invariant.1

pub returns-clause-budget : goal.returns-clause-budget
returns-clause-budget g c = c.loop-field.invariant.2

pub returns-clause-suits : goal.returns-clause-suits
returns-clause-suits g c = c.loop-field.invariant.3
