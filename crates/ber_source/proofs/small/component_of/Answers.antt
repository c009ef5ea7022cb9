use Rattle.std.proofs.Common.{refl, sym, ap, subst}
use Rattle.codec_code.specs.Routines.{routine_at}
use Rattle.codec_source.specs.Small.{TakesComponent}
use Rattle.octet_answers.specs.Answers.{Takes}
use Rattle.octet_answers.specs.States.{component}
use Rattle.ber_source.specs.Seen.{IsBare, state_of}
use Rattle.ber_source.specs.ShortValue.{IsShortValue}
use Rattle.ber_source.proofs.Shorts.{component_taken, token_short}
use Rattle.ber_source.proofs.small.component_of.Goals as goal

pub pass_short-requires : goal.pass_short-requires
pass_short-requires g c k =
    let a = state_of g.T.TokenSink.tokens c.args.place.now in (
      (refl, (refl, tt)),
      (
        c.in-Ok.ensures.within,
        (
          subst (λ q. IsBare (routine_at q c.args.field.ty.index)) (sym (ap (λ q. q.schema) c.in-Ok.ensures.ok)) (c.is_leaf.ensures c.if-not-is_leaf.false),
          (c.args.head, subst (λ q. IsShortValue q c.args.head c.args.kind c.in-Some.short) (sym c.in-Ok.ensures.ok) (token_short a (component c.args.field.place) c.args.head c.args.kind c.in-Some.short c.in-Some.ensures)),
        ),
      ),
    )

pub returns-in-Ok-pass_short-clause-taken : goal.returns-in-Ok-pass_short-clause-taken
returns-in-Ok-pass_short-clause-taken g c =
    let a = state_of g.T.TokenSink.tokens c.args.place.now in
    let b = state_of g.T.TokenSink.tokens c.emit.new.place in
    λ yes. subst (λ q. TakesComponent Takes c.args.field c.args.head c.args.kind a q) (sym c.in-Ok-pass_short.ensures.ok) (component_taken c.lemma_one_answer.ensures.takes a b c.args.field c.args.head c.args.kind c.in-Some.short (c.can_begin.ensures.0 c.if-not-can_begin.false) c.in-Some.ensures c.in-Ok.ensures.ok)
