use Rattle.std.proofs.Common.{refl, sym, ap, subst, ◌∙◌}
use Rattle.codec_code.specs.Routines.{routine_at}
use Rattle.octet_answers.specs.States.{begun, chosen}
use Rattle.ber_source.specs.Seen.{IsBare, state_of}
use Rattle.ber_source.specs.ShortValue.{IsShortValue}
use Rattle.ber_source.proofs.Shorts.{token_short}
use Rattle.ber_source.proofs.small.pass_choice.Goals as goal

pub pass_short-requires : goal.pass_short-requires
pass_short-requires g c k =
    let h = c.args.alternative.head in
    let x = c.args.alternative.kind in
    let a = state_of g.T.TokenSink.tokens c.args.place.now in
    let b = state_of g.T.TokenSink.tokens c.begin_choice.new.place in
    let begins = subst (λ q. IsShortValue q h x c.args.short) (sym c.in-Ok.ensures.ok) (token_short a (begun c.args.id) h x c.args.short c.requires.short) in
    let named = subst (λ q. IsShortValue q h x c.args.short) (sym c.in-Ok-emit.ensures.ok) (token_short b (chosen c.args.alternative.index) h x c.args.short begins) in (
      (refl, (refl, tt)),
      (
        c.in-Ok-emit.ensures.within,
        (
          subst (λ q. IsBare (routine_at q c.args.alternative.ty.index)) (sym (ap (λ q. q.schema) c.in-Ok-emit.ensures.ok ∙ ap (λ q. q.schema) c.in-Ok.ensures.ok)) c.requires.bare,
          (h, named),
        ),
      ),
    )
