use Rattle.std.proofs.Common.{◌++◌, ◌∙◌, ap, arith, refl, string_bytes}
use Rattle.std.specs.List.{flat_map}
use Rattle.std.specs.Str.{chars}
use Rattle.std.proofs.lemmas.Str.{encode_ascii}
use Rattle.source_text.proofs.Going.{space, spaces, start_after, step, stop}
use Rattle.source_text.proofs.caret.push_spaces.Goals as goal

pub loop-init : goal.loop-init
loop-init c =
    start_after (flat_map space) c.args.text.now c.into_iter-iterator.result.rest.now _ _ c.utf8.text (cc)
    (ap (λ t. string_bytes c.args.line.now ++ t) (spaces (chars c.args.text.now)))

pub loop-preserved : goal.loop-preserved
loop-preserved c =
    step space c.in-Some.field-0 c.loop.iterator'.rest.now c.next.new.self.rest.now _ _ _
    c.in-Some.ensures.steps.0 c.loop.invariant
    (c.in_ok-push.ensures.bytes ∙ ap (λ t. string_bytes c.loop.line ++ t) (encode_ascii 32 (omega arith)))

pub returns : goal.returns
returns c = stop (flat_map space) c.loop.iterator'.rest.now _ _ refl c.in-None.ensures.steps.0.0 c.loop.invariant
