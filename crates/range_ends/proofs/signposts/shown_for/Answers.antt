use Rattle.std.proofs.Common.{◌≡◌, Some, sym, ap, ◌∙◌}
use Rattle.trees.specs.Types.{numbered_name}
use Rattle.range_ends.specs.proving.Keys.{key_in, texts}
use Rattle.range_ends.proofs.Posts.{shown_for_if}
use Rattle.range_ends.proofs.signposts.shown_for.Goals as goal

pub returns-in-Some : goal.returns-in-Some
returns-in-Some c = λ p os a o.
    let s = c.args.signs.now in
    let x = (numbered_name c.args.number.now).0 in
    let e : key_in (texts s.names.items) x ≡ Some c.in-Some.key =
    ap (λ z. key_in (texts z) x) (sym c.deref.ensures.value) ∙ ap (λ z. key_in (texts c.deref.result.now) z) (sym c.as_str.ensures.value)
    ∙ sym c.key_of.ensures ∙ c.in-Some.is in
    shown_for_if p os (texts s.names.items) x c.in-Some.key c.args.post.now c.shown.result e (c.shown.ensures p os a o)
