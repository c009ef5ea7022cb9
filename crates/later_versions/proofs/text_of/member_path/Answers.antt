use Rattle.std.proofs.Common.{arith, sym, ap, ◌∙◌, ◌<◌, length, string_bytes}
use Rattle.later_versions.specs.DifferenceText.{with_label}
use Rattle.later_versions.proofs.Paths.{path_ends}
use Rattle.later_versions.proofs.text_of.member_path.Goals as goal

pub returns-then-len-gt-MOST_SHOWN : goal.returns-then-len-gt-MOST_SHOWN
returns-then-len-gt-MOST_SHOWN c =
    let long : 60 < length (string_bytes c.in_ok-longer.longer) = (let a = c.len.ensures in let b = c.if-len-gt-MOST_SHOWN.true in omega (arith, a, b)) in
    sym (path_ends c.args.schema.now c.loop-i.ty.index (string_bytes c.loop-i.path) c.loop-i.i c.args.places.now _ _ c.loop-i-test.true
    c.in_ok-label.ensures
    (c.in_ok-longer.ensures ∙ ap (λ q. with_label q c.as_str-in-loop-i.result.now) c.as_str.ensures.value ∙ ap (λ q. with_label (string_bytes c.loop-i.path) q) c.as_str-in-loop-i.ensures.value)
    long)
    ∙ c.loop-i.invariant
