use Rattle.std.proofs.Common.{◌++◌, List, ℕ, sym, ap, ◌∙◌, append_assoc, string_bytes}
use Rattle.std.specs.List.{flat_map}
use Rattle.std.proofs.lemmas.Iterator.Consumers.{YieldsList-end}
use Rattle.std.proofs.lemmas.Iterator.Splits.{YieldsList-from_lines}
use Rattle.std.proofs.lemmas.List.{append-nil, flat_map_more}
use Rattle.std.proofs.lemmas.List.Folds.{flat_map-map}
use Rattle.row_format.specs.Rows.{margin}
use Rattle.row_format.proofs.layout.with_lines.Goals as goal

pub loop-line-init : goal.loop-line-init
loop-line-init c = sym (append-nil (string_bytes c.args.text))

pub loop-line-preserved : goal.loop-line-preserved
loop-line-preserved c =
    let x = c.in-Some.line in
    let f = λ (y : _). margin y.now ++ y.now in
    rw (c.in_ok-push_str-2.ensures.bytes, c.in_ok-push_str.ensures.bytes, c.margin.ensures, c.loop-line.invariant)
    (append_assoc _ (margin x.now) x.now ∙ flat_map_more f (string_bytes c.args.text) c.loop-line.yielded x)

pub returns : goal.returns
returns c =
    let e = YieldsList-end (YieldsList-from_lines c.args.answer.now (cc)) c.loop-line.yielded _ c.loop-line.yielded_by _ _ c.in-None.is c.next.ensures.steps in
    c.loop-line.invariant ∙ ap (λ (l : List ℕ). string_bytes c.args.text ++ l)
    (sym (flat_map-map (λ l. margin l ++ l) (λ x. x.now) c.loop-line.yielded) ∙ ap (flat_map (λ l. margin l ++ l)) e.0)
