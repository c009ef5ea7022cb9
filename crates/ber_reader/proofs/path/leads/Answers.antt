use Rattle.std.proofs.Common.{refl, sym, ap, ◌∙◌}
use Rattle.ber_reader.specs.Opened.{entered, on_last}
use Rattle.ber_reader.specs.Paths.{on_path}
use Rattle.ber_reader.proofs.Plain.{false_true}
use Rattle.ber_reader.proofs.Paths.{entered_last, no_path, other_last, same_last}
use Rattle.ber_reader.proofs.path.leads.Goals as goal

pub returns-then-values-path : goal.returns-then-values-path
returns-then-values-path c = no_path _ c.args.path.now c.args.values.now refl c.if-values-path.true

pub returns-then-not-is_same : goal.returns-then-not-is_same
returns-then-not-is_same c =
    let last = c.in-Some.last.now in
    other_last _ (on_last entered c.args.values.now) c.args.path.now c.in-Some.others.now c.in-Some-split_last.before.now (entered last) c.in-Some-split_last.end.now
    (entered_last c.args.values.now c.in-Some.others.now last c.in-Some.ensures.cases.0)
    c.in-Some-split_last.ensures.cases.0
    refl
    (λ e. false_true (sym c.if-not-is_same.true ∙ c.is_same.ensures.1 (ap on_path c.entered.ensures ∙ e)))

pub returns : goal.returns
returns c =
    let last = c.in-Some.last.now in
    same_last c.are_same.result (on_last entered c.args.values.now) c.args.path.now c.in-Some.others.now c.in-Some-split_last.before.now (entered last) c.in-Some-split_last.end.now
    (entered_last c.args.values.now c.in-Some.others.now last c.in-Some.ensures.cases.0)
    c.in-Some-split_last.ensures.cases.0
    (ap on_path (sym c.entered.ensures) ∙ c.is_same.ensures.0 c.if-not-is_same.false)
    c.are_same.ensures
