use Rattle.std.proofs.Common.{arith, sym, ◌∙◌, ap, length, subst, IsUtf8}
use Rattle.source_text.proofs.Beginning.{first_or_none, none_of_others, none_past}
use Rattle.source_text.proofs.characters.character_of.Goals as goal

pub returns-in_default : goal.returns-in_default
returns-in_default c =
    none_past c.args.text.now c.args.place c.args.long c.saturating_add.result c.saturating_add.ensures (omega arith)
    c.in_default.ensures.lookup.0

pub returns-in-Ok : goal.returns-in-Ok
returns-in-Ok c =
    let same = c.chars.ensures.rest in
    first_or_none c.args.text.now c.in-Ok.front.now c.args.place c.args.long c.saturating_add.result c.next.result
    _ _ c.saturating_add.ensures (omega arith) (c.in-Ok.ensures.cases.0 ∙ c.in-Some.ensures.lookup.0.2)
    (subst IsUtf8 (sym c.in-Ok.ensures.cases.0) c.in-Ok.ensures.cases.1) c.next.ensures.steps.0
    (λ p. ap length (sym same) ∙ p.0)
    (λ d q. (c.next.new.self.rest.now, sym same ∙ q))

pub returns-in-Err : goal.returns-in-Err
returns-in-Err c =
    none_of_others c.args.text.now c.in-Some.octets.now c.args.place c.args.long c.saturating_add.result
    c.saturating_add.ensures (omega arith) c.in-Some.ensures.lookup.0.2 c.in-Err.ensures.cases.0
