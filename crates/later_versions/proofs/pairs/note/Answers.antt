use Rattle.std.proofs.Common.{ap, inr, map, subst, sym, ◌∙◌, ◌∷◌, []}
use Rattle.std.proofs.lemmas.List.{map-append}
use Rattle.asn_base.specs.Names.{IsMember}
use Rattle.later_versions.specs.proving.Pairs.{IsIn, met, met_pair}
use Rattle.later_versions.proofs.Pairing.{member_last, put_known}
use Rattle.later_versions.proofs.pairs.note.Goals as goal

pub returns-in_ok-push-in-Ok-true-clause-known : goal.returns-in_ok-push-in-Ok-true-clause-known
returns-in_ok-push-in-Ok-true-clause-known c =
    put_known c.args.pairs.now.known c.add.new.known (met c.args.pairs.now) _ (met_pair c.args.met)
    (c.in-Ok-true.ensures.added c.in-Ok-true.field-0-test) c.requires
    (ap (λ q. map met_pair q) c.in_ok-push-in-Ok-true.ensures.items ∙ map-append met_pair c.args.pairs.now.list.items (c.args.met ∷ []))

pub returns-in_ok-push-in-Ok-true-clause-is_met : goal.returns-in_ok-push-in-Ok-true-clause-is_met
returns-in_ok-push-in-Ok-true-clause-is_met c =
    subst (IsMember (met_pair c.args.met))
    (sym (ap (λ q. map met_pair q) c.in_ok-push-in-Ok-true.ensures.items ∙ map-append met_pair c.args.pairs.now.list.items (c.args.met ∷ [])))
    (member_last (met_pair c.args.met) (met c.args.pairs.now))

pub returns-in_ok-push-in-Ok-true-clause-noted : goal.returns-in_ok-push-in-Ok-true-clause-noted
returns-in_ok-push-in-Ok-true-clause-noted c = inr c.in_ok-push-in-Ok-true.ensures.items

pub returns-in-Ok-false-clause-known : goal.returns-in-Ok-false-clause-known
returns-in-Ok-false-clause-known c = λ p h.
    c.requires p (subst (λ k. IsIn k p) (c.in-Ok-false.ensures.same c.in-Ok-false.field-0-test) h)

pub returns-in-Ok-false-clause-is_met : goal.returns-in-Ok-false-clause-is_met
returns-in-Ok-false-clause-is_met c = c.requires (met_pair c.args.met) (c.in-Ok-false.ensures.had c.in-Ok-false.field-0-test)
