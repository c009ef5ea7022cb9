use Rattle.std.proofs.Common.{lit<, sym, subst}
use Rattle.std.specs.Prelude.{◌↔◌, IfOk, IsTrue}
use Rattle.asn_base.specs.declared.rule.SchemaRule.TheVariants.{Bounds, Order, FirstTags, RunTags, OwnTags, Members}
use Rattle.asn_base.specs.Rules.{HasOwnTags, Obeys}
use Rattle.asn_base.specs.Seen.{kind_of}
use Rattle.asn_base.proofs.Checks.{earlier}
use Rattle.asn_base.proofs.check.obeys.Goals as goal

pub has_order-requires : goal.has_order-requires
has_order-requires c =
    subst (λ q. HasOwnTags c.args.types.now (kind_of q)) (sym c.deref-core.ensures)
    (earlier c.args.types.now Order OwnTags c.args.rule c.requires.before c.in-Order.is (lit< tt) c.args.ty _ _ (record { found = c.requires.is }))

pub are_first_tags_apart-requires-clause-own : goal.are_first_tags_apart-requires-clause-own
are_first_tags_apart-requires-clause-own c = earlier c.args.types.now FirstTags OwnTags c.args.rule c.requires.before c.in-FirstTags.is (lit< tt)

pub are_first_tags_apart-requires-clause-tags : goal.are_first_tags_apart-requires-clause-tags
are_first_tags_apart-requires-clause-tags c =
    subst (λ q. HasOwnTags c.args.types.now (kind_of q)) (sym c.deref-core.ensures)
    (earlier c.args.types.now FirstTags OwnTags c.args.rule c.requires.before c.in-FirstTags.is (lit< tt) c.args.ty _ _ (record { found = c.requires.is }))

pub are_runs_apart-requires-clause-own : goal.are_runs_apart-requires-clause-own
are_runs_apart-requires-clause-own c = earlier c.args.types.now RunTags OwnTags c.args.rule c.requires.before c.in-RunTags.is (lit< tt)

pub are_runs_apart-requires-clause-apart : goal.are_runs_apart-requires-clause-apart
are_runs_apart-requires-clause-apart c = earlier c.args.types.now RunTags FirstTags c.args.rule c.requires.before c.in-RunTags.is (lit< tt)

pub returns-in-Members : goal.returns-in-Members
returns-in-Members c =
    subst (λ q. IfOk c.has_members.result (λ b. IsTrue b ↔ Obeys c.args.types.now q c.args.ty c.args.resolved.now.tags.items (kind_of c.args.resolved.now.core.value))) (sym c.in-Members.is)
    (subst (λ q. IfOk c.has_members.result (λ b. IsTrue b ↔ Obeys c.args.types.now Members c.args.ty c.args.resolved.now.tags.items (kind_of q))) c.deref-core.ensures c.has_members.ensures)

pub returns-in-OwnTags : goal.returns-in-OwnTags
returns-in-OwnTags c =
    subst (λ q. IfOk c.has_own_tags.result (λ b. IsTrue b ↔ Obeys c.args.types.now q c.args.ty c.args.resolved.now.tags.items (kind_of c.args.resolved.now.core.value))) (sym c.in-OwnTags.is)
    (subst (λ q. IfOk c.has_own_tags.result (λ b. IsTrue b ↔ Obeys c.args.types.now OwnTags c.args.ty c.args.resolved.now.tags.items (kind_of q))) c.deref-core.ensures c.has_own_tags.ensures)

pub returns-in-Bounds : goal.returns-in-Bounds
returns-in-Bounds c =
    subst (λ q. IfOk c.has_bounds.result (λ b. IsTrue b ↔ Obeys c.args.types.now q c.args.ty c.args.resolved.now.tags.items (kind_of c.args.resolved.now.core.value))) (sym c.in-Bounds.is)
    (subst (λ q. IfOk c.has_bounds.result (λ b. IsTrue b ↔ Obeys c.args.types.now Bounds c.args.ty c.args.resolved.now.tags.items (kind_of q))) c.deref-core.ensures c.has_bounds.ensures)
