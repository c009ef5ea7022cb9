use Rattle.std.proofs.Common.{◌≡◌, ℕ, ◌<◌, ◌≤◌, length, subst, sym, ◌∙◌, inl, inr, refl, arith}
use Rattle.std.proofs.lemmas.List.{length-map}
use Rattle.trees.specs.Types.{item_of}
use Rattle.trees.specs.declared.types.EnumeratedItem.{EnumeratedItem}
use Rattle.names.specs.declared.fault.Limit.TheVariants as limits
use Rattle.names.specs.proving.Distinct.{item_at}
use Rattle.type_table.specs.FirstInList.{IsLimitAt, ReportsPassed, item_places}
use Rattle.type_table.specs.Seen.{root_items}
use Rattle.type_table.proofs.FirstFaults.{passed_at}
use Rattle.type_table.proofs.lists.few_items.Goals as goal

pub returns-then-len-gt-MAX_ITEMS-clause-first : goal.returns-then-len-gt-MAX_ITEMS-clause-first
returns-then-len-gt-MAX_ITEMS-clause-first c =
    let gs = c.args.given.now.root.items in
    let l : 1024 < length gs = omega arith in
    inl (passed_at limits.Items c.args.within.now c.args.assigns.now (item_places gs) 1024 c.index.result.now.name (λ i. i ≡ 1024) c.passed.result
    (item_at (λ (i : EnumeratedItem). i.name) gs 1024 c.index.result.now l c.index.ensures) refl c.passed.ensures.limit c.passed.ensures.at)

pub returns-then-more-gt-MAX_ADDITIONS-clause-first :
    goal.returns-then-more-gt-MAX_ADDITIONS-clause-first
returns-then-more-gt-MAX_ADDITIONS-clause-first c =
    let gs = c.additions-more.result.now in
    let l : 64 < length gs = omega arith in
    let few : length c.args.given.now.root.items ≤ 1024 = omega arith in
    let root : length (root_items c.args.given.now) ≤ 1024 = omega (arith, few, length-map c.args.given.now.root.items item_of) in
    let P : ℕ → Type 0 = λ i. (i ≡ 64) × (length (root_items c.args.given.now) ≤ 1024) in
    let e = c.passed-then-more-gt-MAX_ADDITIONS.ensures in
    inr (subst (λ is. ReportsPassed limits.Items c.args.within.now c.args.assigns.now (item_places is) P c.passed-then-more-gt-MAX_ADDITIONS.result) c.additions-more.ensures.same
    (passed_at limits.Items c.args.within.now c.args.assigns.now (item_places gs) 64 c.index-more-64.result.name P c.passed-then-more-gt-MAX_ADDITIONS.result
    (item_at (λ (i : EnumeratedItem). i.name) gs 64 c.index-more-64.result l c.index-more-64.is) (refl, root) e.limit (subst (λ (z : EnumeratedItem). IsLimitAt z.name.at c.passed-then-more-gt-MAX_ADDITIONS.result) (sym c.index-more-64.is) e.at)))
