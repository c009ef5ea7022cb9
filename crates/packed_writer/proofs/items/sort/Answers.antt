use Rattle.std.proofs.Common.{rules, ◌≡◌}
use Rattle.std.specs.Ordering.{is_lt}
use Rattle.std.proofs.lemmas.List.Sorted.{answers_always}
use Rattle.packed_encodings.specs.Computed.{is_below}
use Rattle.packed_writer.proofs.Below.{weak_order, ascending_from}
use Rattle.packed_writer.proofs.items.sort.Goals as goal

pub returns-clause-order : goal.returns-clause-order
returns-clause-order c =
    ascending_from c.sort_by.new.self.items (c.in_ok-sort_by.ensures.sorted is_below (weak_order c.order_laws.ensures.either c.order_laws.ensures.joined) (answers_always _ (λ a r. is_lt r ≡ is_below a.0.now a.1.0.now) _ (λ q a r k d. search rules)))
