use Rattle.std.proofs.Common.{rules, ◌≡◌, map, ap, ◌∙◌}
use Rattle.std.specs.Ordering.{is_lt}
use Rattle.std.proofs.lemmas.Fn.{always_returns_same}
use Rattle.der_layout.specs.proving.Words.{octets_after, member_at}
use Rattle.der_layout.proofs.Ordered.{weak_order_by}
use Rattle.der_layout.proofs.Beginnings.{before_by_words, sorted_members}
use Rattle.der_layout.proofs.sort.sorted_by_octets.Goals as goal

pub returns : goal.returns
returns c =
    let o = c.args.octets.now in
    let ms = c.args.members.now in
    let sorted = c.in_ok-sort_by.ensures.sorted (before_by_words o ms) (weak_order_by (octets_after o ms))
    (always_returns_same _ (λ a r. is_lt r ≡ before_by_words o ms a.0.now a.1.0.now) _ (λ a r f k. search rules)) in
    sorted_members o ms c.in_ok-sorted.sorted.items c.in_ok-beginnings.beginnings.items c.sort_by.new.self.items
    c.beginnings.ensures.below c.in_ok-beginnings.ensures.are c.sort_by.ensures.permutation sorted
    (c.in_ok-sorted.ensures ∙ ap (map (λ b. member_at ms b.place)) c.as_slice.ensures.value)
