use Rattle.std.proofs.Common.{rules, ◌≡◌}
use Rattle.std.specs.Ordering.{is_lt}
use Rattle.std.proofs.lemmas.Fn.{always_returns_same}
use Rattle.der_layout.proofs.Ordered.{before, weak_order, ascending_from}
use Rattle.der_layout.proofs.sort.sort_few.Goals as goal

pub returns : goal.returns
returns c =
    let o = c.args.octets.now in
    record {
      same = c.sort_by.ensures.permutation;
      in_order = ascending_from o c.sort_by.new.self.items (c.in_ok-sort_by.ensures.sorted (before o) (weak_order o)
          (always_returns_same _ (λ a r. is_lt r ≡ before o a.0.now a.1.0.now) _ (λ a r f k. search rules)));
    }
