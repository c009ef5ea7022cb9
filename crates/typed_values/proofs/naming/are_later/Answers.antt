use Rattle.std.proofs.Common.{◌≡◌, List, ℕ, Some, subst, sym, arith}
use Rattle.std.specs.Prelude.{slice_get}
use Rattle.typed_values.proofs.Tables.{later_than}
use Rattle.typed_values.proofs.naming.are_later.Goals as goal

pub returns-then-latest-lt-UNREAD : goal.returns-then-latest-lt-UNREAD
returns-then-latest-lt-UNREAD c = λ yes x t o h.
    let below = c.if-latest-lt-UNREAD.true in
    later_than c.args.defaults.now.named.turns.items c.args.latest x t (omega (arith, below))
    (λ u e. c.are_later.ensures yes x u o (subst (λ (ts : List ℕ). slice_get ts x ≡ Some u) (sym c.turns.ensures) e)) h
