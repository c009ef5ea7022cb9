use Rattle.std.proofs.Common.{refl}
use Rattle.der_layout.proofs.backend.TableBackend.open_row.Goals as goal

pub returns : goal.returns
returns c =
    let h = c.in_ok-row.ensures in
    record { placed = h.placed; runs = (_, (_, h.opens, refl), refl) }
