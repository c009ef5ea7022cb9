use Rattle.std.proofs.Common.{refl}
use Rattle.der_layout.proofs.backend.TableBackend.open.Goals as goal

pub returns : goal.returns
returns c = (_, (_, c.in_ok-open_header.ensures, c.in_ok-begin_group.ensures), refl)
