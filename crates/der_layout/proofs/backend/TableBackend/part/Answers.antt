use Rattle.std.proofs.Common.{refl}
use Rattle.der_layout.proofs.backend.TableBackend.part.Goals as goal

pub returns : goal.returns
returns c = (_, c.in_ok-end_member.ensures, refl)
