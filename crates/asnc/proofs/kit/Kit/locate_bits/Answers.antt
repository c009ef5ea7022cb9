use Rattle.std.proofs.Common.{◌≡◌, [], subst}
use Rattle.std.specs.Prelude.{IfOk, string_bytes}
use Rattle.asnc.specs.Kits.{Opened}
use Rattle.asnc.specs.Unpacking.{with_parts}
use Rattle.asnc.proofs.kit.Kit.locate_bits.Goals as goal

pub returns-clause-path : goal.returns-clause-path
returns-clause-path c =
    subst (λ (k : Opened). IfOk c.locate_bit_fault.result (λ u.
    string_bytes u.path ≡ with_parts k.types c.args.id.index [] c.args.refused.path.items))
    c.self.view_is
    (subst (λ s. IfOk c.locate_bit_fault.result (λ u.
    string_bytes u.path ≡ with_parts s c.args.id.index [] c.args.refused.path.items))
    c.self.invariant.1 c.locate_bit_fault.ensures.path)
