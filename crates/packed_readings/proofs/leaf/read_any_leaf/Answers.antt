use Rattle.std.proofs.Common.{◌≡◌, sym, subst}
use Rattle.std.specs.Prelude.{IfOk, IfErr}
use Rattle.asn_base.specs.Abstract.{abstract}
use Rattle.asn_base.specs.Seen.{kind_of}
use Rattle.bits.specs.Left.{bits_left}
use Rattle.packed_readings.specs.Leaves.{leaf_from}
use Rattle.packed_readings.specs.Outcome.{found, IsFault}
use Rattle.packed_readings.proofs.leaf.read_any_leaf.Goals as goal

pub returns-in-RestrictedString-clause-ok : goal.returns-in-RestrictedString-clause-ok
returns-in-RestrictedString-clause-ok c =
    subst (λ q. IfOk c.as_restricted.result (λ v. leaf_from (kind_of q) (bits_left c.args.bits.now) ≡ found (abstract v) (bits_left c.as_restricted.new.bits)))
    (sym c.in-RestrictedString.is) c.as_restricted.ensures.ok

pub returns-in-RestrictedString-clause-err : goal.returns-in-RestrictedString-clause-err
returns-in-RestrictedString-clause-err c =
    subst (λ q. IfErr c.as_restricted.result (λ e. IsFault (leaf_from (kind_of q) (bits_left c.args.bits.now)) e (bits_left c.as_restricted.new.bits)))
    (sym c.in-RestrictedString.is) c.as_restricted.ensures.err
