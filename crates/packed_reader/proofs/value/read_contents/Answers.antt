use Rattle.std.proofs.Common.{arith, ◌-◌, ◌≤◌, refl}
use Rattle.asn_base.specs.Abstract.{abstract}
use Rattle.asn_base.specs.Seen.{kind_of}
use Rattle.bits.specs.Left.{bits_left}
use Rattle.packed_reader.proofs.Plans.{leaf_went}
use Rattle.packed_reader.proofs.value.read_contents.Goals as goal

pub returns-in-Ok-clause-advanced : goal.returns-in-Ok-clause-advanced
returns-in-Ok-clause-advanced c =
    let less : c.args.progress.now.left - c.characters.result ≤ c.args.progress.now.left = omega arith in
    leaf_went (c.leaf_laws.ensures c.schema.result.now c.args.progress.now.left (kind_of c.core-core.result.now) c.core-core.ensures.sound)
    c.args.progress.now (record { left = c.args.progress.now.left - c.characters.result; skipped = c.args.progress.now.skipped })
    (bits_left c.args.bits.now) (bits_left c.read_leaf.new.bits) (abstract c.in-Ok.value) c.in-Ok.ensures.ok less refl
