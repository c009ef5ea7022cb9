use Rattle.asn_base.specs.Abstract.{abstract}
use Rattle.asn_base.specs.Seen.{kind_of}
use Rattle.packed_writer.proofs.Inside.{leaf_fits, kind_found}
use Rattle.packed_writer.proofs.run.push_contents.Goals as goal

pub push_leaf-requires-clause-fits : goal.push_leaf-requires-clause-fits
push_leaf-requires-clause-fits c =
    leaf_fits c.args.code.now c.args.typed.levels c.args.typed.id.index (abstract c.args.typed.value.now) (kind_of c.core-core.result.now) c.requires.value.is (kind_found c.args.code.now c.schema.result.now c.args.typed.id.index _ c.schema.ensures c.core-core.ensures.is.1) c.requires.leaf
