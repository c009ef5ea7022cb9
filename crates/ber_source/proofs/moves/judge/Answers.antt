use Rattle.std.proofs.Common.{sym, subst}
use Rattle.octets.specs.Forms.{is_constructed}
use Rattle.ber_source.specs.PrimitiveValue.{AreBad}
use Rattle.ber_source.proofs.ContentsFault.{primitive_is_bad, segments_are_bad}
use Rattle.ber_source.proofs.moves.judge.Goals as goal

pub returns-in-Err-clause-why : goal.returns-in-Err-clause-why
returns-in-Err-clause-why c = λ other.
    subst (λ q. AreBad c.args.kind c.args.budget c.args.octets.now (is_constructed q) c.from_leaf_fault.result 0) (sym c.in-Primitive.is)
    (primitive_is_bad c.args.kind c.args.budget c.args.octets.now c.in-Err.fault c.from_leaf_fault.result c.in-Err.ensures.err c.from_leaf_fault.ensures)

pub returns-in-Err-read_segments-clause-why : goal.returns-in-Err-read_segments-clause-why
returns-in-Err-read_segments-clause-why c = λ other.
    subst (λ q. AreBad c.args.kind c.args.budget c.args.octets.now (is_constructed q) c.from_segments_fault.result.fault c.from_segments_fault.result.at) (sym c.in-Constructed.is)
    (segments_are_bad c.args.kind c.args.budget c.args.octets.now c.in-Err-read_segments.fault c.from_segments_fault.result.fault c.from_segments_fault.result.at c.in-Err-read_segments.ensures.err c.from_segments_fault.ensures.memory c.from_segments_fault.ensures.at other)
