use mir.Syntax.{w128}
use mir.Val.{SFits}
use Rattle.std.proofs.Common.{rules, subst}
use Rattle.std.proofs.lemmas.Int.{to_z-of_z}
use Rattle.asn_base.specs.Abstract.{abstract}
use Rattle.asn_base.specs.Seen.{constraint_of}
use Rattle.packed_counts.specs.Counts.{Adds}
use Rattle.packed_encodings.specs.Numbers.{Integer}
use Rattle.packed_leaves.proofs.Leaves.{some_number, integer_added}
use Rattle.packed_leaves.proofs.number.push_integer.Goals as goal

pub push_bounded-requires-clause-some : goal.push_bounded-requires-clause-some
push_bounded-requires-clause-some c = some_number c.leaf_laws.ensures.some (constraint_of c.args.constraint.now) (abstract c.args.value.now) c.number-number.result c.requires.bounds c.number-number.ensures c.requires.fits

pub returns : goal.returns
returns c =
    let f : SFits w128 c.number-number.result = search rules in
    integer_added c.function_laws.ensures.leaf (constraint_of c.args.constraint.now) (abstract c.args.value.now) c.number-number.result c.args.out.now c.push_bounded.new.out c.requires.bounds c.number-number.ensures
    (subst (λ q. Adds (Integer (constraint_of c.args.constraint.now).visible q) c.args.out.now c.push_bounded.new.out) (to_z-of_z w128 c.number-number.result f) c.in_ok-push_bounded.ensures)
