use Rattle.std.proofs.Common.{map}
use Rattle.type_table.specs.Seen.{part_of}
use Rattle.additions.proofs.Placing.{are_placed}
use Rattle.additions.proofs.members.member_breaks.Goals as goal

pub is_misplaced-requires-clause-before : goal.is_misplaced-requires-clause-before
is_misplaced-requires-clause-before c = are_placed c.args.tagged.now.program.types c.args.list.kind c.args.list.marker (map part_of c.args.list.members.now) c.args.at c.requires.before

pub returns-then-is_misplaced : goal.returns-then-is_misplaced
returns-then-is_misplaced c = c.is_misplaced.ensures.misplaced c.if-is_misplaced.true

pub returns : goal.returns
returns c = λ x q. record {
  placed = c.is_misplaced.ensures.placed c.if-is_misplaced.false x q;
  no_default = c.is_default_addition.ensures.plain c.if-is_default_addition.false x q;
  ordered = c.in_ok-falls.ensures.ordered c.if-falls.false x q;
}

pub returns-then-is_default_addition : goal.returns-then-is_default_addition
returns-then-is_default_addition c = (
  c.is_default_addition.ensures.default c.if-is_default_addition.true,
  c.is_misplaced.ensures.placed c.if-is_misplaced.false,
)

pub returns-then-falls : goal.returns-then-falls
returns-then-falls c =
    let o = c.in_ok-falls.ensures.disordered c.if-falls.true in (
      o.0,
      o.1,
      c.is_misplaced.ensures.placed c.if-is_misplaced.false,
      c.is_default_addition.ensures.plain c.if-is_default_addition.false,
    )
