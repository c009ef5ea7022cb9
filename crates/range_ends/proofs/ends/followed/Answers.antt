use Rattle.type_table.specs.Seen.{kind_of}
use Rattle.range_ends.proofs.ends.followed.Goals as goal

pub first_number-requires : goal.first_number-requires
first_number-requires c = record {
  inside = c.requires.inside;
  referred = c.requires.referred;
  goes = c.known-from.ensures c.args.linked.now.program c.args.ways.now.target.now c.requires.notes (kind_of c.args.shape.now)
      c.requires.kind;
}
