use Rattle.packed_reader.proofs.RowsPut.{put_at}
use Rattle.packed_reader.proofs.row.put.Goals as goal

pub returns-clause-row : goal.returns-clause-row
returns-clause-row c = put_at c.args.row.now.items c.args.place c.args.value
