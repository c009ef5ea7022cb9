use Rattle.packed_readings.proofs.LeavesRead.{ascii_text}
use Rattle.packed_readings.proofs.text.ascii.Goals as goal

pub unwrap-requires : goal.unwrap-requires
unwrap-requires c = c.from_utf8.ensures.succeeds (ascii_text c.args.codes.items c.requires)
