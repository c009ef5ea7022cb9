use Rattle.type_table.proofs.WrittenOnce as written
use Rattle.type_table.proofs.law.one_text.Goals as goal

pub returns : goal.returns
returns c = written.one_text
