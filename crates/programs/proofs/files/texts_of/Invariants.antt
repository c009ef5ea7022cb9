-- There are as many texts as files so far.
use Rattle.std.proofs.Common.{◌≡◌, length}
use Rattle.programs.proofs.files.texts_of.Given as goal

abbrev pub invariant-loop-file : goal.invariant-loop-file
invariant-loop-file l = length l.texts.items ≡ l.file-index
