use Rattle.source_text.proofs.Named.{NoneBefore}
use Rattle.source_text.proofs.modules.module_text.Given as goal

abbrev pub invariant-loop-number : goal.invariant-loop-number
invariant-loop-number l = NoneBefore l.texts l.from l.name l.number
