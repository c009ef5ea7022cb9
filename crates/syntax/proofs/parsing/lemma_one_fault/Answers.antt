use Rattle.std.proofs.Common.{arith}
use Rattle.grammar.specs.Places.{small, bounded}
use Rattle.notation.specs.Laws.{faults_agree}
use Rattle.syntax.specs.Syntax.{module_text}
use Rattle.syntax.specs.ModuleReading.{module_at}
use Rattle.syntax.proofs.Assigned.{module_laws}
use Rattle.syntax.proofs.ModuleText.{module_reads}
use Rattle.syntax.proofs.parsing.lemma_one_fault.Goals as goal

pub returns : goal.returns
returns c = λ ts f g. faults_agree module_text (bounded 128) (module_at small 128) (module_reads (module_laws c.lemma_heads_are_read.ensures c.lemma_types_are_read.ensures) 128) ts 0 (omega arith) f g
