use Rattle.grammar.specs.Places.{Within}
use Rattle.module_head.proofs.Heads.{rule_head, head_grows}
use Rattle.module_head.proofs.law.lemma_heads_are_read.Goals as goal

pub returns : goal.returns
returns c = record {
  read = λ over a b grows past. rule_head over (λ l. Within l b a) a.number b.number grows past (λ n e w. w n e);
  grows = head_grows;
}
