use Rattle.extensions.proofs.law.lemma_linked_program.Goals as goal

pub returns : goal.returns
returns c ms p l s = record {
  apart = c.lemma_linked_are_sound.ensures.apart ms p l;
  sound = l.sound;
  spelled = c.lemma_types_are_spelled.ensures.trees ms p l s;
}
