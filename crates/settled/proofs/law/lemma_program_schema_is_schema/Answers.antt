use Rattle.settled.proofs.law.lemma_program_schema_is_schema.Goals as goal

pub returns : goal.returns
returns c p s ok settled kept = record {
  tagged = kept.tagged;
  distinct_tags = kept.distinct_tags;
  few_tags = kept.few;
  sound = λ t tags k is. c.lemma_types_are_sound.ensures p s t tags k ok settled kept is;
  no_circle = λ t h. c.no_default_circles.ensures p s t ok.whole ok.sound settled h;
}
