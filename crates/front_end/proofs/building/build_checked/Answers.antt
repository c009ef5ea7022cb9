use Rattle.front_end.proofs.building.build_checked.Goals as goal

pub of-modules-requires-clause-kept : goal.of-modules-requires-clause-kept
of-modules-requires-clause-kept c = record {
  read = c.requires;
  tagged = c.in-Ok.ensures.tagged;
  bounded = c.in-Ok-bounds_by.ensures.bounded;
  asked = c.in-Ok-schema_by.ensures.asked;
}

pub returns-clause-kept : goal.returns-clause-kept
returns-clause-kept c = record {
  read = c.requires;
  tagged = c.in-Ok.ensures.tagged;
  bounded = c.in-Ok-bounds_by.ensures.bounded;
  asked = c.in-Ok-schema_by.ensures.asked;
}
