use Rattle.type_syntax.proofs.TypeSteps.{type_starts}
use Rattle.type_syntax.proofs.Typing.{type_sound, type_wider, type_higher, type_deeper, type_owed, type_grows, tags_small, small_tags}
use Rattle.type_syntax.proofs.law.lemma_types_are_read.Goals as goal

pub returns : goal.returns
returns c =
    let parts = c.lemma_parts_are_read.ensures in
    record {
      values = parts.values;
      starts = type_starts;
      sound = type_sound parts;
      sound_any = type_wider parts;
      sound_higher = type_higher parts;
      sound_deeper = type_deeper parts;
      owed = type_owed parts;
      grows = type_grows parts;
      tags_small = tags_small;
      small_tags = small_tags;
    }
