use Rattle.std.specs.Prelude.{[]}
use Rattle.laws_print.specs.Back.{tree_of}
use Rattle.printed_values.proofs.law.lemma_printed_is_read_back.Goals as goal

pub returns : goal.returns
returns c =
    λ p s M i v apart sound schema of h line utf8 short.
    let tokens = c.lemma_printed_has_tokens.ensures s i v schema h.shaped utf8 short in
    let is_so = c.lemma_printed_is_a_notation.ensures p s [] M i v schema of h.shaped line in
    record {
      tokens = tokens.0;
      lexed = tokens.1;
      tree = tree_of s i v;
      read = c.lemma_printed_is_read_back.ensures s i v tokens.0 schema h.shaped tokens.1;
      typed = record { is_so = is_so; value = (c.same_values.ensures.whole p s i v apart sound schema of).0 h };
      alone = λ w other. c.one_value.ensures p [] M i (tree_of s i v) w v apart sound other is_so;
    }
