use Rattle.std.proofs.Common.{[]}
use Rattle.settled.proofs.Sound.{sound}
use Rattle.settled.proofs.law.lemma_types_are_sound.Goals as goal

pub returns : goal.returns
returns c p s t tags k ok settled kept is =
    sound p s ok settled
    (λ M i n v w a b. c.one_value.ensures p [] M i n v w ok.apart ok.sound.lists a b)
    (λ i v h. record {
      shaped = c.same_values.ensures.notated p s 64 i v ok.apart ok.sound.lists settled.types h.shaped;
      few_nodes = h.few_nodes;
    })
    kept t tags k is
