use Rattle.schema_of.specs.values.Allowing.{Allows, AllowsCode}
use Rattle.settled.proofs.Firsts.{all_tagged}
use Rattle.settled.proofs.Kept.{all_tellable, has_few, components_tagged, alternatives_tagged, additions_ascend}
use Rattle.settled.proofs.law.lemma_tags_are_kept.Goals as goal

pub returns : goal.returns
returns c =
    let chosen = c.lemma_parts_are_written.ensures.alternatives in
    record {
      tagged = λ p s of. all_tagged p (Allows p) (AllowsCode p) s of.types (λ i r e. (of.each i r e).tags);
      distinct_tags = λ p s tagged of. all_tellable p (Allows p) (AllowsCode p) s of.types (λ i r e. (of.each i r e).tags) chosen tagged;
      few = λ p s tagged of. has_few p (Allows p) (AllowsCode p) s of.types (λ i r e. (of.each i r e).tags) chosen tagged;
      components = λ p s i tags marker cs whole tagged of is.
          components_tagged p (Allows p) (AllowsCode p) s of.types (λ i r e. (of.each i r e).tags) chosen tagged whole.linked i tags marker cs is;
      alternatives = λ p s i tags marker root more whole tagged of is.
          alternatives_tagged p (Allows p) (AllowsCode p) s of.types (λ i r e. (of.each i r e).tags) chosen tagged whole.linked i tags marker root more is;
      ascending = λ p s i tags marker root more keep of is.
          additions_ascend p (Allows p) (AllowsCode p) s of.types (λ i r e. (of.each i r e).tags) chosen keep i tags marker root more is;
    }
