use Rattle.settled.proofs.Firsts.{first_written, first_resolved, one_each}
use Rattle.settled.proofs.law.same_tags.Goals as goal
use Rattle.std.proofs.Common.{refl}
use Rattle.schema_of.specs.values.Allowing.{Allows, AllowsCode}

pub returns : goal.returns
returns c =
    let chosen = c.lemma_parts_are_written.ensures.alternatives in
    let unique = c.one_path.ensures.unique in
    record {
      firsts = λ p s i g of. (
        λ f. first_written p (Allows p) (AllowsCode p) s of.types (λ i r e. (of.each i r e).tags) chosen f,
        λ f. first_resolved p (Allows p) (AllowsCode p) s of.types (λ i r e. (of.each i r e).tags) (unique p.types) g f refl,
      );
      one = λ p s u i r q of on e f. one_each p i r q (unique p.types) (of.each i r e).tags (on.each i q f).tags;
    }
