use Rattle.encodings.specs.Rules.{Distinguished}
use Rattle.der_check.proofs.Excluded.{breaks_basic, breaks_not, member_not}
use Rattle.der_check.proofs.law.lemma_broken.Goals as goal

pub returns-clause-value : goal.returns-clause-value
returns-clause-value c = λ s t j n v o r sch b d.
    breaks_not c.header_laws.ensures.none_begins_another sch (λ t' j' k' x y p a e. (c.reading_laws.ensures.one_value s Distinguished t' j' k' x y p sch.tagged sch.distinct_tags a e).1) b d

pub returns-clause-member : goal.returns-clause-member
returns-clause-member c = λ s m v o r j n sch b d.
    member_not c.header_laws.ensures.none_begins_another sch (λ t' j' k' x y p a e. (c.reading_laws.ensures.one_value s Distinguished t' j' k' x y p sch.tagged sch.distinct_tags a e).1) b d

pub returns-clause-basic : goal.returns-clause-basic
returns-clause-basic c = λ s t n v o r b. breaks_basic b
