use Rattle.segmented_strings.proofs.ByKind.{only_read, just_so}
use Rattle.segmented_strings.proofs.read.read_segments.Goals as goal

pub returns-clause-only : goal.returns-clause-only
returns-clause-only c = λ v j. only_read c.args.kind c.args.room c.args.contents.now c.read_kind.result (λ i e f. c.lemma_one_joining.ensures.either c.args.kind c.args.room i e v c.args.contents.now c.requires f j) c.read_kind.ensures.err

pub returns-clause-refused_if : goal.returns-clause-refused_if
returns-clause-refused_if c = λ e i f. just_so c.args.kind c.args.room i e c.args.contents.now c.read_kind.result (λ v j. c.lemma_one_joining.ensures.either c.args.kind c.args.room i e v c.args.contents.now c.requires f j) (λ j d g. c.lemma_one_joining.ensures.fault c.args.kind c.args.room i j e d c.args.contents.now c.requires f g) c.read_kind.ensures.ok c.read_kind.ensures.err
