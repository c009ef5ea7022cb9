use Rattle.source_text.proofs.CodePoints.{four, written}
use Rattle.source_text.proofs.characters.by_code_point.Goals as goal

pub returns : goal.returns
returns c =
    written c.format.result _ _ c.format.ensures.ok
    (rw (c.in_radix.ensures, c.laid_out.ensures, four, c.called-name.ensures))
