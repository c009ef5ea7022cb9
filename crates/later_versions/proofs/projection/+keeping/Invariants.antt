use Rattle.std.specs.Prelude.{option_map}
use Rattle.asn_base.specs.Abstract.{abstract}
use Rattle.later_versions.specs.Projected.{members_of}
use Rattle.later_versions.proofs.Keeps.{ElementsSoFar, KeptSoFar}
use Rattle.later_versions.proofs.projection.+keeping.Given as goal

abbrev pub invariant-project_elements-loop-i : goal.invariant-project_elements-loop-i
invariant-project_elements-loop-i l = ElementsSoFar abstract l.schema l.fn.element.index l.values l.all.items l.i

abbrev pub invariant-project_fields-loop-i : goal.invariant-project_fields-loop-i
invariant-project_fields-loop-i l =
    KeptSoFar (option_map abstract) l.schema (members_of l.schema l.fn.id.index) l.values l.all.items l.i
