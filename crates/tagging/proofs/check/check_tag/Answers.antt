use Rattle.std.proofs.Common.{refl}
use Rattle.tagging.proofs.Taggings.{has_tag, untagged, implicit_at, suits_tag}
use Rattle.tagging.proofs.check.check_tag.Goals as goal

pub returns-in-Some-clause-found : goal.returns-in-Some-clause-found
returns-in-Some-clause-found c = suits_tag c.args.columns.now.program.types c.args.keyword c.args.inner (has_tag c.args.columns.now.program.types c.args.inner c.in-Some.field-0 c.in-Some.ensures)

pub returns-in-None-clause-found : goal.returns-in-None-clause-found
returns-in-None-clause-found c =
    let r = c.requires.is in
    implicit_at c.args.columns.now.program.types c.args.ty c.args.inner c.args.keyword r.0 r.1 r.2 c.in-Implicit.is r.3 (untagged c.args.columns.now.program.types c.args.inner c.in-None.ensures)

pub returns-in-None-clause-first : goal.returns-in-None-clause-first
returns-in-None-clause-first c =
    let r = c.requires.is in
    (refl, refl, implicit_at c.args.columns.now.program.types c.args.ty c.args.inner c.args.keyword r.0 r.1 r.2 c.in-Implicit.is r.3 (untagged c.args.columns.now.program.types c.args.inner c.in-None.ensures))
