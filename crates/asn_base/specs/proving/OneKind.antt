-- A type has one kind, and one list of tags.
use Rattle.std.proofs.Common.{◌≡◌, ℕ, List, [], sym, ap, ◌∙◌}
use Rattle.std.specs.Prelude.{Option, Some, None}
use Rattle.asn_base.specs.declared.tag.Tag.{Tag}
use Rattle.asn_base.specs.Types.{Kind, a_null, Resolved, Is}

abbrev pub tags_at : Option Resolved → List Tag
tags_at None = []
tags_at (Some r) = r.tags

abbrev pub kind_at : Option Resolved → Kind
kind_at None = a_null
kind_at (Some r) = r.kind

pub same_tags : {s : List Resolved} {t : ℕ} {tags tags' : List Tag} {k k' : Kind} → Is s t tags k → Is s t tags' k'
    → tags' ≡ tags
same_tags a b = ap tags_at (sym b.found ∙ a.found)

pub same_kind : {s : List Resolved} {t : ℕ} {tags tags' : List Tag} {k k' : Kind} → Is s t tags k → Is s t tags' k'
    → k' ≡ k
same_kind a b = ap kind_at (sym b.found ∙ a.found)
