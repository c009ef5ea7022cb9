use Rattle.std.specs.Prelude.{not, slice_get}
use Rattle.std.proofs.Common.{ap, sym, ◌∙◌}
use Rattle.std.specs.List.{list_any}
use Rattle.type_table.specs.Seen.{part_of, types_of}
use Rattle.tagging.specs.Tags.{bears_tag}
use Rattle.tagging.proofs.Tables.{any_seen}
use Rattle.tagging.proofs.columns.numbers.Goals as goal

pub returns-in-Members-Automatic : goal.returns-in-Members-Automatic
returns-in-Members-Automatic c =
    let x = c.in-Members-Automatic in
    rw (x.is-0, x.is-1) (ap not (c.any_tagged.ensures ∙ ap (list_any (λ m. bears_tag (slice_get (types_of c.args.types.now) m.ty))) c.deref.ensures.value
    ∙ sym (any_seen (λ m. bears_tag (slice_get (types_of c.args.types.now) m.ty)) part_of x.members.items)))
