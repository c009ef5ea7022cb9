use Rattle.std.proofs.Common.{[], ◌∷◌, sym, ap, ◌∙◌}
use Rattle.asn_base.specs.Abstract.{abstract}
use Rattle.packed_code.specs.Meaning.{any_written, members_of}
use Rattle.packed_writer.specs.proving.Values.{first_map, fields_in}
use Rattle.packed_writer.specs.proving.Fields.{next_is}
use Rattle.packed_writer.proofs.fields.addition.Goals as goal

pub returns-in-Group : goal.returns-in-Group
returns-in-Group c =
    let ms = members_of c.args.code.now c.args.typed.id.index (abstract c.args.typed.value.now) in
    ap (first_map ms) (c.in-Some.ensures ∙ ap (λ q. q ∷ c.in-Some.rest.now) c.in-Group.is)
    ∙ ap (λ q. any_written ms q ∷ []) (next_is c.in-Group.count c.in-Some.rest.now ∙ ap fields_in (sym c.next.ensures))
    ∙ ap (λ q. q ∷ []) (sym c.any_written.ensures)
