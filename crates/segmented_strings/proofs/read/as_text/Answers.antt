use Rattle.std.proofs.Common.{◌≡◌, sym, ap, subst, ◌∙◌}
use Rattle.asn_base.specs.Abstract.{text}
use Rattle.primitive_reader.specs.Leaves.{Suits}
use Rattle.segmented_strings.specs.Refusing.{Joins}
use Rattle.segmented_strings.specs.Texts.{IsTextRefused}
use Rattle.segmented_strings.proofs.ByKind.{text_read, text_refused, unsuited}
use Rattle.segmented_strings.proofs.read.as_text.Goals as goal

pub returns-in-Err-clause-err : goal.returns-in-Err-clause-err
returns-in-Err-clause-err c = text_refused c.args.kind c.args.room c.args.contents.now c.in-Err.fault c.requires.kind c.in-Err.ensures.err

pub returns-in-Ok-text_of-clause-ok : goal.returns-in-Ok-text_of-clause-ok
returns-in-Ok-text_of-clause-ok c =
    let o = c.add_octets.new.out.items in
    let j = subst (λ q. Joins c.args.room c.args.contents.now q o) c.new-octets.ensures.items c.in-Ok.ensures.ok in
    let same : c.as_slice.result.now ≡ o = c.as_slice.ensures.value in
    let suits = subst (λ q. Suits c.args.kind (text q)) same c.in-Ok-text_of.ensures.suits in
    record { value = text o; means = ap text (sym (c.in-Ok-text_of.ensures.same ∙ same)); is_joined = text_read c.args.kind c.args.room c.args.contents.now o c.requires.kind j suits }

pub returns-clause-err : goal.returns-clause-err
returns-clause-err c =
    let o = c.add_octets.new.out.items in
    let j = subst (λ q. Joins c.args.room c.args.contents.now q o) c.new-octets.ensures.items c.in-Ok.ensures.ok in
    let same : c.as_slice.result.now ≡ o = c.as_slice.ensures.value in
    unsuited c.args.kind c.args.room c.args.contents.now o c.in-Err-text_of.fault c.requires.kind j (subst (λ q. IsTextRefused c.args.kind q c.in-Err-text_of.fault) same c.in-Err-text_of.ensures.err)
