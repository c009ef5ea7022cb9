use Rattle.std.proofs.Common.{subst, ◌∙◌}
use Rattle.asn_base.specs.Abstract.{text}
use Rattle.primitive_reader.specs.Leaves.{ReadsContents}
use Rattle.segmented_strings.specs.Texts.{text_unsuited}
use Rattle.segmented_strings.proofs.ByKind.{is_read, is_the_text, on_ok, on_err, want_of_memory}
use Rattle.segmented_strings.proofs.text.text_of.Goals as goal

pub returns-in-Err-clause-err : goal.returns-in-Err-clause-err
returns-in-Err-clause-err c = text_unsuited (λ s. (let e = c.in-Err.ensures.only (text c.args.octets.now) (is_read c.args.kind c.args.octets.now c.requires c.are_octets.ensures s) in cc))

pub returns-in-Some-clause-same : goal.returns-in-Some-clause-same
returns-in-Some-clause-same c =
    let r = subst (λ q. ReadsContents c.args.kind c.args.octets.now q) c.in-Some.ensures.some c.in-Ok.ensures.ok in
    let t = is_the_text c.args.kind c.in-Some.text.now c.args.octets.now r.value c.requires r.means r.is_read in
    on_ok c.copied.result (λ s e. e ∙ t.0) c.copied.ensures.ok

pub returns-in-Some-clause-suits : goal.returns-in-Some-clause-suits
returns-in-Some-clause-suits c =
    let r = subst (λ q. ReadsContents c.args.kind c.args.octets.now q) c.in-Some.ensures.some c.in-Ok.ensures.ok in
    let t = is_the_text c.args.kind c.in-Some.text.now c.args.octets.now r.value c.requires r.means r.is_read in
    on_ok c.copied.result (λ s e. t.1) c.copied.ensures.ok

pub returns-in-Some-clause-err : goal.returns-in-Some-clause-err
returns-in-Some-clause-err c = on_err c.copied.result (λ e m. want_of_memory c.args.kind c.args.octets.now e m) c.copied.ensures.err
