use Rattle.std.proofs.Common.{Some, ap, sym, ◌∙◌, arith}
use Rattle.std.proofs.lemmas.Option.{slice_get-get_or}
use Rattle.constraints.proofs.Letters.{octet_more}
use Rattle.constraints.proofs.characters.add_text.Goals as goal

pub loop-octet-preserved : goal.loop-octet-preserved
loop-octet-preserved c =
    let e = slice_get-get_or c.args.text.now c.loop-octet.octet-index 0
    (omega (arith, c.loop-octet-test.true, c.loop-octet.auto.octet-index-end)) ∙ ap Some (sym c.from-code.ensures) in
    octet_more c.args.codes.now c.loop-octet.codes c.add.new.self c.args.text.now c.loop-octet.octet-index c.from-code.result
    e c.loop-octet.invariant c.add.ensures
