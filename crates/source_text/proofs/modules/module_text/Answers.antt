use Rattle.std.proofs.Common.{refl, rules}
use Rattle.std.proofs.lemmas.Option.{slice_get_read}
use Rattle.source_text.proofs.Named.{found_at, none_at_all, one_more}
use Rattle.source_text.proofs.modules.module_text.Goals as goal
use Rattle.std.specs.Prelude.{length}

pub returns-then-branch : goal.returns-then-branch
returns-then-branch c =
    let at = slice_get_read c.args.texts.now (length c.args.texts.now) c.loop-number.number
    c.index-texts-number.result refl c.loop-number-test.true c.index-texts-number.is in
    found_at c.args.texts.now c.args.from c.args.name.now c.loop-number.number c.index-texts-number.result
    c.loop-number.auto.number at c.loop-number.invariant (search rules)

pub loop-number-preserved : goal.loop-number-preserved
loop-number-preserved c =
    let at = slice_get_read c.args.texts.now (length c.args.texts.now) c.loop-number.number
    c.index-texts-number.result refl c.loop-number-test.true c.index-texts-number.is in
    one_more c.args.texts.now c.args.from c.args.name.now c.loop-number.number c.index-texts-number.result
    at c.loop-number.invariant (search rules)

pub returns : goal.returns
returns c =
    none_at_all c.args.texts.now c.args.from c.args.name.now c.loop-number.number c.loop-number-test.false
    c.loop-number.invariant
