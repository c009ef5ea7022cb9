use Rattle.std.proofs.Common.{length, map, refl, arith}
use Rattle.std.proofs.lemmas.Option.{slice_get_read}
use Rattle.trees.specs.Constraints.{chars_of}
use Rattle.constraints.proofs.Firsts.{fit_before}
use Rattle.constraints.proofs.Letters.{added_more, seen_here}
use Rattle.constraints.proofs.characters.codes_at.Goals as goal

pub returns-in-Err-clause-found : goal.returns-in-Err-clause-found
returns-in-Err-clause-found c =
    let here = seen_here chars_of c.args.chars.now c.loop-one.one-index c.one-item.result
    (omega (arith, c.loop-one-test.true, c.loop-one.auto.one-index-end)) c.one-item.is in
    (chars_of c.one-item.result, (c.loop-one.one-index, here), c.in-Err.ensures.found)

pub loop-one-preserved : goal.loop-one-preserved
loop-one-preserved c =
    let here = seen_here chars_of c.args.chars.now c.loop-one.one-index c.one-item.result
    (omega (arith, c.loop-one-test.true, c.loop-one.auto.one-index-end)) c.one-item.is in
    added_more (map chars_of c.args.chars.now) c.loop-one.one-index (chars_of c.one-item.result) c.loop-one.codes
    c.add_chars.new.codes here c.loop-one.invariant c.in-Ok.ensures.found

pub returns-in-Err-clause-first : goal.returns-in-Err-clause-first
returns-in-Err-clause-first c = record {
  number = c.loop-one.one-index;
  range = c.one-item.result;
  there = slice_get_read c.args.chars.now (length c.args.chars.now) c.loop-one.one-index c.one-item.result refl
      (omega (arith, c.loop-one-test.true, c.loop-one.auto.one-index-end)) c.one-item.is;
  fault = c.in-Err.ensures.wrong;
  before = λ n x l e. fit_before (map chars_of c.args.chars.now) c.loop-one.one-index n x c.loop-one.invariant.fit l e;
}
