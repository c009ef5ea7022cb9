use Rattle.std.proofs.Common.{arith, take}
use Rattle.std.proofs.Math.Seq.{take-length}
use Rattle.input_lines.proofs.Ends.{no_end_before, no_end_in, with_end}
use Rattle.input_lines.proofs.step.take_line.Goals as goal

-- the octets before the first line end
pub returns-in_ok-keep-in-Some : goal.returns-in_ok-keep-in-Some
returns-in_ok-keep-in-Some c =
    let first = c.in-Some.ensures in
    record {
      octets = take c.in-Some.end c.args.part.now;
      no_end = no_end_before c.args.part.now c.in-Some.end first.0.high (λ j b. first.0.before j (omega arith) b);
      kept = c.in_ok-keep-in-Some.ensures;
      within = omega (arith, first.0.high);
      ended = λ _. with_end c.args.part.now c.in-Some.end first.0.high first.1;
      not_ended = λ e. absurd cc;
    }

-- there is no line end
pub returns-in_ok-keep-in-None : goal.returns-in_ok-keep-in-None
returns-in_ok-keep-in-None c = record {
  octets = c.args.part.now;
  no_end = no_end_in c.args.part.now (λ j b. c.in-None.ensures j (omega arith) b);
  kept = c.in_ok-keep-in-None.ensures;
  within = omega arith;
  ended = λ e. absurd cc;
  not_ended = λ _. take-length c.args.part.now;
}
