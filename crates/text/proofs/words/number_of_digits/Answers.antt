use Rattle.std.proofs.Common.{arith, ◌+◌}
use Rattle.text.proofs.Numbers.{take_value-le}
use Rattle.text.proofs.words.number_of_digits.Goals as goal
use Rattle.text.specs.proving.Numbers.{value_more}

pub returns-then-value-digit : goal.returns-then-value-digit
returns-then-value-digit c =
    let i = c.loop-octet.octet-index in
    let xs = c.args.digits.now in
    let more = value_more xs i c.loop-octet-test.true (c.requires i c.loop-octet-test.true) in
    let le = take_value-le (i + 1) xs in
    omega arith

pub loop-octet-preserved : goal.loop-octet-preserved
loop-octet-preserved c =
    let i = c.loop-octet.octet-index in
    let xs = c.args.digits.now in
    let more = value_more xs i c.loop-octet-test.true (c.requires i c.loop-octet-test.true) in
    record { value = omega arith; within = omega arith }
