use Rattle.std.proofs.Common.{◌<◌, arith}
use Rattle.octets.proofs.Sizes.{size_long, size_great, size_indefinite, size_reserved, size_cut}
use Rattle.octets.proofs.read.read_size.Goals as goal

pub returns-then-first-clause-err : goal.returns-then-first-clause-err
returns-then-first-clause-err c = size_indefinite c.in-Some.first.now c.args.octets.now c.in-Some.after.now c.in-Some.ensures.cases.0 c.if-first.true

pub returns-then-first-2-clause-err : goal.returns-then-first-2-clause-err
returns-then-first-2-clause-err c = size_reserved c.in-Some.first.now c.args.octets.now c.in-Some.after.now c.in-Some.ensures.cases.0 c.if-first-2.true

pub returns-then-after-count-clause-err : goal.returns-then-after-count-clause-err
returns-then-after-count-clause-err c =
    let high = c.if-first-lt128.false in
    let not_128 = c.if-first.false in
    let not_255 = c.if-first-2.false in
    let small : c.in-Some.first.now < 256 = omega arith in
    size_cut c.in-Some.first.now c.args.octets.now c.in-Some.after.now c.in-Some.ensures.cases.0 (omega arith) (omega arith) (λ i. omega (arith, c.type_inv.octets i)) c.if-after-count.true

pub returns-in-Some-number_of-clause-ok : goal.returns-in-Some-number_of-clause-ok
returns-in-Some-number_of-clause-ok c =
    let n = c.in-Some-number_of.number in
    let len = c.split_at.ensures.front_len in
    let high = c.if-first-lt128.false in
    let not_128 = c.if-first.false in
    let not_255 = c.if-first-2.false in
    let small : c.in-Some.first.now < 256 = omega arith in
    size_long c.in-Some.first.now n c.args.octets.now c.in-Some.after.now c.split_at.result.0.now c.split_at.result.1.now c.in-Some.ensures.cases.0 c.split_at.ensures.by_index.0 (omega arith) (omega arith) (omega arith) (λ i. omega (arith, c.type_inv.octets i)) c.in-Some-number_of.ensures.some.0 c.in-Some-number_of.ensures.some.1

pub returns-in-None-clause-err : goal.returns-in-None-clause-err
returns-in-None-clause-err c =
    let len = c.split_at.ensures.front_len in
    let high = c.if-first-lt128.false in
    let not_128 = c.if-first.false in
    let not_255 = c.if-first-2.false in
    let small : c.in-Some.first.now < 256 = omega arith in
    size_great c.in-Some.first.now c.args.octets.now c.in-Some.after.now c.split_at.result.0.now c.split_at.result.1.now c.in-Some.ensures.cases.0 c.split_at.ensures.by_index.0 (omega arith) (omega arith) (omega arith) (λ i. omega (arith, c.type_inv.octets i)) c.in-None.ensures.none
