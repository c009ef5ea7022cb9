use Rattle.std.proofs.Common.{rules, arith, ◌≡◌, ◌+◌, ◌-◌, ◌<◌, length}
use Rattle.der_layout.proofs.Lists.{short_size}
use Rattle.der_layout.proofs.closing.close_length.Goals as goal

pub returns-then-contents-lt128 : goal.returns-then-contents-lt128
returns-then-contents-lt128 c =
    let all = c.args.out.now.items in
    let place = c.args.place in
    let n = c.len.result - place - 1 in
    let h = c.requires in
    let long : c.len.result ≡ length all = search rules in
    let few : n < 128 = (let t = c.if-contents-lt128.true in search rules) in
    let sum : n + place + 1 ≡ length all = omega (arith, long, h) in
    short_size all c.put_short.new.out.items place n c.put_short.ensures sum few
