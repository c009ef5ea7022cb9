use Rattle.std.proofs.Common.{arith}
use Rattle.typed_values.proofs.Tables.{got_here}
use Rattle.typed_values.proofs.chains.NameChains.get.Goals as goal

pub returns-then-chain-number-clause-there : goal.returns-then-chain-number-clause-there
returns-then-chain-number-clause-there c =
    let xs = c.args.self.now.chains.items in
    let i = c.index-place.result.now in
    let e = c.index-chain.result.now in
    let same = c.len-2.ensures in
    let many = c.args.self.now.chains.ok.0 in
    let test = c.if-place-len.false in
    (i, got_here xs i e e (omega (arith, same, many, test)) c.index-chain.ensures)
