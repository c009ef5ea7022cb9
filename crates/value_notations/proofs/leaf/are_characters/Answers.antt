use Rattle.std.proofs.Common.{ℕ, subst}
use Rattle.std.specs.Prelude.{IsTrue}
use Rattle.asn_base.specs.Names.{IsMember}
use Rattle.asn_base.specs.Schemas.{is_character}
use Rattle.value_notations.proofs.Alls.{all_more, all_of}
use Rattle.value_notations.proofs.leaf.are_characters.Goals as goal

pub loop-octet-init : goal.loop-octet-init
loop-octet-init c = tt

pub loop-octet-preserved : goal.loop-octet-preserved
loop-octet-preserved c =
    let member = c.has.ensures.0 c.if-not-has.false in
    all_more (λ (x : ℕ). IsTrue (is_character c.args.kind x)) c.args.octets.now c.loop-octet.octet-index 0
    c.loop-octet-test.true c.loop-octet.invariant
    ((c.of-codes.ensures _).0 (subst (λ (x : ℕ). IsMember x c.of-codes.result) c.from.ensures member))

pub returns-clause-yes : goal.returns-clause-yes
returns-clause-yes c e =
    all_of (λ (x : ℕ). IsTrue (is_character c.args.kind x)) c.args.octets.now c.loop-octet.octet-index
    c.loop-octet-test.false c.loop-octet.invariant
