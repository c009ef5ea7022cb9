use Rattle.std.proofs.Common.{refl, sym, subst}
use Rattle.values.specs.Allowing.{AllowsCode}
use Rattle.values.proofs.Judgings.{decided_code, all_more, all_of, one_of}
use Rattle.values.proofs.allowed.are_allowed.Goals as goal

pub loop-octet-init : goal.loop-octet-init
loop-octet-init c = λ s is. tt

pub returns-then-not-allows_character : goal.returns-then-not-allows_character
returns-then-not-allows_character c = λ s is.
    let p = c.args.bounded.now.program in
    let i = c.args.ty.index in
    let d = decided_code p i s _ _ is c.allows_character.ensures in
    let n = c.if-not-allows_character.true in (
      λ t. absurd (cc),
      λ a. absurd (let m = one_of (AllowsCode p i) c.args.octets.now c.loop-octet.octet-index 0 c.loop-octet-test.true a in
          let t = d.1 (subst (AllowsCode p i) (sym c.from.ensures) m) in cc),
    )

pub loop-octet-preserved : goal.loop-octet-preserved
loop-octet-preserved c = λ s is.
    let p = c.args.bounded.now.program in
    let i = c.args.ty.index in
    let d = decided_code p i s _ _ is c.allows_character.ensures in
    all_more (AllowsCode p i) c.args.octets.now c.loop-octet.octet-index 0 c.loop-octet-test.true (c.loop-octet.invariant s is)
    (subst (AllowsCode p i) c.from.ensures (d.0 c.if-not-allows_character.false))

pub returns : goal.returns
returns c = λ s is. (
  λ t. all_of (AllowsCode c.args.bounded.now.program c.args.ty.index) c.args.octets.now c.loop-octet.octet-index c.loop-octet-test.false (c.loop-octet.invariant s is),
  λ a. refl,
)
