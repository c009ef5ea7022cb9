use Rattle.std.proofs.Common.{◌≡◌, rules, subst}
use Rattle.type_table.specs.Seen.{kind_of}
use Rattle.constraints.specs.First.{IsFirstChars, in_characters, wrong_chars}
use Rattle.constraints.specs.declared.meaning.Rule.TheVariants as broken
use Rattle.constraints.specs.declared.meaning.ConstraintFault.TheVariants as wrongs
use Rattle.constraints.proofs.Firsts.{of_values, of_sizes}
use Rattle.constraints.proofs.meaning.taken.Goals as goal

pub returns-in-Err-clause-wrong : goal.returns-in-Err-clause-wrong
returns-in-Err-clause-wrong c =
    of_values c.args.site.now.scope.now.program (kind_of c.args.site.now.shape.now) c.args.site.now.within.now c.args.constraint.now c.in-Values.ranges
    c.in-Err.wrong c.requires.takes c.in-Values.is c.in-Err.ensures.wrong

pub returns-in-Err-numbers_of-clause-wrong : goal.returns-in-Err-numbers_of-clause-wrong
returns-in-Err-numbers_of-clause-wrong c =
    of_sizes c.args.site.now.scope.now.program (kind_of c.args.site.now.shape.now) c.args.site.now.within.now c.args.constraint.now c.in-Size.ranges
    c.in-Err-numbers_of.wrong c.requires.takes c.in-Size.is c.in-Err-numbers_of.ensures.wrong

pub returns-in-Err-NoCharacter-clause-wrong : goal.returns-in-Err-NoCharacter-clause-wrong
returns-in-Err-NoCharacter-clause-wrong c =
    let x = c.in-Err-NoCharacter in
    let f = subst (λ xs. IsFirstChars xs x.field-0) c.deref.ensures.value x.ensures.first in
    let e : wrongs.At broken.WrongKind x.place ≡ wrong_chars x.field-0 = search rules in
    in_characters c.in-From.chars x.field-0 c.requires.takes c.in-From.is f e

pub returns-in-Err-Reversed-clause-wrong : goal.returns-in-Err-Reversed-clause-wrong
returns-in-Err-Reversed-clause-wrong c =
    let x = c.in-Err-Reversed in
    let f = subst (λ xs. IsFirstChars xs x.field-0) c.deref.ensures.value x.ensures.first in
    let e : wrongs.At broken.LowerAboveUpper x.place ≡ wrong_chars x.field-0 = search rules in
    in_characters c.in-From.chars x.field-0 c.requires.takes c.in-From.is f e
