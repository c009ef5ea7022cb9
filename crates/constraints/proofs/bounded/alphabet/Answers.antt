use Rattle.std.proofs.Common.{sym, subst, ◌∙◌}
use Rattle.type_table.specs.Seen.{kind_of}
use Rattle.constraints.specs.Constraints.{has_alphabet}
use Rattle.constraints.specs.Allowed.{AreCharacters}
use Rattle.constraints.proofs.Bounding.{has_not, has_it, characters_are}
use Rattle.constraints.proofs.bounded.alphabet.Goals as goal

pub returns-then-not-has_alphabet : goal.returns-then-not-has_alphabet
returns-then-not-has_alphabet c =
    has_not c.args.bounded.now.program.types c.args.ty.index has_alphabet (kind_of c.shape.result.now) c.shape.ensures
    (sym c.has_alphabet.ensures ∙ c.if-not-has_alphabet.true)

pub returns-in-Some : goal.returns-in-Some
returns-in-Some c = λ k u.
    subst (AreCharacters c.args.bounded.now.program k c.args.ty.index) (sym c.copy.ensures)
    (characters_are c.args.bounded.now.program k c.args.ty.index c.in-Some.limit.now
    (has_it c.args.bounded.now.program.types c.args.ty.index has_alphabet (kind_of c.shape.result.now) c.shape.ensures
    (sym c.has_alphabet.ensures ∙ c.if-not-has_alphabet.false) k u)
    (c.in-Some.ensures k u))
