use Rattle.std.proofs.Common.{◌≡◌, ◌∙◌, sym, true, false}
use Rattle.trees.specs.Types.{a_restricted_string}
use Rattle.type_table.specs.Seen.{kind_of}
use Rattle.type_table.specs.Table.{simple}
use Rattle.constraints.specs.Constraints.{has_alphabet}
use Rattle.constraints.proofs.Bounding.{has_not, has_it, codes_are}
use Rattle.constraints.proofs.kept.codes.Goals as goal

pub returns-then-not-has_alphabet-clause-strings : goal.returns-then-not-has_alphabet-clause-strings
returns-then-not-has_alphabet-clause-strings c = λ s u.
    let q : true ≡ false =
    has_not c.args.bounded.now.program.types c.args.ty.index has_alphabet (kind_of c.shape.result.now) c.shape.ensures
    (sym c.has_alphabet.ensures ∙ c.if-not-has_alphabet.true) (simple (a_restricted_string s)) u in
    absurd cc

pub returns-in-Ok-clause-strings : goal.returns-in-Ok-clause-strings
returns-in-Ok-clause-strings c = λ s u.
    codes_are c.args.bounded.now.program s c.args.ty.index c.in-Some.limit.now c.in-Ok.codes.items
    (c.in-Some.ensures (simple (a_restricted_string s)) u) c.in_order.ensures.ascend c.in_order.ensures.below_128
    c.in-Ok.ensures

pub returns-in-Ok-clause-others : goal.returns-in-Ok-clause-others
returns-in-Ok-clause-others c = λ k u e.
    let q : true ≡ false =
    sym (has_it c.args.bounded.now.program.types c.args.ty.index has_alphabet (kind_of c.shape.result.now) c.shape.ensures
    (sym c.has_alphabet.ensures ∙ c.if-not-has_alphabet.false) k u) ∙ e in
    absurd cc
