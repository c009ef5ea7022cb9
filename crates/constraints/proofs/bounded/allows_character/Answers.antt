use Rattle.trees.specs.Types.{a_restricted_string}
use Rattle.type_table.specs.Table.{simple}
use Rattle.constraints.proofs.bounded.allows_character.Goals as goal

pub returns-in-Some : goal.returns-in-Some
returns-in-Some c = λ s u.
    let f = (c.in-Some.ensures (simple (a_restricted_string s)) u).codes c.args.code in
    (λ h. f.0 (c.has.ensures.0 h), λ r. c.has.ensures.1 (f.1 r))
