use Rattle.source_text.proofs.Beginning.{none_at_end, plain_begins, says_itself, says_of}
use Rattle.source_text.proofs.characters.character.Goals as goal

pub returns-in-Some-clause-plain : goal.returns-in-Some-clause-plain
returns-in-Some-clause-plain c = λ o e p.
    says_itself c.named.result c.args.text.now c.args.place c.in-Some.c o c.in-Some.ensures c.named.ensures e p

pub returns-in-Some-clause-none : goal.returns-in-Some-clause-none
returns-in-Some-clause-none c = λ e.
    absurd (none_at_end c.args.text.now c.args.place e c.in-Some.c c.in-Some.ensures)

pub returns-in-Some-clause-character : goal.returns-in-Some-clause-character
returns-in-Some-clause-character c = λ d b.
    says_of c.named.result c.args.text.now c.args.place c.in-Some.c d c.in-Some.ensures c.named.ensures b

pub returns-in-Some-clause-no_character : goal.returns-in-Some-clause-no_character
returns-in-Some-clause-no_character c = λ h. absurd (h c.in-Some.c c.in-Some.ensures)

pub returns-in-None-clause-plain : goal.returns-in-None-clause-plain
returns-in-None-clause-plain c = λ o e p. absurd (c.in-None.ensures o (plain_begins c.args.text.now c.args.place o e p))

pub returns-in-None-clause-none : goal.returns-in-None-clause-none
returns-in-None-clause-none c = λ _. c.from_str.ensures.ok

pub returns-in-None-clause-character : goal.returns-in-None-clause-character
returns-in-None-clause-character c = λ d b. absurd (c.in-None.ensures d b)

pub returns-in-None-clause-no_character : goal.returns-in-None-clause-no_character
returns-in-None-clause-no_character c = λ _. c.from_str.ensures.ok
