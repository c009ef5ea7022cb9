use Rattle.std.proofs.Common.{sym, subst, ◌≤◌, length}
use Rattle.std.specs.Prelude.{IsUtf8}
use Rattle.encodings.specs.Rules.{Basic}
use Rattle.printed_values.specs.ReadBack.{IsReadBack}
use Rattle.values.specs.Allowing.{Allows, AllowsCode}
use Rattle.asnc.proofs.law.printed.Goals as goal

pub returns-clause-read : goal.returns-clause-read
returns-clause-read c = λ xs p s r name o t k M a w h u l.
    (let q = (c.lemma_accepted_checked.ensures xs p a.accepted).read in
    subst (λ x. IsReadBack p (Allows p) (AllowsCode p) M w.type x w.read.value)
    (sym w.read.text)
    (c.lemma_printed_is_read_back.ensures p s M w.type w.read.value q.apart q.sound.lists a.types.accepted a.types.settled.types
    (c.message_laws.ensures.value s Basic w.type k w.read.value o a.types.accepted w.read.encodes.value w.read.encodes.says_it w.read.short)
    h
    (subst IsUtf8 w.read.text u)
    (subst (λ x. length x ≤ 16777216) w.read.text l)))

pub returns-clause-unpacked : goal.returns-clause-unpacked
returns-clause-unpacked c = λ xs p s name o t k M a w h u l.
    (let q = (c.lemma_accepted_checked.ensures xs p a.accepted).read in
    subst (λ x. IsReadBack p (Allows p) (AllowsCode p) M w.type x w.read.value)
    (sym w.read.text)
    (c.lemma_printed_is_read_back.ensures p s M w.type w.read.value q.apart q.sound.lists a.types.accepted a.types.settled.types
    w.read.by_bits.reads.value
    h
    (subst IsUtf8 w.read.text u)
    (subst (λ x. length x ≤ 16777216) w.read.text l)))
