use Rattle.std.proofs.Common.{rules, ◌≤◌, ◌<◌, length, ap}
use Rattle.asn_base.specs.Abstract.{abstract}
use Rattle.octet_account.specs.Seen.{flat}
use Rattle.der_layout.specs.Tables.{state_of}
use Rattle.der_layout.proofs.Whole.{Empty, whole, whole_rows, longer}
use Rattle.der_layout.proofs.encoding.encode_typed.Goals as goal

pub returns-in-Ok-clause-der : goal.returns-in-Ok-clause-der
returns-in-Ok-clause-der c =
    let s = c.args.code.now in
    let t = c.args.id.index in
    let v = abstract c.args.value.now in
    let ran = c.in-Ok.ensures.ok in
    let n = c.new-table.ensures in
    let a = state_of c.new-table.result in
    let empty : Empty a = record { octets = n.octets; rows = ap flat n.rows; members = n.members } in
    let short : length c.run.new.backend.octets.items ≤ 16777216 = (let m = c.if-len-gt-MAX_MESSAGE.false in search rules) in
    whole c.lemma_routine_rows.ensures.stand s t v ran.events a (state_of c.run.new.backend)
    (c.routine_laws.ensures.describes s t v ran.events c.lemma_invariant.ensures c.requires.shaped ran.steps)
    ran.added empty short

pub returns-in-Ok-clause-account : goal.returns-in-Ok-clause-account
returns-in-Ok-clause-account c =
    let s = c.args.code.now in
    let t = c.args.id.index in
    let v = abstract c.args.value.now in
    let ran = c.in-Ok.ensures.ok in
    let n = c.new-table.ensures in
    let a = state_of c.new-table.result in
    let empty : Empty a = record { octets = n.octets; rows = ap flat n.rows; members = n.members } in
    let short : length c.run.new.backend.octets.items ≤ 16777216 = (let m = c.if-len-gt-MAX_MESSAGE.false in search rules) in
    let w = whole_rows s t v ran.events a (state_of c.run.new.backend)
    (λ o b l h. c.lemma_accounts_within_bounds.ensures s t v o b c.lemma_invariant.ensures c.requires.shaped l h)
    (c.lemma_routine_rows.ensures.rows s t v ran.events c.lemma_invariant.ensures c.requires.shaped ran.steps)
    ran.added empty short in
    (w.account, w.describes, w.are)

pub returns-then-len-gt-MAX_MESSAGE-clause-longer : goal.returns-then-len-gt-MAX_MESSAGE-clause-longer
returns-then-len-gt-MAX_MESSAGE-clause-longer c = λ e.
    let s = c.args.code.now in
    let t = c.args.id.index in
    let v = abstract c.args.value.now in
    let ran = c.in-Ok.ensures.ok in
    let n = c.new-table.ensures in
    let a = state_of c.new-table.result in
    let empty : Empty a = record { octets = n.octets; rows = ap flat n.rows; members = n.members } in
    let many : 16777216 < length c.run.new.backend.octets.items = (let m = c.if-len-gt-MAX_MESSAGE.true in search rules) in
    longer c.lemma_routine_rows.ensures.stand s t v ran.events a (state_of c.run.new.backend)
    (λ o d. c.account_laws.ensures.exists s t v o c.lemma_invariant.ensures d)
    (c.lemma_routine_rows.ensures.rows s t v ran.events c.lemma_invariant.ensures c.requires.shaped ran.steps)
    ran.added empty many
