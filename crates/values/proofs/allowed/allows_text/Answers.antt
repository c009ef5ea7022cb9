use Rattle.std.proofs.Common.{Some, ap, ◌∙◌, false}
use Rattle.asn_base.specs.Abstract.{abstract}
use Rattle.trees.specs.Types.{a_restricted_string}
use Rattle.type_table.specs.Table.{simple}
use Rattle.values.proofs.Judgings.{decided, judge_size, judge_text}
use Rattle.values.proofs.allowed.allows_text.Goals as goal

pub returns-then-not-allows_size : goal.returns-then-not-allows_size
returns-then-not-allows_size c = λ s is u.
    let p = c.args.bounded.now.program in
    let i = c.args.ty.index in
    let d = decided p i (simple (a_restricted_string s)) _ _ is c.allows_size.ensures in
    let n = c.if-not-allows_size.true in
    judge_size p i s (abstract c.args.value.now) c.as_bytes-octets.result.now false
    (ap Some c.as_bytes-octets.ensures.value ∙ c.in-Some.ensures) (λ t. absurd (cc)) (λ a. let t = d.1 a in cc) is u

pub returns-else-not-allows_size : goal.returns-else-not-allows_size
returns-else-not-allows_size c = λ s is u.
    let p = c.args.bounded.now.program in
    let i = c.args.ty.index in
    let d = decided p i (simple (a_restricted_string s)) _ _ is c.allows_size.ensures in
    judge_text p i s (abstract c.args.value.now) c.as_bytes-octets.result.now c.are_allowed.result
    (ap Some c.as_bytes-octets.ensures.value ∙ c.in-Some.ensures) (d.0 c.if-not-allows_size.false) (c.are_allowed.ensures s is) is u
