use Rattle.std.proofs.Common.{ap, refl, rules, sym, ◌∙◌}
use Rattle.asn_base.specs.declared.value.Value.{Value}
use Rattle.asn_base.specs.Abstract.{abstract}
use Rattle.asn_base.specs.Types.{default}
use Rattle.asn_base.specs.Seen.{presence_of}
use Rattle.later_versions.proofs.Differing.{addition_differs, by_presence, default_differs}
use Rattle.later_versions.proofs.Fronts.{beq_same}
use Rattle.later_versions.proofs.Marks.{alike_additions, alike_default, alike_mandatory, alike_optional}
use Rattle.later_versions.proofs.components.other_presence.Goals as goal

pub returns-in-Mandatory-presence : goal.returns-in-Mandatory-presence
returns-in-Mandatory-presence c =
    (alike_mandatory c.args.schema.now c.args.one.now.ty.index (presence_of c.args.one.now.presence) (presence_of c.args.other.now.presence) (ap presence_of c.in-Mandatory.is) (ap presence_of c.in-Mandatory-presence.is)).0 refl

pub returns-in-Optional-presence : goal.returns-in-Optional-presence
returns-in-Optional-presence c =
    (alike_optional c.args.schema.now c.args.one.now.ty.index (presence_of c.args.one.now.presence) (presence_of c.args.other.now.presence) (ap presence_of c.in-Optional.is) (ap presence_of c.in-Optional-presence.is)).0 refl

pub returns-in-Ok-true : goal.returns-in-Ok-true
returns-in-Ok-true c =
    (alike_default c.args.schema.now c.args.one.now.ty.index (presence_of c.args.one.now.presence) (presence_of c.args.other.now.presence) (abstract c.deref.result.now) (abstract c.deref-in-Default-presence.result.now)
    (ap presence_of c.in-Default.is ∙ ap (λ (v : Value). default (abstract v)) (sym c.deref.ensures))
    (ap presence_of c.in-Default-presence.is ∙ ap (λ (v : Value). default (abstract v)) (sym c.deref-in-Default-presence.ensures)) c.in-Ok-true.ensures).0 c.in-Ok-true.field-0-test

pub returns-in-Ok-false : goal.returns-in-Ok-false
returns-in-Ok-false c =
    default_differs c.args.schema.now c.args.one.now.ty.index c.args.place (presence_of c.args.one.now.presence) (presence_of c.args.other.now.presence) (abstract c.deref.result.now) (abstract c.deref-in-Default-presence.result.now)
    (ap presence_of c.in-Default.is ∙ ap (λ (v : Value). default (abstract v)) (sym c.deref.ensures))
    (ap presence_of c.in-Default-presence.is ∙ ap (λ (v : Value). default (abstract v)) (sym c.deref-in-Default-presence.ensures))
    (λ h. absurd (let e = c.in-Ok-false.ensures.1 h in let f = c.in-Ok-false.field-0-test in cc))

pub returns-then-addition-later : goal.returns-then-addition-later
returns-then-addition-later c =
    (alike_additions c.args.schema.now c.args.one.now.ty.index (presence_of c.args.one.now.presence) (presence_of c.args.other.now.presence) c.in-Addition.addition.optional c.in-Addition-presence.later.optional c.in-Addition.addition.group c.in-Addition-presence.later.group
    (ap presence_of c.in-Addition.is) (ap presence_of c.in-Addition-presence.is)
    (beq_same c.in-Addition.addition.optional c.in-Addition-presence.later.optional)).0 c.if-addition-later.true

pub returns-else-addition-later : goal.returns-else-addition-later
returns-else-addition-later c =
    addition_differs c.args.schema.now c.args.one.now.ty.index c.args.place (presence_of c.args.one.now.presence) (presence_of c.args.other.now.presence) c.in-Addition.addition.optional c.in-Addition-presence.later.optional c.in-Addition.addition.group c.in-Addition-presence.later.group
    (ap presence_of c.in-Addition.is) (ap presence_of c.in-Addition-presence.is)
    (λ e. absurd (let f = (beq_same c.in-Addition.addition.optional c.in-Addition-presence.later.optional).1 e in let g = c.if-addition-later.false in cc))

pub returns-in_default : goal.returns-in_default
returns-in_default c = by_presence c.args.schema.now c.args.one.now.ty.index c.args.place (presence_of c.args.one.now.presence) (presence_of c.args.other.now.presence) (search rules)

pub returns-in_default-presence : goal.returns-in_default-presence
returns-in_default-presence c = by_presence c.args.schema.now c.args.one.now.ty.index c.args.place (presence_of c.args.one.now.presence) (presence_of c.args.other.now.presence) (search rules)

pub returns-in_default-presence-2 : goal.returns-in_default-presence-2
returns-in_default-presence-2 c = by_presence c.args.schema.now c.args.one.now.ty.index c.args.place (presence_of c.args.one.now.presence) (presence_of c.args.other.now.presence) (search rules)

pub returns-in_default-presence-3 : goal.returns-in_default-presence-3
returns-in_default-presence-3 c = by_presence c.args.schema.now c.args.one.now.ty.index c.args.place (presence_of c.args.one.now.presence) (presence_of c.args.other.now.presence) (search rules)
