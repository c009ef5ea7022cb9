use Rattle.std.proofs.Common.{arith, ◌∷◌, [], ◌++◌, ap, sym, subst, ◌∙◌, append_assoc}
use Rattle.primitive_reader.specs.Arcs.{Front}
use Rattle.primitive_reader.specs.proving.Adding.{parts_of, never_great, never_none}
use Rattle.ber_source.proofs.arcs.object_arcs.Goals as goal

pub returns-in-Some-None-default : goal.returns-in-Some-None-default
returns-in-Some-None-default c ns i e =
    absurd (never_great i e (subst (λ q. Front q c.in-Some-None-default.field-0-1.now c.args.octets.now) c.in-Some-None-default.field-0-0-is c.in-Some-None-default.ensures.some))

pub returns-in-None : goal.returns-in-None
returns-in-None c ns i e = absurd (never_none i e c.in-None.ensures.none)

pub first_two_arcs-first-requires : goal.first_two_arcs-first-requires
first_two_arcs-first-requires c = let r = c.requires in (parts_of c.in-Some-Some-default.number r.1 r.2 (subst (λ q. Front q c.in-Some-Some-default.following.now c.args.octets.now) c.in-Some-Some-default.field-0-0-is c.in-Some-Some-default.ensures.some)).below

pub push_arcs-requires-clause-room : goal.push_arcs-requires-clause-room
push_arcs-requires-clause-room c =
    let room = c.in_ok-make_room-in-Some-Some-default.ensures.room in
    let one = c.push_reserved.ensures.len in
    let two = c.push_reserved-in-Some-Some-default.ensures.len in
    let one' = c.push_reserved.ensures.capacity in
    let two' = c.push_reserved-in-Some-Some-default.ensures.capacity in
    let short = c.in-Some-Some-default.ensures.shorter in
    omega (arith, room, one, two, one', two', short)

pub push_arcs-requires-clause-numbers : goal.push_arcs-requires-clause-numbers
push_arcs-requires-clause-numbers c = let r = c.requires in let p = parts_of c.in-Some-Some-default.number r.1 r.2 (subst (λ q. Front q c.in-Some-Some-default.following.now c.args.octets.now) c.in-Some-Some-default.field-0-0-is c.in-Some-Some-default.ensures.some) in (p.others, p.small, p.spelled)

pub returns-in_ok-make_room-in-Some-Some-default : goal.returns-in_ok-make_room-in-Some-Some-default
returns-in_ok-make_room-in-Some-Some-default c ns i e =
    let p = parts_of c.in-Some-Some-default.number i e (subst (λ q. Front q c.in-Some-Some-default.following.now c.args.octets.now) c.in-Some-Some-default.field-0-0-is c.in-Some-Some-default.ensures.some) in
    let two = c.first_two_arcs-first.ensures p.first p.second p.at_most p.below_40 p.small_second p.is in
    let old = c.args.arcs.now.items in
    let x = c.first_two_arcs-first.result.0 in
    let y = c.first_two_arcs-first.result.1 in
    let one = c.push_reserved.ensures.items ∙ ap (λ q. q ++ x ∷ []) c.in_ok-make_room-in-Some-Some-default.ensures.items in
    let both = c.push_reserved-in-Some-Some-default.ensures.items ∙ ap (λ q. q ++ y ∷ []) one in
    c.push_arcs.ensures p.others p.small p.spelled
    ∙ ap (λ q. q ++ p.others) both
    ∙ append_assoc (old ++ x ∷ []) (y ∷ []) p.others
    ∙ append_assoc old (x ∷ []) (y ∷ p.others)
    ∙ ap (λ q. old ++ q ∷ y ∷ p.others) two.0
    ∙ ap (λ q. old ++ p.first ∷ q ∷ p.others) two.1
    ∙ ap (λ q. old ++ q) (sym p.are)
