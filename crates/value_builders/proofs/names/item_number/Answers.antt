use Rattle.std.proofs.Common.{rules, map, sym, ap, ◌∙◌}
use Rattle.asn_base.specs.Seen.{item_of}
use Rattle.value_builders.specs.Named.{number_of}
use Rattle.value_builders.proofs.Places.{number_first, number_second}
use Rattle.value_builders.proofs.names.item_number.Goals as goal

pub returns-in-Some : goal.returns-in-Some
returns-in-Some c =
    let r = map item_of c.args.items.now.root.items in
    let a = map item_of c.args.items.now.additions.items in
    let e = ap (λ q. number_of (map item_of q) c.args.name.now) c.as_slice.ensures.value in
    let f = number_first c.args.name.now r a c.in-Some.number (sym e ∙ sym c.number_among.ensures ∙ c.in-Some.is) in
    search rules

pub returns-in-None : goal.returns-in-None
returns-in-None c =
    let r = map item_of c.args.items.now.root.items in
    let a = map item_of c.args.items.now.additions.items in
    let e = ap (λ q. number_of (map item_of q) c.args.name.now) c.as_slice.ensures.value in
    let f = ap (λ q. number_of (map item_of q) c.args.name.now) c.as_slice-in-None.ensures.value in
    c.number_among-in-None.ensures ∙ f ∙ sym (number_second c.args.name.now r a (sym e ∙ sym c.number_among.ensures ∙ c.in-None.is))
