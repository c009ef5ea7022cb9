use Rattle.std.proofs.Common.{◌++◌, [], ◌∷◌, map, reverse, sym, ap, ◌∙◌}
use Rattle.std.proofs.lemmas.List.{append-nil, map_push, reverse-reverse}
use Rattle.trees.specs.Types.{MemberTree, type_member_of}
use Rattle.type_syntax.specs.TypeGrammar.{a_member}
use Rattle.type_syntax.specs.Listings.{named_component}
use Rattle.type_syntax.proofs.Flattening.{part_taken}
use Rattle.type_syntax.proofs.listing.put_parts.Goals as goal

pub loop-part-init : goal.loop-part-init
loop-part-init c =
    ap (λ l. map type_member_of c.args.members.items ++ map (a_member c.args.standing) (map named_component l))
    (ap reverse c.reverse.ensures.items ∙ reverse-reverse c.args.parts.items)

pub loop-part-preserved : goal.loop-part-preserved
loop-part-preserved c =
    let so_far = map type_member_of c.loop-part.members.items in
    part_taken (a_member c.args.standing) named_component so_far _ _ (reverse c.loop-part.rest.items) _ c.in-Some.part
    c.in-Some.ensures.next
    (ap (map type_member_of) c.in_ok-push.ensures.items ∙ map_push type_member_of c.loop-part.members.items c.member.result ∙ ap (λ (m : MemberTree). so_far ++ m ∷ []) c.member.ensures)
    c.loop-part.invariant

pub returns : goal.returns
returns c =
    let so_far = map type_member_of c.loop-part.members.items in
    sym (append-nil so_far) ∙ ap (λ l. so_far ++ map (a_member c.args.standing) (map named_component l)) (sym c.in_default.ensures.next) ∙ c.loop-part.invariant
