use Rattle.std.proofs.Common.{◌++◌, [], ◌∷◌, map, reverse, length, arith, sym, ap, ◌∙◌}
use Rattle.std.proofs.lemmas.List.{append-nil, map_push, reverse-reverse, length-reverse}
use Rattle.parser_combinators.specs.Parts.{addition_of}
use Rattle.trees.specs.Types.{MemberTree, type_member_of}
use Rattle.type_syntax.specs.TypeGrammar.{addition_members}
use Rattle.type_syntax.specs.Listings.{named_component}
use Rattle.type_syntax.proofs.Flattening.{alone_taken, bracket_taken}
use Rattle.type_syntax.proofs.listing.put_additions.Goals as goal

pub loop-addition-init : goal.loop-addition-init
loop-addition-init c = record {
  members =
      ap (λ l. map type_member_of c.args.members.items ++ addition_members 0 (map (addition_of named_component) l))
      (ap reverse c.reverse.ensures.items ∙ reverse-reverse c.args.additions.items);
  number = let e = ap length c.reverse.ensures.items ∙ length-reverse c.args.additions.items in omega (arith, e);
}

pub loop-addition-preserved-in-Continue-1 : goal.loop-addition-preserved-in-Continue-1
loop-addition-preserved-in-Continue-1 c =
    let so_far = map type_member_of c.loop-addition.members.items in
    record {
      members =
          alone_taken (addition_of named_component) so_far _ _ (reverse c.loop-addition.rest.items) _ c.loop-addition.number c.in-Some.addition (named_component c.in-Alone.part)
          c.in-Some.ensures.next (ap (addition_of named_component) c.in-Alone.is)
          (ap (map type_member_of) c.in_ok-push-in-Alone.ensures.items ∙ map_push type_member_of c.loop-addition.members.items c.member.result ∙ ap (λ (m : MemberTree). so_far ++ m ∷ []) c.member.ensures)
          c.loop-addition.invariant.members;
      number = omega (arith, c.in-Some.ensures.fewer, c.loop-addition.invariant.number);
    }

pub loop-addition-preserved : goal.loop-addition-preserved
loop-addition-preserved c =
    let so_far = map type_member_of c.loop-addition.members.items in
    record {
      members =
          bracket_taken (addition_of named_component) so_far _ _ (reverse c.loop-addition.rest.items) _ c.loop-addition.number c.in-Some.addition (map named_component c.in-Bracket.parts.items)
          c.in-Some.ensures.next (ap (addition_of named_component) c.in-Bracket.is) c.in_ok-members-in-Bracket.ensures
          c.loop-addition.invariant.members;
      number = omega (arith, c.in-Some.ensures.fewer, c.loop-addition.invariant.number);
    }

pub returns : goal.returns
returns c =
    let so_far = map type_member_of c.loop-addition.members.items in
    sym (append-nil so_far) ∙ ap (λ l. so_far ++ addition_members c.loop-addition.number (map (addition_of named_component) l)) (sym c.in_default.ensures.next) ∙ c.loop-addition.invariant.members
