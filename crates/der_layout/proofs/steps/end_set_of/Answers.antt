use Rattle.std.proofs.Common.{inr, map, ◌≡◌, ◌++◌, take, drop, refl, ap, subst, ◌∙◌}
use Rattle.codec_code.specs.Events.{by_octets}
use Rattle.der_layout.specs.Rows.{listed, numbers_in, places_by}
use Rattle.der_layout.specs.Tables.{Sorted, spans}
use Rattle.der_layout.proofs.steps.end_set_of.Goals as goal

pub returns-in_ok-put_members-in-Some : goal.returns-in_ok-put_members-in-Some
returns-in_ok-put_members-in-Some c =
    let o = c.args.table.now.octets.items in
    let group = c.in-Some.group in
    let same = c.as_slice-sorted.ensures.value in
    let put : c.put_members.new.octets.items ≡ take group.start o ++ (spans o c.as_slice-sorted.result.now ++ drop group.next o) = c.in_ok-put_members-in-Some.ensures in
    inr (record {
      group = group;
      sorted = c.sort_by_octets.new.members.items;
      from = c.in-Some.ensures.items;
      in_order = subst (λ q. Sorted by_octets q group.members.items c.sort_by_octets.new.members.items) c.as_slice-octets.ensures.value c.in_ok-sort_by_octets-in-Some.ensures;
      octets_are = put ∙ ap (λ q. take group.start o ++ (spans o q ++ drop group.next o)) same;
      opened_are = refl;
      rows_are = refl;
      members_are = refl;
      places_are = c.in_ok-arrangement-in-Some.ensures.places ∙ ap (λ q. map listed (places_by (numbers_in q))) same;
      inverse_are = c.in_ok-arrangement-in-Some.ensures.inverse ∙ ap (λ q. map listed (numbers_in q)) same;
    })
