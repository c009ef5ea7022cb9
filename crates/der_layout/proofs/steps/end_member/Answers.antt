use Rattle.std.proofs.Common.{rules, ◌≡◌, ◌+◌, ◌-◌, ◌<◌, arith, length, take, inr, refl, vec_len}
use Rattle.der_layout.specs.declared.table.Group.{Group}
use Rattle.der_layout.proofs.Lists.{split_last, set_at_end}
use Rattle.der_layout.proofs.steps.end_member.Goals as goal

pub returns-in_ok-add_member-in-Some : goal.returns-in_ok-add_member-in-Some
returns-in_ok-add_member-in-Some c =
    let groups = c.args.table.now.groups in
    let group = c.in-Some.group.now in
    let n = vec_len groups - 1 in
    let end : c.len-end.result ≡ length c.args.table.now.octets.items = search rules in
    let some : 0 < vec_len groups = search rules in
    let long : length groups.items ≡ n + 1 = (let all : vec_len groups ≡ length groups.items = search rules in omega (arith, some, all)) in
    let larger : Group = record { start = group.start; next = c.len-end.result; members = c.add_member.new.list } in
    inr (record {
      outer = take n groups.items;
      group = group;
      larger = larger;
      member = record { rank = c.args.rank; number = c.len-number.result; start = group.next; end = c.len-end.result };
      from = split_last groups.items n group long c.in-Some.ensures.value;
      groups_are = set_at_end groups.items n larger long;
      start_is = refl;
      next_is = end;
      larger_are = c.in_ok-add_member-in-Some.ensures;
      rank_is = refl;
      number_is = (let e : c.len-number.result ≡ length group.members.items = search rules in e);
      starts = refl;
      ends = end;
      octets_are = refl;
      opened_are = refl;
      rows_are = refl;
      members_are = refl;
    })
