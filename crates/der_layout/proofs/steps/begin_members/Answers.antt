use Rattle.std.proofs.Common.{rules, ◌≡◌, length, refl}
use Rattle.der_layout.proofs.steps.begin_members.Goals as goal

pub returns : goal.returns
returns c =
    let e : c.len-place.result ≡ length c.args.table.now.octets.items = search rules in
    record {
      group = record { start = c.len-place.result; next = c.len-place.result; members = c.new.result };
      start_is = e;
      next_is = e;
      no_members = c.new.ensures.items;
      octets_are = refl;
      opened_are = refl;
      groups_are = c.in_ok-add_group.ensures;
      rows_are = refl;
      members_are = refl;
    }
