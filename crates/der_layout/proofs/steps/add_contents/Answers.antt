use Rattle.std.proofs.Common.{refl}
use Rattle.der_layout.proofs.steps.add_contents.Goals as goal

pub push_leaf-requires : goal.push_leaf-requires
push_leaf-requires c = (c.in-Some.ensures.0, c.in-Some.ensures.1)

pub returns-in_ok-push_leaf-in-Some-clause-adds : goal.returns-in_ok-push_leaf-in-Some-clause-adds
returns-in_ok-push_leaf-in-Some-clause-adds c =
    let h = c.in-Some.ensures in (
      h.0,
      h.1,
      record {
        octets_are = c.in_ok-push_leaf-in-Some.ensures.ok h.0 h.1;
        opened_are = refl;
        groups_are = refl;
        rows_are = refl;
        members_are = refl;
      },
    )
