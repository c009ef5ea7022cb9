use Rattle.std.proofs.Common.{[], inr, refl}
use Rattle.der_layout.specs.Tables.{state_of, taken}
use Rattle.der_layout.proofs.backend.TableBackend.close.Goals as goal

pub returns-in_ok-close_header-in-Some : goal.returns-in_ok-close_header-in-Some
returns-in_ok-close_header-in-Some c = (
  state_of c.close_header.new.table,
  inr (record {
    one = c.in-Some.one;
    others = c.pop.new.self.items;
    within = state_of c.end_group.new.table;
    places = c.in_ok-arrangement-in-Some.arrangement.places.items;
    inverse = c.in_ok-arrangement-in-Some.arrangement.inverse.items;
    from = c.in-Some.ensures.items;
    group_ends = c.in_ok-arrangement-in-Some.ensures;
    header_closes = c.in_ok-close_header-in-Some.ensures;
  }),
  refl,
)

pub returns-in_ok-close_plain-in-Some : goal.returns-in_ok-close_plain-in-Some
returns-in_ok-close_plain-in-Some c =
    let within = taken (state_of c.args.self.now) c.pop.new.self.items in (
      state_of c.close_plain.new.table,
      inr (record {
        one = c.in-Some.one;
        others = c.pop.new.self.items;
        within = within;
        places = [];
        inverse = [];
        from = c.in-Some.ensures.items;
        group_ends = c.is_arranged.ensures.ends c.if-is_arranged.false within;
        header_closes = c.in_ok-close_plain-in-Some.ensures;
      }),
      refl,
    )
