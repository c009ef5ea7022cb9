use Rattle.std.proofs.Common.{arith, rules, ◌++◌, sym, ap, ◌∙◌, option_map, string_bytes}
use Rattle.value_text.proofs.Fields.{below_members, placed_nodes, with_absent, with_none, with_present}
use Rattle.value_text.proofs.Members.{type_there}
use Rattle.value_text.proofs.value.+printing.Goals as goal
use Rattle.value_text.proofs.value.+printing.Goals.{print_fields-then-i-size+in-Some+in_ok-append_comma+in_ok-append-2+in_ok-append-3+in_ok-print_node, print_fields-then-i-size+in_default, print_fields-else-i-size}

pub print_fields-print_node-requires : goal.print_fields-print_node-requires
print_fields-print_node-requires g t c κs within =
    let is = c.loop-i.invariant.same c.loop-i.i (omega arith) ∙ sym c.in-Some.ensures.found in
    let falls = below_members _ _ t c.decreases (placed_nodes c.args.size (λ i. g.N.ValueNode.part_at c.args.fields i) c.loop-i.i _ c.if-i-size.true is) in
    let there = type_there _ _ _ _ c.requires.there c.loop-i-test.true c.index-components-i.is in
    search rules

pub print_fields-loop-i-preserved : goal.print_fields-loop-i-preserved
print_fields-loop-i-preserved g t c =
    let so_far = c.loop-i.invariant in
    elim c.if-i-size.branch [
      | print_fields-then-i-size+in-Some+in_ok-append_comma+in_ok-append-2+in_ok-append-3+in_ok-print_node w ↦
          let name = w.in_ok-append-2.ensures ∙ ap (λ l. string_bytes w.append_comma.new.out ++ l) w.as_str.ensures.value in
          rw (w.out-is, w.first-is, w.left-is)
          (with_present _ _ _ _ _ _ _ _ _ so_far w.if-i-size.true _ c.loop-i-test.true w.index-components-i.is _ w.take_component.ensures.later
          _ _ _ _ _ w.in-Some.ensures.found w.in_ok-append_comma.ensures name w.in_ok-append-3.ensures w.in_ok-print_node.ensures)
      | print_fields-then-i-size+in_default w ↦
          rw (w.out-is, w.first-is, w.left-is)
          (with_absent _ _ _ _ _ _ _ _ _ so_far w.if-i-size.true _ c.loop-i-test.true w.index-components-i.is _ w.take_component.ensures.later
          (ap (option_map g.N.ValueNode.value_of) (sym w.in_default.is) ∙ w.take_component.ensures.found))
      | print_fields-else-i-size w ↦ rw (w.out-is, w.first-is, w.left-is) (with_none _ _ _ _ _ _ _ _ _ so_far w.if-i-size.false)
    ]
