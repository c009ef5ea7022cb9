use Rattle.std.proofs.Common.{map, sym, ap, ◌∙◌}
use Rattle.std.specs.Prelude.{Some, None, option_map}
use Rattle.asn_base.specs.Abstract.{abstract}
use Rattle.asn_base.proofs.Copies.{copied_more}
use Rattle.asn_base.proofs.copy.+copies.Goals.{copied_fields-in-Some+in_ok-one-in-Some+in_ok-add-in-Some, copied_fields-in-None+in_ok-add-in-None}
use Rattle.asn_base.proofs.copy.+copies.Goals as goal

pub copied_fields-loop-i-preserved : goal.copied_fields-loop-i-preserved
copied_fields-loop-i-preserved t c =
    elim c.match-values-i.branch [
      | copied_fields-in-Some+in_ok-one-in-Some+in_ok-add-in-Some w ↦
          ap (λ q. map (option_map abstract) q.items) w.copies-is
          ∙ copied_more (option_map abstract) c.args.values.now c.loop-i.copies.items w.add.new.list.items c.loop-i.i c.index-values-i.result (Some w.in_ok-one-in-Some.one) c.loop-i-test.true c.index-values-i.is c.loop-i.invariant
          (ap Some w.in_ok-one-in-Some.ensures ∙ sym (ap (option_map abstract) w.in-Some.is)) w.in_ok-add-in-Some.ensures
      | copied_fields-in-None+in_ok-add-in-None w ↦
          ap (λ q. map (option_map abstract) q.items) w.copies-is
          ∙ copied_more (option_map abstract) c.args.values.now c.loop-i.copies.items w.add-in-None.new.list.items c.loop-i.i c.index-values-i.result None c.loop-i-test.true c.index-values-i.is c.loop-i.invariant
          (sym (ap (option_map abstract) w.in-None.is)) w.in_ok-add-in-None.ensures
    ]

pub copied_list-loop-i-preserved : goal.copied_list-loop-i-preserved
copied_list-loop-i-preserved t c =
    copied_more abstract c.args.values.now c.loop-i.copies.items c.add.new.list.items c.loop-i.i c.index-values-i.result c.in_ok-one.one c.loop-i-test.true c.index-values-i.is c.loop-i.invariant c.in_ok-one.ensures c.in_ok-add.ensures
