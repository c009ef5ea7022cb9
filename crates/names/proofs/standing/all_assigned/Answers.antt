use Rattle.std.proofs.Common.{arith, ◌≡◌, Some, None, length, map, refl, sym, ap, ◌∙◌}
use Rattle.std.proofs.lemmas.Option.{slice_get_read}
use Rattle.std.proofs.lemmas.List.{length-map}
use Rattle.trees.specs.Values.{name_at}
use Rattle.std.specs.Prelude.{slice_get}
use Rattle.names.specs.Faults.{fault_name}
use Rattle.names.specs.First.{name_spot}
use Rattle.names.specs.Names.{names_of, under}
use Rattle.names.proofs.Listing.{spots_named}
use Rattle.names.specs.Modules.{OccursIn}
use Rattle.names.specs.Scopes.{module_of}
use Rattle.names.specs.proving.Distinct.{each_more, item_at, name_under, occurs_map, under_none}
use Rattle.names.proofs.Standings.{all_checked}
use Rattle.names.proofs.standing.all_assigned.Goals as goal

pub loop-i-preserved : goal.loop-i-preserved
loop-i-preserved c =
    let ns = c.args.names.now in
    let n = c.index-names-i.result in
    let as' = (module_of c.args.scope.now).assigned in
    let at = item_at name_at ns c.loop-i.i n c.loop-i-test.true c.index-names-i.is in
    let u : under (name_at n) as' ≡ Some c.in-Some.field-0 = ap (λ z. under z as') (sym c.as_str.ensures.value) ∙ sym c.assigned_to.ensures ∙ c.in-Some.is in
    each_more (map name_at ns) (λ x. OccursIn (names_of as') x) c.loop-i.i (name_at n) at c.loop-i.invariant (name_under (name_at n) as' c.in-Some.field-0 u)

pub returns-clause-ok : goal.returns-clause-ok
returns-clause-ok c =
    let ns = c.args.names.now in
    let as' = (module_of c.args.scope.now).assigned in
    all_checked (map name_at ns) (λ x. OccursIn (names_of as') x) c.loop-i.i (omega (arith, length-map ns name_at)) c.loop-i.invariant

pub returns-in-None-clause-first : goal.returns-in-None-clause-first
returns-in-None-clause-first c =
    let ns = c.args.names.now in
    let n = c.index-names-i.result in
    let s = c.in_ok-reported-in-None.reported in
    let e = c.in_ok-reported-in-None.ensures in
    let p : fault_name s ≡ name_at n = e.name ∙ c.as_str-in-None.ensures.value in
    let q : s.at ≡ n.at = e.at in
    let as' = (module_of c.args.scope.now).assigned in
    let u : under (fault_name s) as' ≡ None = ap (λ z. under z as') (p ∙ sym c.as_str.ensures.value) ∙ sym c.assigned_to.ensures ∙ c.in-None.is in
    record {
      number = c.loop-i.i;
      there =
          occurs_map name_spot ns c.loop-i.i n (slice_get_read ns (length ns) c.loop-i.i n refl c.loop-i-test.true c.index-names-i.is)
          ∙ ap (λ z. Some (z, n.at)) (sym p) ∙ ap (λ z. Some (fault_name s, z)) (sym q);
      within = e.within;
      lost = under_none (fault_name s) as' u;
      before = λ k x l h. c.loop-i.invariant k x l (ap (λ z. slice_get z k) (sym (spots_named ns)) ∙ h);
    }
