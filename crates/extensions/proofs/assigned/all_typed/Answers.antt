use Rattle.std.proofs.Common.{arith, ap, below_more, length, refl, sym, ◌∙◌}
use Rattle.std.specs.Prelude.{slice_get}
use Rattle.std.proofs.lemmas.List.{length-map}
use Rattle.std.proofs.lemmas.Option.{slice_get_read, slice_get_within}
use Rattle.names.specs.Sources.{value_seen}
use Rattle.extensions.specs.Faults.{IsFirstValue, IsTypedValue}
use Rattle.extensions.specs.proving.Tables.{IsWrongValue}
use Rattle.extensions.proofs.Each.{reports_more}
use Rattle.extensions.proofs.assigned.all_typed.Goals as goal

pub is_typed-requires-clause-text : goal.is_typed-requires-clause-text
is_typed-requires-clause-text c =
    ap (λ l. slice_get l c.loop-number.number) (sym c.requires.text)
    ∙ slice_get_read c.args.values.now _ c.loop-number.number c.index-values-number.result refl c.loop-number-test.true
    c.index-values-number.is

pub loop-number-preserved : goal.loop-number-preserved
loop-number-preserved c =
    (below_more (IsTypedValue c.args.bounded.now.program) c.loop-number.number c.loop-number.invariant.0 c.in-Ok.ensures.typed, c.is_typed.ensures.known)

pub returns-clause-typed : goal.returns-clause-typed
returns-clause-typed c i v M x e s =
    let w = slice_get_within c.args.bounded.now.program.values i v e in
    let many = ap length c.requires.is in
    let same = length-map c.args.values.now value_seen in
    c.loop-number.invariant.0 i (omega (arith, w, many, same, c.loop-number-test.false)) v M x e s

pub returns-in-Err-clause-fault : goal.returns-in-Err-clause-fault
returns-in-Err-clause-fault c =
    let t = c.args.bounded.now in
    reports_more (IsWrongValue t c.loop-number.number) (IsFirstValue t) c.in-Err.wrong
    (λ f w. record {
      number = c.loop-number.number;
      value = w.value;
      there = w.there;
      text = w.text;
      within = w.within;
      assigns = w.assigns;
      is_so = w.is_so;
      wrong = w.wrong;
      before = λ j l. c.loop-number.invariant.0 j l;
    })
    c.in-Err.ensures.fault
