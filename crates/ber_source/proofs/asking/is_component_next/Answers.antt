use Rattle.std.proofs.Common.{arith, inr, refl, sym, subst, ◌∙◌}
use Rattle.octets.specs.Forms.{is_constructed}
use Rattle.codec_source.specs.Events.{whether_comes}
use Rattle.ber_source.specs.Seen.{state_of}
use Rattle.octet_answers.specs.Unanswered.{Leaves, no_component_left, no_header_of_component, other_component}
use Rattle.ber_source.proofs.Windows.{fails, some_octets, no_octets}
use Rattle.ber_source.proofs.Asked.{never_comes, other_never}
use Rattle.ber_source.proofs.asking.is_component_next.Goals as goal

pub returns-in-Err-clause-err : goal.returns-in-Err-clause-err
returns-in-Err-clause-err g c other there b d =
    never_comes (state_of g.T.TokenSink.tokens c.args.place.now) b c.args.field there
    (some_octets c.args.place.now.here.octets.now c.is_empty.result c.is_empty.ensures c.if-is_empty.false)
    c.in-Err.ensures.none d

pub returns-then-can_begin-clause-ok : goal.returns-then-can_begin-clause-ok
returns-then-can_begin-clause-ok g c = record {
  tag = c.in-Ok.unit.tag;
  constructed = is_constructed c.in-Ok.unit.form;
  count = c.in-Ok.unit.count;
  contents = c.in-Ok.unit.contents.now;
  rest = c.in-Ok.unit.rest.now;
  unit = c.in-Ok.ensures.ok;
  first = c.can_begin.ensures.0 c.if-can_begin.true;
  is = c.in_ok-emit.ensures.ok;
}

pub returns-then-may_be_absent-2-clause-ok : goal.returns-then-may_be_absent-2-clause-ok
returns-then-may_be_absent-2-clause-ok g c = record {
  may_be = sym c.may_be_absent-2.ensures ∙ c.if-may_be_absent-2.true;
  next = inr (record {
    tag = c.in-Ok.unit.tag;
    constructed = is_constructed c.in-Ok.unit.form;
    count = c.in-Ok.unit.count;
    contents = c.in-Ok.unit.contents.now;
    rest = c.in-Ok.unit.rest.now;
    unit = c.in-Ok.ensures.ok;
    not_first = fails c.can_begin.result c.if-can_begin.false c.can_begin.ensures;
  });
  is = refl;
}

pub returns-clause-err : goal.returns-clause-err
returns-clause-err g c other there b d =
    other_never (state_of g.T.TokenSink.tokens c.args.place.now) b c.args.field there c.in-Ok.unit.tag (is_constructed c.in-Ok.unit.form) c.in-Ok.unit.count c.in-Ok.unit.contents.now c.in-Ok.unit.rest.now
    c.lemma_one_unit.ensures.once c.in-Ok.ensures.ok (fails c.can_begin.result c.if-can_begin.false c.can_begin.ensures)
    (sym c.may_be_absent-2.ensures ∙ c.if-may_be_absent-2.false) d

pub returns-then-is_empty-clause-left : goal.returns-then-is_empty-clause-left
returns-then-is_empty-clause-left g c = λ other.
    no_component_left (sym c.may_be_absent.ensures ∙ c.if-may_be_absent.false)
    (no_octets c.args.place.now.here.octets.now c.is_empty.result c.is_empty.ensures c.if-is_empty.true)

pub returns-in-Err-clause-left : goal.returns-in-Err-clause-left
returns-in-Err-clause-left g c = λ other.
    let a = state_of g.T.TokenSink.tokens c.args.place.now in
    let some = some_octets c.args.place.now.here.octets.now c.is_empty.result c.is_empty.ensures c.if-is_empty.false in
    subst (λ q. Leaves a (whether_comes c.args.field) a q) (sym c.from_header_fault.ensures) (no_header_of_component c.in-Err.fault (omega (arith, some)) c.in-Err.ensures.err)

pub returns-clause-left : goal.returns-clause-left
returns-clause-left g c = λ other.
    other_component (sym c.may_be_absent-2.ensures ∙ c.if-may_be_absent-2.false)
    (record {
      tag = c.in-Ok.unit.tag;
      constructed = is_constructed c.in-Ok.unit.form;
      count = c.in-Ok.unit.count;
      contents = c.in-Ok.unit.contents.now;
      rest = c.in-Ok.unit.rest.now;
      unit = c.in-Ok.ensures.ok;
      not_first = fails c.can_begin.result c.if-can_begin.false c.can_begin.ensures;
    })
