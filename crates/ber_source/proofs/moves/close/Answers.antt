use Rattle.std.proofs.Common.{arith, ◌≡◌, [], List, ap, map, sym, subst, ◌∙◌}
use Rattle.octet_answers.specs.States.{State}
use Rattle.octet_answers.specs.Unanswered.{Leaves, not_at_end, no_header_open}
use Rattle.codec_source.specs.Events.{to_close}
use Rattle.decode_faults.specs.declared.read_fault.ReadFault.TheVariants.{UnexpectedTag}
use Rattle.ber_source.specs.declared.open_contents.OpenContents.{OpenContents}
use Rattle.ber_source.specs.Seen.{open_contents_of, outer_contents}
use Rattle.ber_source.proofs.Windows.{one_less, some_octets, no_octets}
use Rattle.ber_source.proofs.moves.close.Goals as goal

pub returns-in-Some-clause-within : goal.returns-in-Some-clause-within
returns-in-Some-clause-within g c =
    let k = one_less (outer_contents c.args.place.now.outer) (outer_contents c.pop.new.self) c.in-Some.open_contents c.in-Some.ensures.items c.requires.outer in
    record { here = k.0; outer = k.1; suited = c.requires.suited }

pub returns-then-not-is_empty-clause-left : goal.returns-then-not-is_empty-clause-left
returns-then-not-is_empty-clause-left g c = λ other.
    let some = some_octets c.args.place.now.here.octets.now c.is_empty.result c.is_empty.ensures c.if-not-is_empty.true in
    not_at_end (omega (arith, some))

pub returns-in-None-clause-left : goal.returns-in-None-clause-left
returns-in-None-clause-left g c = λ other.
    let p = c.args.place.now in
    let none : outer_contents p.outer ≡ [] = c.in-None.ensures.items.0 in
    let k : outer_contents p.outer ≡ outer_contents c.pop.new.self = none ∙ sym c.in-None.ensures.items.1 in
    let empty = no_octets p.here.octets.now c.is_empty.result c.is_empty.ensures c.if-not-is_empty.false in
    let state : List OpenContents → State = λ q. record { schema = p.code.now; here = open_contents_of p.here; outer = map open_contents_of q; values = p.values.items; marks = p.marks.items; emitted = g.T.TokenSink.tokens p.emitted; budget = p.budget } in
    subst (λ q. Leaves (state (outer_contents p.outer)) to_close q UnexpectedTag) (ap state k) (no_header_open empty (ap (map open_contents_of) none))
