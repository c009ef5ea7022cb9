use Rattle.std.proofs.Common.{rules, ◌≡◌, ap, map, subst, []}
use Rattle.octet_answers.specs.States.{State}
use Rattle.octet_answers.specs.Unanswered.{Leaves, no_value_open}
use Rattle.asn_base.specs.declared.schema.TypeId.{TypeId}
use Rattle.codec_source.specs.Events.{to_end}
use Rattle.decode_faults.specs.declared.read_fault.ReadFault.TheVariants.{UnexpectedTag}
use Rattle.std.specs.Prelude.{List}
use Rattle.ber_source.specs.Seen.{open_contents_of, outer_contents}
use Rattle.ber_source.proofs.moves.end.Goals as goal

pub returns-in-None-clause-left : goal.returns-in-None-clause-left
returns-in-None-clause-left g c = λ other.
    let p = c.args.place.now in
    let k : p.values.items ≡ c.pop.new.self.items = (let i = c.in-None.ensures.items in search rules) in
    let none : p.values.items ≡ [] = (let i = c.in-None.ensures.items in search rules) in
    let state : List TypeId → State = λ q. record { schema = p.code.now; here = open_contents_of p.here; outer = map open_contents_of (outer_contents p.outer); values = q; marks = p.marks.items; emitted = g.T.TokenSink.tokens p.emitted; budget = p.budget } in
    subst (λ q. Leaves (state p.values.items) to_end q UnexpectedTag) (ap state k) (no_value_open none)
