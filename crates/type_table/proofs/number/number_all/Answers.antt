use Rattle.std.proofs.Common.{length, length-append, arith, ◌+◌, ◌∷◌, [], map, refl, subst, sym, ap, ◌∙◌}
use Rattle.std.proofs.lemmas.List.{length-map, map-append}
use Rattle.names.specs.Sources.{header_of, assignment_of, source_of, sources_of, AllAssigned}
use Rattle.type_table.specs.Seen.{type_of, types_of}
use Rattle.type_table.specs.Numbering.{IsTop}
use Rattle.type_table.specs.proving.Checks.{IsSourceFault}
use Rattle.names.specs.proving.Gathering.{syntaxes}
use Rattle.type_table.proofs.Queue.{IsHalfway, IsQueue, halfway_start, halfway_step, halfway_fault, halfway_first, queue_start, queue_step}
use Rattle.type_table.proofs.number.number_all.Goals as goal

pub loop-number-init : goal.loop-number-init
loop-number-init c =
    record {
      halfway = subst (λ l. IsHalfway c.args.names.now (map header_of c.args.headers.now) (map assignment_of c.args.assignments.now) (sources_of c.args.roots.items) (types_of l) (sources_of c.args.roots.items) 0) (sym c.new-types.ensures.items) (halfway_start c.args.names.now (map header_of c.args.headers.now) (map assignment_of c.args.assignments.now) (sources_of c.args.roots.items)
          (subst (λ n. AllAssigned n (sources_of c.args.roots.items)) (sym (length-map c.args.assignments.now assignment_of)) c.requires.assigned));
      queue = subst (λ l. IsQueue (syntaxes c.args.roots.items) l (syntaxes c.args.roots.items)) (sym c.new-types.ensures.items) (queue_start (syntaxes c.args.roots.items));
      count = omega arith;
      few = omega (arith, c.requires.few);
    }

pub written_of-requires-clause-assigned : goal.written_of-requires-clause-assigned
written_of-requires-clause-assigned c =
    let h = subst (λ l. IsHalfway c.args.names.now (map header_of c.args.headers.now) (map assignment_of c.args.assignments.now) (sources_of c.args.roots.items) (types_of c.loop-number.types.items) (sources_of l) c.loop-number.number) c.in-Some.ensures.items c.loop-number.invariant.halfway in
    omega (arith, h.assigned.0, length-map c.args.assignments.now assignment_of)

pub returns-in-Err-clause-fault : goal.returns-in-Err-clause-fault
returns-in-Err-clause-fault c =
    let rest = c.pop_front.new.self.items in
    let h = subst (λ l. IsHalfway c.args.names.now (map header_of c.args.headers.now) (map assignment_of c.args.assignments.now) (sources_of c.args.roots.items) (types_of c.loop-number.types.items) (sources_of l) c.loop-number.number) c.in-Some.ensures.items c.loop-number.invariant.halfway in
    halfway_fault c.args.names.now (map header_of c.args.headers.now) (map assignment_of c.args.assignments.now) (sources_of c.args.roots.items) (types_of c.loop-number.types.items) (source_of c.in-Some.source) (sources_of rest) c.loop-number.number c.in-Err.fault h (omega (arith, c.loop-number.invariant.few, ap length c.in-Some.ensures.items, length-map rest source_of))
    (subst (λ n. IsSourceFault c.args.names.now (map header_of c.args.headers.now) (map assignment_of c.args.assignments.now) c.loop-number.number (c.loop-number.number + 1 + n) (source_of c.in-Some.source) c.in-Err.fault) (sym (length-map rest source_of)) c.in-Err.ensures.fault)

pub loop-number-preserved : goal.loop-number-preserved
loop-number-preserved c =
    let rest = c.pop_front.new.self.items in
    let h = subst (λ l. IsHalfway c.args.names.now (map header_of c.args.headers.now) (map assignment_of c.args.assignments.now) (sources_of c.args.roots.items) (types_of c.loop-number.types.items) (sources_of l) c.loop-number.number) c.in-Some.ensures.items c.loop-number.invariant.halfway in
    let step = halfway_step c.args.names.now (map header_of c.args.headers.now) (map assignment_of c.args.assignments.now) (sources_of c.args.roots.items) (types_of c.loop-number.types.items) (source_of c.in-Some.source) (sources_of rest) (sources_of c.written_of.new.parts.items) c.loop-number.number (type_of c.in-Ok.written) h
    (subst (λ n. IsTop c.args.names.now (map header_of c.args.headers.now) (map assignment_of c.args.assignments.now) (c.loop-number.number + 1 + n) (source_of c.in-Some.source) (type_of c.in-Ok.written)) (sym (length-map rest source_of)) c.in-Ok.ensures.top)
    c.in-Ok.ensures.parts in
    record {
      halfway = subst (λ l. IsHalfway c.args.names.now (map header_of c.args.headers.now) (map assignment_of c.args.assignments.now) (sources_of c.args.roots.items) l (sources_of c.written_of.new.parts.items) (c.loop-number.number + 1)) (sym (ap types_of c.in_ok-push-in-Ok.ensures.items ∙ map-append type_of c.loop-number.types.items (c.in-Ok.written ∷ []))) step;
      queue = subst (λ l. IsQueue (syntaxes c.args.roots.items) l (syntaxes c.written_of.new.parts.items)) (sym c.in_ok-push-in-Ok.ensures.items)
          (queue_step (syntaxes c.args.roots.items) c.loop-number.types.items c.in-Ok.written c.in-Some.source.syntax (syntaxes rest) (syntaxes c.written_of.new.parts.items)
          (subst (λ l. IsQueue (syntaxes c.args.roots.items) c.loop-number.types.items (syntaxes l)) c.in-Some.ensures.items c.loop-number.invariant.queue) c.in-Ok.ensures.text c.in-Ok.ensures.written);
      count = omega (arith, ap length c.in_ok-push-in-Ok.ensures.items, length-append c.loop-number.types.items (c.in-Ok.written ∷ []), c.loop-number.invariant.count);
      few = c.in-Ok.ensures.few;
    }

pub returns-in-Err-clause-first : goal.returns-in-Err-clause-first
returns-in-Err-clause-first c =
    let rest = c.pop_front.new.self.items in
    let h = subst (λ l. IsHalfway c.args.names.now (map header_of c.args.headers.now) (map assignment_of c.args.assignments.now) (sources_of c.args.roots.items) (types_of c.loop-number.types.items) (sources_of l) c.loop-number.number) c.in-Some.ensures.items c.loop-number.invariant.halfway in
    halfway_first c.args.names.now (map header_of c.args.headers.now) (map assignment_of c.args.assignments.now) (sources_of c.args.roots.items) (types_of c.loop-number.types.items) (source_of c.in-Some.source) (sources_of rest) c.loop-number.number c.in-Err.fault h (omega (arith, c.loop-number.invariant.few, ap length c.in-Some.ensures.items, length-map rest source_of))
    (subst (λ n. IsSourceFault c.args.names.now (map header_of c.args.headers.now) (map assignment_of c.args.assignments.now) c.loop-number.number (c.loop-number.number + 1 + n) (source_of c.in-Some.source) c.in-Err.fault) (sym (length-map rest source_of)) c.in-Err.ensures.fault) (syntaxes c.args.roots.items) c.loop-number.types.items c.in-Some.source.syntax (syntaxes rest)
    (subst (λ l. IsQueue (syntaxes c.args.roots.items) c.loop-number.types.items (syntaxes l)) c.in-Some.ensures.items c.loop-number.invariant.queue) c.loop-number.invariant.count refl c.in-Err.ensures.at
