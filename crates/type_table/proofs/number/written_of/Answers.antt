use Rattle.std.proofs.Common.{arith, inl, inr, ◌≡◌, ◌+◌, ◌++◌, length, length-append, map, refl, sym, subst, ap, ◌∙◌}
use Rattle.std.proofs.lemmas.Option.{slice_get_read}
use Rattle.type_table.specs.Seen.{kind_of}
use Rattle.names.specs.Sources.{header_of, assignment_of, source_of, sources_of}
use Rattle.type_table.specs.Numbering.{type_form, form_parts, IsKind}
use Rattle.type_table.specs.proving.Checks.{IsUnknown}
use Rattle.trees.specs.Values.{name_at}
use Rattle.trees.specs.Types.{type_tree_of}
use Rattle.names.specs.proving.Rows.{assignment_at, header_at}
use Rattle.std.proofs.lemmas.List.{length-map}
use Rattle.type_table.proofs.WrittenTrees.{form_is_seen, constraints_are}
use Rattle.type_table.proofs.Sources.{unknown_source, limit_source}
use Rattle.type_table.proofs.number.written_of.Goals as goal

pub bounds-headers-assignment : goal.bounds-headers-assignment
bounds-headers-assignment c =
    c.requires.placed c.args.source.assignment c.index-assignments-source.result (slice_get_read c.args.program.assignments.now (length c.args.program.assignments.now) c.args.source.assignment c.index-assignments-source.result refl c.requires.assigned c.index-assignments-source.is)

pub returns-in-Ok-clause-top : goal.returns-in-Ok-clause-top
returns-in-Ok-clause-top c =
    let here = c.requires.placed c.args.source.assignment c.index-assignments-source.result (slice_get_read c.args.program.assignments.now (length c.args.program.assignments.now) c.args.source.assignment c.index-assignments-source.result refl c.requires.assigned c.index-assignments-source.is) in
    let first : c.args.number + 1 + c.len.result ≡ c.args.number + 1 + length c.args.parts.now.items = omega arith in
    record {
      owner = c.index-assignments-source.result.module;
      assigns = name_at c.index-assignments-source.result.name;
      within = name_at c.index-headers-assignment.result.name;
      assigned = assignment_at c.args.program.assignments.now c.args.source.assignment c.index-assignments-source.result c.requires.assigned c.index-assignments-source.is;
      header = header_at c.args.program.headers.now c.index-assignments-source.result.module c.index-headers-assignment.result here c.index-headers-assignment.is;
      kind = subst (λ m. IsKind c.args.program.names.now m (c.args.number + 1 + length c.args.parts.now.items) (type_form (type_tree_of c.args.source.syntax)) (kind_of c.in-Ok.shape)) c.as_str.ensures.value (subst (λ n. IsKind c.args.program.names.now c.as_str.result.now n (type_form (type_tree_of c.args.source.syntax)) (kind_of c.in-Ok.shape)) first (subst (λ f. IsKind c.args.program.names.now c.as_str.result.now (c.args.number + 1 + c.len.result) f (kind_of c.in-Ok.shape)) (sym (form_is_seen c.args.source.syntax)) c.in-Ok.ensures.kind));
      constraints = constraints_are c.args.source.syntax;
      place = refl;
      assignment = refl;
    }

pub returns-in-Err-clause-fault : goal.returns-in-Err-clause-fault
returns-in-Err-clause-fault c =
    let here = c.requires.placed c.args.source.assignment c.index-assignments-source.result (slice_get_read c.args.program.assignments.now (length c.args.program.assignments.now) c.args.source.assignment c.index-assignments-source.result refl c.requires.assigned c.index-assignments-source.is) in
    unknown_source c.args.program.names.now (map header_of c.args.program.headers.now) (map assignment_of c.args.program.assignments.now) c.args.number (c.args.number + 1 + length c.args.parts.now.items) (source_of c.args.source) (name_at c.index-headers-assignment.result.name) c.index-headers-assignment.result.default c.index-assignments-source.result.module (name_at c.index-assignments-source.result.name) c.in-Err.fault
    (assignment_at c.args.program.assignments.now c.args.source.assignment c.index-assignments-source.result c.requires.assigned c.index-assignments-source.is)
    (header_at c.args.program.headers.now c.index-assignments-source.result.module c.index-headers-assignment.result here c.index-headers-assignment.is)
    (subst (λ m. IsUnknown c.args.program.names.now m (type_form (type_tree_of c.args.source.syntax)) c.in-Err.fault) c.as_str.ensures.value (subst (λ f. IsUnknown c.args.program.names.now c.as_str.result.now f c.in-Err.fault) (sym (form_is_seen c.args.source.syntax)) c.in-Err.ensures.fault))

pub returns-then-first-parts_count-clause-fault : goal.returns-then-first-parts_count-clause-fault
returns-then-first-parts_count-clause-fault c =
    let here = c.requires.placed c.args.source.assignment c.index-assignments-source.result (slice_get_read c.args.program.assignments.now (length c.args.program.assignments.now) c.args.source.assignment c.index-assignments-source.result refl c.requires.assigned c.index-assignments-source.is) in
    let parts = c.parts_count.ensures c.args.source.assignment c.args.number in
    limit_source c.args.program.names.now (map header_of c.args.program.headers.now) (map assignment_of c.args.program.assignments.now) c.args.number (c.args.number + 1 + length c.args.parts.now.items) (source_of c.args.source) (name_at c.index-headers-assignment.result.name) c.index-headers-assignment.result.default c.index-assignments-source.result.module (name_at c.index-assignments-source.result.name) c.too_many.result
    (assignment_at c.args.program.assignments.now c.args.source.assignment c.index-assignments-source.result c.requires.assigned c.index-assignments-source.is)
    (header_at c.args.program.headers.now c.index-assignments-source.result.module c.index-headers-assignment.result here c.index-headers-assignment.is)
    (omega (arith, parts)) c.too_many.ensures.limit

pub take_apart-requires : goal.take_apart-requires
take_apart-requires c =
    let parts = c.parts_count.ensures c.args.source.assignment c.args.number in
    let same = ap (λ f. length (form_parts c.args.source.assignment c.args.number f)) (form_is_seen c.args.source.syntax) in
    record { few = omega (arith, parts, same) }

pub returns-in-Ok-clause-parts : goal.returns-in-Ok-clause-parts
returns-in-Ok-clause-parts c =
    c.in-Ok.ensures.parts ∙ ap (λ f. sources_of c.args.parts.now.items ++ form_parts c.args.source.assignment c.args.number f) (sym (form_is_seen c.args.source.syntax))

pub returns-in-Ok-clause-few : goal.returns-in-Ok-clause-few
returns-in-Ok-clause-few c =
    let parts = c.parts_count.ensures c.args.source.assignment c.args.number in
    let inner = form_parts c.args.source.assignment c.args.number (type_form (type_tree_of c.args.source.syntax)) in
    let all = ap length c.in-Ok.ensures.parts ∙ ap (λ f. length (sources_of c.args.parts.now.items ++ form_parts c.args.source.assignment c.args.number f)) (sym (form_is_seen c.args.source.syntax)) in
    omega (arith, parts, all, length-append (sources_of c.args.parts.now.items) inner, length-map c.args.parts.now.items source_of, length-map c.take_apart.new.parts.items source_of)

pub returns-then-first-parts_count-clause-at : goal.returns-then-first-parts_count-clause-at
returns-then-first-parts_count-clause-at c = inr c.too_many.ensures.at

pub returns-in-Err-clause-at : goal.returns-in-Err-clause-at
returns-in-Err-clause-at c = inl c.in-Err.ensures.at
