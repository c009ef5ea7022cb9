use Rattle.std.proofs.Common.{◌<◌, ◌≡◌, inl, length, refl, sym, subst, arith}
use Rattle.std.proofs.lemmas.List.{length-map}
use Rattle.std.proofs.lemmas.Option.{slice_get_read}
use Rattle.trees.specs.Values.{name_at}
use Rattle.names.specs.Sources.{source_of, sources_of}
use Rattle.names.specs.proving.Distinct.{occurs_map, at_all}
use Rattle.resolve.proofs.Ready.{more_roots}
use Rattle.names.specs.proving.Rows.{assignment_at, header_at}
use Rattle.resolve.proofs.Firsts.{many_first, sound_first}
use Rattle.std.proofs.lemmas.Result.{IfOk-weaker}
use Rattle.resolve.specs.Program.{WrittenProgram}
use Rattle.resolve.specs.proving.Assembled.{IsAssembled}
use Rattle.resolve.proofs.linking.assemble.Goals as goal

pub index-assignment-requires : goal.index-assignment-requires
index-assignment-requires c =
    let g = c.args.gathered in
    let s = c.index-source.result.now in
    let inside : 65536 < length g.tables.roots.items = omega arith in
    let there = occurs_map source_of g.tables.roots.items 65536 s (slice_get_read g.tables.roots.items (length g.tables.roots.items) 65536 s refl inside c.index-source.ensures) in
    let within = at_all (λ r. r.assignment < length g.tables.assignments.items) (sources_of g.tables.roots.items) 65536 (source_of s) c.requires.ready.assigned there in
    omega (arith, within)

pub index-header-requires : goal.index-header-requires
index-header-requires c =
    let g = c.args.gathered in
    let s = c.index-source.result.now in
    let a = c.index-assignment.result.now in
    let inside : 65536 < length g.tables.roots.items = omega arith in
    let there = occurs_map source_of g.tables.roots.items 65536 s (slice_get_read g.tables.roots.items (length g.tables.roots.items) 65536 s refl inside c.index-source.ensures) in
    let within : s.assignment < length g.tables.assignments.items = at_all (λ r. r.assignment < length g.tables.assignments.items) (sources_of g.tables.roots.items) 65536 (source_of s) c.requires.ready.assigned there in
    let placed = c.requires.ready.placed s.assignment a (slice_get_read g.tables.assignments.items (length g.tables.assignments.items) s.assignment a refl within c.index-assignment.ensures) in
    omega (arith, placed)

pub returns-then-len-gt-MAX_WRITTEN-clause-fault : goal.returns-then-len-gt-MAX_WRITTEN-clause-fault
returns-then-len-gt-MAX_WRITTEN-clause-fault c =
    let g = c.args.gathered in
    let s = c.index-source.result.now in
    let a = c.index-assignment.result.now in
    let h = c.index-header.result.now in
    let inside : 65536 < length g.tables.roots.items = omega arith in
    let there = occurs_map source_of g.tables.roots.items 65536 s (slice_get_read g.tables.roots.items (length g.tables.roots.items) 65536 s refl inside c.index-source.ensures) in
    let within : s.assignment < length g.tables.assignments.items = at_all (λ r. r.assignment < length g.tables.assignments.items) (sources_of g.tables.roots.items) 65536 (source_of s) c.requires.ready.assigned there in
    let placed = c.requires.ready.placed s.assignment a (slice_get_read g.tables.assignments.items (length g.tables.assignments.items) s.assignment a refl within c.index-assignment.ensures) in
    inl (more_roots g (source_of s) a.module (name_at h.name) (name_at a.name) h.default c.too_many.result there
    (assignment_at g.tables.assignments.items s.assignment a within c.index-assignment.ensures) (header_at g.headers.items a.module h placed c.index-header.ensures) c.too_many.ensures.limit)

pub returns-in-Err-sound-clause-first : goal.returns-in-Err-sound-clause-first
returns-in-Err-sound-clause-first c = λ ws h v n f.
    sound_first ws c.args.gathered v c.in-Ok.linked c.in-Err-sound.fault h n f c.in-Ok.ensures.program c.in-Ok.ensures.few c.in-Ok.ensures.unfolds c.in-Ok.ensures.text c.in-Err-sound.ensures.first

pub returns-then-len-gt-MAX_WRITTEN-clause-first : goal.returns-then-len-gt-MAX_WRITTEN-clause-first
returns-then-len-gt-MAX_WRITTEN-clause-first c = λ ws made v n f.
    let g = c.args.gathered in
    let s = c.index-source.result.now in
    let a = c.index-assignment.result.now in
    let h = c.index-header.result.now in
    let inside : 65536 < length g.tables.roots.items = omega arith in
    let there = occurs_map source_of g.tables.roots.items 65536 s (slice_get_read g.tables.roots.items (length g.tables.roots.items) 65536 s refl inside c.index-source.ensures) in
    let within : s.assignment < length g.tables.assignments.items = at_all (λ r. r.assignment < length g.tables.assignments.items) (sources_of g.tables.roots.items) 65536 (source_of s) c.requires.ready.assigned there in
    let placed = c.requires.ready.placed s.assignment a (slice_get_read g.tables.assignments.items (length g.tables.assignments.items) s.assignment a refl within c.index-assignment.ensures) in
    let limit = more_roots g (source_of s) a.module (name_at h.name) (name_at a.name) h.default c.too_many.result there
    (assignment_at g.tables.assignments.items s.assignment a within c.index-assignment.ensures) (header_at g.headers.items a.module h placed c.index-header.ensures) c.too_many.ensures.limit in
    many_first ws g v (name_at h.name) (name_at a.name) s c.too_many.result made n f (omega (arith, inside, length-map g.tables.roots.items source_of))
    (slice_get_read g.tables.roots.items (length g.tables.roots.items) 65536 s refl inside c.index-source.ensures) c.too_many.ensures.at c.too_many.ensures.limit limit

pub returns-in-Ok-sound-clause-assembled : goal.returns-in-Ok-sound-clause-assembled
returns-in-Ok-sound-clause-assembled c =
    let all : IsAssembled c.args.gathered c.in-Ok.linked.program = record {
      program = c.in-Ok.ensures.program;
      few = c.in-Ok.ensures.few;
      unfolds = c.in-Ok.ensures.unfolds;
      sound = c.in-Ok-sound.ensures.ok;
    } in
    IfOk-weaker c.indexed.result (λ p. p ≡ c.in-Ok.linked) (λ p. IsAssembled c.args.gathered p.program)
    (λ p e. subst (λ (q : WrittenProgram). IsAssembled c.args.gathered q.program) (sym e) all) c.indexed.ensures.same
