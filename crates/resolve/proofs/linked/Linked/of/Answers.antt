use Rattle.std.proofs.Common.{arith, ◌≡◌, ◌<◌, length, drop, map, replicate, sym, subst, ap, ◌∙◌}
use Rattle.std.specs.Prelude.{slice_get}
use Rattle.names.specs.Sources.{header_of, assignment_of, value_seen}
use Rattle.type_table.specs.Seen.{types_of, type_of}
use Rattle.type_table.specs.Table.{IsCircular, IsClosed}
use Rattle.type_table.specs.proving.Cores.{AreCores}
use Rattle.type_table.specs.proving.Notes.{AreUnknown}
use Rattle.type_table.specs.proving.Tables.{type_at, all_unfold, none_known, written_back}
use Rattle.resolve.specs.Program.{IsWhole}
use Rattle.resolve.proofs.Assembling.{circular_fault, closed, table_of, typed, whole}
use Rattle.std.proofs.lemmas.Option.{slice_get_read}
use Rattle.type_table.specs.Faults.{IsFirstCircle}
use Rattle.resolve.proofs.Orders.{no_indexes}
use Rattle.resolve.proofs.Firsts.{circular_first, numbering_first}
use Rattle.std.proofs.Common.{refl}
use Rattle.resolve.proofs.linked.Linked.of.Goals as goal

pub unfold_all-requires-clause-closed : goal.unfold_all-requires-clause-closed
unfold_all-requires-clause-closed c =
    subst (λ l. IsClosed (types_of l)) (sym c.deref-3.ensures.value) (closed (record { roots = c.lemma_numbered_there.ensures.roots; stand = c.lemma_numbered_there.ensures.assigned; closed = c.lemma_numbered_linked.ensures.closed; linked = c.lemma_numbered_linked.ensures.linked }) c.args.gathered c.requires.ready (types_of c.in-Ok.types.items) (table_of c.args.gathered c.of-names.result c.deref.result.now c.deref-2.result.now (types_of c.in-Ok.types.items) c.of-names.ensures c.deref.ensures.value c.deref-2.ensures.value c.in-Ok.ensures.ok))

pub unfold_all-requires-clause-unknown : goal.unfold_all-requires-clause-unknown
unfold_all-requires-clause-unknown c =
    let marks : c.deref_mut.result.now ≡ replicate c.len-count.result c.len-count.result = c.deref_mut.ensures.value ∙ c.in_ok-cores.ensures.items_if_clones_equal (λ y h. h) in
    let many : c.len-count.result ≡ length c.deref-3.result.now = omega (arith, c.len-count.ensures, c.in-Ok.types.ok.0, ap length c.deref-3.ensures.value) in
    subst (λ n. AreUnknown n c.deref_mut.result.now) many (subst (λ z. AreUnknown c.len-count.result z) (sym marks) (none_known c.len-count.result c.len-count.result))

pub invariant_of-result : goal.invariant_of-result
invariant_of-result c =
    let ts = types_of c.in-Ok.types.items in
    let cores = subst (λ l. AreCores (types_of l) c.unfold_all.new.cores) c.deref-3.ensures.value c.in-Ok-unfold_all.ensures.cores in
    let many : c.in_ok-cores.cores.len ≡ length c.unfold_all.new.cores = omega (arith, c.in_ok-cores.cores.ok.0, c.unfold_all.auto.cores, ap length c.deref_mut.ensures.value) in
    let back = written_back c.in_ok-cores.cores.len c.unfold_all.new.cores (drop (length c.unfold_all.new.cores) c.in_ok-cores.cores.items) many in (
      subst (λ n. IsWhole (record { modules = n; headers = map header_of c.args.gathered.headers.items; assignments = map assignment_of c.args.gathered.tables.assignments.items; types = ts; values = map value_seen c.args.gathered.tables.values.items })) (sym c.of-names.ensures)
          (whole (record { roots = c.lemma_numbered_there.ensures.roots; stand = c.lemma_numbered_there.ensures.assigned; closed = c.lemma_numbered_linked.ensures.closed; linked = c.lemma_numbered_linked.ensures.linked }) c.args.gathered c.requires.ready (types_of c.in-Ok.types.items) (table_of c.args.gathered c.of-names.result c.deref.result.now c.deref-2.result.now (types_of c.in-Ok.types.items) c.of-names.ensures c.deref.ensures.value c.deref-2.ensures.value c.in-Ok.ensures.ok) (all_unfold ts c.unfold_all.new.cores cores)),
      subst (λ l. AreCores ts l) (sym back) cores,
      no_indexes c.in-Ok.types.items _ c.new.ensures.items,
    )

pub circular_at-requires-clause-assigned : goal.circular_at-requires-clause-assigned
circular_at-requires-clause-assigned c =
    let inside : c.in-Err-unfold_all.circular < length c.in-Ok.types.items = subst (λ l. c.in-Err-unfold_all.circular < length l) c.deref-3.ensures.value c.in-Err-unfold_all.ensures.cores.0 in
    let t = typed (record { roots = c.lemma_numbered_there.ensures.roots; stand = c.lemma_numbered_there.ensures.assigned; closed = c.lemma_numbered_linked.ensures.closed; linked = c.lemma_numbered_linked.ensures.linked }) c.args.gathered c.requires.ready (types_of c.in-Ok.types.items) (table_of c.args.gathered c.of-names.result c.deref.result.now c.deref-2.result.now (types_of c.in-Ok.types.items) c.of-names.ensures c.deref.ensures.value c.deref-2.ensures.value c.in-Ok.ensures.ok) c.in-Err-unfold_all.circular (type_of c.index.result.now) (type_at c.in-Ok.types.items c.in-Err-unfold_all.circular c.index.result.now inside c.index.ensures) in
    omega (arith, t, ap length c.deref-in-Err-unfold_all-2.ensures.value)

pub circular_at-requires-clause-placed : goal.circular_at-requires-clause-placed
circular_at-requires-clause-placed c = λ k a e.
    let h = c.requires.ready.placed k a (ap (λ l. slice_get l k) (sym c.deref-in-Err-unfold_all-2.ensures.value) ∙ e) in
    omega (arith, h, ap length c.deref-in-Err-unfold_all.ensures.value)

pub returns-in-Err-unfold_all-clause-fault : goal.returns-in-Err-unfold_all-clause-fault
returns-in-Err-unfold_all-clause-fault c =
    let inside : c.in-Err-unfold_all.circular < length c.in-Ok.types.items = subst (λ l. c.in-Err-unfold_all.circular < length l) c.deref-3.ensures.value c.in-Err-unfold_all.ensures.cores.0 in
    circular_fault c.args.gathered c.deref-in-Err-unfold_all.result.now c.deref-in-Err-unfold_all-2.result.now (types_of c.in-Ok.types.items) c.in-Err-unfold_all.circular (type_of c.index.result.now) c.circular_at.result
    c.deref-in-Err-unfold_all.ensures.value c.deref-in-Err-unfold_all-2.ensures.value (table_of c.args.gathered c.of-names.result c.deref.result.now c.deref-2.result.now (types_of c.in-Ok.types.items) c.of-names.ensures c.deref.ensures.value c.deref-2.ensures.value c.in-Ok.ensures.ok) (type_at c.in-Ok.types.items c.in-Err-unfold_all.circular c.index.result.now inside c.index.ensures)
    (subst (λ l. IsCircular (types_of l) c.in-Err-unfold_all.circular) c.deref-3.ensures.value c.in-Err-unfold_all.ensures.cores.1) c.circular_at.ensures.fault

pub returns-in-Err-unfold_all-clause-first : goal.returns-in-Err-unfold_all-clause-first
returns-in-Err-unfold_all-clause-first c = λ modules h v n f.
    let ws = c.in-Ok.types.items in
    let i = c.in-Err-unfold_all.circular in
    let inside : i < length ws = subst (λ l. i < length l) c.deref-3.ensures.value c.in-Err-unfold_all.ensures.cores.0 in
    let all = table_of c.args.gathered c.of-names.result c.deref.result.now c.deref-2.result.now (types_of ws) c.of-names.ensures c.deref.ensures.value c.deref-2.ensures.value c.in-Ok.ensures.ok in
    circular_first modules c.args.gathered v c.deref-in-Err-unfold_all.result.now c.deref-in-Err-unfold_all-2.result.now ws i c.index.result.now c.circular_at.result h n f c.in-Ok.ensures.few
    c.deref-in-Err-unfold_all.ensures.value c.deref-in-Err-unfold_all-2.ensures.value all c.in-Ok.ensures.written (slice_get_read ws (length ws) i c.index.result.now refl inside c.index.ensures)
    (subst (λ l. IsFirstCircle (types_of l) i) c.deref-3.ensures.value c.in-Err-unfold_all.ensures.first) c.circular_at.ensures.fault c.circular_at.ensures.at

pub returns-in-Err-clause-first : goal.returns-in-Err-clause-first
returns-in-Err-clause-first c = λ ws h v n f.
    numbering_first ws c.args.gathered v c.of-names.result c.deref.result.now c.deref-2.result.now c.in-Err.fault h n f c.requires.few c.of-names.ensures c.deref.ensures.value c.deref-2.ensures.value c.in-Err.ensures.first

pub returns-in-Ok-unfold_all-clause-unfolds : goal.returns-in-Ok-unfold_all-clause-unfolds
returns-in-Ok-unfold_all-clause-unfolds c =
    let ts = types_of c.in-Ok.types.items in
    all_unfold ts c.unfold_all.new.cores (subst (λ l. AreCores (types_of l) c.unfold_all.new.cores) c.deref-3.ensures.value c.in-Ok-unfold_all.ensures.cores)

pub returns-in-Ok-unfold_all-clause-text : goal.returns-in-Ok-unfold_all-clause-text
returns-in-Ok-unfold_all-clause-text c = record {
  same = record { types = refl; values = refl };
  types = c.in-Ok.ensures.written;
  values = refl;
  assigned = refl;
  names = refl;
}
