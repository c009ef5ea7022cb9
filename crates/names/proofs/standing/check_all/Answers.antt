use Rattle.std.proofs.Common.{arith, ◌≡◌, ◌⊎◌, length, subst, string_bytes}
use Rattle.trees.specs.Values.{Name}
use Rattle.names.specs.proving.Standing.{ExportAssigned, ImportOffered, IsExportFault, IsImportsFault}
use Rattle.names.specs.First.{IsFirstOf}
use Rattle.names.specs.Names.{Module}
use Rattle.names.specs.Scopes.{module_of, scopes, spots_of}
use Rattle.names.specs.proving.Distinct.{each_more}
use Rattle.names.proofs.Standings.{all_checked, module_spots, seen_long}
use Rattle.names.proofs.standing.check_all.Goals as goal

pub loop-i-preserved : goal.loop-i-preserved
loop-i-preserved c =
    let ss = scopes c.args.modules.now.entries in
    each_more ss (λ (m : Name × Module). ExportAssigned m.1 × ImportOffered ss m.1.imports) c.loop-i.i (string_bytes c.module_at.result.0.now, module_of c.module_at.result.1.now) c.module_at.ensures.seen c.loop-i.invariant (c.in-Ok.ensures.exports, c.in-Ok.ensures.imports)

pub returns-in-Err-clause-fault : goal.returns-in-Err-clause-fault
returns-in-Err-clause-fault c =
    let ss = scopes c.args.modules.now.entries in
    let m = module_of c.module_at.result.1.now in
    let f = subst (λ z. IsExportFault z m c.in-Err.fault ⊎ IsImportsFault ss z m.imports c.in-Err.fault) c.as_str.ensures.value c.in-Err.ensures.fault in
    (string_bytes c.module_at.result.0.now, m, (c.loop-i.i, c.module_at.ensures.seen), f)

pub returns-clause-ok : goal.returns-clause-ok
returns-clause-ok c = λ M m s.
    let n : c.loop-i.i ≡ length (scopes c.args.modules.now.entries) = omega (arith, seen_long module_of c.args.modules.now.entries) in
    all_checked (scopes c.args.modules.now.entries) (λ (m : Name × Module). ExportAssigned m.1 × ImportOffered (scopes c.args.modules.now.entries) m.1.imports) c.loop-i.i n c.loop-i.invariant (M, m) s

pub returns-in-Err-clause-first : goal.returns-in-Err-clause-first
returns-in-Err-clause-first c =
    let ss = scopes c.args.modules.now.entries in
    let m = c.module_at.result.1.now in
    record {
      number = c.loop-i.i;
      name = string_bytes c.module_at.result.0.now;
      scope = module_of m;
      spots = spots_of m;
      there = c.module_at.ensures.seen;
      written = module_spots c.args.modules.now.entries c.loop-i.i c.module_at.result.0.now m c.module_at.ensures.entry;
      fault = subst (λ z. IsFirstOf ss z (module_of m) (spots_of m) c.in-Err.fault) c.as_str.ensures.value c.in-Err.ensures.first;
      before = c.loop-i.invariant;
    }
