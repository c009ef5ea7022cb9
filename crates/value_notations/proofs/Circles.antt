-- References that come back to themselves, and those that are lost, have no end.
use Rattle.std.proofs.Common.{ℕ, List, sym, subst, Option}
use Rattle.trees.specs.Values.{Name, Tree, reference}
use Rattle.names.specs.declared.scope.Assigned.TheVariants as assigned
use Rattle.names.specs.Modules.{OccursIn}
use Rattle.names.specs.Names.{Refers, IsApart}
use Rattle.type_table.specs.Table.{WrittenKind}
use Rattle.resolve.specs.Program.{Program}
use Rattle.range_ends.specs.Ends.{IsValueAt}
use Rattle.value_notations.specs.References.{IsNamed, IsLast}
use Rattle.value_notations.specs.References as last
use Rattle.value_notations.specs.Wrong.{OpenedPath, HasNoMeaning, IsCircularName}
use Rattle.value_notations.specs.Wrong as wrong
use Rattle.value_notations.specs.proving.Following.{one_value_meant, one_module, moved}

-- what references lead to has the same end
leads_last : {p : Program} {k : WrittenKind} {os ps qs : List ℕ} {M N K : Name} {n m l : Tree}
    → IsApart p.modules
    → OpenedPath p k os M n qs N m
    → IsLast p k os M n ps K l
    → IsLast p k qs N m ps K l
leads_last apart wrong.there d = d
leads_last apart (wrong.onward i none r f a h) (last.own o) = absurd (none o)
leads_last {p} {M = M} apart (wrong.onward {N = O} {q = q} {x = x} {m = u} i none r f a h) (last.referred {N = L} {m = w} j without s g b d) =
    let same = one_value_meant p.modules M q x i j apart r s in
    let at = one_module p i O L u w a (subst (λ (z : ℕ). IsValueAt p z L w) (sym same) b) in
    leads_last apart h (moved i j same at.0 at.1 d)

dead : {p : Program} {k : WrittenKind} {os ps : List ℕ} {M K : Name} {q : Option Name} {x : Name} {l : Tree}
    → (IsNamed k q x → ⊥)
    → ((i : ℕ) → Refers p.modules M q x (assigned.Value i) → ⊥)
    → IsLast p k os M (reference q x) ps K l
    → ⊥
dead none no_value (last.own o) = none o
dead none no_value (last.referred i without r f a d) = no_value i r

pub lost_without_end : {p : Program} {k : WrittenKind} {os ps : List ℕ} {M K : Name} {n l : Tree} {q : Option Name} {x : Name}
    → IsApart p.modules
    → HasNoMeaning p k os M n q x
    → IsLast p k os M n ps K l
    → ⊥
lost_without_end apart s d = dead s.none s.no_value (leads_last apart s.chain d)

met : {p : Program} {k : WrittenKind} {os ps : List ℕ} {M K : Name} {q : Option Name} {x : Name} {l : Tree} (i : ℕ)
    → IsApart p.modules
    → (IsNamed k q x → ⊥)
    → Refers p.modules M q x (assigned.Value i)
    → OccursIn os i
    → IsLast p k os M (reference q x) ps K l
    → ⊥
met i apart none r again (last.own o) = none o
met {p} {os = os} {M = M} {q = q} {x = x} i apart none r again (last.referred j without s f a d) =
    f (subst (λ (z : ℕ). OccursIn os z) (one_value_meant p.modules M q x i j apart r s) again)

pub round_without_end : {p : Program} {k : WrittenKind} {os ps : List ℕ} {M K : Name} {n l : Tree} {i : ℕ}
    → IsApart p.modules
    → IsCircularName p k os M n i
    → IsLast p k os M n ps K l
    → ⊥
round_without_end {i = i} apart c d = met i apart c.none c.refers c.again (leads_last apart c.chain d)
