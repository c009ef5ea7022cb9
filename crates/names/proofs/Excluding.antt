-- Faults that exclude what is linked.
use Rattle.std.proofs.Common.{◌≡◌, inl, inr, List, Some, map, sym, subst, ap, ◌∙◌, arith}
use Rattle.std.specs.Prelude.{slice_get}
use Rattle.std.proofs.lemmas.Bool.{cases_order}
use Rattle.std.proofs.lemmas.Option.{same_Some, slice_get_within}
use Rattle.trees.specs.Modules.{ModuleTree}
use Rattle.names.specs.declared.fault.NameFault.{NameFault}
use Rattle.names.specs.declared.fault.NameFault.TheVariants as faults
use Rattle.names.specs.declared.fault.Limit.TheVariants as limits
use Rattle.names.specs.Faults.{IsNamesFault, fault_module, fault_name}
use Rattle.names.specs.Modules.{OccursIn, AreDifferent, assigned_names, type_count, value_count, IsExported, AreNamed, AreFew}
use Rattle.names.proofs.After.{types_count, values_count}
use Rattle.names.proofs.Counting.{past_more}
use Rattle.names.specs.proving.Distinct.{occurs_map}

-- two modules of one name are one module
one_module : (ms : List ModuleTree) (a b : ModuleTree) → AreDifferent (map (λ m. m.name) ms) → OccursIn ms a →
    OccursIn ms b → a.name ≡ b.name → a ≡ b
one_module ms a b d s t e =
    let x = occurs_map (λ (m : ModuleTree). m.name) ms s.0 a s.1 in
    let y = occurs_map (λ (m : ModuleTree). m.name) ms t.0 b t.1 ∙ ap Some (sym e) in
    elim (cases_order s.0 t.0) [
      | inl q ↦ same_Some a b (sym s.1 ∙ ap (λ k. slice_get ms k) q ∙ t.1)
      | inr r ↦ elim r [
        | inl l ↦ absurd (d a.name (record { first = s.0; second = t.0; apart = l; here = x; there = y }))
        | inr l ↦ absurd (d a.name (record { first = t.0; second = s.0; apart = l; here = y; there = x }))
      ]
    ]

pub names_exclude : (ms : List ModuleTree) (e : NameFault) → IsNamesFault ms e → AreNamed ms → AreFew ms → ⊥
names_exclude ms faults.Memory f n w = f
names_exclude ms (faults.Twice s) f n w = elim f [ inl t ↦ n.modules (fault_name s) t.1 | inr r ↦ n.names r.tree (r.number, r.there) (fault_name s) r.twice ]
names_exclude ms (faults.UnknownName s) f n w =
    elim f [
      | inl r ↦ r.unassigned (n.exports r.tree r.names (fault_name s) r.there r.list r.listed)
      | inr r ↦ (let o = n.imports r.tree r.other.name (fault_name s) r.there r.imports in
          r.such (subst (λ t. OccursIn (assigned_names t) (fault_name s)) (one_module ms o.tree r.other n.modules o.there r.given o.named) o.assigns))
    ]
names_exclude ms (faults.NotExported s) f n w =
    let o = n.imports f.tree f.other.name (fault_name s) f.there f.imports in
    f.such.1 (subst (λ (t : ModuleTree). IsExported t.exports (fault_name s)) (one_module ms o.tree f.other n.modules o.there f.given o.named) o.exported)
names_exclude ms (faults.UnknownModule s) f n w =
    let o = n.imports f.tree (fault_name s) f.name f.there f.imports in
    f.nowhere (o.there.0, occurs_map (λ (m : ModuleTree). m.name) ms o.there.0 o.tree o.there.1 ∙ ap Some o.named)
names_exclude ms (faults.Circular s) f n w = f
names_exclude ms (faults.Limit limits.Modules s) f n w = let a = w.modules in let b = slice_get_within ms 256 f.tree f.there in absurd (omega (arith, a, b))
names_exclude ms (faults.Limit limits.Types s) f n w = let a = w.types in let b = past_more type_count types_count 4096 ms (fault_module s) (fault_name s) f in absurd (omega (arith, a, b))
names_exclude ms (faults.Limit limits.Values s) f n w = let a = w.values in let b = past_more value_count values_count 65536 ms (fault_module s) (fault_name s) f in absurd (omega (arith, a, b))
names_exclude ms (faults.Limit limits.Members s) f n w = f
names_exclude ms (faults.Limit limits.Items s) f n w = f
names_exclude ms (faults.Limit limits.NamedBit s) f n w = f
names_exclude ms (faults.Limit limits.Integer s) f n w = f
