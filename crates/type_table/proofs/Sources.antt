-- The source with a number.
use Rattle.std.proofs.Common.{◌≡◌, ℕ, ◌<◌, ◌+◌, List, length, Some, sym, subst, ap, ◌∙◌}
use Rattle.std.specs.Prelude.{slice_get}
use Rattle.trees.specs.Values.{Name}
use Rattle.trees.specs.declared.module.TagDefault.{TagDefault}
use Rattle.names.specs.declared.fault.NameFault.{NameFault}
use Rattle.names.specs.declared.fault.NameFault.TheVariants as faults
use Rattle.names.specs.declared.fault.Limit.TheVariants as limits
use Rattle.names.specs.Names.{Module}
use Rattle.names.specs.Sources.{Source}
use Rattle.type_table.specs.Numbering.{type_form, RefersToNothing, parts_of}
use Rattle.type_table.specs.proving.Checks.{IsUnknown, IsTypesLimit, IsSourceFault}
use Rattle.names.specs.Faults.{fault_name}

pub unknown_source : (ms : List (Name × Module)) (hs : List (Name × TagDefault)) (gs : List (ℕ × Name)) (i n : ℕ)
    (s : Source) (M : Name) (d : TagDefault) (owner : ℕ) (x : Name) (e : NameFault) →
    slice_get gs s.assignment ≡ Some (owner, x) → slice_get hs owner ≡ Some (M, d) → IsUnknown ms M (type_form s.tree) e → IsSourceFault ms hs gs i n s e
unknown_source ms hs gs i n s M d owner x faults.Memory g h u = tt
unknown_source ms hs gs i n s M d owner x (faults.UnknownName t) g h u =
    (owner, x, d, g, h ∙ ap (λ z. Some (z, d)) (sym u.0), subst (λ z. RefersToNothing ms z (type_form s.tree) (fault_name t)) (sym u.0) u.1)
unknown_source ms hs gs i n s M d owner x (faults.Limit l t) g h u = absurd u
unknown_source ms hs gs i n s M d owner x (faults.Twice t) g h u = absurd u
unknown_source ms hs gs i n s M d owner x (faults.NotExported t) g h u = absurd u
unknown_source ms hs gs i n s M d owner x (faults.Circular t) g h u = absurd u
unknown_source ms hs gs i n s M d owner x (faults.UnknownModule t) g h u = absurd u

-- a type with too many parts is in the assignment that the fault gives
pub limit_source : (ms : List (Name × Module)) (hs : List (Name × TagDefault)) (gs : List (ℕ × Name)) (i n : ℕ)
    (s : Source) (M : Name) (d : TagDefault) (owner : ℕ) (x : Name) (e : NameFault) →
    slice_get gs s.assignment ≡ Some (owner, x) → slice_get hs owner ≡ Some (M, d) → 65536 < n + length (parts_of s.assignment i s.tree) → IsTypesLimit M x e → IsSourceFault ms hs gs i n s e
limit_source ms hs gs i n s M d owner x faults.Memory g h l u = tt
limit_source ms hs gs i n s M d owner x (faults.Limit limits.Types t) g h l u =
    (owner, d, g ∙ ap (λ z. Some (owner, z)) (sym u.1), h ∙ ap (λ z. Some (z, d)) (sym u.0), l)
limit_source ms hs gs i n s M d owner x (faults.Limit limits.Modules t) g h l u = absurd u
limit_source ms hs gs i n s M d owner x (faults.Limit limits.Values t) g h l u = absurd u
limit_source ms hs gs i n s M d owner x (faults.Limit limits.Members t) g h l u = absurd u
limit_source ms hs gs i n s M d owner x (faults.Limit limits.Items t) g h l u = absurd u
limit_source ms hs gs i n s M d owner x (faults.Limit limits.NamedBit t) g h l u = absurd u
limit_source ms hs gs i n s M d owner x (faults.Limit limits.Integer t) g h l u = absurd u
limit_source ms hs gs i n s M d owner x (faults.Twice t) g h l u = absurd u
limit_source ms hs gs i n s M d owner x (faults.UnknownName t) g h l u = absurd u
limit_source ms hs gs i n s M d owner x (faults.NotExported t) g h l u = absurd u
limit_source ms hs gs i n s M d owner x (faults.Circular t) g h l u = absurd u
limit_source ms hs gs i n s M d owner x (faults.UnknownModule t) g h l u = absurd u
