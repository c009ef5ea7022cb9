-- Faults that are `Memory`, which says nothing, and others.
use Rattle.std.proofs.Common.{◌≡◌, ◌⊎◌, inl, inr, refl}
use Rattle.names.specs.declared.fault.NameFault.{NameFault}
use Rattle.names.specs.declared.fault.NameFault.TheVariants as faults
use Rattle.names.specs.Faults.{ReportsAlike}

-- whether a fault is `Memory`
pub known : (e : NameFault) → (e ≡ faults.Memory) ⊎ (e ≡ faults.Memory → ⊥)
known faults.Memory = inl refl
known (faults.Limit l s) = inr (λ h. cc)
known (faults.Twice s) = inr (λ h. cc)
known (faults.UnknownName s) = inr (λ h. cc)
known (faults.NotExported s) = inr (λ h. cc)
known (faults.Circular s) = inr (λ h. cc)
known (faults.UnknownModule s) = inr (λ h. cc)

-- `Memory` says the same as any fault
pub with_memory : (e : NameFault) → ReportsAlike e faults.Memory
with_memory faults.Memory = tt
with_memory (faults.Limit l s) = tt
with_memory (faults.Twice s) = tt
with_memory (faults.UnknownName s) = tt
with_memory (faults.NotExported s) = tt
with_memory (faults.Circular s) = tt
with_memory (faults.UnknownModule s) = tt
