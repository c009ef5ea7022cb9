-- The results of the checks of the names in one notation.
use Rattle.std.specs.Prelude.{◌≡◌, ℕ, List, length, Result, MatchResult}
use Rattle.trees.specs.Names.{reference_module, reference_name}
use Rattle.trees.specs.declared.location.Reference.{Reference}
use Rattle.trees.specs.Values.{Name}
use Rattle.names.specs.declared.fault.NameFault.{NameFault}
use Rattle.names.specs.declared.fault.NameFault.TheVariants as faults
use Rattle.names.specs.declared.scope.Assigned.TheVariants as assigned
use Rattle.names.specs.Faults.{fault_module, fault_name}
use Rattle.names.specs.Names.{Module, Refers}
use Rattle.resolve.specs.Program.{Program}
use Rattle.resolve.specs.First.{IsFirstUnknown}
use Rattle.resolve.specs.Qualified.{after_module, MeanValues}

-- the written name, if it is after a module's name
abbrev pub named : Reference → List (Name × Name)
named r = after_module (reference_module r) (reference_name r)

-- the written name is that of a value in module M
abbrev pub MeansValue : Program → Name → Reference → Type 0
MeansValue p M r =
    (i : ℕ) × Refers p.modules M (reference_module r) (reference_name r) (assigned.Value i)

-- `Memory`; or `UnknownName` for the first of these names after modules' names that isn't that of a value in module M.
-- The offsets of these names are ps.
abbrev pub IsUnknownIn : List (Name × Module) → Name → List (Name × Name) → List ℕ → NameFault → Type 0
IsUnknownIn ms M rs ps faults.Memory = Unit {0}
IsUnknownIn ms M rs ps (faults.UnknownName s) =
    (fault_module s ≡ M) × IsFirstUnknown ms M rs ps (fault_name s) s.at
IsUnknownIn ms M rs ps e = ⊥

-- the names mean values, and there are as many offsets as names
pub record AllMean (ms : List (Name × Module)) (M : Name) (rs : List (Name × Name)) (ps : List ℕ) : Type 0 where
  pub mean : MeanValues ms M rs
  pub long : length ps ≡ length rs

-- the results of a check of these names, which have these offsets
abbrev pub Answers : Program → Name → List (Name × Name) → List ℕ → Result (Unit {0}) NameFault → Type 0
Answers p M rs ps r = MatchResult r (λ _. AllMean p.modules M rs ps) (IsUnknownIn p.modules M rs ps)
