-- Why the texts of `later` give no answer.
use Rattle.std.proofs.Common.{◌≡◌, ◌⊎◌, inl, inr, ℕ, List}
use Rattle.std.specs.Prelude.{String}
use Rattle.std.specs.declared.alloc.Global.{Global}
use Rattle.resolve.specs.Program.{Program}
use Rattle.asnc.specs.front_end.Accepted.{AreAccepted}
use Rattle.asnc.specs.Versions.{IsNotCompared}
use Rattle.asnc.specs.messages.declared.fault.Fault.{Fault}
use Rattle.asnc.specs.messages.declared.fault.Fault.TheVariants as faults
use Rattle.asnc.specs.named_values.Named.{TypeNamed}
use Rattle.jobs.specs.Refusals.{IsNoAnswer, LacksType}

-- a name without a type is a fault of accepted texts
pub without_type : (older newer : List (List ℕ)) (name : List ℕ) (p q : Program) (e : Fault) → AreAccepted older p →
    AreAccepted newer q → LacksType p q name e → IsNoAnswer older newer name e
without_type older newer name p q faults.Memory a b h = tt
without_type older newer name p q (faults.NoType x) a b h =
    record { program = p; accepted = a; newer_program = q; newer_accepted = b; lacks = h }
without_type older newer name p q (faults.NoNewerType x) a b h =
    record { program = p; accepted = a; newer_program = q; newer_accepted = b; lacks = h }
without_type older newer name p q (faults.Newer f) a b h = absurd h
without_type older newer name p q (faults.Front f) a b h = absurd h
without_type older newer name p q (faults.NoValue x) a b h = absurd h
without_type older newer name p q (faults.DecodeError u) a b h = absurd h
without_type older newer name p q (faults.BadWords x) a b h = absurd h
without_type older newer name p q (faults.Help x) a b h = absurd h
without_type older newer name p q (faults.File x) a b h = absurd h
without_type older newer name p q (faults.NoFile x) a b h = absurd h
without_type older newer name p q (faults.Folder x) a b h = absurd h
without_type older newer name p q (faults.Value x) a b h = absurd h
without_type older newer name p q (faults.Notation f) a b h = absurd h
without_type older newer name p q faults.TooLong a b h = absurd h
without_type older newer name p q (faults.BitDecodeError u) a b h = absurd h
without_type older newer name p q faults.MessageLimit a b h = absurd h
without_type older newer name p q (faults.Device n) a b h = absurd h
without_type older newer name p q (faults.NotAccount s) a b h = absurd h

-- if an older type has the name, the newer ones lack it
newer_lacks : (p q : Program) (name : List ℕ) (t : ℕ) → TypeNamed p name t →
    ((u : ℕ) → TypeNamed p name u → ⊥) ⊎ ((u : ℕ) → TypeNamed q name u → ⊥) → (u : ℕ) → TypeNamed q name u → ⊥
newer_lacks p q name t named (inl h) = absurd (h t named)
newer_lacks p q name t named (inr h) = h

pub no_newer_type : (p q : Program) (name : List ℕ) (x : String Global) (t : ℕ) → TypeNamed p name t →
    IsNotCompared p q name (faults.NoType x) → LacksType p q name (faults.NoNewerType x)
no_newer_type p q name x t named h = (h.0, (t, named), newer_lacks p q name t named h.1)
