-- Proved rows: what the first fault of modules says of the limit on types, a row for each premise.
use Rattle.std.proofs.Common.{◌<◌, ◌≤◌, ◌⊎◌, inl, inr, List, length, arith}
use Rattle.trees.specs.declared.location.SourceLocation.{SourceLocation}
use Rattle.trees.specs.declared.module.Module.{Module as ModuleSyntax}
use Rattle.names.specs.declared.fault.NameFault.{NameFault}
use Rattle.names.specs.declared.fault.NameFault.TheVariants as faults
use Rattle.names.specs.ByNumber.{scopes_from, roots_of}
use Rattle.names.specs.First.{IsFirstExports, all_written}
use Rattle.resolve.specs.First.{IsFirstCircular, IsFirstLink, IsTextOf, ReportsFirstOfProgram, of_offers, of_program, of_types, trees_of}
use Rattle.resolve.specs.Program.{WrittenProgram}

-- a type that doesn't unfold is reported only if no limit on types is passed
circular_within : (ws : List ModuleSyntax) (s : SourceLocation) (c : IsFirstCircular ws s) → length c.table ≤ 65536
circular_within ws s c = c.few

-- the text of a linked program whose first fault is reported
record IsOfProgram (ws : List ModuleSyntax) (e : NameFault) : Type 0 where
  program : WrittenProgram
  few : length program.program.types ≤ 65536
  text : IsTextOf ws program
  first : ReportsFirstOfProgram program.program program.types program.values e

-- A name without a meaning, in modules that assign too many types, is that of an export or an import; or it is one of a
-- program that passes no limit.
unknown_within : (ws : List ModuleSyntax) (s : SourceLocation) →
    65536 < length (roots_of (trees_of ws)) →
    IsFirstLink ws (faults.UnknownName s) →
    IsFirstExports (scopes_from 0 0 (trees_of ws)) (all_written ws) (faults.UnknownName s)
    ⊎ IsOfProgram ws (faults.UnknownName s)
unknown_within ws s l (of_offers few one named h) = inl h
unknown_within ws s l (of_types named few roots h) = absurd (omega (arith, roots, l))
unknown_within ws s l (of_program p named few is types whole text h) =
    inr (record { program = p; few = types; text = text; first = h })
