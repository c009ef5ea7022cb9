-- The faults of one text, and of the names of modules.
use Rattle.std.specs.Prelude.{◌≡◌, ℕ, List}
use Rattle.trees.specs.declared.module.Module.{Module as ModuleSyntax}
use Rattle.names.specs.declared.fault.NameFault.TheVariants as linking
use Rattle.resolve.specs.First.{IsFirstOfWritten, trees_of}
use Rattle.resolve.specs.Links.{IsLinkFault}
use Rattle.front_end.specs.Faults.{HasNoTokens, IsNoModule}
use Rattle.front_end.specs.declared.fault.CompileError.{CompileError}
use Rattle.front_end.specs.declared.fault.CompileError.TheVariants as faults

-- the text, which has number k, has no tokens, for the reason that the fault gives
abbrev pub IsUnreadAt : ℕ → List ℕ → CompileError → Type 0
IsUnreadAt k x faults.Memory = Unit {0}
IsUnreadAt k x (faults.Text i f) = (i ≡ k) × HasNoTokens x f
IsUnreadAt k x fault = ⊥

-- the text, which has number k, has no tokens, or they aren't a module, for the reason that the fault gives
abbrev pub IsRefusedAt : ℕ → List ℕ → CompileError → Type 0
IsRefusedAt k x faults.Memory = Unit {0}
IsRefusedAt k x (faults.Text i f) = (i ≡ k) × HasNoTokens x f
IsRefusedAt k x (faults.Tree i f) = (i ≡ k) × IsNoModule x f
IsRefusedAt k x fault = ⊥

-- the fault is the first one of the names of modules, which are given as they are written
abbrev pub IsNamesFault : List ModuleSyntax → CompileError → Type 0
IsNamesFault ws faults.Memory = Unit {0}
IsNamesFault ws (faults.Name f) =
    (f ≡ linking.Memory → ⊥) × IsLinkFault (trees_of ws) f × IsFirstOfWritten ws f
IsNamesFault ws fault = ⊥
