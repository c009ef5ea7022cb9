-- The place of the first fault.
use Rattle.std.proofs.Common.{◌≡◌, List, subst}
use Rattle.std.specs.Prelude.{Result, MatchResult}
use Rattle.type_table.specs.declared.table.TypeNode.{TypeNode}
use Rattle.type_table.specs.Table.{Type'}
use Rattle.additions.specs.declared.check.Fault.{Fault}
use Rattle.additions.specs.proving.Reported.{IsFirstOf}

pub of_text : (ts : List Type') (ws vs : List TypeNode) (P : Type 0) (r : Result (Unit {0}) Fault) →
    ws ≡ vs →
    MatchResult r (λ _. P) (IsFirstOf ts ws) →
    MatchResult r (λ _. P) (IsFirstOf ts vs)
of_text ts ws vs P r e h = subst (λ us. MatchResult r (λ _. P) (IsFirstOf ts us)) e h
