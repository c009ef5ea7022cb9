use Rattle.std.proofs.Common.{subst, ℕ}
use Rattle.std.specs.Prelude.{IfSome, MatchOption}
use Rattle.judging.specs.named_values.Named.{Names, TypeNamed}
use Rattle.asnc.specs.Kits.{Opened}
use Rattle.asnc.proofs.kit.Kit.type_named.Goals as goal

pub returns-clause-named : goal.returns-clause-named
returns-clause-named c =
    subst (λ (k : Opened). MatchOption c.type_number.result ((t : ℕ) → TypeNamed k.program c.args.name.now t → ⊥)
    (λ id. TypeNamed k.program c.args.name.now id.index))
    c.self.view_is c.type_number.ensures.named

pub returns-clause-only : goal.returns-clause-only
returns-clause-only c =
    subst (λ (k : Opened). IfSome c.type_number.result (λ id. Names k.program c.args.name.now id.index))
    c.self.view_is c.type_number.ensures.only
