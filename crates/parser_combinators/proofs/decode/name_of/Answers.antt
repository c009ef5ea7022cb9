use Rattle.std.proofs.Common.{rules, Result, Ok, Err, IsOk, MatchResult}
use Rattle.parser_combinators.proofs.Tokens.{name_utf8}
use Rattle.parser_combinators.proofs.decode.name_of.Goals as goal

is_ok : {A E : Type 0} (r : Result A E) (P : A → Type 0) (Q : E → Type 0)
    → MatchResult r P Q
    → ((e : E) → Q e → ⊥)
    → IsOk r
is_ok (Ok x) P Q h never = search rules
is_ok (Err e) P Q h never = absurd (never e h)

pub unwrap-name-requires : goal.unwrap-name-requires
unwrap-name-requires c =
    let u = name_utf8 c.args.text.now c.args.token c.requires.token c.requires.name in
    is_ok c.from_utf8.result _ _ c.from_utf8.ensures.cases (λ e h. h.0 (rw (c.end.ensures, c.start.ensures) u))
