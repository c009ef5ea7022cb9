-- A fault of a part that a loop reads is a fault of the loop.
use Rattle.std.specs.Prelude.{◌≡◌, Bool, true, List, length, Some}
use Rattle.grammar.specs.Lexeme.{Lexeme}
use Rattle.grammar.specs.Loops.{commas_fail}
use Rattle.grammar.specs.Manies.{is_begun_by, many_fail}
use Rattle.grammar.specs.Reading.{Read, Reader, with_front, next_comma, after_commas_at, many_at}
use Rattle.parser_combinators.specs.declared.read_error.ReadError.{ReadError}
use Rattle.parser_combinators.specs.declared.read_error.ReadError.TheVariants as errors
use Rattle.parser_combinators.specs.Given.{Fails}

pub commas_give_up : {A : Type 0} (read : Reader A) (ts rest : List Lexeme) (e : ReadError) (front : List A)
    (total : Read (List A))
    → next_comma ts ≡ Some rest
    → Fails e (read rest)
    → with_front front (after_commas_at read (length ts) ts) ≡ total
    → Fails e total
commas_give_up read ts rest errors.Memory front total c r h = tt
commas_give_up read ts rest (errors.Unexpected n) front total c r h = commas_fail read ts rest _ front total c r h
commas_give_up read ts rest (errors.Limit l n) front total c r h = commas_fail read ts rest _ front total c r h

pub many_gives_up : {A : Type 0} (begins : Lexeme → Bool) (read : Reader A) (ts : List Lexeme) (e : ReadError)
    (front : List A) (total : Read (List A))
    → is_begun_by begins ts ≡ true
    → Fails e (read ts)
    → with_front front (many_at begins read (length ts) ts) ≡ total
    → Fails e total
many_gives_up begins read ts errors.Memory front total b r h = tt
many_gives_up begins read ts (errors.Unexpected n) front total b r h = many_fail begins read ts _ front total b r h
many_gives_up begins read ts (errors.Limit l n) front total b r h = many_fail begins read ts _ front total b r h
