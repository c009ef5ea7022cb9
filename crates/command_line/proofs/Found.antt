-- What is found for the arguments of a command line.
use Rattle.std.proofs.Common.{◌≡◌, refl, ap, ℕ, List, [], ◌∷◌, Option, Some, None, Box, ◌||◌, codes, map, option_map, unwrap_or}
use Rattle.std.specs.Prelude.{slice_get, IfErr, IfOk, Result, Ok, Err}
use Rattle.std.specs.Borrow.{Bor}
use Rattle.std.specs.Box.{box_value}
use Rattle.clap.specs.Simple.{subcommand_rows}
use Rattle.clap.specs.declared.parser.matches.ArgMatches.TheViews.{out-SubCommand}
use Rattle.clap.specs.declared.parser.matches.SubCommand.{SubCommand}
use Rattle.std.specs.List.{list_any}
use Rattle.std.specs.Str.{bytes_eq}
use Rattle.command_line.specs.CommandLine.{first_word, has_input}

-- the text of a reference that may be absent
pub text_or : (o : Option (Bor (List ℕ))) (d : Bor (List ℕ)) → (unwrap_or o d).now ≡ unwrap_or (option_map (λ s. s.now) o) d.now
text_or None d = refl
text_or (Some s) d = refl

-- the name of the command that was found is next to its rows
pub named_by : {Z : Type 0} (o : Option (Box SubCommand Z))
    → option_map (λ b. (out-SubCommand (box_value b)).name.now) o ≡ option_map (λ p. p.0) (subcommand_rows o)
named_by None = refl
named_by (Some b) = refl

-- the first word of some
pub first_is : {A : Type 0} (f : A → List ℕ) (ws : List A) (w : A) → Some w ≡ slice_get ws 0 → first_word (map f ws) ≡ f w
first_is f [] w e = absurd cc
first_is f (x ∷ ws) w e = let g : x ≡ w = cc in ap f g

-- the name of standard input is among names exactly if it is among their texts
pub input_among : (ns : List (Bor (List ℕ)))
    → has_input (map (λ n. n.now) ns) ≡ list_any (λ n. bytes_eq n.now (codes "-")) ns
input_among [] = refl
input_among (n ∷ ns) = ap (λ b. bytes_eq n.now (codes "-") || b) (input_among ns)

-- what a result's value has, something else follows from, and so does what its error has
pub ok_of : {T E : Type 0} (P Q : T → Type 0) (r : Result T E) → ((x : T) → P x → Q x) → IfOk r P → IfOk r Q
ok_of P Q (Ok x) f h = f x h
ok_of P Q (Err e) f h = tt

pub err_of : {T E : Type 0} (P Q : E → Type 0) (r : Result T E) → ((e : E) → P e → Q e) → IfErr r P → IfErr r Q
err_of P Q (Ok x) f h = tt
err_of P Q (Err e) f h = f e h
