-- The answer to a line of standard input: what is done with it, the text that it prints, and why it is refused.
use Rattle.std.specs.Prelude.{◌≡◌, ◌⊎◌, ⊤, ℕ, ◌<◌, ◌≤◌, ◌==◌, List, [], ◌++◌, Bool, true, false, Option, Some, None, Ok}
use Rattle.std.specs.Prelude.{codes, decimal, length, map, if◌then◌else◌}
use Rattle.std.specs.List.{list_any}
use Rattle.std.specs.Io.BufRead.{strip_last}
use Rattle.hex.specs.Hex.{decode_of, encode_upper}
use Rattle.asn_base.specs.Types.{Resolved}
use Rattle.encodings.specs.Account.{Account}
use Rattle.encodings.specs.Rules.{Rules}
use Rattle.resolve.specs.Program.{Program}
use Rattle.asnc.specs.Packing.{IsPacked, IsNotPacked}
use Rattle.asnc.specs.Reading.{IsReadAs, IsNotReadAs, rules_of}
use Rattle.asnc.specs.Unpacking.{IsUnpackedAs, IsNotUnpackedAs}
use Rattle.asnc.specs.Writing.{IsEncoded, IsNotEncoded}
use Rattle.asnc.specs.declared.reading.Rules.{Rules as Asked}
use Rattle.asnc.specs.declared.reading.Rules.TheVariants as asked
use Rattle.command_line.specs.declared.request.Given.{Given}
use Rattle.command_line.specs.declared.request.Given.TheVariants as given
use Rattle.command_line.specs.declared.request.ValueWords.{ValueWords}
use Rattle.command_line.specs.declared.request.ValueWords.TheVariants as value_words
use Rattle.command_line.specs.declared.request.Verb.{Verb}
use Rattle.command_line.specs.declared.request.Verb.TheVariants as verbs
use Rattle.check_jobs.specs.Inputs.{line_of}
use Rattle.asnc.specs.messages.declared.fault.Fault.{Fault}
use Rattle.asnc.specs.messages.declared.fault.Fault.TheVariants as faults
use Rattle.asnc.specs.named_values.Given.{written}
use Rattle.diagnostics.specs.Heading.{heading_of, Begins}
use Rattle.jobs.specs.declared.commands_of_lines.LineCommand.{LineCommand}
use Rattle.jobs.specs.declared.commands_of_lines.LineCommand.TheVariants as commands
use Rattle.jobs.specs.declared.refusals.LineFault.{LineFault}
use Rattle.jobs.specs.declared.refusals.LineFault.TheVariants as line_faults

-- ---- commands

-- the rules by which a job reads octets: with `--strict` the distinguished ones
abbrev pub asked_rules : Bool → Asked
asked_rules true = asked.Der
asked_rules false = asked.Ber

-- what a job does with each line of standard input; None if it takes no lines
abbrev pub line_command_of : Verb → ValueWords → Given → (strict : Bool) → Option LineCommand
line_command_of verbs.Der value_words.Lines octets strict = Some commands.Der
line_command_of verbs.Uper value_words.Lines octets strict = Some commands.Uper
line_command_of verbs.Ber value given.Lines strict = Some (commands.Ber (asked_rules strict))
line_command_of verbs.Unper value given.Lines strict = Some commands.Unper
line_command_of verb value octets strict = None

-- ---- texts

-- whether octets have a line end
abbrev pub has_end : List ℕ → Bool
has_end = list_any (λ c. c == 10)

-- the hexadecimal digits of a line; a carriage return at its end is none of them
abbrev pub digits_of : List ℕ → List ℕ
digits_of line = strip_last 13 line

-- what follows a printed value: a comment with the number of skipped additions, if there are any (X.680, clause 12.6)
abbrev pub comment_of : (skipped : ℕ) → List ℕ
comment_of k = if k == 0 then [] else (codes " -- skipped " ++ decimal k)

-- `der`: the line is the notation of a value of the named type; the text is the hexadecimal digits of the value's one
-- DER encoding
pub record IsDerText (p : Program) (s : List Resolved) (ty line text : List ℕ) : Type 0 where
  pub octets : List ℕ
  pub account : Account
  pub encoded : IsEncoded p s ty (written line) octets account
  pub text_is : text ≡ encode_upper octets

-- `uper`: the line is the notation of a value of the named type; the text is the hexadecimal digits of the value's one
-- message of canonical PER
pub record IsUperText (p : Program) (s : List Resolved) (ty line text : List ℕ) : Type 0 where
  pub octets : List ℕ
  pub packed : IsPacked p s ty (written line) octets
  pub text_is : text ≡ encode_upper octets

-- `ber`: the line is the hexadecimal digits of octets; the text is the one value of the named type that they encode by
-- the rules
pub record IsBerText (p : Program) (s : List Resolved) (r : Rules) (ty line text : List ℕ) : Type 0 where
  pub octets : List ℕ
  pub digits : decode_of (digits_of line) ≡ Ok octets
  pub printed : List ℕ
  pub skipped : ℕ
  pub read : IsReadAs p s r ty octets printed skipped
  pub text_is : text ≡ printed ++ comment_of skipped

-- `unper`: the line is the hexadecimal digits of octets; the text is the one value of the named type that they are a
-- message of in canonical PER
pub record IsUnperText (p : Program) (s : List Resolved) (ty line text : List ℕ) : Type 0 where
  pub octets : List ℕ
  pub digits : decode_of (digits_of line) ≡ Ok octets
  pub printed : List ℕ
  pub skipped : ℕ
  pub read : IsUnpackedAs p s ty octets printed skipped
  pub text_is : text ≡ printed ++ comment_of skipped

-- what a command prints of a line in a program with its types, without a line end
abbrev pub IsAnswerText : LineCommand → Program → List Resolved → (ty line text : List ℕ) → Type 0
IsAnswerText commands.Der p s ty line text = IsDerText p s ty line text
IsAnswerText commands.Uper p s ty line text = IsUperText p s ty line text
IsAnswerText (commands.Ber rules) p s ty line text = IsBerText p s (rules_of rules) ty line text
IsAnswerText commands.Unper p s ty line text = IsUnperText p s ty line text

-- ---- refusals

-- the line is not the hexadecimal digits of octets; `Memory` says nothing of it
abbrev pub IsNotHexadecimal : (line : List ℕ) → Fault → Type 0
IsNotHexadecimal line faults.Memory = ⊤
IsNotHexadecimal line (faults.BadWords words) = (o : List ℕ) → decode_of (digits_of line) ≡ Ok o → ⊥
IsNotHexadecimal line fault = ⊥

-- the line is the hexadecimal digits of octets, and they are refused by the rules
pub record IsNotBerLine (p : Program) (s : List Resolved) (r : Rules) (ty line : List ℕ) (e : Fault) : Type 0 where
  pub octets : List ℕ
  pub digits : decode_of (digits_of line) ≡ Ok octets
  pub refused : IsNotReadAs p s r ty octets e

-- the same in canonical PER
pub record IsNotUnperLine (p : Program) (s : List Resolved) (ty line : List ℕ) (e : Fault) : Type 0 where
  pub octets : List ℕ
  pub digits : decode_of (digits_of line) ≡ Ok octets
  pub refused : IsNotUnpackedAs p s ty octets e

-- Why a command refuses what a line gives, as it refuses what the words of a job give.
abbrev pub RefusesLine : LineCommand → Program → List Resolved → (ty line : List ℕ) → Fault → Type 0
RefusesLine commands.Der p s ty line e = IsNotEncoded p s ty (written line) e
RefusesLine commands.Uper p s ty line e = IsNotPacked p s ty (written line) e
RefusesLine (commands.Ber rules) p s ty line e =
    IsNotHexadecimal line e ⊎ IsNotBerLine p s (rules_of rules) ty line e
RefusesLine commands.Unper p s ty line e = IsNotHexadecimal line e ⊎ IsNotUnperLine p s ty line e

-- the text that a command prints of a line has a line end in it
pub record HasEndInText (c : LineCommand) (p : Program) (s : List Resolved) (ty line : List ℕ) : Type 0 where
  pub text : List ℕ
  pub text_of : IsAnswerText c p s ty line text
  pub ends : has_end text ≡ true

-- Why a line is refused: it has more than 33,554,432 octets. Otherwise its answer would be no one line, or its command
-- refuses it.
abbrev pub IsLineRefused : LineCommand → Program → List Resolved → (ty line : List ℕ) → LineFault → Type 0
IsLineRefused c p s ty line line_faults.Limit = 33554432 < length line
IsLineRefused c p s ty line line_faults.LineEnd = (length line ≤ 33554432) × HasEndInText c p s ty line
IsLineRefused c p s ty line (line_faults.Refused e) = (length line ≤ 33554432) × RefusesLine c p s ty line e

-- how the report of a line's fault begins: `error`, its number and its name
abbrev pub line_heading : LineFault → List ℕ
line_heading line_faults.Limit = codes "error 2 Limit(Line)"
line_heading line_faults.LineEnd = codes "error 73 LineEnd"
line_heading (line_faults.Refused e) = heading_of e

-- a text with a space in place of each line end
abbrev pub without_ends : List ℕ → List ℕ
without_ends = map (λ c. if c == 10 then 32 else c)

-- `! `, and a report that begins with the number and the name of the fault
pub record IsMarkedReport (fault : LineFault) (text : List ℕ) : Type 0 where
  pub report : List ℕ
  pub begins : Begins (line_heading fault) report
  pub text_is : text ≡ codes "! " ++ without_ends report

-- the text of a refusal: the report of a fault that is true of the line and isn't `Memory`
pub record IsRefusalText (c : LineCommand) (p : Program) (s : List Resolved) (ty line text : List ℕ) : Type 0 where
  pub fault : LineFault
  pub refused : IsLineRefused c p s ty line fault
  pub no_memory : fault ≡ line_faults.Refused faults.Memory → ⊥
  pub marked : IsMarkedReport fault text

-- ---- answers

-- The answer to a line is one line of output: what the command prints of it, or the text of its refusal. `yes` says
-- which. A line of more than 33,554,432 octets is refused.
pub record IsLineAnswer (c : LineCommand) (p : Program) (s : List Resolved) (ty line : List ℕ) (yes : Bool)
    (output : List ℕ) : Type 0 where
  pub text : List ℕ
  pub output_is : output ≡ line_of text
  pub one_line : has_end text ≡ false
  pub short : yes ≡ true → length line ≤ 33554432
  pub prints : yes ≡ true → IsAnswerText c p s ty line text
  pub refuses : yes ≡ false → IsRefusalText c p s ty line text
