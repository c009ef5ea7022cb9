-- A fault for a kind of failure refuses the words that show it.
use Rattle.std.proofs.Common.{◌≡◌, ◌⊎◌, inl, inr, sym, ◌∙◌, List, [], Some, false, subst, option_map, codes, string_bytes}
use Rattle.clap.specs.Words.{App, Row, Text, IsAmong, fault_of, first_of, matches_of, subcommand_of}
use Rattle.clap.specs.declared.error.kind.ErrorKind.{ErrorKind}
use Rattle.clap.specs.declared.error.kind.ErrorKind.TheVariants as kinds
use Rattle.command_line.specs.declared.fault.WordsFault.{WordsFault}
use Rattle.command_line.specs.declared.fault.WordsFault.TheVariants as faults
use Rattle.command_line.specs.CommandLine.{asnc_app, octcheck_app, checked_value, text_in, value_alone, value_or_lines}
use Rattle.command_line.specs.CommandLine.{AsksLines, LacksCheckInput, GivesNoOctets}
use Rattle.command_line.specs.CommandLine.{HasNoCheck, HasNoJob, IsFaultOf, IsMixed, IsNoCheckOf, IsNoJobOf}
use Rattle.command_line.specs.CommandLine.{IsNoOctetsOrLines, IsNotGiven, IsNoValueIn, IsNoValueOrLines, IsRefusedBy}
use Rattle.command_line.specs.CommandLine.{TakesOctets, TakesValue}

pub refused_by : (a : App) (N : Text → Type 0) (words : List Text) (k : ErrorKind) (fault : WordsFault)
    → (k ≡ kinds.OutOfMemory) ⊎ IsAmong k (fault_of a words)
    → IsFaultOf k fault → IsRefusedBy a N words fault
refused_by a N words k faults.Memory h f = tt
refused_by a N words k (faults.Help t) (inl m) (inl f) = let e : kinds.OutOfMemory ≡ kinds.DisplayHelp = sym m ∙ f in cc
refused_by a N words k (faults.Help t) (inl m) (inr f) = let e : kinds.OutOfMemory ≡ kinds.DisplayVersion = sym m ∙ f in cc
refused_by a N words k (faults.Help t) (inr h) (inl f) = inl (subst (λ (x : ErrorKind). IsAmong x (fault_of a words)) f h)
refused_by a N words k (faults.Help t) (inr h) (inr f) = inr (subst (λ (x : ErrorKind). IsAmong x (fault_of a words)) f h)
refused_by a N words k (faults.BadWords t) (inl m) f = absurd (f.0 m)
refused_by a N words k (faults.BadWords t) (inr h) f = inl (record { kind = k; among = h; no_help = f.1; no_version = f.2 })

pub refused_as : (a b : App) (N : Text → Type 0) (words : List Text) (k : ErrorKind) (fault : WordsFault) → a ≡ b
    → (k ≡ kinds.OutOfMemory) ⊎ IsAmong k (fault_of a words)
    → IsFaultOf k fault → IsRefusedBy b N words fault
refused_as a b N words k fault e h f = refused_by b N words k fault (subst (λ x. (k ≡ kinds.OutOfMemory) ⊎ IsAmong k (fault_of x words)) e h) f

-- a command that takes octets has no job if it lacks them
pub no_job : (command : Text) (rows : List Row) (fault : WordsFault) → TakesOctets command
    → IsNoOctetsOrLines rows fault
    → IsNoJobOf command rows fault
no_job command rows faults.Memory t n = tt
no_job command rows (faults.BadWords b) t n = inl (t, n)
no_job command rows (faults.Help b) t n = absurd n

-- a command that takes a value or lines has no job if it lacks both
pub no_value : (command : Text) (rows : List Row) (fault : WordsFault) → TakesValue command
    → IsNoValueOrLines rows fault
    → IsNoJobOf command rows fault
no_value command rows faults.Memory t n = tt
no_value command rows (faults.BadWords b) t n = inr (inl (t, n))
no_value command rows (faults.Help b) t n = absurd n

-- `account` has no job without a value
pub no_account : (command : Text) (rows : List Row) (fault : WordsFault) → command ≡ codes "account"
    → IsNoValueIn value_alone rows fault
    → IsNoJobOf command rows fault
no_account command rows faults.Memory t n = tt
no_account command rows (faults.BadWords b) t n = inr (inr (inl (t, n)))
no_account command rows (faults.Help b) t n = absurd n

-- `show` has no job if the text of `--hex` gives no octets
pub no_show : (command : Text) (rows : List Row) (fault : WordsFault) → command ≡ codes "show"
    → IsNotGiven (codes "asnc COMMAND") (text_in rows (codes "hex")) fault
    → IsNoJobOf command rows fault
no_show command rows faults.Memory t n = tt
no_show command rows (faults.BadWords b) t n = inr (inr (inr (t, n)))
no_show command rows (faults.Help b) t n = absurd n

-- words that mix lines with others give no value, and words without lines may give none
pub mixed_value : (rows : List Row) (fault : WordsFault) → IsMixed rows fault → IsNoValueOrLines rows fault
mixed_value rows faults.Memory n = tt
mixed_value rows (faults.BadWords b) n = inl n
mixed_value rows (faults.Help b) n = absurd n

pub lacks_value : (rows : List Row) (fault : WordsFault) → AsksLines rows false → IsNoValueIn value_or_lines rows fault
    → IsNoValueOrLines rows fault
lacks_value rows faults.Memory a n = tt
lacks_value rows (faults.BadWords b) a n = inr (a, n)
lacks_value rows (faults.Help b) a n = absurd n

-- the same of octets
pub mixed_octets : (rows : List Row) (fault : WordsFault) → IsMixed rows fault → IsNoOctetsOrLines rows fault
mixed_octets rows faults.Memory n = tt
mixed_octets rows (faults.BadWords b) n = inl n
mixed_octets rows (faults.Help b) n = absurd n

pub lacks_octets : (rows : List Row) (fault : WordsFault) → AsksLines rows false
    → GivesNoOctets (first_of (codes "hex") rows) fault
    → IsNoOctetsOrLines rows fault
lacks_octets rows faults.Memory a n = tt
lacks_octets rows (faults.BadWords b) a n = inr (a, n)
lacks_octets rows (faults.Help b) a n = absurd n

-- a text that gives no octets gives none
pub no_octets : (text : Text) (fault : WordsFault) → IsNotGiven (codes "asnc COMMAND") text fault → GivesNoOctets (Some text) fault
no_octets text faults.Memory n = tt
no_octets text (faults.BadWords b) n = n
no_octets text (faults.Help b) n = absurd n

-- words of octcheck that give no value ask for nothing, and so do words that give no octets
pub no_check_value : (rows : List Row) (fault : WordsFault) → IsNoValueIn checked_value rows fault → IsNoCheckOf rows fault
no_check_value rows faults.Memory n = tt
no_check_value rows (faults.BadWords b) n = inl n
no_check_value rows (faults.Help b) n = absurd n

pub no_check_octets : (rows : List Row) (fault : WordsFault) → IsNotGiven (codes "octcheck") (text_in rows (codes "hex")) fault
    → IsNoCheckOf rows fault
no_check_octets rows faults.Memory n = tt
no_check_octets rows (faults.BadWords b) n = inr n
no_check_octets rows (faults.Help b) n = absurd n

-- if a command has no job, the words are refused
refused_without : (words : List Text) (command : Text) (rows : List Row) (fault : WordsFault)
    → fault_of asnc_app words ≡ []
    → option_map (λ p. p.0) (subcommand_of asnc_app words) ≡ Some command
    → option_map (λ p. p.1) (subcommand_of asnc_app words) ≡ Some rows
    → IsNoJobOf command rows fault
    → IsRefusedBy asnc_app (HasNoJob words) words fault
refused_without words command rows faults.Memory t c r n = tt
refused_without words command rows (faults.BadWords b) t c r n =
    inr (record { taken = t; command = command; called = c; rows = rows; found = r; lacks = n })
refused_without words command rows (faults.Help b) t c r n = absurd n

pub refused_where : (words : List Text) (command : Text) (rows : List Row) (fault : WordsFault)
    → IsNoJobOf command rows fault
    → fault_of asnc_app words ≡ []
    → option_map (λ p. p.0) (subcommand_of asnc_app words) ≡ Some command
    → option_map (λ p. p.1) (subcommand_of asnc_app words) ≡ Some rows
    → IsRefusedBy asnc_app (HasNoJob words) words fault
refused_where words command rows fault n t c r = refused_without words command rows fault t c r n

-- words of octcheck that lack a part are refused
pub not_given : (words : List Text) (rows : List Row) (fault : WordsFault) → fault_of octcheck_app words ≡ [] →
    rows ≡ matches_of octcheck_app words → IsNoCheckOf rows fault →
    IsRefusedBy octcheck_app (HasNoCheck words) words fault
not_given words rows faults.Memory t r n = tt
not_given words rows (faults.BadWords b) t r n =
    inr (record { taken = t; lacks = subst (λ (q : List Row). LacksCheckInput q (string_bytes b)) r n })
not_given words rows (faults.Help b) t r n = absurd n
