-- Rows of command lines: what each part of a conclusion says, in full.
use Rattle.std.proofs.Common.{◌≡◌, ◌∷◌, ◌++◌, Bool, false, ℕ, List, map, refl, string_bytes}
use Rattle.std.specs.Prelude.{Ok, String, Vec, codes}
use Rattle.std.specs.Global.{Global}
use Rattle.clap.specs.Words.{Row, Text, first_of}
use Rattle.hex.specs.Hex.{decode_of}
use Rattle.source_text.specs.Shown.{shown}
use Rattle.command_line.specs.CommandLine.{ExcludesLines, IsGivenBy, IsNoOctets, IsOctetsOrLines, IsSet, IsValueOf}
use Rattle.command_line.specs.CommandLine.{IsExcluding, IsValueOrLines, MixesLines}
use Rattle.command_line.specs.Commands.{face, face_of}
use Rattle.command_line.specs.declared.request.Command.TheVariants as commands
use Rattle.command_line.specs.declared.request.Given.{Given}
use Rattle.command_line.specs.declared.request.Given.TheVariants as given
use Rattle.command_line.specs.declared.request.Job.{Job}
use Rattle.command_line.specs.declared.request.ModuleTexts.{ModuleTexts}
use Rattle.command_line.specs.declared.request.ValueWords.{ValueWords}
use Rattle.command_line.specs.declared.request.ValueWords.TheVariants as value_words
use Rattle.command_line.specs.declared.request.Verb.TheVariants as verbs

-- ---- jobs

-- what a job has is each of its parts
face_of_job : (j : Job) → face j ≡ record {
  verb = j.verb;
  type_name = string_bytes j.ty;
  value = j.value;
  account = string_bytes j.account;
  octets = j.octets;
  raw = j.raw;
  strict = j.strict;
  context = j.context;
  files = map string_bytes j.files.items;
  newer = map string_bytes j.newer.items;
}
face_of_job j = refl

module _ (ty : String Global) (texts : ModuleTexts) where
  der_face : (value : ValueWords) (raw : Bool)
      → (let f = face_of (commands.Der ty value raw texts) in
      (f.verb ≡ verbs.Der) × (f.type_name ≡ string_bytes ty) × (f.value ≡ value) × (f.raw ≡ raw)
      × (f.strict ≡ false) × (f.context ≡ texts.context) × (f.files ≡ map string_bytes texts.files.items))
  der_face value raw = (refl, refl, refl, refl, refl, refl, refl)

  ber_face : (octets : Given) (strict : Bool)
      → (let f = face_of (commands.Ber ty octets strict texts) in
      (f.verb ≡ verbs.Ber) × (f.type_name ≡ string_bytes ty) × (f.octets ≡ octets) × (f.strict ≡ strict)
      × (f.raw ≡ false) × (f.context ≡ texts.context) × (f.files ≡ map string_bytes texts.files.items))
  ber_face octets strict = (refl, refl, refl, refl, refl, refl, refl)

  uper_face : (value : ValueWords) (raw : Bool)
      → (let f = face_of (commands.Uper ty value raw texts) in
      (f.verb ≡ verbs.Uper) × (f.type_name ≡ string_bytes ty) × (f.value ≡ value) × (f.raw ≡ raw)
      × (f.strict ≡ false) × (f.context ≡ texts.context) × (f.files ≡ map string_bytes texts.files.items))
  uper_face value raw = (refl, refl, refl, refl, refl, refl, refl)

  later_face : (newer : Vec (String Global) Global)
      → (let f = face_of (commands.Later ty newer texts) in
      (f.verb ≡ verbs.Later) × (f.newer ≡ map string_bytes newer.items))
  later_face newer = (refl, refl)

-- ---- words

module _ (help text t : Text) (h : IsNoOctets help text t) where
  no_file_named : (name : List ℕ) → text ≡ 64 ∷ name → ⊥
  no_file_named = h.no_file

  no_octets_decoded : (o : List ℕ) → decode_of text ≡ Ok o → ⊥
  no_octets_decoded = h.no_digits

  octets_said : t ≡ codes "found " ++ (h.quoted ++ (codes " after --hex, expected "
      ++ (codes "two hexadecimal digits for each octet, or @ and the name of a file"
      ++ (codes " (" ++ (help ++ codes " --help shows the words)")))))
  octets_said = h.said

  octets_shown : h.quoted ≡ shown text
  octets_shown = h.shown_so

module _ (rows : List Row) (t : Text) (h : MixesLines rows t) where
  lines_asked : IsSet rows (codes "lines")
  lines_asked = h.lines

  lines_excluded : ExcludesLines rows
  lines_excluded = h.excludes

  first_excluding : IsExcluding rows h.word
  first_excluding = h.excluding

  excluding_said : t ≡ codes "found --lines and "
      ++ (h.word ++ codes ", expected one of them (asnc COMMAND --help shows the words)")
  excluding_said = h.said

module _ (rows : List Row) where
  value_of_lines : (v : ValueWords) → IsValueOrLines rows v → IsSet rows (codes "lines") → v ≡ value_words.Lines
  value_of_lines v h = h.lines

  value_not_mixed : (v : ValueWords) → IsValueOrLines rows v → IsSet rows (codes "lines") → ExcludesLines rows → ⊥
  value_not_mixed v h = h.not_mixed

  value_alone : (v : ValueWords)
      → IsValueOrLines rows v
      → (IsSet rows (codes "lines") → ⊥)
      → IsValueOf (first_of (codes "value") rows) (first_of (codes "notation") rows) v
  value_alone v h = h.one

  octets_of_lines : (o : Given) → IsOctetsOrLines rows o → IsSet rows (codes "lines") → o ≡ given.Lines
  octets_of_lines o h = h.lines

  octets_not_mixed : (o : Given) → IsOctetsOrLines rows o → IsSet rows (codes "lines") → ExcludesLines rows → ⊥
  octets_not_mixed o h = h.not_mixed

  octets_alone : (o : Given)
      → IsOctetsOrLines rows o
      → (IsSet rows (codes "lines") → ⊥)
      → IsGivenBy (first_of (codes "hex") rows) o
  octets_alone o h = h.one
