-- What the job of a command has: what the command takes, and nothing else. These are own rules.
use Rattle.std.specs.Prelude.{ℕ, Bool, false, List, [], map, string_bytes}
use Rattle.command_line.specs.declared.request.Command.{Command}
use Rattle.command_line.specs.declared.request.Command.TheVariants as commands
use Rattle.command_line.specs.declared.request.Given.{Given}
use Rattle.command_line.specs.declared.request.Given.TheVariants as given
use Rattle.command_line.specs.declared.request.Job.{Job}
use Rattle.command_line.specs.declared.request.ModuleTexts.{ModuleTexts}
use Rattle.command_line.specs.declared.request.ValueWords.{ValueWords}
use Rattle.command_line.specs.declared.request.ValueWords.TheVariants as value_words
use Rattle.command_line.specs.declared.request.Verb.{Verb}
use Rattle.command_line.specs.declared.request.Verb.TheVariants as verbs

-- what a job has, its texts as their octets
pub record Face : Type 0 where
  pub verb : Verb
  pub type_name : List ℕ
  pub value : ValueWords
  pub account : List ℕ
  pub octets : Given
  pub raw : Bool
  pub strict : Bool
  pub context : Bool
  pub files : List (List ℕ)
  pub newer : List (List ℕ)

-- what this job has
abbrev pub face : Job → Face
face job = record {
  verb = job.verb;
  type_name = string_bytes job.ty;
  value = job.value;
  account = string_bytes job.account;
  octets = job.octets;
  raw = job.raw;
  strict = job.strict;
  context = job.context;
  files = map string_bytes job.files.items;
  newer = map string_bytes job.newer.items;
}

-- what a job with this verb has that takes texts alone
abbrev pub bare_face : Verb → ModuleTexts → Face
bare_face verb texts = record {
  verb = verb;
  type_name = [];
  value = value_words.Nothing;
  account = [];
  octets = given.Nothing;
  raw = false;
  strict = false;
  context = texts.context;
  files = map string_bytes texts.files.items;
  newer = [];
}

-- what the job of a command has: what the command takes; all else is empty, `Nothing` or false
abbrev pub face_of : Command → Face
face_of (commands.Der ty value raw texts) =
    record (bare_face verbs.Der texts) { type_name = string_bytes ty; value = value; raw = raw }
face_of (commands.Ber ty octets strict texts) =
    record (bare_face verbs.Ber texts) { type_name = string_bytes ty; octets = octets; strict = strict }
face_of (commands.Uper ty value raw texts) =
    record (bare_face verbs.Uper texts) { type_name = string_bytes ty; value = value; raw = raw }
face_of (commands.Unper ty octets texts) =
    record (bare_face verbs.Unper texts) { type_name = string_bytes ty; octets = octets }
face_of (commands.Account ty value texts) =
    record (bare_face verbs.Account texts) { type_name = string_bytes ty; value = value }
face_of (commands.List texts) = bare_face verbs.List texts
face_of (commands.Later ty newer texts) =
    record (bare_face verbs.Later texts) { type_name = string_bytes ty; newer = map string_bytes newer.items }
face_of (commands.Show ty octets texts) =
    record (bare_face verbs.Show texts) { type_name = string_bytes ty; octets = octets }
face_of (commands.Check ty value octets account texts) = record (bare_face verbs.Check texts) {
  type_name = string_bytes ty;
  value = value;
  octets = octets;
  account = string_bytes account;
}
