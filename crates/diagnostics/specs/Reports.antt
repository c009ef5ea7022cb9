-- What a line says after the number and the name of a fault: where the fault is.
use Rattle.std.specs.Prelude.{◌≡◌, ℕ, List, ◌++◌, Option, None, Some, String, Vec, codes, slice_get, string_bytes}
use Rattle.std.specs.declared.alloc.Global.{Global}
use Rattle.command_line.specs.declared.request.Job.{Job}
use Rattle.messages.specs.declared.fault.NotationFault.{NotationFault}
use Rattle.messages.specs.declared.fault.Fault.{Fault}
use Rattle.messages.specs.declared.fault.Fault.TheVariants as faults
use Rattle.diagnostics.specs.Heading.{heading_of}
use Rattle.diagnostics.specs.Locations.{files_of, is_second_module, left_out_of, module_of, octet_of, text_of, token_of}
use Rattle.diagnostics.specs.Locations.{notation_left_out, notation_octet, notation_token}
use Rattle.diagnostics.specs.Places.{IsFileOf, IsModuleText, SaysAccount, SaysAt, SaysReading, or_first, text_at}

-- ---- the texts of modules

-- the number of the text that a fault is in, among these texts; None if it is in none
pub data IsTextOf (xs : List (Vec ℕ Global)) (f : Fault) : Option ℕ → Type 0 where
  -- the fault has the number
  numbered : {k : ℕ} → text_of f ≡ Some k → IsTextOf xs f (Some k)
  -- the fault has a module
  named : {found : Option ℕ} (name : List ℕ) →
      text_of f ≡ None →
      module_of f ≡ Some name →
      IsModuleText xs name (or_first (octet_of f)) (is_second_module f) found →
      IsTextOf xs f found
  -- the fault has neither
  nowhere : text_of f ≡ None → module_of f ≡ None → IsTextOf xs f None

-- a place in text x of a file
pub record SaysInText (file : Option (String Global)) (x : List ℕ) (f : Fault) (line : List ℕ) : Type 0 where
  -- the file's name as it is shown
  pub name : List ℕ
  pub named : IsFileOf file name
  pub says : SaysAt x name (left_out_of f) (token_of f) (octet_of f) line

-- `: ` and words
pub record SaysWords (line : List ℕ) : Type 0 where
  pub words : List ℕ
  pub is : line ≡ codes ": " ++ words

abbrev pub SaysFound : List (String Global) → List (Vec ℕ Global) → Fault → Option ℕ → (line : List ℕ) → Type 0
SaysFound files xs f None line = SaysWords line
SaysFound files xs f (Some k) line = SaysInText (slice_get files k) (text_at xs k) f line

-- the text that a fault is in, if it is in one, and the place there; the texts are those of these files
pub record SaysInTexts (files : List (String Global)) (xs : List (Vec ℕ Global)) (f : Fault) (line : List ℕ)
    : Type 0 where
  pub found : Option ℕ
  pub text : IsTextOf xs f found
  pub says : SaysFound files xs f found line

-- ---- the text of a notation

-- a place in text x, with `--notation` for the name of a file
abbrev pub SaysInNotation : (x : List ℕ) → NotationFault → (line : List ℕ) → Type 0
SaysInNotation x f line = SaysAt x (codes "--notation") (notation_left_out f) (notation_token f) (notation_octet f) line

-- ---- any fault

-- What follows the number and the name of a fault of a job: of texts `xs` of its files, of a notation, of octets or
-- bits that can't be read, or of an account.
abbrev pub SaysPlace : Job → (xs : List (Vec ℕ Global)) → (notation : List ℕ) → Fault → (line : List ℕ) → Type 0
SaysPlace job xs notation (faults.Notation f) line = SaysInNotation notation f line
SaysPlace job xs notation (faults.DecodeError u) line =
    SaysReading (codes "octet") u.offset (string_bytes u.path) line
SaysPlace job xs notation (faults.BitDecodeError u) line = SaysReading (codes "bit") u.bit (string_bytes u.path) line
SaysPlace job xs notation (faults.NotAccount stop) line = SaysAccount (string_bytes job.account) stop line
SaysPlace job xs notation f line = SaysInTexts (files_of job f) xs f line

-- the line of a fault: its number and its name, and where it is
pub record IsReport (job : Job) (xs : List (Vec ℕ Global)) (notation : List ℕ) (f : Fault) (s : List ℕ) : Type 0 where
  pub line : List ℕ
  pub is : s ≡ heading_of f ++ line
  pub place : SaysPlace job xs notation f line
