-- What a line says of where a fault is, in full, for faults of each kind.
use Rattle.std.proofs.Common.{◌≡◌, ℕ, ◌+◌, List, [], ◌++◌, true, false, Option, None, Some, String, Vec}
use Rattle.std.proofs.Common.{ap, codes, length, refl, string_bytes, subst, sym, ◌∙◌}
use Rattle.std.specs.Str.{bytes_eq}
use Rattle.std.specs.declared.alloc.Global.{Global}
use Rattle.text.specs.Text.{IsText, IsWithinLimits}
use Rattle.text.specs.declared.lex_fault.LexFault.TheVariants as texts
use Rattle.text.specs.declared.token.Token.{Token}
use Rattle.notation.specs.declared.syntax_fault.SyntaxFault.TheVariants as trees
use Rattle.trees.specs.declared.location.SourceLocation.{SourceLocation}
use Rattle.names.specs.declared.fault.NameFault.TheVariants as names
use Rattle.value_diagnostics.specs.declared.value_diagnostic.ValueDiagnostic.{ValueDiagnostic}
use Rattle.account_text.specs.declared.stop.Stop.{Stop}
use Rattle.command_line.specs.declared.request.Job.{Job}
use Rattle.command_line.specs.declared.request.ValueWords.TheVariants as value_words
use Rattle.messages.specs.declared.fault.NotationFault.TheVariants as notations
use Rattle.messages.specs.declared.fault.DecodeError.{DecodeError}
use Rattle.messages.specs.declared.fault.BitDecodeError.{BitDecodeError}
use Rattle.messages.specs.front_end.declared.fault.CompileError.TheVariants as fronts
use Rattle.messages.specs.declared.fault.Fault.{Fault}
use Rattle.messages.specs.declared.fault.Fault.TheVariants as faults
use Rattle.source_text.specs.Modules.{IsFirstText, token_start}
use Rattle.source_text.specs.Shown.{escaped, shown}
use Rattle.diagnostics.specs.Heading.{heading_of}
use Rattle.diagnostics.specs.Locations.{files_of, notation_of, texts_of}
use Rattle.diagnostics.specs.Places.{IsModuleText, IsOctet, IsTokenStart, SaysAccount, SaysAt, SaysReading}
use Rattle.diagnostics.specs.Places.{again_in_first, construct_words, first_text, located, module_in, second_text, text_at}
use Rattle.diagnostics.specs.Places.{spelled_at}
use Rattle.diagnostics.specs.Reports.{IsReport, IsTextOf, SaysFound, SaysInText, SaysPlace}
use Rattle.diagnostics.specs.Reports.{named, nowhere, numbered}

-- ---- a place in a text

says : (c d x f g : List ℕ) (o p : Option ℕ) (w line : List ℕ)
    → c ≡ d
    → f ≡ g
    → o ≡ p
    → line ≡ c ++ (located f x o ++ w)
    → line ≡ d ++ (located g x p ++ w)
says c d x f g o p w line e i j h =
    h ∙ (ap (λ v. v ++ (located f x o ++ w)) e ∙ (ap (λ v. d ++ (located v x o ++ w)) i
    ∙ ap (λ v. d ++ (located g x v ++ w)) j))

start_at : (x : List ℕ) (ts : List Token) (p : ℕ) (octet r : Option ℕ)
    → IsText x ts
    → IsWithinLimits x ts
    → IsOctet x (Some p) octet r
    → r ≡ Some (token_start x ts p)
start_at x ts p octet None is within h = absurd h
start_at x ts p octet (Some n) is within h = ap Some (h.tokens ts is within)

end_at : (x : List ℕ) (p : ℕ) (octet r : Option ℕ)
    → ((ts : List Token) → IsText x ts → IsWithinLimits x ts → ⊥)
    → IsOctet x (Some p) octet r
    → r ≡ Some (length x)
end_at x p octet None bare h = absurd h
end_at x p octet (Some n) bare h = ap Some (h.none bare)

-- an octet
pub at_octet : (x file line : List ℕ) (n : ℕ)
    → SaysAt x file None None (Some n) line
    → (words : List ℕ) × (line ≡ located file x (Some n) ++ words)
at_octet x file line n h =
    (h.words, says h.construct [] x file file h.place (Some n) h.words line h.left refl h.at h.is)

-- no octet
pub at_none : (x file line : List ℕ)
    → SaysAt x file None None None line
    → (words : List ℕ) × (line ≡ located file x None ++ words)
at_none x file line h = (h.words, says h.construct [] x file file h.place None h.words line h.left refl h.at h.is)

-- the beginning of token p
pub at_token : (x file line : List ℕ) (ts : List Token) (p : ℕ) (octet : Option ℕ)
    → IsText x ts
    → IsWithinLimits x ts
    → SaysAt x file None (Some p) octet line
    → (words : List ℕ) × (line ≡ located file x (Some (token_start x ts p)) ++ words)
at_token x file line ts p octet is within h = (
  h.words,
  says h.construct [] x file file h.place (Some (token_start x ts p)) h.words line h.left refl
      (start_at x ts p octet h.place is within h.at) h.is,
)

-- the end of a text without tokens
pub at_end : (x file line : List ℕ) (p : ℕ) (octet : Option ℕ)
    → ((ts : List Token) → IsText x ts → IsWithinLimits x ts → ⊥)
    → SaysAt x file None (Some p) octet line
    → (words : List ℕ) × (line ≡ located file x (Some (length x)) ++ words)
at_end x file line p octet bare h = (
  h.words,
  says h.construct [] x file file h.place (Some (length x)) h.words line h.left refl
      (end_at x p octet h.place bare h.at) h.is,
)

-- the construct that begins with token q, before the file
pub after_construct : (x file line : List ℕ) (ts : List Token) (q p : ℕ) (octet : Option ℕ)
    → IsText x ts
    → IsWithinLimits x ts
    → SaysAt x file (Some q) (Some p) octet line
    → (words : List ℕ)
    × (line ≡ construct_words (shown (spelled_at x ts q)) ++ (located file x (Some (token_start x ts p)) ++ words))
after_construct x file line ts q p octet is within h = (
  h.words,
  says h.construct (construct_words (shown (spelled_at x ts q))) x file file h.place (Some (token_start x ts p))
      h.words line (h.left ts is within) refl (start_at x ts p octet h.place is within h.at) h.is,
)

-- ---- a fault in a text of a file

-- a fault of the octets, at octet 3 of the text
pub fault_of_octets : (name : String Global) (x line : List ℕ) (k : ℕ)
    → SaysInText (Some name) x (faults.Front (fronts.Text k (texts.BadName 3))) line
    → (words : List ℕ) × (line ≡ located (escaped (string_bytes name)) x (Some 3) ++ words)
fault_of_octets name x line k h =
    at_octet x (escaped (string_bytes name)) line 3 (subst (λ n. SaysAt x n None None (Some 3) line) h.named h.says)

-- a fault of the tokens of a newer text, at token 7
pub fault_of_tokens : (name : String Global) (x line : List ℕ) (ts : List Token) (k : ℕ)
    → IsText x ts
    → IsWithinLimits x ts
    → SaysInText (Some name) x (faults.Newer (fronts.Tree k (trees.Unexpected 7))) line
    → (words : List ℕ) × (line ≡ located (escaped (string_bytes name)) x (Some (token_start x ts 7)) ++ words)
fault_of_tokens name x line ts k is within h =
    at_token x (escaped (string_bytes name)) line ts 7 None is within
    (subst (λ n. SaysAt x n None (Some 7) None line) h.named h.says)

-- a construct that is left out, at token 7
pub fault_of_a_construct : (name : String Global) (x line : List ℕ) (ts : List Token) (k : ℕ)
    → IsText x ts
    → IsWithinLimits x ts
    → SaysInText (Some name) x (faults.Front (fronts.Tree k (trees.OutOfProfile 7))) line
    → (words : List ℕ) × (line ≡ construct_words (shown (spelled_at x ts 7))
    ++ (located (escaped (string_bytes name)) x (Some (token_start x ts 7)) ++ words))
fault_of_a_construct name x line ts k is within h =
    after_construct x (escaped (string_bytes name)) line ts 7 7 None is within
    (subst (λ n. SaysAt x n (Some 7) (Some 7) None line) h.named h.says)

-- a fault of names, at the octet in the fault
pub fault_of_names : (name : String Global) (x line : List ℕ) (s : SourceLocation)
    → SaysInText (Some name) x (faults.Front (fronts.Name (names.UnknownName s))) line
    → (words : List ℕ) × (line ≡ located (escaped (string_bytes name)) x (Some s.at) ++ words)
fault_of_names name x line s h =
    at_octet x (escaped (string_bytes name)) line s.at
    (subst (λ n. SaysAt x n None None (Some s.at) line) h.named h.says)

-- a value of the command line's type, at the octet in the fault
pub fault_of_a_value : (name : String Global) (x line : List ℕ) (t : ValueDiagnostic)
    → SaysInText (Some name) x (faults.Value t) line
    → (words : List ℕ) × (line ≡ located (escaped (string_bytes name)) x (Some t.source_location.at) ++ words)
fault_of_a_value name x line t h =
    at_octet x (escaped (string_bytes name)) line t.source_location.at
    (subst (λ n. SaysAt x n None None (Some t.source_location.at) line) h.named h.says)

-- want of memory has no place in its text
pub fault_without_a_place : (name : String Global) (x line : List ℕ) (k : ℕ)
    → SaysInText (Some name) x (faults.Front (fronts.Text k texts.Memory)) line
    → (words : List ℕ) × (line ≡ located (escaped (string_bytes name)) x None ++ words)
fault_without_a_place name x line k h =
    at_none x (escaped (string_bytes name)) line (subst (λ n. SaysAt x n None None None line) h.named h.says)

-- a text without a file
pub fault_without_a_file : (x line : List ℕ) (k : ℕ)
    → SaysInText None x (faults.Front (fronts.Text k (texts.BadName 3))) line
    → (words : List ℕ) × (line ≡ located (codes "a text") x (Some 3) ++ words)
fault_without_a_file x line k h =
    at_octet x (codes "a text") line 3 (subst (λ n. SaysAt x n None None (Some 3) line) h.named h.says)

-- ---- which text

same_some : {A : Type 0} {a b : A} → Some a ≡ Some b → a ≡ b
same_some h = cc

-- the text with the number in the fault
pub text_with_a_number : (xs : List (Vec ℕ Global)) (k : ℕ) (found : Option ℕ)
    → IsTextOf xs (faults.Front (fronts.Text k (texts.BadName 3))) found
    → found ≡ Some k
text_with_a_number xs k found (numbered e) = sym e
text_with_a_number xs k found (named name e i is) = absurd cc
text_with_a_number xs k found (nowhere e i) = absurd cc

-- the text of the module in a fault of names
pub text_of_a_module : (xs : List (Vec ℕ Global)) (s : SourceLocation) (found : Option ℕ)
    → IsTextOf xs (faults.Front (fronts.Name (names.UnknownName s))) found
    → IsModuleText xs (string_bytes s.module) s.at false found
text_of_a_module xs s found (numbered e) = absurd cc
text_of_a_module xs s found (named name e i is) = subst (λ m. IsModuleText xs m s.at false found) (sym (same_some i)) is
text_of_a_module xs s found (nowhere e i) = absurd cc

-- the text in which the name of a module is given again
pub text_of_a_second_module : (xs : List (Vec ℕ Global)) (s : SourceLocation) (found : Option ℕ)
    → bytes_eq (string_bytes s.module) (string_bytes s.name) ≡ true
    → IsTextOf xs (faults.Newer (fronts.Name (names.Twice s))) found
    → IsModuleText xs (string_bytes s.module) s.at true found
text_of_a_second_module xs s found e (numbered i) = absurd cc
text_of_a_second_module xs s found e (named name i j is) =
    subst (λ b. IsModuleText xs (string_bytes s.module) s.at b found) e
    (subst (λ m. IsModuleText xs m s.at (bytes_eq (string_bytes s.module) (string_bytes s.name)) found) (sym (same_some j))
    is)
text_of_a_second_module xs s found e (nowhere i j) = absurd cc

-- the text of the module in a name of the command line
pub text_of_a_type : (xs : List (Vec ℕ Global)) (name : String Global) (found : Option ℕ)
    → IsTextOf xs (faults.NoType name) found
    → IsModuleText xs (module_in (string_bytes name)) 0 false found
text_of_a_type xs name found (numbered e) = absurd cc
text_of_a_type xs name found (named m e i is) = subst (λ n. IsModuleText xs n 0 false found) (sym (same_some i)) is
text_of_a_type xs name found (nowhere e i) = absurd cc

-- a fault that has neither a number nor a module is in no text
pub text_of_none : (xs : List (Vec ℕ Global)) (found : Option ℕ) → IsTextOf xs faults.TooLong found → found ≡ None
text_of_none xs found (numbered e) = absurd cc
text_of_none xs found (named m e i is) = absurd cc
text_of_none xs found (nowhere e i) = refl

-- Of two texts it is the first one. Where a name is given again, it is the second one if its first token is there.
pub first_of_two : (xs : List (Vec ℕ Global)) (name : List ℕ) (at k : ℕ)
    → IsModuleText xs name at false (Some k)
    → IsFirstText xs 0 name k
first_of_two xs name at k (first_text h) = h

pub second_of_two : (xs : List (Vec ℕ Global)) (name : List ℕ) (at j k : ℕ)
    → IsFirstText xs 0 name j
    → IsFirstText xs (j + 1) name k
    → IsTokenStart (text_at xs k) 0 at
    → IsModuleText xs name at true (Some k)
second_of_two xs name at j k h g s = second_text j h g s

pub again_in_the_first : (xs : List (Vec ℕ Global)) (name : List ℕ) (at j k : ℕ)
    → IsFirstText xs 0 name j
    → IsFirstText xs (j + 1) name k
    → (IsTokenStart (text_at xs k) 0 at → ⊥)
    → IsModuleText xs name at true (Some j)
again_in_the_first xs name at j k h g n = again_in_first k h g n

-- ---- whose texts and files

pub newer_files : (job : Job) (name : String Global) → files_of job (faults.NoNewerType name) ≡ job.newer.items
newer_files job name = refl

pub other_files : (job : Job) (name : String Global) → files_of job (faults.NoType name) ≡ job.files.items
other_files job name = refl

pub newer_texts : (xs ys : List (Vec ℕ Global)) (name : String Global) → texts_of xs ys (faults.NoNewerType name) ≡ ys
newer_texts xs ys name = refl

pub other_texts : (xs ys : List (Vec ℕ Global)) (name : String Global) → texts_of xs ys (faults.NoType name) ≡ xs
other_texts xs ys name = refl

pub written_notation : (text : String Global) → notation_of (value_words.Written text) ≡ string_bytes text
written_notation text = refl

pub no_notation : (name : String Global) → notation_of (value_words.Named name) ≡ []
no_notation name = refl

-- ---- any fault

module _ (job : Job) (xs : List (Vec ℕ Global)) (y line : List ℕ) where
  -- the texts are those of the job's files
  pub in_texts : (k : ℕ)
      → SaysPlace job xs y (faults.Front (fronts.Text k (texts.BadName 3))) line
      → (found : Option ℕ) × SaysFound job.files.items xs (faults.Front (fronts.Text k (texts.BadName 3))) found line
  in_texts k h = (h.found, h.says)

  pub in_no_text : SaysFound job.files.items xs faults.TooLong None line
      → (words : List ℕ) × (line ≡ codes ": " ++ words)
  in_no_text h = (h.words, h.is)

  pub of_octets : (u : DecodeError)
      → SaysPlace job xs y (faults.DecodeError u) line
      → SaysReading (codes "octet") u.offset (string_bytes u.path) line
  of_octets u h = h

  pub of_bits : (u : BitDecodeError)
      → SaysPlace job xs y (faults.BitDecodeError u) line
      → SaysReading (codes "bit") u.bit (string_bytes u.path) line
  of_bits u h = h

  pub of_an_account : (stop : Stop)
      → SaysPlace job xs y (faults.NotAccount stop) line
      → SaysAccount (string_bytes job.account) stop line
  of_an_account stop h = h

  -- a fault of the octets of a notation
  pub octets_of_a_notation : SaysPlace job xs y (faults.Notation (notations.Octets (texts.BadName 3))) line
      → (words : List ℕ) × (line ≡ located (codes "--notation") y (Some 3) ++ words)
  octets_of_a_notation h = at_octet y (codes "--notation") line 3 h

  -- a fault of its value
  pub value_of_a_notation : (t : ValueDiagnostic)
      → SaysPlace job xs y (faults.Notation (notations.Value t)) line
      → (words : List ℕ) × (line ≡ located (codes "--notation") y (Some t.source_location.at) ++ words)
  value_of_a_notation t h = at_octet y (codes "--notation") line t.source_location.at h

  -- a fault of its tokens
  pub tokens_of_a_notation : (ts : List Token)
      → IsText y ts
      → IsWithinLimits y ts
      → SaysPlace job xs y (faults.Notation (notations.Tokens (trees.Unexpected 2))) line
      → (words : List ℕ) × (line ≡ located (codes "--notation") y (Some (token_start y ts 2)) ++ words)
  tokens_of_a_notation ts is within h = at_token y (codes "--notation") line ts 2 None is within h

-- the number and the name come first
pub whole_line : (job : Job) (xs : List (Vec ℕ Global)) (y s : List ℕ) (f : Fault)
    → IsReport job xs y f s
    → (line : List ℕ) × (s ≡ heading_of f ++ line) × SaysPlace job xs y f line
whole_line job xs y s f h = (h.line, h.is, h.place)
