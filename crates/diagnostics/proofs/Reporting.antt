-- From what is said of the parts of a line to what is said of the line. Each part may want memory.
use Rattle.std.proofs.Common.{◌≡◌, ℕ, List, ◌++◌, Option, None, Some, Result, Ok, Err, String, Vec, IfOk, codes}
use Rattle.std.proofs.Common.{ap, slice_get, string_bytes, subst, sym, ◌∙◌}
use Rattle.std.specs.Prelude.{decimal}
use Rattle.std.proofs.lemmas.List.{append_assoc}
use Rattle.std.specs.declared.alloc.Global.{Global}
use Rattle.std.specs.declared.alloc.AllocError.{AllocError}
use Rattle.account_text.specs.declared.stop.Stop.{Stop}
use Rattle.command_line.specs.declared.request.Job.{Job}
use Rattle.messages.specs.declared.fault.NotationFault.{NotationFault}
use Rattle.messages.specs.declared.fault.DecodeError.{DecodeError}
use Rattle.messages.specs.declared.fault.BitDecodeError.{BitDecodeError}
use Rattle.messages.specs.declared.fault.Fault.{Fault}
use Rattle.messages.specs.declared.fault.Fault.TheVariants as faults
use Rattle.messages.specs.Classes.{name_of, number_of}
use Rattle.diagnostics.specs.Heading.{heading_of, Begins}
use Rattle.diagnostics.specs.Locations.{files_of, left_out_of, octet_of, token_of}
use Rattle.diagnostics.specs.Places.{IsConstruct, IsFileOf, IsOctet, SaysAccount, SaysAt, SaysReading, located, text_at}
use Rattle.diagnostics.specs.Reports.{IsReport, IsTextOf, SaysInNotation, SaysInText, SaysInTexts, SaysPlace, SaysWords}
use Rattle.diagnostics.proofs.Cases.{in_texts}

-- what may be made, or memory is wanting
abbrev Made : Type 0
Made = Result (String Global) AllocError

joined : (digits name : List ℕ)
    → codes "error " ++ (digits ++ (codes " " ++ name)) ≡ codes "error " ++ digits ++ codes " " ++ name
joined digits name = simp append_assoc

pub headed : (f : Fault) (n : ℕ) (name : List ℕ) (r : Made)
    → n ≡ number_of f
    → name ≡ name_of f
    → IfOk r (λ s. string_bytes s ≡ codes "error " ++ (decimal n ++ (codes " " ++ name)))
    → IfOk r (λ s. string_bytes s ≡ heading_of f)
headed f n name (Ok s) e i h =
    h ∙ ap (λ v. codes "error " ++ (decimal v ++ (codes " " ++ name))) e
    ∙ ap (λ v. codes "error " ++ (decimal (number_of f) ++ (codes " " ++ v))) i
    ∙ joined (decimal (number_of f)) (name_of f)
headed f n name (Err z) e i h = tt

pub placed : (x file : List ℕ) (left token octet o : Option ℕ) (c l w : List ℕ) (r : Made)
    → IsConstruct x left c
    → IsOctet x token octet o
    → l ≡ located file x o
    → IfOk r (λ s. string_bytes s ≡ c ++ (l ++ w))
    → IfOk r (λ s. SaysAt x file left token octet (string_bytes s))
placed x file left token octet o c l w (Ok s) h g e i =
    record { construct = c; left = h; place = o; at = g; words = w; is = i ∙ ap (λ v. c ++ (v ++ w)) e }
placed x file left token octet o c l w (Err f) h g e i = tt

same_place : (x y file line : List ℕ) (f : Fault) (l t o : Option ℕ)
    → x ≡ y
    → l ≡ left_out_of f
    → t ≡ token_of f
    → o ≡ octet_of f
    → SaysAt x file l t o line
    → SaysAt y file (left_out_of f) (token_of f) (octet_of f) line
same_place x y file line f l t o e i j k h =
    subst (λ v. SaysAt y file (left_out_of f) (token_of f) v line) k
    (subst (λ v. SaysAt y file (left_out_of f) v o line) j
    (subst (λ v. SaysAt y file v t o line) i
    (subst (λ v. SaysAt v file l t o line) e h)))

pub in_text : (files names : List (String Global)) (k : ℕ) (x y file : List ℕ) (f : Fault) (l t o : Option ℕ) (r : Made)
    → names ≡ files
    → x ≡ y
    → l ≡ left_out_of f
    → t ≡ token_of f
    → o ≡ octet_of f
    → IsFileOf (slice_get names k) file
    → IfOk r (λ s. SaysAt x file l t o (string_bytes s))
    → IfOk r (λ s. SaysInText (slice_get files k) y f (string_bytes s))
in_text files names k x y file f l t o (Ok s) n e i j m h says = record {
  name = file;
  named = subst (λ ns. IsFileOf (slice_get ns k) file) n h;
  says = same_place x y file (string_bytes s) f l t o e i j m says;
}
in_text files names k x y file f l t o (Err z) n e i j m h says = tt

pub only_words : (w : List ℕ) (r : Made)
    → IfOk r (λ s. string_bytes s ≡ codes ": " ++ w)
    → IfOk r (λ s. SaysWords (string_bytes s))
only_words w (Ok s) h = record { words = w; is = h }
only_words w (Err z) h = tt

pub found_in : (files : List (String Global)) (xs : List (Vec ℕ Global)) (f : Fault) (found : Option ℕ) (k : ℕ)
    (r : Made)
    → IsTextOf xs f found
    → found ≡ Some k
    → IfOk r (λ s. SaysInText (slice_get files k) (text_at xs k) f (string_bytes s))
    → IfOk r (λ s. SaysInTexts files xs f (string_bytes s))
found_in files xs f found k (Ok s) h e says =
    record { found = Some k; text = subst (λ o. IsTextOf xs f o) e h; says = says }
found_in files xs f found k (Err z) h e says = tt

pub found_in_none : (files : List (String Global)) (xs : List (Vec ℕ Global)) (f : Fault) (found : Option ℕ) (r : Made)
    → IsTextOf xs f found
    → found ≡ None
    → IfOk r (λ s. SaysWords (string_bytes s))
    → IfOk r (λ s. SaysInTexts files xs f (string_bytes s))
found_in_none files xs f found (Ok s) h e says =
    record { found = None; text = subst (λ o. IsTextOf xs f o) e h; says = says }
found_in_none files xs f found (Err z) h e says = tt

-- ---- any fault

module _ (job : Job) (xs : List (Vec ℕ Global)) (y : List ℕ) (f : Fault) where
  pub of_notation : (n : NotationFault) (r : Made)
      → f ≡ faults.Notation n
      → IfOk r (λ s. SaysInNotation y n (string_bytes s))
      → IfOk r (λ s. SaysPlace job xs y f (string_bytes s))
  of_notation n (Ok s) e h = subst (λ g. SaysPlace job xs y g (string_bytes s)) (sym e) h
  of_notation n (Err z) e h = tt

  pub of_octets : (u : DecodeError) (r : Made)
      → f ≡ faults.DecodeError u
      → IfOk r (λ s. SaysReading (codes "octet") u.offset (string_bytes u.path) (string_bytes s))
      → IfOk r (λ s. SaysPlace job xs y f (string_bytes s))
  of_octets u (Ok s) e h = subst (λ g. SaysPlace job xs y g (string_bytes s)) (sym e) h
  of_octets u (Err z) e h = tt

  pub of_bits : (u : BitDecodeError) (r : Made)
      → f ≡ faults.BitDecodeError u
      → IfOk r (λ s. SaysReading (codes "bit") u.bit (string_bytes u.path) (string_bytes s))
      → IfOk r (λ s. SaysPlace job xs y f (string_bytes s))
  of_bits u (Ok s) e h = subst (λ g. SaysPlace job xs y g (string_bytes s)) (sym e) h
  of_bits u (Err z) e h = tt

  pub of_account : (stop : Stop) (name : List ℕ) (r : Made)
      → f ≡ faults.NotAccount stop
      → name ≡ string_bytes job.account
      → IfOk r (λ s. SaysAccount name stop (string_bytes s))
      → IfOk r (λ s. SaysPlace job xs y f (string_bytes s))
  of_account stop name (Ok s) e n h =
      subst (λ g. SaysPlace job xs y g (string_bytes s)) (sym e)
      (subst (λ v. SaysAccount v stop (string_bytes s)) n h)
  of_account stop name (Err z) e n h = tt

  pub of_texts : (r : Made)
      → ((n : NotationFault) → f ≡ faults.Notation n → ⊥)
      → ((u : DecodeError) → f ≡ faults.DecodeError u → ⊥)
      → ((u : BitDecodeError) → f ≡ faults.BitDecodeError u → ⊥)
      → ((s : Stop) → f ≡ faults.NotAccount s → ⊥)
      → IfOk r (λ s. SaysInTexts (files_of job f) xs f (string_bytes s))
      → IfOk r (λ s. SaysPlace job xs y f (string_bytes s))
  of_texts (Ok s) a b c d h = in_texts job xs y f (string_bytes s) a b c d h
  of_texts (Err z) a b c d h = tt

  pub reported : (a b : List ℕ) (r : Made)
      → a ≡ heading_of f
      → SaysPlace job xs y f b
      → IfOk r (λ s. string_bytes s ≡ a ++ b)
      → IfOk r (λ s. IsReport job xs y f (string_bytes s))
  reported a b (Ok s) e h i = record { line = b; is = i ∙ ap (λ v. v ++ b) e; place = h }
  reported a b (Err z) e h i = tt

  pub begun : (r : Made)
      → IfOk r (λ s. IsReport job xs y f (string_bytes s))
      → IfOk r (λ s. Begins (heading_of f) (string_bytes s))
  begun (Ok s) h = record { rest = h.line; is = h.is }
  begun (Err z) h = tt

  pub asked : (ys : List (Vec ℕ Global)) (z : List ℕ) (r : Made)
      → xs ≡ ys
      → y ≡ z
      → IfOk r (λ s. IsReport job xs y f (string_bytes s))
      → IfOk r (λ s. IsReport job ys z f (string_bytes s))
  asked ys z (Ok s) e i h =
      subst (λ v. IsReport job ys v f (string_bytes s)) i (subst (λ v. IsReport job v y f (string_bytes s)) e h)
  asked ys z (Err w) e i h = tt
