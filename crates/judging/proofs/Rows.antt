-- What a verdict is worth, field by field: each row needs one of the definitions' premises.
use Rattle.std.proofs.Common.{◌≡◌, ℕ, ◌≤◌, List, length, refl}
use Rattle.std.specs.Prelude.{codes, IsUtf8}
use Rattle.asn_base.specs.Abstract.{AbstractValue}
use Rattle.asn_base.specs.Typed.{IsValue}
use Rattle.asn_base.specs.Types.{Resolved}
use Rattle.encodings.specs.Account.{Account, Describes}
use Rattle.encodings.specs.Encoding.{Ber, EncodesBy}
use Rattle.encodings.specs.Rules.{Unsorted}
use Rattle.account_checker.specs.Reasons.{Fails}
use Rattle.account_checker.specs.declared.reason.Reason.{Reason}
use Rattle.account_checker.specs.declared.reason.Reason.TheVariants.{NotOfType}
use Rattle.account_checker.specs.declared.reason.Verdict.TheVariants.{Yes, No}
use Rattle.account_text.specs.Stops.{IsStop}
use Rattle.account_text.specs.Text.{IsAccountText}
use Rattle.account_text.specs.declared.stop.Stop.{Stop}
use Rattle.resolve.specs.Program.{Program}
use Rattle.named_values.specs.front_end.Accepted.{Accepted, AreAccepted}
use Rattle.named_values.specs.front_end.Faults.{IsRightCompileError}
use Rattle.named_values.specs.front_end.declared.fault.CompileError.{CompileError}
use Rattle.named_values.specs.front_end.declared.fault.CompileError.TheVariants as texts
use Rattle.named_values.specs.messages.declared.fault.Fault.TheVariants as faults
use Rattle.named_values.specs.messages.value_diagnostics.declared.value_diagnostic.ValueDiagnostic.{ValueDiagnostic}
use Rattle.named_values.specs.Named.{AreGiven}
use Rattle.named_values.specs.front_end.ValueError.{DenotesValue}
use Rattle.named_values.specs.Meant.{IsMeant, IsNotMeant}
use Rattle.judging.specs.Judged.{IsConfirmed, IsVerdictOn, IsJudged, answer_of}
use Rattle.judging.specs.Refusals.{IsNotJudged}
use Rattle.named_values.specs.Given.{Given}

-- no BER encoding of the value that was confirmed is shorter
none_shorter : {xs : List (List ℕ)} {first : List ℕ} {second : Given} {o : List ℕ} (c : IsConfirmed xs first second o)
    (p : List ℕ)
    → Ber c.types c.type c.value 0 p → length o ≤ length p
none_shorter c p b = c.shortest.least p b

-- the octets are one
is_encoding : {xs : List (List ℕ)} {first : List ℕ} {second : Given} {o : List ℕ} (c : IsConfirmed xs first second o)
    → Ber c.types c.type c.value 0 o
is_encoding c = c.shortest.is

-- it is a value of the type, and the one that the notation of the second name stands for
is_value : {xs : List (List ℕ)} {first : List ℕ} {second : Given} {o : List ℕ} (c : IsConfirmed xs first second o) →
    IsValue c.types c.type c.value
is_value c = c.is

stands_for : {xs : List (List ℕ)} {first : List ℕ} {second : Given} {o : List ℕ} (c : IsConfirmed xs first second o)
    → DenotesValue c.program c.within c.type c.notation c.value
stands_for c = c.is_so

-- the types are those of the texts
of_texts : {xs : List (List ℕ)} {first : List ℕ} {second : Given} {o account : List ℕ}
    (j : IsJudged xs first second o account Yes)
    → Accepted xs j.program j.types
of_texts j = j.accepted

-- after a yes the account is the one of the text, and describes how the octets are made up
describes : {xs : List (List ℕ)} {first : List ℕ} {second : Given} {o account : List ℕ}
    (j : IsJudged xs first second o account Yes)
    → Describes j.types j.on.type j.on.value o j.on.described
describes j = j.on.verdict.describes

of_text : {xs : List (List ℕ)} {first : List ℕ} {second : Given} {o account : List ℕ}
    (j : IsJudged xs first second o account Yes)
    → IsAccountText account j.on.described
of_text j = j.on.read.is

in_utf8 : {xs : List (List ℕ)} {first : List ℕ} {second : Given} {o account : List ℕ}
    (j : IsJudged xs first second o account Yes) → IsUtf8 account
in_utf8 j = j.on.read.utf8

of_names : {xs : List (List ℕ)} {first : List ℕ} {second : Given} {o account : List ℕ}
    (j : IsJudged xs first second o account Yes)
    → IsMeant j.program first second j.on.type j.on.value
of_names j = j.on.meant

-- the words
says_yes : answer_of Yes ≡ codes "yes"
says_yes = refl

says_no : answer_of (No NotOfType) ≡ codes "no NotOfType"
says_no = refl

-- ---- what is confirmed, and why there is no verdict

module _ (xs : List (List ℕ)) (first : List ℕ) (second : Given) (o : List ℕ) (c : IsConfirmed xs first second o) where
  confirmed_texts : Accepted xs c.program c.types
  confirmed_texts = c.accepted

  confirmed_names : AreGiven c.program first second c.type c.within c.notation
  confirmed_names = c.named

  confirmed_unsorted : EncodesBy Unsorted c.types c.type c.value 0 o
  confirmed_unsorted = c.unsorted

module _ (p : Program) (s : List Resolved) (first : List ℕ) (second : Given) (o account : List ℕ) where
  verdict_yes : (d : IsVerdictOn p s first second o account Yes)
      → IsValue s d.type d.value × Describes s d.type d.value o d.described
  verdict_yes d = (d.verdict.value, d.verdict.describes)

  verdict_no : (r : Reason) (d : IsVerdictOn p s first second o account (No r)) → Fails s d.type d.value o d.described r
  verdict_no r d = d.verdict

module _ (xs : List (List ℕ)) (first : List ℕ) (second : Given) (account : List ℕ) where
  not_an_account : (e : Stop)
      → IsNotJudged xs first second account (faults.NotAccount e)
      → (p : Program) × AreAccepted xs p × (t : ℕ) × (v : AbstractValue) × IsMeant p first second t v
      × ((a : Account) → IsUtf8 account → IsAccountText account a → ⊥)
      × IsStop account e
  not_an_account e j = (
    j.program,
    j.accepted,
    j.on.type,
    j.on.value,
    j.on.meant,
    λ a u i. j.on.none a (record { utf8 = u; is = i }),
    j.on.stop,
  )

  no_value_there : (t : ValueDiagnostic)
      → IsNotJudged xs first second account (faults.Value t)
      → (p : Program) × AreAccepted xs p × IsNotMeant p first second (faults.Value t)
  no_value_there t j = (j.program, j.accepted, j.on)

  texts_refused : (f : CompileError)
      → IsNotJudged xs first second account (faults.Front f)
      → (f ≡ texts.Memory → ⊥) × IsRightCompileError xs f
  texts_refused f j = j
