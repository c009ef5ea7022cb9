-- What a verdict says, and that there is one.
use Rattle.std.proofs.Common.{◌≡◌, ◌↔◌, ℕ, List, refl, ap, subst}
use Rattle.asn_base.specs.Abstract.{AbstractValue}
use Rattle.asn_base.specs.Types.{Resolved}
use Rattle.encodings.specs.Account.{Account}
use Rattle.account_checker.specs.Reasons.{Fails, IsRightAccount}
use Rattle.account_checker.specs.declared.reason.Reason.{Reason}
use Rattle.account_checker.specs.declared.reason.Verdict.{Verdict}
use Rattle.account_checker.specs.declared.reason.Verdict.TheVariants.{Yes, No}
use Rattle.account_text.specs.Text.{IsAccountText}
use Rattle.resolve.specs.Program.{Program}
use Rattle.named_values.specs.front_end.Accepted.{IsCheckedProgram}
use Rattle.named_values.specs.Meant.{IsMeant}
use Rattle.judging.specs.Judged.{IsVerdict, IsVerdictOn}
use Rattle.named_values.specs.Given.{Given}

pub verdict_is : (s : List Resolved) (t : ℕ) (v : AbstractValue) (o : List ℕ) (a : Account) (r : Verdict)
    → (r ≡ Yes ↔ IsRightAccount s t v o a)
    → ((e : Reason) → (r ≡ No e ↔ Fails s t v o a e))
    → IsVerdict s t v o a r
verdict_is s t v o a Yes y n = y.0 refl
verdict_is s t v o a (No e) y n = (n e).0 refl

-- ---- one at most

abbrev pub OneReason : Type 0
OneReason = (s : List Resolved) (t : ℕ) (v : AbstractValue) (o : List ℕ) (a : Account) (r e : Reason)
    → Fails s t v o a r → Fails s t v o a e → r ≡ e

abbrev pub NoReason : Type 0
NoReason = (s : List Resolved) (t : ℕ) (v : AbstractValue) (o : List ℕ) (a : Account) (r : Reason)
    → IsRightAccount s t v o a → Fails s t v o a r → ⊥

abbrev pub OneAccount : Type 0
OneAccount = (text : List ℕ) (a b : Account) → IsAccountText text a → IsAccountText text b → a ≡ b

abbrev pub OneMeaning : Type 0
OneMeaning = (p : Program) (first : List ℕ) (second : Given) (t u : ℕ) (v w : AbstractValue) → IsCheckedProgram p →
    IsMeant p first second t v →
    IsMeant p first second u w → (t ≡ u) × (v ≡ w)

one_of_two : OneReason → NoReason → (s : List Resolved) (t : ℕ) (v : AbstractValue) (o : List ℕ) (a : Account)
    (r e : Verdict)
    → IsVerdict s t v o a r
    → IsVerdict s t v o a e
    → r ≡ e
one_of_two one none s t v o a Yes Yes h k = refl
one_of_two one none s t v o a Yes (No e) h k = absurd (none s t v o a e h k)
one_of_two one none s t v o a (No r) Yes h k = absurd (none s t v o a r k h)
one_of_two one none s t v o a (No r) (No e) h k = ap No (one s t v o a r e h k)

pub lemma_one_verdict : OneReason → NoReason → OneAccount → OneMeaning → (p : Program) (s : List Resolved)
    (first : List ℕ) (second : Given) (o account : List ℕ) (r e : Verdict) → IsCheckedProgram p →
    IsVerdictOn p s first second o account r →
    IsVerdictOn p s first second o account e → r ≡ e
lemma_one_verdict one none account_of meaning p s first second o account r e kept a b =
    let m = meaning p first second a.type b.type a.value b.value kept a.meant b.meant in
    let x = account_of account a.described b.described a.read.is b.read.is in
    let h = subst (λ t. IsVerdict s t a.value o a.described r) m.0 a.verdict in
    let k = subst (λ v. IsVerdict s b.type v o a.described r) m.1 h in
    let l = subst (λ c. IsVerdict s b.type b.value o c r) x k in
    one_of_two one none s b.type b.value o b.described r e l b.verdict
