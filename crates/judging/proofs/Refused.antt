-- Why there is no verdict, fault by fault.
use Rattle.std.proofs.Common.{◌≡◌, ℕ, List, refl, subst, sym}
use Rattle.std.specs.Prelude.{IsUtf8}
use Rattle.asn_base.specs.Abstract.{AbstractValue}
use Rattle.encodings.specs.Account.{Account}
use Rattle.account_text.specs.declared.stop.Stop.{Stop}
use Rattle.account_text.specs.Stops.{IsStop}
use Rattle.account_text.specs.Text.{IsAccountText}
use Rattle.resolve.specs.Program.{Program}
use Rattle.named_values.specs.front_end.Accepted.{AreAccepted, IsCheckedProgram}
use Rattle.named_values.specs.front_end.Faults.{IsRightCompileError}
use Rattle.named_values.specs.front_end.declared.fault.CompileError.{CompileError}
use Rattle.named_values.specs.front_end.declared.fault.CompileError.TheVariants as texts
use Rattle.named_values.specs.messages.declared.fault.Fault.{Fault}
use Rattle.named_values.specs.messages.declared.fault.Fault.TheVariants as faults
use Rattle.named_values.specs.Meant.{IsMeant, IsNotMeant}
use Rattle.judging.specs.Judged.{IsAccountIn, IsVerdictOn}
use Rattle.judging.specs.Refusals.{IsNoAccount, IsNotJudged, IsNotJudgedOn}
use Rattle.account_checker.specs.declared.reason.Verdict.{Verdict}
use Rattle.asn_base.specs.Types.{Resolved}
use Rattle.named_values.specs.Given.{Given}

-- texts that mean no value have no verdict
pub not_meant : (p : Program) (first : List ℕ) (second : Given) (account : List ℕ) (e : Fault) →
    IsNotMeant p first second e →
    IsNotJudgedOn p first second account e
not_meant p first second account faults.Memory h = h
not_meant p first second account (faults.NoType x) h = h
not_meant p first second account (faults.NoValue x) h = h
not_meant p first second account (faults.Value t) h = h
not_meant p first second account (faults.Notation t) h = h
not_meant p first second account (faults.Front f) h = h
not_meant p first second account (faults.DecodeError u) h = h
not_meant p first second account (faults.BadWords x) h = h
not_meant p first second account (faults.Help x) h = h
not_meant p first second account (faults.File x) h = h
not_meant p first second account (faults.NoFile x) h = h
not_meant p first second account (faults.Folder x) h = h
not_meant p first second account (faults.Newer x) h = h
not_meant p first second account (faults.NoNewerType x) h = h
not_meant p first second account faults.TooLong h = h
not_meant p first second account (faults.BitDecodeError u) h = h
not_meant p first second account faults.MessageLimit h = h
not_meant p first second account (faults.Device n) h = h
not_meant p first second account (faults.NotAccount s) h = absurd h

-- octets that stop being the text of an account there are none
pub stops_there : (octets : List ℕ) (s : Stop) →
    IsStop octets s → ((a : Account) → IsAccountIn octets a → ⊥) → IsNoAccount octets (faults.NotAccount s)
stops_there octets s stop none = (none, stop)

-- a value without an account has none
pub not_read : (p : Program) (first : List ℕ) (second : Given) (account : List ℕ) (t : ℕ) (v : AbstractValue)
    (e : Fault) →
    IsMeant p first second t v → IsNoAccount account e → IsNotJudgedOn p first second account e
not_read p first second account t v faults.Memory m h = tt
not_read p first second account t v (faults.NotAccount s) m h = record { type = t; value = v; meant = m; none = h.0; stop = h.1 }
not_read p first second account t v (faults.NoType x) m h = absurd h
not_read p first second account t v (faults.NoValue x) m h = absurd h
not_read p first second account t v (faults.Value x) m h = absurd h
not_read p first second account t v (faults.Notation x) m h = absurd h
not_read p first second account t v (faults.Front f) m h = absurd h
not_read p first second account t v (faults.DecodeError u) m h = absurd h
not_read p first second account t v (faults.BadWords x) m h = absurd h
not_read p first second account t v (faults.Help x) m h = absurd h
not_read p first second account t v (faults.File x) m h = absurd h
not_read p first second account t v (faults.NoFile x) m h = absurd h
not_read p first second account t v (faults.Folder x) m h = absurd h
not_read p first second account t v (faults.Newer x) m h = absurd h
not_read p first second account t v (faults.NoNewerType x) m h = absurd h
not_read p first second account t v faults.TooLong m h = absurd h
not_read p first second account t v (faults.BitDecodeError u) m h = absurd h
not_read p first second account t v faults.MessageLimit m h = absurd h
not_read p first second account t v (faults.Device n) m h = absurd h

-- if there is no verdict in the program of accepted texts, there is none for these texts
pub not_judged : (xs : List (List ℕ)) (p : Program) (first : List ℕ) (second : Given) (account : List ℕ) (e : Fault) →
    AreAccepted xs p →
    IsNotJudgedOn p first second account e → IsNotJudged xs first second account e
not_judged xs p first second account faults.Memory a h = tt
not_judged xs p first second account (faults.NoType x) a h = record { program = p; accepted = a; on = h }
not_judged xs p first second account (faults.NoValue x) a h = record { program = p; accepted = a; on = h }
not_judged xs p first second account (faults.Value x) a h = record { program = p; accepted = a; on = h }
not_judged xs p first second account (faults.Notation x) a h = record { program = p; accepted = a; on = h }
not_judged xs p first second account (faults.NotAccount s) a h = record { program = p; accepted = a; on = h }
not_judged xs p first second account (faults.Front f) a h = absurd h
not_judged xs p first second account (faults.DecodeError u) a h = absurd h
not_judged xs p first second account (faults.BadWords x) a h = absurd h
not_judged xs p first second account (faults.Help x) a h = absurd h
not_judged xs p first second account (faults.File x) a h = absurd h
not_judged xs p first second account (faults.NoFile x) a h = absurd h
not_judged xs p first second account (faults.Folder x) a h = absurd h
not_judged xs p first second account (faults.Newer x) a h = absurd h
not_judged xs p first second account (faults.NoNewerType x) a h = absurd h
not_judged xs p first second account faults.TooLong a h = absurd h
not_judged xs p first second account (faults.BitDecodeError u) a h = absurd h
not_judged xs p first second account faults.MessageLimit a h = absurd h
not_judged xs p first second account (faults.Device n) a h = absurd h

-- ---- accounts

pub not_utf8 : (o : List ℕ) → (IsUtf8 o → ⊥) → (a : Account) → IsAccountIn o a → ⊥
not_utf8 o n a i = n i.utf8

pub not_text : (o t : List ℕ) → t ≡ o → ((a : Account) → IsAccountText t a → ⊥) → (a : Account) → IsAccountIn o a → ⊥
not_text o t e n a i = n a (subst (λ x. IsAccountText x a) (sym e) i.is)

pub in_text : (o t : List ℕ) (a : Account) → t ≡ o → IsUtf8 o → IsAccountText t a → IsAccountIn o a
in_text o t a e u i = record { utf8 = u; is = subst (λ x. IsAccountText x a) e i }

-- ---- there is a verdict

abbrev pub Refuses : Type 0
Refuses = (p : Program) (first : List ℕ) (second : Given) (t : ℕ) (v : AbstractValue) (e : Fault) → IsCheckedProgram p →
    IsMeant p first second t v → IsNotMeant p first second e → e ≡ faults.Memory

pub not_refused : Refuses → (p : Program) (s : List Resolved) (first : List ℕ) (second : Given) (o account : List ℕ)
    (r : Verdict) (e : Fault) →
    IsCheckedProgram p → IsVerdictOn p s first second o account r → IsNotJudgedOn p first second account e → e ≡ faults.Memory
not_refused law p s first second o account r (faults.NotAccount x) k v h = absurd (h.none v.described v.read)
not_refused law p s first second o account r faults.Memory k v h = refl
not_refused law p s first second o account r (faults.NoType x) k v h = law p first second v.type v.value
    (faults.NoType x) k v.meant h
not_refused law p s first second o account r (faults.NoValue x) k v h = law p first second v.type v.value
    (faults.NoValue x) k v.meant h
not_refused law p s first second o account r (faults.Value x) k v h = law p first second v.type v.value
    (faults.Value x) k v.meant h
not_refused law p s first second o account r (faults.Notation x) k v h = law p first second v.type v.value
    (faults.Notation x) k v.meant h
not_refused law p s first second o account r (faults.Front f) k v h = absurd h
not_refused law p s first second o account r (faults.DecodeError u) k v h = absurd h
not_refused law p s first second o account r (faults.BadWords x) k v h = absurd h
not_refused law p s first second o account r (faults.Help x) k v h = absurd h
not_refused law p s first second o account r (faults.File x) k v h = absurd h
not_refused law p s first second o account r (faults.NoFile x) k v h = absurd h
not_refused law p s first second o account r (faults.Folder x) k v h = absurd h
not_refused law p s first second o account r (faults.Newer x) k v h = absurd h
not_refused law p s first second o account r (faults.NoNewerType x) k v h = absurd h
not_refused law p s first second o account r faults.TooLong k v h = absurd h
not_refused law p s first second o account r (faults.BitDecodeError u) k v h = absurd h
not_refused law p s first second o account r faults.MessageLimit k v h = absurd h
not_refused law p s first second o account r (faults.Device n) k v h = absurd h

abbrev pub Excludes : Type 0
Excludes = (xs : List (List ℕ)) (p : Program) (f : CompileError) → (f ≡ texts.Memory → ⊥) → IsRightCompileError xs f →
    AreAccepted xs p → ⊥

abbrev pub OneProgram : Type 0
OneProgram = (xs : List (List ℕ)) (p q : Program) → AreAccepted xs p → AreAccepted xs q → p ≡ q

-- the same if the program is that of the texts
in_texts : Refuses → OneProgram → (xs : List (List ℕ)) (p q : Program) (s : List Resolved) (first : List ℕ)
    (second : Given) (o account : List ℕ)
    (r : Verdict) (e : Fault) → IsCheckedProgram p → AreAccepted xs p → AreAccepted xs q →
    IsVerdictOn p s first second o account r →
    IsNotJudgedOn q first second account e → e ≡ faults.Memory
in_texts law one xs p q s first second o account r e k a b v h =
    not_refused law p s first second o account r e k v
    (subst (λ x. IsNotJudgedOn x first second account e) (one xs q p b a) h)

pub texts_judged : Refuses → OneProgram → Excludes → (xs : List (List ℕ)) (p : Program) (s : List Resolved)
    (first : List ℕ) (second : Given) (o account : List ℕ) (r : Verdict) (e : Fault) → IsCheckedProgram p → AreAccepted xs p →
    IsVerdictOn p s first second o account r → IsNotJudged xs first second account e → e ≡ faults.Memory
texts_judged law one other xs p s first second o account r faults.Memory k a v h = refl
texts_judged law one other xs p s first second o account r (faults.Front f) k a v h = absurd (other xs p f h.0 h.1 a)
texts_judged law one other xs p s first second o account r (faults.NoType x) k a v h =
    in_texts law one xs p h.program s first second o account r (faults.NoType x) k a h.accepted v h.on
texts_judged law one other xs p s first second o account r (faults.NoValue x) k a v h =
    in_texts law one xs p h.program s first second o account r (faults.NoValue x) k a h.accepted v h.on
texts_judged law one other xs p s first second o account r (faults.Value x) k a v h =
    in_texts law one xs p h.program s first second o account r (faults.Value x) k a h.accepted v h.on
texts_judged law one other xs p s first second o account r (faults.Notation x) k a v h =
    in_texts law one xs p h.program s first second o account r (faults.Notation x) k a h.accepted v h.on
texts_judged law one other xs p s first second o account r (faults.NotAccount x) k a v h =
    in_texts law one xs p h.program s first second o account r (faults.NotAccount x) k a h.accepted v h.on
texts_judged law one other xs p s first second o account r (faults.DecodeError u) k a v h = absurd h.on
texts_judged law one other xs p s first second o account r (faults.BadWords x) k a v h = absurd h.on
texts_judged law one other xs p s first second o account r (faults.Help x) k a v h = absurd h.on
texts_judged law one other xs p s first second o account r (faults.File x) k a v h = absurd h.on
texts_judged law one other xs p s first second o account r (faults.NoFile x) k a v h = absurd h.on
texts_judged law one other xs p s first second o account r (faults.Folder x) k a v h = absurd h.on
texts_judged law one other xs p s first second o account r (faults.Newer x) k a v h = absurd h.on
texts_judged law one other xs p s first second o account r (faults.NoNewerType x) k a v h = absurd h.on
texts_judged law one other xs p s first second o account r faults.TooLong k a v h = absurd h.on
texts_judged law one other xs p s first second o account r (faults.BitDecodeError u) k a v h = absurd h.on
texts_judged law one other xs p s first second o account r faults.MessageLimit k a v h = absurd h.on
texts_judged law one other xs p s first second o account r (faults.Device n) k a v h = absurd h.on
