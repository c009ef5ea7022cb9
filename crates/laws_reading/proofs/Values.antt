-- Values that were read from one state to another.
use Rattle.std.proofs.Common.{arith, ◌≡◌, ℕ, ◌+◌, ◌<◌, ◌≤◌, List, [], ◌++◌, length, ap, ◌∙◌}
use Rattle.std.specs.Int.Digits.{AllBelowBase}
use Rattle.asn_base.specs.Abstract.{AbstractValue}
use Rattle.asn_base.specs.Types.{TypeNumber, Resolved}
use Rattle.encodings.specs.Rules.{Basic}
use Rattle.encodings.specs.Encoding.{EncodesTo}
use Rattle.encodings.specs.Levels.{levels}
use Rattle.codec_code.specs.declared.step.Step.{Step}
use Rattle.codec_code.specs.Routines.{id_of}
use Rattle.octet_answers.specs.States.{State, Token}
use Rattle.laws_reading.specs.TokensShow.{TokensShow, skipped_in}
use Rattle.laws_reading.proofs.Along.{Along, stays, below_after}
use Rattle.laws_reading.proofs.Runs.{Runs, RunsValue}

-- a state within a message of octets, in the schema
pub record Fine (s : List Resolved) (a : State) : Type 0 where
  pub schema : a.schema ≡ s
  pub below : AllBelowBase 256 a.here.octets
  pub deep : length a.outer ≤ 400

pub fine_after : {s : List Resolved} {a b : State} {o : List ℕ} → Fine s a → Along a b o → Fine s b
fine_after f al = record { schema = al.schema ∙ f.schema; below = below_after al f.below; deep = (let e = ap length al.outer in let d = f.deep in omega arith) }

-- what was read from the first state to the second
pub record ValueRead (s : List Resolved) (t : TypeNumber) (a b : State) : Type 0 where
  pub value : AbstractValue
  pub count : ℕ
  pub octets : List ℕ
  pub is_encoded : EncodesTo s Basic t value count octets
  pub few : levels is_encoded + length a.outer ≤ 400
  pub along : Along a b octets
  pub marks : b.marks ≡ a.marks
  pub tokens : List Token
  pub emitted : b.emitted ≡ a.emitted ++ tokens
  pub shown : TokensShow s t value tokens
  pub counted : skipped_in tokens ≡ count

-- values of fewer levels are read so
abbrev pub Below : List Resolved → ℕ → Type 0
Below s n = (t : TypeNumber) (a b : State) → t < length s → Fine s a → RunsValue s n (id_of t) a b → ValueRead s t a b

-- after steps of a routine
pub record Then (s : List Resolved) (n : ℕ) (R : State → Type 0) (tail : List Step) (z : State) : Type 0 where
  pub state : State
  pub read : R state
  pub rest : Runs s n tail state z

pub outer_same : {a b : State} {o : List ℕ} → Along a b o → length b.outer ≡ length a.outer
outer_same al = ap length al.outer

pub same_state : (a b : State) → b ≡ a → Along a b []
same_state a b e = stays a b (ap (λ q. q.here) e) (ap (λ q. q.outer) e) (ap (λ q. q.values) e) (ap (λ q. q.schema) e)
