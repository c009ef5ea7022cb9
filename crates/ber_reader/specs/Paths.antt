-- Ways to a value that begins: the values that are open around it, and the part of each that leads on.
use Rattle.std.specs.Prelude.{◌≡◌, ℕ, zero, suc, List, [], ◌∷◌, ◌++◌, map}
use Rattle.asn_base.specs.declared.schema.TypeId.{TypeId}
use Rattle.octet_answers.specs.States.{Token, component, chosen, begun, ended, held, passed}
use Rattle.ber_reader.specs.Opened.{entered, on_last, opens, opens_after}
use Rattle.ber_reader.specs.declared.open.OpenValue.{OpenValue}

-- the number of values that begin among the tokens
abbrev pub begun_in : List Token → ℕ
begun_in [] = 0
begun_in (begun t ∷ ts) = suc (begun_in ts)
begun_in (component i ∷ ts) = begun_in ts
begun_in (chosen i ∷ ts) = begun_in ts
begun_in (ended ∷ ts) = begun_in ts
begun_in (held k c x at ∷ ts) = begun_in ts
begun_in (passed ∷ ts) = begun_in ts

-- an open value as a step of a way, apart from how many parts of it were read
abbrev pub on_path : OpenValue → OpenValue
on_path o = record { ty = o.ty; part = o.part; read = 0 }

-- a value that begins in the innermost open value is the one to which the way leads
abbrev pub Leads : List OpenValue → List OpenValue → Type 0
Leads path os = map on_path (on_last entered os) ≡ map on_path path

-- The number of values that begin before the first one to which the way leads, if the values os are open at first. If
-- the way leads to none of them, it is the number of all values that begin.
pub data BeginsBefore (path : List OpenValue) : List OpenValue → List Token → ℕ → Type 0 where
  no_token : {os : List OpenValue} → BeginsBefore path os [] 0
  leads_here : {os : List OpenValue} {t : TypeId} {ts : List Token}
      → Leads path os
      → BeginsBefore path os (begun t ∷ ts) 0
  leads_on : {os : List OpenValue} {t : TypeId} {ts : List Token} {n : ℕ}
      → (Leads path os → ⊥)
      → BeginsBefore path (opens_after os (begun t)) ts n
      → BeginsBefore path os (begun t ∷ ts) (suc n)
  none_begins : {os : List OpenValue} {t : Token} {ts : List Token} {n : ℕ}
      → begun_in (t ∷ []) ≡ 0
      → BeginsBefore path (opens_after os t) ts n
      → BeginsBefore path os (t ∷ ts) n

-- the values os are open after tokens among which `most` values begin, and one more value begins after those tokens
pub record AreOpenBefore (all : List Token) (most : ℕ) (os : List OpenValue) : Type 0 where
  pub before : List Token
  pub value : TypeId
  pub following : List Token
  pub whole : all ≡ before ++ begun value ∷ following
  pub as_many : begun_in before ≡ most
  pub opened : os ≡ opens before
