-- Tokens of values that fit their types: each value that holds no others is one of the type that began last, and lists
-- without elements may be empty.
use Rattle.std.specs.Prelude.{◌≡◌, ℕ, Bool, true, false, List, [], ◌∷◌, Some, slice_get}
use Rattle.asn_base.specs.declared.schema.TypeId.{TypeId}
use Rattle.asn_base.specs.Abstract.{AbstractValue}
use Rattle.asn_base.specs.Typed.{IsAllowedSize, IsPrimitive}
use Rattle.asn_base.specs.Types.{Kind, a_sequence_of, a_set_of, Resolved}
use Rattle.encodings.specs.Header.{Octets}
use Rattle.encodings.specs.declared.leaf_kind.LeafKind.{LeafKind}
use Rattle.octet_answers.specs.Answers.{AreContents}
use Rattle.octet_answers.specs.States.{Token, component, chosen, begun, ended, held, passed}
use Rattle.ber_source.specs.declared.judge.Judge.{Judge}

-- the type of the value that began last, and whether it began just now: since then no value was read or ended
pub record Last : Type 0 where
  pub type : TypeId
  pub fresh : Bool

-- before any token
abbrev pub at_first : Last
at_first = record { type = record { index = 0 }; fresh = false }

-- after one more token
abbrev pub after : Last → Token → Last
after l (begun t) = record { type = t; fresh = true }
after l (held k c x at) = record { type = l.type; fresh = false }
after l ended = record { type = l.type; fresh = false }
after l (component i) = l
after l (chosen i) = l
after l passed = l

abbrev pub after_all : Last → List Token → Last
after_all l [] = l
after_all l (t ∷ ts) = after_all (after l t) ts

-- a list of the kind may be empty
abbrev pub AllowsNone : Kind → Type 0
AllowsNone (a_sequence_of c u) = IsAllowedSize c 0
AllowsNone (a_set_of c u) = IsAllowedSize c 0
AllowsNone k = Unit {0}

-- a list of the type may be empty
abbrev pub MayBeEmpty : List Resolved → TypeId → Type 0
MayBeEmpty s t = (r : Resolved) → slice_get s t.index ≡ Some r → AllowsNone r.kind

-- what the contents octets mean is a value of the type
abbrev pub IsOfType : List Resolved → TypeId → LeafKind → Bool → Octets → Type 0
IsOfType s t k c x = (r : Resolved) (v : AbstractValue) (levels : ℕ)
    → slice_get s t.index ≡ Some r
    → AreContents c k v levels x
    → IsPrimitive r.kind v

abbrev pub Fits : List Resolved → Last → Token → Type 0
Fits s l (held k c x at) = IsOfType s l.type k c x
Fits s l ended = l.fresh ≡ true → MayBeEmpty s l.type
Fits s l t = Unit {0}

-- all tokens fit
abbrev pub AllFit : List Resolved → Last → List Token → Type 0
AllFit s l [] = Unit {0}
AllFit s l (t ∷ ts) = Fits s l t × AllFit s (after l t) ts

-- the judge knows the value that began last in these tokens, and if it says so, all of them fit
pub record IsJudge (s : List Resolved) (j : Judge) (ts : List Token) : Type 0 where
  pub last : after_all at_first ts ≡ record { type = j.last; fresh = j.fresh }
  pub fit : j.fits ≡ true → AllFit s at_first ts
