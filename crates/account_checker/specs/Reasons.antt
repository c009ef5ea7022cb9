-- What each reason of the checker's verdict denies (X.690, clauses 8, 10 and 11), and the order in which reasons are
-- sought (own rule).
use Rattle.std.specs.Prelude.{◌≡◌, ℕ, ◌<◌, true, false, List, length}
use Rattle.asn_base.specs.Abstract.{AbstractValue}
use Rattle.asn_base.specs.Types.{TypeNumber, Resolved}
use Rattle.asn_base.specs.Typed.{IsValue}
use Rattle.encodings.specs.Header.{Octets}
use Rattle.encodings.specs.Account.{Account, Describes}
use Rattle.account_checker.specs.declared.checks.Checks.{Checks}
use Rattle.account_checker.specs.declared.reason.Reason.{Reason}
use Rattle.account_checker.specs.declared.reason.Reason.TheVariants.{NotOfType, Shape, Omitted, Numbers, Places, Length}
use Rattle.account_checker.specs.declared.reason.Reason.TheVariants.{Header, Contents}
use Rattle.account_checker.specs.Follows.{Follows, total_octets}

-- the place of a reason in the order in which the reasons are sought, from 0 (own rule)
abbrev pub rank : Reason → ℕ
rank NotOfType = 0
rank Shape = 1
rank Omitted = 2
rank Numbers = 3
rank Places = 4
rank Length = 5
rank Header = 6
rank Contents = 7

-- what is asked for the reason `Shape`: the shape of the rows alone
abbrev pub to_shape : Checks
to_shape = record { omitted = false; numbers = false; places = false; headers = false; contents = false }

-- what is asked for the reason `Omitted`: the shape, and which components are left out
abbrev pub to_omitted : Checks
to_omitted = record { omitted = true; numbers = false; places = false; headers = false; contents = false }

-- what is asked for the reason `Numbers`: all that `to_omitted` asks, and the numbers of headers
abbrev pub to_numbers : Checks
to_numbers = record { omitted = true; numbers = true; places = false; headers = false; contents = false }

-- what is asked for the reason `Places`: all that `to_numbers` asks, and the places of members
abbrev pub to_places : Checks
to_places = record { omitted = true; numbers = true; places = true; headers = false; contents = false }

-- what is asked for the reason `Header`: all that `to_places` asks, and the headers in the octets
abbrev pub to_headers : Checks
to_headers = record { omitted = true; numbers = true; places = true; headers = true; contents = false }

-- what is asked for the reason `Contents`: all that `to_headers` asks, and the contents in the octets
abbrev pub to_contents : Checks
to_contents = record { omitted = true; numbers = true; places = true; headers = true; contents = true }

-- what a reason denies of a value v of type t, octets o and account a: with this reason, it doesn't hold
abbrev pub Holds : List Resolved → TypeNumber → AbstractValue → Octets → Account → Reason → Type 0
Holds s t v o a NotOfType = IsValue s t v
Holds s t v o a Shape = Follows s to_shape t v o a
Holds s t v o a Omitted = Follows s to_omitted t v o a
Holds s t v o a Numbers = Follows s to_numbers t v o a
Holds s t v o a Places = Follows s to_places t v o a
Holds s t v o a Length = length o ≡ total_octets a
Holds s t v o a Header = Follows s to_headers t v o a
Holds s t v o a Contents = Follows s to_contents t v o a

-- reason r fails for value v of type t, octets o and account a, and all reasons before it in their order hold
pub record Fails (s : List Resolved) (t : TypeNumber) (v : AbstractValue) (o : Octets) (a : Account) (r : Reason)
    : Type 0 where
  pub denied : Holds s t v o a r → ⊥
  pub first : (e : Reason) → rank e < rank r → Holds s t v o a e

-- v is a value of type t of schema s, and account a describes how octets o encode it: what the checker's yes means
pub record IsRightAccount (s : List Resolved) (t : TypeNumber) (v : AbstractValue) (o : Octets) (a : Account)
    : Type 0 where
  pub value : IsValue s t v
  pub describes : Describes s t v o a
