-- The answers of the checker (X.690, clauses 8, 10 and 11): what a verdict means for a value that is given, and what
-- follows from a yes.
use Rattle.std.specs.Prelude.{◌≡◌, ℕ, List, IsUtf8, codes}
use Rattle.asn_base.specs.Abstract.{AbstractValue}
use Rattle.asn_base.specs.Typed.{IsValue}
use Rattle.asn_base.specs.Types.{Resolved}
use Rattle.encodings.specs.Account.{Account}
use Rattle.encodings.specs.Encoding.{EncodesBy, Shortest}
use Rattle.encodings.specs.Rules.{Unsorted}
use Rattle.account_checker.specs.Reasons.{Fails, IsRightAccount}
use Rattle.account_checker.specs.declared.reason.Reason.TheVariants as reasons
use Rattle.account_checker.specs.declared.reason.Verdict.{Verdict}
use Rattle.account_checker.specs.declared.reason.Verdict.TheVariants.{Yes, No}
use Rattle.account_text.specs.Text.{IsAccountText}
use Rattle.trees.specs.Values.{Name, Tree}
use Rattle.resolve.specs.Program.{Program}
use Rattle.named_values.specs.front_end.Accepted.{Accepted}
use Rattle.named_values.specs.front_end.ValueError.{DenotesValue}
use Rattle.named_values.specs.Meant.{IsMeant}
use Rattle.named_values.specs.Named.{AreGiven}
use Rattle.named_values.specs.Given.{Given}

-- the octets are UTF-8, and the text that they are is that of account a
pub record IsAccountIn (octets : List ℕ) (a : Account) : Type 0 where
  pub utf8 : IsUtf8 octets
  pub is : IsAccountText octets a

-- The verdict is yes if v is a value of type t of schema s and account a describes how octets o encode it. It is no
-- with a reason if this is the first that fails.
abbrev pub IsVerdict : List Resolved → ℕ → AbstractValue → List ℕ → Account → Verdict → Type 0
IsVerdict s t v o a Yes = IsRightAccount s t v o a
IsVerdict s t v o a (No r) = Fails s t v o a r

-- The name of a type and what is given mean a value of program p, and the text `account` is that of an account.
-- Verdict r is the one on these and octets o.
pub record IsVerdictOn (p : Program) (s : List Resolved) (first : List ℕ) (second : Given) (o account : List ℕ)
    (r : Verdict) : Type 0 where
  pub type : ℕ
  pub value : AbstractValue
  pub meant : IsMeant p first second type value
  pub described : Account
  pub read : IsAccountIn account described
  pub verdict : IsVerdict s type value o described r

-- The texts xs are accepted, as a program with its types, and verdict r is the one in this program. It is on the name
-- of a type, a value that is given, octets o, and the text of an account.
pub record IsJudged (xs : List (List ℕ)) (first : List ℕ) (second : Given) (o account : List ℕ) (r : Verdict)
    : Type 0 where
  pub program : Program
  pub types : List Resolved
  pub accepted : Accepted xs program types
  pub on : IsVerdictOn program types first second o account r

-- What a yes alone means for texts xs, the name of a type, a value that is given, and octets o.
pub record IsConfirmed (xs : List (List ℕ)) (first : List ℕ) (second : Given) (o : List ℕ) : Type 0 where
  -- the texts are accepted, as this program with these types
  pub program : Program
  pub types : List Resolved
  pub accepted : Accepted xs program types
  -- the first name is that of this type; the value that is given, by its name or by a text, has this notation, which is
  -- read in this module
  pub type : ℕ
  pub within : Name
  pub notation : Tree
  pub named : AreGiven program first second type within notation
  -- the notation means this value under the type, and the value is one of the type
  pub value : AbstractValue
  pub is_so : DenotesValue program within type notation value
  pub is : IsValue types type value
  -- the octets are an encoding of the value by the distinguished rules, except for the order in SET and SET OF
  pub unsorted : EncodesBy Unsorted types type value 0 o
  -- the octets are an encoding by the basic rules, and no such encoding, in any definite form of lengths, is shorter
  pub shortest : Shortest types type value o

-- a verdict in words: `yes`, or `no` and the name of the reason
abbrev pub answer_of : Verdict → List ℕ
answer_of Yes = codes "yes"
answer_of (No reasons.NotOfType) = codes "no NotOfType"
answer_of (No reasons.Shape) = codes "no Shape"
answer_of (No reasons.Omitted) = codes "no Omitted"
answer_of (No reasons.Numbers) = codes "no Numbers"
answer_of (No reasons.Places) = codes "no Places"
answer_of (No reasons.Length) = codes "no Length"
answer_of (No reasons.Header) = codes "no Header"
answer_of (No reasons.Contents) = codes "no Contents"
