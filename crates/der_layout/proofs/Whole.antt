-- What the table holds after all events.
use Rattle.std.proofs.Common.{◌≡◌, ℕ, ◌<◌, ◌≤◌, ◌^◌, List, [], ◌++◌, length, map, sym, ap, subst, ◌∙◌, append-nil, arith}
use Rattle.asn_base.specs.Types.{Resolved}
use Rattle.asn_base.specs.Abstract.{AbstractValue}
use Rattle.encodings.specs.Encoding.{Der}
use Rattle.encodings.specs.Account.{Account, Describes as TellsAccount}
use Rattle.codec_code.specs.Events.{Event, Tree, flat, HasOctets}
use Rattle.codec_code.specs.Meaning.{Describes}
use Rattle.octet_account.specs.Flat.{FlatRow, IsWithin, AreRows}
use Rattle.account_rows.specs.RowLayout.{RowLayout}
use Rattle.account_rows.specs.Meaning.{GivesRows}
use Rattle.der_layout.specs.Rows.{listed, capped_row}
use Rattle.der_layout.specs.Tables.{State, Runs}
use Rattle.der_layout.proofs.Lengths.{length_of}
use Rattle.der_layout.proofs.Small.{small_rows}
use Rattle.der_layout.proofs.Trees.{counted}

-- nothing was added yet
pub record Empty (a : State) : Type 0 where
  pub octets : a.octets ≡ []
  pub rows : a.rows ≡ []
  pub members : a.members ≡ 0

-- the octets and rows of a tree
record Ran (t : Tree) (c : State) : Type 0 where
  exact : List FlatRow
  holds : RowLayout t c.octets exact
  rows : c.rows ≡ map capped_row exact

ran : (t : Tree) (es : List Event) (a c : State) → es ≡ flat t → Empty a → Runs es a c → Ran t c
ran t es a c listed z runs =
    let m = z.members in
    let p = counted t [] a c (omega (arith, m)) (subst (λ q. Runs q a c) (listed ∙ sym (append-nil (flat t))) runs) in
    let o : p.octets ≡ c.octets = ap (λ q. q ++ p.octets) (sym z.octets) ∙ ap (λ q. q.octets) p.more in
    record {
      exact = p.exact;
      holds = subst (λ q. RowLayout t q p.exact) o p.holds;
      rows = sym (ap (λ q. q.rows) p.more) ∙ ap (λ q. q ++ map capped_row p.exact) z.rows;
    }

few : (n : ℕ) → n ≤ 16777216 → n < 2 ^ 64
few n h = omega (arith, h)

module _ (stand : (t : Tree) (o : List ℕ) (rs : List FlatRow) → RowLayout t o rs → HasOctets t o) where
  -- the octets encode the value
  pub whole : (s : List Resolved) (t : ℕ) (v : AbstractValue) (es : List Event) (a c : State) → Describes s t v es → Runs es a c → Empty a → length c.octets ≤ 16777216 → Der s t v 0 c.octets
  whole s t v es a c describes runs none short =
      let p = ran describes.tree es a c describes.told none runs in
      describes.der c.octets (stand describes.tree c.octets p.exact p.holds) (few (length c.octets) short)

  -- each account of the value is one of as many octets
  pub longer : (s : List Resolved) (t : ℕ) (v : AbstractValue) (es : List Event) (a c : State)
      → ((o : List ℕ) → Der s t v 0 o → (b : Account) × TellsAccount s t v o b)
      → GivesRows s t v es → Runs es a c → Empty a → 16777216 < length c.octets → (o : List ℕ) → Der s t v 0 o → 16777216 < length o
  longer s t v es a c exists describes runs none many o der =
      let p = ran describes.tree es a c describes.listed none runs in
      let k = length_of describes.tree c.octets (stand describes.tree c.octets p.exact p.holds) in
      let e = exists o der in
      let l = describes.as_many o e.0 e.1 in
      omega (arith, many, k, l)

-- the rows are those of an account of the octets
pub record WholeRows (s : List Resolved) (t : ℕ) (v : AbstractValue) (c : State) : Type 0 where
  pub account : Account
  pub describes : TellsAccount s t v c.octets account
  pub are : AreRows account c.rows

pub whole_rows : (s : List Resolved) (t : ℕ) (v : AbstractValue) (es : List Event) (a c : State)
    → ((o : List ℕ) (b : Account) → length o ≤ 16777216 → TellsAccount s t v o b → IsWithin 400 b)
    → GivesRows s t v es → Runs es a c → Empty a → length c.octets ≤ 16777216 → WholeRows s t v c
whole_rows s t v es a c bounds describes runs none short =
    let p = ran describes.tree es a c describes.listed none runs in
    let h = describes.account c.octets p.exact p.holds (few (length c.octets) short) in
    let w = bounds c.octets h.account short h.describes in
    record {
      account = h.account;
      describes = h.describes;
      are = record { within = w; are = p.rows ∙ ap (map capped_row) h.rows ∙ small_rows 400 h.account w };
    }
