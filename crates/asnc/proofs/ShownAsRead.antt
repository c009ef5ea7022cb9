-- A message is shown as accepted if and only if it is read.
use Rattle.std.proofs.Common.{◌≡◌, ℕ, List, refl}
use Rattle.std.specs.Prelude.{Option, Some, None, IsSome}
use Rattle.asn_base.specs.Types.{Resolved}
use Rattle.encodings.specs.Rules.{Basic}
use Rattle.resolve.specs.Program.{Program}
use Rattle.value_text.specs.Print.{print}
use Rattle.views.specs.Tree.{value_of}
use Rattle.judging.specs.named_values.Named.{Names}
use Rattle.judging.specs.messages.declared.fault.Fault.{Fault}
use Rattle.judging.specs.messages.declared.fault.Fault.TheVariants as faults
use Rattle.judging.specs.messages.declared.fault.DecodeError.{DecodeError}
use Rattle.asnc.specs.Reading.{IsReadAs, IsNotReadAs}
use Rattle.asnc.specs.Showing.{IsBerVerdict, IsShownAs}
use Rattle.asnc.specs.declared.showing.Listing.{Listing}
use Rattle.asnc.proofs.Answered.{read}

pub not_refused : (p : Program) (s : List Resolved) (name o printed : List ℕ) (k t : ℕ) (r : Option DecodeError)
    → IsReadAs p s Basic name o printed k
    → Names p name t
    → IsBerVerdict s t o r
    → r ≡ None
not_refused p s name o printed k t None q n j = refl
not_refused p s name o printed k t (Some u) q n j =
    let e : faults.DecodeError u ≡ faults.Memory = read p s Basic name o printed k (faults.DecodeError u) q (record { type = t; named = n; unread = j }) in
    cc

pub refused_too : (p : Program) (s : List Resolved) (name o : List ℕ) (t : ℕ) (u : DecodeError) (r : Option DecodeError)
    → IsNotReadAs p s Basic name o (faults.DecodeError u)
    → Names p name t
    → IsBerVerdict s t o r
    → IsSome r
refused_too p s name o t u (Some v) q n j = refl
refused_too p s name o t u None q n j =
    let b = j.1 in
    let i = b.reading in
    let m : IsReadAs p s Basic name o (print s t (value_of j.0.view)) j.0.skipped = record {
      type = t;
      named = n;
      read = record {
        value = value_of j.0.view;
        encodes = i.encodes;
        few = i.few;
        short = i.short;
        only = b.only;
        by_rules = b.by_rules;
        text = refl;
      };
    } in
    let e : faults.DecodeError u ≡ faults.Memory = read p s Basic name o (print s t (value_of j.0.view)) j.0.skipped (faults.DecodeError u) m q in
    cc
