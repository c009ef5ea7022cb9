-- A header at the front of octets, with its contents.
use Rattle.std.proofs.Common.{arith, ◌≡◌, ℕ, ◌+◌, ◌≤◌, Bool, List, ◌++◌, length, sym, ap, subst, ◌∙◌, length-append}
use Rattle.asn_base.specs.declared.tag.Tag.{Tag}
use Rattle.encodings.specs.Header.{Header}
use Rattle.octets.specs.Fronts.{HeaderAt}
use Rattle.octet_answers.specs.Units.{UnitAt}
use Rattle.encodings.specs.proving.Fronts.{split_front}

pub header_within : {t : Tag} {c : Bool} {n k : ℕ} {o : List ℕ} → HeaderAt t c n k o → k ≤ length o
header_within h = let e = ap length h.whole in let l = length-append h.header h.rest in let k = h.long in omega arith

pub contents_within : {t : Tag} {c : Bool} {n k : ℕ} {o : List ℕ} (a b : List ℕ) → HeaderAt t c n k o → o ≡ a ++ b → length a ≡ k → n ≤ length b
contents_within a b h e l =
    let p = split_front a h.header b h.rest (l ∙ sym h.long) (sym e ∙ h.whole) in
    let m = ap length p.1 in
    let f = h.follow in
    omega arith

pub unit_is : {t : Tag} {c : Bool} {n k : ℕ} {o : List ℕ} (a b x r : List ℕ) → HeaderAt t c n k o → o ≡ a ++ b → length a ≡ k → b ≡ x ++ r → length x ≡ n → UnitAt t c k x r o
unit_is {t} {c} a b x r h e l d m =
    let p = split_front a h.header b h.rest (l ∙ sym h.long) (sym e ∙ h.whole) in
    record {
      header = h.header;
      is_header = subst (λ q. Header t c q h.header) (sym m) h.is_header;
      few = subst (λ q. q ≤ 16777216) (sym m) h.few;
      long = h.long;
      whole = h.whole ∙ ap (λ q. h.header ++ q) (sym p.1 ∙ d);
    }

-- what a unit leaves of the octets
pub unit_long : {t : Tag} {c : Bool} {k : ℕ} {x r o : List ℕ} → UnitAt t c k x r o → length o ≡ k + (length x + length r)
unit_long {x = x} {r = r} u =
    let e = ap length u.whole in
    let a = length-append u.header (x ++ r) in
    let b = length-append x r in
    let l = u.long in
    omega (arith, e, a, b, l)
