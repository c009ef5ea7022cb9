-- Headers with their contents at the front of octets.
use Rattle.std.proofs.Common.{arith, ◌≡◌, ℕ, ◌+◌, Bool, List, [], ◌∷◌, ◌++◌, length, refl, sym, ap, subst, ◌∙◌, length-append}
use Rattle.asn_base.specs.declared.tag.Tag.{Tag}
use Rattle.encodings.specs.Header.{Header}
use Rattle.octets.specs.Fronts.{HeaderAt}
use Rattle.segmented_strings.specs.Within.{SegmentAt}

abbrev tail_of : List ℕ → List ℕ
tail_of [] = []
tail_of (x ∷ o) = o

abbrev head_or_0 : List ℕ → ℕ
head_or_0 [] = 0
head_or_0 (x ∷ o) = x

pub record SameParts (a h b r : List ℕ) : Type 0 where
  pub fronts : a ≡ h
  pub rests : b ≡ r

-- two ways to cut octets after as many
pub same_parts : (a h b r : List ℕ) → length a ≡ length h → a ++ b ≡ h ++ r → SameParts a h b r
same_parts [] [] b r l e = record { fronts = refl; rests = e }
same_parts [] (y ∷ h) b r l e = absurd (omega arith)
same_parts (x ∷ a) [] b r l e = absurd (omega arith)
same_parts (x ∷ a) (y ∷ h) b r l e =
    let p = same_parts a h b r (omega arith) (ap tail_of e) in
    let q : x ≡ y = ap head_or_0 e in
    let f : a ≡ h = p.fronts in
    record { fronts = cc; rests = p.rests }

-- octets that are cut after a header, and after its contents
pub unit_of : (g t : Tag) (c : Bool) (n k : ℕ) (o a b x y : List ℕ) → HeaderAt g c n k o → g ≡ t → o ≡ a ++ b → length a ≡ k → b ≡ x ++ y → length x ≡ n → SegmentAt t c x y o
unit_of g t c n k o a b x y h same cut la following lx =
    let p = same_parts a h.header b h.rest (la ∙ sym h.long) (sym cut ∙ h.whole) in
    record {
      header = a;
      is_header = subst (λ q. Header t c (length x) q) (sym p.fronts) (subst (λ q. Header t c q h.header) (sym lx) (subst (λ q. Header q c n h.header) same h.is_header));
      whole = cut ∙ ap (λ q. a ++ q) following;
    }

pub unit_length : {g : Tag} {c : Bool} {x rest o : List ℕ} (u : SegmentAt g c x rest o) → length o ≡ length u.header + (length x + length rest)
unit_length {x = x} {rest = rest} u = ap length u.whole ∙ length-append u.header (x ++ rest) ∙ ap (λ q. length u.header + q) (length-append x rest)

-- the same unit by another name of its tag and form
pub unit_as : (g t : Tag) (c d : Bool) {x rest o : List ℕ} → SegmentAt g c x rest o → g ≡ t → c ≡ d → SegmentAt t d x rest o
unit_as g t c d {x = x} {rest = r} {o = o} u e f = subst (λ q. SegmentAt q d x r o) e (subst (λ q. SegmentAt g q x r o) f u)

-- the same unit at the front of octets that are the same
abbrev pub at_octets : {g : Tag} {c : Bool} {x r o q : List ℕ} → o ≡ q → SegmentAt g c x r o → SegmentAt g c x r q
at_octets e u = record { header = u.header; is_header = u.is_header; whole = sym e ∙ u.whole }
