-- Theorems on whole encodings.
use Rattle.std.proofs.Common.{arith, ◌∙◌, ◌≡◌, ◌⊎◌, inl, inr, ⊎_elim, ℕ, ◌<◌, ◌≤◌, List, [], ◌++◌, length, refl, sym, subst}
use Rattle.std.proofs.lemmas.List.{append-nil}
use Rattle.asn_base.specs.Abstract.{AbstractValue}
use Rattle.asn_base.specs.Types.{Resolved}
use Rattle.asn_base.specs.Typed.{IsValueWithoutNodes}
use Rattle.asn_base.specs.Same.{Alike, Same}
use Rattle.asn_base.specs.Tags.{AllTagged, AllHaveDistinctTags}
use Rattle.encodings.specs.Rules.{Rules, Basic, Unsorted, Distinguished}
use Rattle.encodings.specs.Encoding.{EncodesTo, EncodesBy, Ber, Der, Shortest}
use Rattle.encodings.proofs.Least.{least}
use Rattle.encodings.proofs.Only.{only}
use Rattle.encodings.specs.proving.Weaker.{basic_of}
use Rattle.encodings.proofs.Units.{says_unit, units_front}
use Rattle.encodings.specs.Levels.{levels}
use Rattle.encodings.proofs.Shortests.{lt_or_ge}
use Rattle.encodings.proofs.Unique.{says_same}

-- what octets say of a value by the distinguished rules is one of its encodings by them
pub is_der : ((s : List Resolved) (t : ℕ) (v : AbstractValue) → IsValueWithoutNodes s t v → Same s t v v) → (s : List Resolved) (t : ℕ) (v : AbstractValue) (o : List ℕ) → IsValueWithoutNodes s t v → EncodesTo s Distinguished t v 0 o → Der s t v 0 o
is_der self s t v o a b = (v, self s t v a, b)

module _ (turn : (s : List Resolved) (t : ℕ) (v w : AbstractValue) → Alike s t v w → Alike s t w v) (follow : (s : List Resolved) (t : ℕ) (v w x : AbstractValue) → Alike s t v w → Alike s t w x → Alike s t v x) where
  -- what octets say of values that are the same is alike
  between : (s : List Resolved) (q r : Rules) (t : ℕ) (v w : AbstractValue) (o p : List ℕ) → Same s t v w → (a : EncodesBy q s t v 0 o) → (b : EncodesBy r s t w 0 p) → Alike s t a.0 b.0
  between s q r t v w o p e a b = follow s t a.0 w b.0 (follow s t a.0 v w (turn s t v a.0 a.1.are_alike) e.are_alike) b.1.are_alike

  -- values that are alike have one encoding by the distinguished rules
  pub one_der : (s : List Resolved) (t : ℕ) (v w : AbstractValue) (o p : List ℕ) → AllTagged s → Same s t v w → Der s t v 0 o → Der s t w 0 p → p ≡ o
  one_der s t v w o p all e a b = only s (turn s) all a.2 refl (between s Distinguished Distinguished t v w o p e a b) b.2 refl

  pub none_shorter : (s : List Resolved) (t : ℕ) (v w : AbstractValue) (o p : List ℕ) → Same s t v w → EncodesBy Unsorted s t v 0 o → Ber s t w 0 p → length o ≤ length p
  none_shorter s t v w o p e a b = least s (turn s) a.2 refl (between s Unsorted Basic t v w o p e a b) b.2 refl

  pub is_shortest : ((s : List Resolved) (t : ℕ) (v : AbstractValue) → IsValueWithoutNodes s t v → Same s t v v) → (s : List Resolved) (t : ℕ) (v : AbstractValue) (o : List ℕ) → EncodesBy Unsorted s t v 0 o → Shortest s t v o
  is_shortest self s t v o a = record {
    is = (a.0, a.1, basic_of a.2);
    least = λ p b. none_shorter s t v v o p (self s t v a.1.first) a b;
  }

-- octets say one value
pub one_value : (s : List Resolved) (r : Rules) (t j k : ℕ) (v w : AbstractValue) (o : List ℕ) → AllTagged s → AllHaveDistinctTags s → EncodesTo s r t v j o → EncodesTo s r t w k o → (v ≡ w) × (j ≡ k)
one_value s r t j k v w o all tell a b = let e = says_same s r r all tell a b refl in (e.values, e.counts)

module _ (turn : (s : List Resolved) (t : ℕ) (v w : AbstractValue) → Same s t v w → Same s t w v) (follow : (s : List Resolved) (t : ℕ) (v w x : AbstractValue) → Same s t v w → Same s t w x → Same s t v x) where
  joined : (s : List Resolved) (t : ℕ) (v w x y : AbstractValue) → Same s t v x → Same s t w y → x ≡ y → Same s t v w
  joined s t v w x y a b e = follow s t v x w a (subst (λ q. Same s t q w) (sym e) (turn s t w y b))

  pub one_ber : (s : List Resolved) (t j k : ℕ) (v w : AbstractValue) (o : List ℕ) → AllTagged s → AllHaveDistinctTags s → Ber s t v j o → Ber s t w k o → Same s t v w × (j ≡ k)
  one_ber s t j k v w o all tell a b =
      let e = one_value s Basic t j k a.0 b.0 o all tell a.2 b.2 in
      (joined s t v w a.0 b.0 a.1 b.1 e.0, e.1)

  pub same_of_der : (s : List Resolved) (t j k : ℕ) (v w : AbstractValue) (o : List ℕ) → AllTagged s → AllHaveDistinctTags s → Der s t v j o → Der s t w k o → Same s t v w × (j ≡ k)
  same_of_der s t j k v w o all tell a b =
      let e = one_value s Distinguished t j k a.0 b.0 o all tell a.2 b.2 in
      (joined s t v w a.0 b.0 a.1 b.1 e.0, e.1)

pub none_begins_another : (s : List Resolved) (q r : Rules) (t u j k : ℕ) (v w : AbstractValue) (o p x y : List ℕ) → AllTagged s → EncodesTo s q t v j o → EncodesTo s r u w k p → o ++ x ≡ p ++ y → (o ≡ p) × (x ≡ y)
none_begins_another s q r t u j k v w o p x y all a b e = units_front o p x y (says_unit all a) (says_unit all b) e

-- an encoding with octets after it isn't an encoding
pub nothing_after : (o p x : List ℕ) → p ≡ o ++ x → ((y : List ℕ) → o ++ x ≡ p ++ y → (o ≡ p) × (x ≡ y)) → x ≡ []
nothing_after o p x e f = (f [] (sym e ∙ sym (append-nil p))).1

-- by whatever rules octets are read, the levels of headers are as many
pub one_depth : (s : List Resolved) (q r : Rules) (t j k : ℕ) (v w : AbstractValue) (o : List ℕ) (d : EncodesTo s q t v j o) (e : EncodesTo s r t w k o) → AllTagged s → AllHaveDistinctTags s → levels d ≡ levels e
one_depth s q r t j k v w o d e all tell = (says_same s q r all tell d e refl).depths

-- what has an encoding has one by the distinguished rules, of no more octets
pub no_longer : (s : List Resolved) (t : ℕ) (v : AbstractValue) (p : List ℕ) → Ber s t v 0 p → ((o : List ℕ) × Der s t v 0 o) ⊎ ((p : List ℕ) → Ber s t v 0 p → ⊥) → ((o : List ℕ) → Der s t v 0 o → Shortest s t v o) → (o : List ℕ) × Der s t v 0 o × (length o ≤ length p)
no_longer s t v p b (inl d) least = (d.0, d.1, (least d.0 d.1).least p b)
no_longer s t v p b (inr none) least = absurd (none p b)

-- one of at most m octets, or each has more
pub within : (s : List Resolved) (t m : ℕ) (v : AbstractValue) → ((o : List ℕ) × Der s t v 0 o) ⊎ ((p : List ℕ) → Ber s t v 0 p → ⊥) → ((o : List ℕ) → Der s t v 0 o → Shortest s t v o) → ((o : List ℕ) × Der s t v 0 o × (length o ≤ m)) ⊎ ((p : List ℕ) → Ber s t v 0 p → m < length p)
within s t m v (inr none) least = inr (λ p b. absurd (none p b))
within s t m v (inl d) least = ⊎_elim
    (λ l. inr (λ p b. (let k = (least d.0 d.1).least p b in omega arith)))
    (λ g. inl (d.0, d.1, g))
    (lt_or_ge m (length d.0))
