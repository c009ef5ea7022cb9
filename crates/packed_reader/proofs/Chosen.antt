-- Alternatives of a CHOICE are read as what bits say.
use Rattle.std.proofs.Common.{arith, ◌≡◌, ℕ, zero, suc, ◌+◌, ◌^◌, ◌<◌, ◌==◌, Bool, true, false, List, [], ◌∷◌, ◌++◌, length, Option, Some, None, slice_get, refl, sym, ap, subst, ◌∙◌}
use Rattle.std.specs.Prelude.{if◌then◌else◌}
use Rattle.std.proofs.lemmas.Bool.{eqb-true, eq-eqb}
use Rattle.bits.specs.Words.{low_bits}
use Rattle.asn_base.specs.Types.{Alternative, Resolved}
use Rattle.packed_encodings.specs.Lengths.{Bits}
use Rattle.packed_encodings.specs.Leaves.{place_width, place_bits, root_bit}
use Rattle.packed_encodings.specs.Orders.{canonical_place}
use Rattle.packed_encodings.specs.Computed.{type_of}
use Rattle.decode_faults.specs.declared.refusal.Refusal.{Refusal}
use Rattle.decode_faults.specs.declared.refusal.Refusal.TheVariants as why
use Rattle.packed_readings.specs.Outcome.{onward, IsReading, Then, IsJudged, good, bad, judging, IsBit, IsField, IsSmall, bit_from, field_from, small_from}
use Rattle.packed_readings.specs.Composing as c
use Rattle.packed_reader.specs.Values.{ranked, Chosen, in_root, added, root_choice, added_choice as the_added, root_chosen, chosen_from}
use Rattle.packed_reader.proofs.Opening.{not_true}

-- the bits before the alternative's value
pub data IsChosen (s : List Resolved) (root : List Alternative) (e : Bool) (more : List Alternative) : Chosen → Bits → Type 0 where
  chosen_root : {i : ℕ} {a : Alternative} {x : Bits}
      → slice_get root i ≡ Some a
      → x ≡ root_bit e ++ place_bits (length root) (canonical_place s root a.type)
      → IsChosen s root e more (in_root i a.type) x
  chosen_added : {j : ℕ} {a : Alternative} {x : Bits}
      → e ≡ true
      → slice_get more j ≡ Some a
      → j < 64
      → x ≡ true ∷ (false ∷ low_bits 6 j)
      → IsChosen s root e more (added (length root + j) a.type) x

-- ---- ranks

-- the alternative that was found
record Ranked (s : List Resolved) (all as' : List Alternative) (r j i : ℕ) : Type 0 where
  at : ℕ
  is : i ≡ j + at
  alternative : Alternative
  found_it : slice_get as' at ≡ Some alternative
  has_rank : canonical_place s all alternative.type ≡ r

some_is : {X : Type 0} {a b : X} → Some a ≡ Some b → a ≡ b
some_is e = cc

ranked_is : (s : List Resolved) (all : List Alternative) (r : ℕ) (as' : List Alternative) (j i : ℕ) → ranked s all r as' j ≡ Some i → Ranked s all as' r j i
ranked_is s all r [] j i e = absurd (cc)
ranked_is s all r (a ∷ as') j i e = by (canonical_place s all a.type == r) refl (λ h. ranked_is s all r as' (suc j) i h) e
  where
    by : (b : Bool) → (canonical_place s all a.type == r) ≡ b → (ranked s all r as' (suc j) ≡ Some i → Ranked s all as' r (suc j) i) → (if b then Some j else ranked s all r as' (suc j)) ≡ Some i → Ranked s all (a ∷ as') r j i
    by true h k f = record { at = 0; is = (let g : j ≡ i = some_is f in omega arith); alternative = a; found_it = refl; has_rank = eqb-true (canonical_place s all a.type) r h }
    by false h k f = let q = k f in record { at = suc q.at; is = (let g = q.is in omega arith); alternative = q.alternative; found_it = q.found_it; has_rank = q.has_rank }

-- one is found
record HasRanked (s : List Resolved) (all as' : List Alternative) (r j : ℕ) : Type 0 where
  at : ℕ
  is : ranked s all r as' j ≡ Some at

has_ranked : (s : List Resolved) (all : List Alternative) (r : ℕ) (as' : List Alternative) (j i : ℕ) (a : Alternative) → slice_get as' i ≡ Some a → canonical_place s all a.type ≡ r → HasRanked s all as' r j
has_ranked s all r [] j zero a e f = absurd (cc)
has_ranked s all r [] j (suc i) a e f = absurd (cc)
has_ranked s all r (b ∷ as') j i a e f = by (canonical_place s all b.type == r) refl i e (λ i g. has_ranked s all r as' (suc j) i a g f)
  where
    by : (t : Bool) → (canonical_place s all b.type == r) ≡ t → (i : ℕ) → slice_get (b ∷ as') i ≡ Some a → ((i : ℕ) → slice_get as' i ≡ Some a → HasRanked s all as' r (suc j)) → HasRanked s all (b ∷ as') r j
    by true h i e k = record { at = j; is = ap (λ q. if q then Some j else ranked s all r as' (suc j)) h }
    by false h zero e k = absurd (not_true (sym h ∙ eq-eqb (canonical_place s all b.type) r (ap (λ q. canonical_place s all q.type) (some_is e) ∙ f)))
    by false h (suc i) e k = let q = k i e in record { at = q.at; is = ap (λ q. if q then Some j else ranked s all r as' (suc j)) h ∙ q.is }

good_is : {X : Type 0} {a b : X} → good a ≡ good b → a ≡ b
good_is e = cc

module _ (bit : IsReading IsBit bit_from) (field : (n : ℕ) → IsReading (IsField n) (field_from n)) (small : (e : Refusal) → IsReading IsSmall (small_from e))
    (s : List Resolved) (root : List Alternative) (e : Bool) (more : List Alternative)
    (one : (i j : ℕ) (a b : Alternative) → slice_get root i ≡ Some a → slice_get root j ≡ Some b → canonical_place s root a.type ≡ canonical_place s root b.type → i ≡ j)
    (fits : (i : ℕ) (a : Alternative) → slice_get root i ≡ Some a → canonical_place s root a.type < 2 ^ place_width (length root)) where
  abbrev RootJudged : Chosen → Bits → Type 0
  RootJudged = IsJudged (IsField (place_width (length root))) (root_choice s root)

  -- one of the root, by its place
  record IsRoot (c : Chosen) (x : Bits) : Type 0 where
    number : ℕ
    its : Alternative
    found_it : slice_get root number ≡ Some its
    made : c ≡ in_root number its.type
    is : x ≡ place_bits (length root) (canonical_place s root its.type)

  root_to : (c : Chosen) (x : Bits) → RootJudged c x → IsRoot c x
  root_to c x q = by (ranked s root q.read root 0) refl q.judged
    where
      by : (o : Option ℕ) → ranked s root q.read root 0 ≡ o → elim o [ None ↦ bad why.Outside | Some i ↦ good (in_root i (type_of (slice_get root i))) ] ≡ good c → IsRoot c x
      by None f h = absurd (cc)
      by (Some i) f h =
          let r = ranked_is s root q.read root 0 i f in
          let k : slice_get root i ≡ Some r.alternative = ap (slice_get root) (let g = r.is in let z : i ≡ r.at = omega arith in z) ∙ r.found_it in
          record {
            number = i;
            its = r.alternative;
            found_it = k;
            made = sym (good_is h) ∙ ap (λ z. in_root i (type_of z)) k;
            is = q.is_read.is ∙ ap (low_bits (place_width (length root))) (sym r.has_rank);
          }

  root_from : (c : Chosen) (x : Bits) → IsRoot c x → RootJudged c x
  root_from c x q =
      let h = has_ranked s root (canonical_place s root q.its.type) root 0 q.number q.its q.found_it refl in
      let r = ranked_is s root (canonical_place s root q.its.type) root 0 h.at h.is in
      let k : slice_get root h.at ≡ Some r.alternative = ap (slice_get root) (let g = r.is in let z : h.at ≡ r.at = omega arith in z) ∙ r.found_it in
      let i : h.at ≡ q.number = one h.at q.number r.alternative q.its k q.found_it r.has_rank in
      record {
        read = canonical_place s root q.its.type;
        is_read = record { fits = fits q.number q.its q.found_it; is = q.is };
        judged =
            ap (λ o. elim o [ None ↦ bad why.Outside | Some i ↦ good (in_root i (type_of (slice_get root i))) ]) h.is
            ∙ ap (λ z. good (in_root z (type_of (slice_get root z)))) i
            ∙ ap (λ z. good (in_root q.number (type_of z))) q.found_it
            ∙ ap good (sym q.made);
      }

  root_reading : IsReading IsRoot (root_chosen s root)
  root_reading = c.same root_to root_from (c.judged (root_choice s root) (field (place_width (length root))))

  -- one after the marker
  record IsMore (c : Chosen) (x : Bits) : Type 0 where
    number : ℕ
    its : Alternative
    found_it : slice_get more number ≡ Some its
    small_it : number < 64
    made : c ≡ added (length root + number) its.type
    is : x ≡ false ∷ low_bits 6 number

  more_reading : IsReading IsMore (judging (the_added root more) (small_from why.UnknownAlternative))
  more_reading = c.same to from (c.judged (the_added root more) (small why.UnknownAlternative))
    where
      to : (c : Chosen) (x : Bits) → IsJudged IsSmall (the_added root more) c x → IsMore c x
      to c x q = by (slice_get more q.read) refl q.judged
        where
          by : (o : Option Alternative) → slice_get more q.read ≡ o → elim o [ None ↦ bad why.UnknownAlternative | Some a ↦ good (added (length root + q.read) a.type) ] ≡ good c → IsMore c x
          by None f h = absurd (cc)
          by (Some a) f h = record { number = q.read; its = a; found_it = f; small_it = q.is_read.fits; made = sym (good_is h); is = q.is_read.is }

      from : (c : Chosen) (x : Bits) → IsMore c x → IsJudged IsSmall (the_added root more) c x
      from c x q = record {
        read = q.number;
        is_read = record { fits = q.small_it; is = q.is };
        judged = ap (λ o. elim o [ None ↦ bad why.UnknownAlternative | Some a ↦ good (added (length root + q.number) a.type) ]) q.found_it ∙ ap good (sym q.made);
      }

  abbrev AfterBit : Bool → Chosen → Bits → Type 0
  AfterBit true = IsMore
  AfterBit false = IsRoot

  after_bit : (b : Bool) → IsReading (AfterBit b) (λ r. if b then judging (the_added root more) (small_from why.UnknownAlternative) r else root_chosen s root r)
  after_bit true = more_reading
  after_bit false = root_reading

  pub chosen_reading : IsReading (IsChosen s root e more) (chosen_from s root e more)
  chosen_reading = by e refl
    where
      to_true : (e ≡ true) → (c : Chosen) (x : Bits) → Then IsBit AfterBit c x → IsChosen s root e more c x
      to_true h c x t = at t.first t.is_first t.is_next
        where
          at : (b : Bool) → IsBit b t.front → AfterBit b c t.back → IsChosen s root e more c x
          at true f q = subst (λ d. IsChosen s root e more d x) (sym q.made) (chosen_added h q.found_it q.small_it (t.whole ∙ ap (λ z. z ++ t.back) f ∙ ap (λ z. true ∷ z) q.is))
          at false f q = subst (λ d. IsChosen s root e more d x) (sym q.made) (chosen_root q.found_it (t.whole ∙ ap (λ z. z ++ t.back) f ∙ ap (λ z. false ∷ z) q.is ∙ ap (λ z. root_bit z ++ place_bits (length root) (canonical_place s root q.its.type)) (sym h)))

      from_true : (e ≡ true) → (c : Chosen) (x : Bits) → IsChosen s root e more c x → Then IsBit AfterBit c x
      from_true h _ x (chosen_root {i = i} {a = a} g w) = record {
        first = false;
        front = false ∷ [];
        back = place_bits (length root) (canonical_place s root a.type);
        is_first = refl;
        is_next = record { number = i; its = a; found_it = g; made = refl; is = refl };
        whole = w ∙ ap (λ z. root_bit z ++ place_bits (length root) (canonical_place s root a.type)) h;
      }
      from_true h _ x (chosen_added {j = j} {a = a} f g l w) = record {
        first = true;
        front = true ∷ [];
        back = false ∷ low_bits 6 j;
        is_first = refl;
        is_next = record { number = j; its = a; found_it = g; small_it = l; made = refl; is = refl };
        whole = w;
      }

      to_false : (e ≡ false) → (c : Chosen) (x : Bits) → IsRoot c x → IsChosen s root e more c x
      to_false h c x q = subst (λ d. IsChosen s root e more d x) (sym q.made) (chosen_root q.found_it (q.is ∙ ap (λ z. root_bit z ++ place_bits (length root) (canonical_place s root q.its.type)) (sym h)))

      from_false : (e ≡ false) → (c : Chosen) (x : Bits) → IsChosen s root e more c x → IsRoot c x
      from_false h _ x (chosen_root {i = i} {a = a} g w) = record { number = i; its = a; found_it = g; made = refl; is = w ∙ ap (λ z. root_bit z ++ place_bits (length root) (canonical_place s root a.type)) h }
      from_false h _ x (chosen_added f g l w) = absurd (not_true (sym h ∙ f))

      by : (b : Bool) → e ≡ b → IsReading (IsChosen s root e more) (λ r. if b then onward (bit_from r) (λ x r. if x then judging (the_added root more) (small_from why.UnknownAlternative) r else root_chosen s root r) else root_chosen s root r)
      by true h = c.same (to_true h) (from_true h) (c.next bit after_bit)
      by false h = c.same (to_false h) (from_false h) root_reading
