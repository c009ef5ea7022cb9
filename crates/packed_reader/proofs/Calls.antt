-- What calls say of components, and of the bits that are left.
use Rattle.std.proofs.Common.{arith, ◌≡◌, ℕ, zero, suc, ◌≤◌, Bool, true, false, List, [], ◌∷◌, length, map, Some, slice_get, refl, sym, ap, subst, ◌∙◌}
use Rattle.std.specs.Prelude.{if◌then◌else◌, nat_lt, take, drop}
use Rattle.asn_base.specs.declared.tag.Tag.{Tag}
use Rattle.asn_base.specs.Abstract.{AbstractValue}
use Rattle.asn_base.specs.Schemas.{components}
use Rattle.asn_base.specs.Typed.{IsValueWithoutNodes, ValueIn}
use Rattle.asn_base.specs.Types.{Component, Kind, Resolved}
use Rattle.packed_code.specs.declared.step.PackedField.{PackedField}
use Rattle.packed_code.specs.declared.step.PackedStep.{PackedStep}
use Rattle.packed_code.specs.declared.step.PackedStep.TheVariants as steps
use Rattle.packed_encodings.specs.Computed.{is_default, kind_at}
use Rattle.packed_encodings.specs.Lengths.{Bits, worth}
use Rattle.decode_faults.specs.declared.refusal.Refusal.{Refusal}
use Rattle.decode_faults.specs.declared.refusal.Refusal.TheVariants as why
use Rattle.packed_readings.specs.Outcome.{Outcome, found, stops, onward, Judged, good, bad, judging, verdict, bit_from, field_from, small_from}
use Rattle.packed_reader.specs.declared.reader.Progress.{Progress}
use Rattle.packed_reader.specs.Steps.{added_call, call_from, or_refused, ranked_call, root_call}
use Rattle.packed_reader.specs.Values.{Chosen}
use Rattle.packed_reader.specs.proving.Code.{HasRoom}
use Rattle.packed_writer.specs.proving.Values.{FieldFits, HasComponent}
use Rattle.packed_reader.proofs.MemberRun.{kind_found}
use Rattle.packed_reader.proofs.ValueRun.{went_shorter, room_left}

-- ---- bits that are left

-- no more bits are left than there were
abbrev Less : {X : Type 0} → Outcome X → Bits → Type 0
Less (found v r) b = length r ≤ length b
Less (stops e r) b = Unit {0}

less_onward : {X Y : Type 0} (o : Outcome X) (g : X → Bits → Outcome Y) (b : Bits) → Less o b → ((v : X) (r : Bits) → Less (g v r) r) → Less (onward o g) b
less_onward {Y = Y} (found v r) g b h f = further (g v r) (f v r)
  where
    further : (q : Outcome Y) → Less q r → Less q b
    further (found w z) i = omega (arith, h, i)
    further (stops e z) i = tt
less_onward (stops e r) g b h f = tt

less_judging : {X Y : Type 0} (j : X → Judged Y) (f : Bits → Outcome X) (b : Bits) → Less (f b) b → Less (judging j f b) b
less_judging {X = X} {Y = Y} j f b h = by (f b) h
  where
    last' : (q : Judged Y) (r : Bits) → length r ≤ length b → Less (verdict q b r) b
    last' (good w) r i = i
    last' (bad e) r i = tt

    by : (o : Outcome X) → Less o b → Less (onward o (λ v r. verdict (j v) b r)) b
    by (found v r) i = last' (j v) r i
    by (stops e r) i = tt

less_bit : (b : Bits) → Less (bit_from b) b
less_bit [] = tt
less_bit (x ∷ b) = omega arith

dropped_less : (n : ℕ) (b : Bits) → length (drop n b) ≤ length b
dropped_less zero b = omega arith
dropped_less (suc n) [] = omega arith
dropped_less (suc n) (x ∷ b) = let i = dropped_less n b in omega (arith, i)

less_field : (n : ℕ) (b : Bits) → Less (field_from n b) b
less_field n b = by (nat_lt (length b) n)
  where
    by : (q : Bool) → Less (if q then stops why.Truncated b else found (worth (take n b)) (drop n b)) b
    by true = tt
    by false = dropped_less n b

less_small : (e : Refusal) (b : Bits) → Less (small_from e b) b
less_small e b = less_onward (judging (λ x. if x then bad e else good x) bit_from b) (λ x r. field_from 6 r) b (less_judging (λ x. if x then bad e else good x) bit_from b (less_bit b)) (λ x r. less_field 6 r)

less_root : (w : ℕ) (ss : List PackedStep) (b : Bits) → Less (root_call w ss b) b
less_root w ss b = less_judging (λ r. or_refused why.Outside (ranked_call r ss 0)) (field_from w) b (less_field w b)

less_call : (ss : List PackedStep) (b : Bits) → Less (call_from ss b) b
less_call [] b = tt
less_call (steps.Root c ∷ ss) b = by c.extensible
  where
    more : (x : Bool) (r : Bits) → Less (if x then judging (λ j. or_refused why.UnknownAlternative (added_call j (steps.Root c ∷ ss) 0)) (small_from why.UnknownAlternative) r else root_call c.width (steps.Root c ∷ ss) r) r
    more true r = less_judging (λ j. or_refused why.UnknownAlternative (added_call j (steps.Root c ∷ ss) 0)) (small_from why.UnknownAlternative) r (less_small why.UnknownAlternative r)
    more false r = less_root c.width (steps.Root c ∷ ss) r

    by : (e : Bool) → Less (if e
        then onward (bit_from b) (λ x r. if x
        then judging (λ j. or_refused why.UnknownAlternative (added_call j (steps.Root c ∷ ss) 0)) (small_from why.UnknownAlternative) r
        else root_call c.width (steps.Root c ∷ ss) r)
        else root_call c.width (steps.Root c ∷ ss) b) b
    by true = less_onward (bit_from b) (λ x r. if x
        then judging (λ j. or_refused why.UnknownAlternative (added_call j (steps.Root c ∷ ss) 0)) (small_from why.UnknownAlternative) r
        else root_call c.width (steps.Root c ∷ ss) r) b (less_bit b) more
    by false = less_root c.width (steps.Root c ∷ ss) b
less_call (steps.Bit ∷ ss) b = tt
less_call q b = tt

pub call_shorter : (ss : List PackedStep) (b r : Bits) (q : Chosen) → call_from ss b ≡ found q r → length r ≤ length b
call_shorter ss b r q e = subst (λ o. Less o b) e (less_call ss b)

pub call_room : (s : List Resolved) (t : ℕ) (p : Progress) (b r : Bits) (ss : List PackedStep) (q : Chosen) → call_from ss b ≡ found q r → HasRoom p b → HasRoom p r
call_room s t p b r ss q e h = room_left p p b r h (went_shorter p b r (call_shorter ss b r q e))

-- ---- components

pub components_are : (s q : List Resolved) (t : ℕ) (k : Kind) (tags : List Tag) (cs : List Component) → q ≡ s → slice_get q t ≡ Some (record { tags = tags; kind = k }) → cs ≡ components k → cs ≡ components (kind_at s t)
components_are s q t k tags cs e h g = g ∙ ap components (sym (kind_found s q t k tags e h))

pub map-length : {X Y : Type 0} (f : X → Y) (xs : List X) → length (map f xs) ≡ length xs
map-length f [] = refl
map-length f (x ∷ xs) = ap suc (map-length f xs)

pub components_many : (cs ds : List Component) (n : ℕ) → ds ≡ cs → length ds ≡ n → length cs ≡ n
components_many cs ds n e h = ap length (sym e) ∙ h

pub is_component : (s q : List Resolved) (t : ℕ) (f : PackedField) (l : ℕ) (v : AbstractValue) → FieldFits s t f → q ≡ s → l ≤ 63 → ((s : List Resolved) (t m n : ℕ) (v : AbstractValue) → m ≤ n → ValueIn s m t v → ValueIn s n t v) → ValueIn s l f.ty.index v → (c : Component) × (HasComponent q t f.place c × IsValueWithoutNodes q c.type v)
is_component s q t f l v fits e few grow h = (
  fits.component,
  (
    subst (λ z. HasComponent z t f.place fits.component) (sym e) fits.there,
    subst (λ z. IsValueWithoutNodes z fits.component.type v) (sym e) (subst (λ u. ValueIn s 64 u v) (ap (λ g. g.ty.index) fits.is) (grow s f.ty.index l 64 v (let k : l ≤ 64 = omega (arith, few) in k) h)),
  ),
)

pub default_as : (s q : List Resolved) (t i : ℕ) (d : Component) (v : AbstractValue) (x : Bool) → q ≡ s → HasComponent s t i d → ((c : Component) → HasComponent q t i c → x ≡ is_default q c v) → x ≡ is_default s d v
default_as s q t i d v x e h g = g d (subst (λ z. HasComponent z t i d) (sym e) h) ∙ ap (λ z. is_default z d v) e
