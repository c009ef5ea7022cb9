-- Strings in segments of each kind.
use Rattle.std.proofs.Common.{arith, ◌⊎◌, inl, inr, ◌≡◌, ℕ, zero, suc, ◌-◌, ◌*◌, ◌<◌, Bool, false, List, [], ◌∷◌, ◌++◌, length, take, refl, sym, ap, subst, ◌∙◌}
use Rattle.std.specs.Prelude.{flat_map, Result, Ok, Err, IfOk, IfErr}
use Rattle.std.specs.Int.Digits.{AllBelowBase}
use Rattle.asn_base.specs.Abstract.{AbstractValue, bits, octets, text, bits_of_octet}
use Rattle.asn_base.specs.Types.{Constraint, a_utf8_string, a_restricted_string}
use Rattle.asn_base.specs.declared.strings.StringKind.{StringKind}
use Rattle.encodings.specs.Rules.{Basic}
use Rattle.encodings.specs.Strings.{whole, cut, cut_bits, WholeBits}
use Rattle.encodings.specs.Contents.{Contents, of_bits, of_named_bits, of_octets, of_utf8, of_restricted}
use Rattle.encodings.specs.declared.leaf_kind.LeafKind.{LeafKind}
use Rattle.encodings.specs.declared.leaf_kind.LeafKind.TheVariants as kinds
use Rattle.primitive_reader.specs.declared.leaf.Leaf.{Leaf}
use Rattle.primitive_reader.specs.declared.leaf.Leaf.TheVariants as leaves
use Rattle.primitive_reader.specs.Leaves.{Suits, bits_but, IsReadAs, ReadsContents as IsLeaf}
use Rattle.segmented_strings.specs.declared.fault.SegmentError.{SegmentError}
use Rattle.segmented_strings.specs.declared.fault.SegmentError.TheVariants as whys
use Rattle.segmented_strings.specs.declared.fault.SegmentsFault.{SegmentsFault}
use Rattle.segmented_strings.specs.declared.fault.SegmentsFault.TheVariants.{Memory, At}
use Rattle.segmented_strings.specs.declared.read.Reassembled.{Reassembled}
use Rattle.segmented_strings.specs.Within.{OctetsWithin}
use Rattle.segmented_strings.specs.Failing.{OctetsFail, BitsFail}
use Rattle.segmented_strings.specs.Refusing.{IsRefused, for_memory, at_place, Joins, JoinsBits}
use Rattle.segmented_strings.specs.Joining.{IsJoinedAs, ReadsContents, kind_of, some_bits, some_text, nothing, Fails, bits_fail, octets_fail, text_fails, bad_text, never_constructed}
use Rattle.segmented_strings.specs.Texts.{is_text, IsTextRefused, text_memory, text_unsuited}
use Rattle.segmented_strings.proofs.BitSteps.{counted}

-- ---- the faults

take_front : (s f : List Bool) (n : ℕ) → n ≡ length s → take n (s ++ f) ≡ s
take_front [] f zero e = refl
take_front [] f (suc n) e = absurd (omega arith)
take_front (x ∷ s) f zero e = absurd (omega arith)
take_front (x ∷ s) f (suc n) e = ap (λ q. x ∷ q) (take_front s f n (omega arith))

-- the bits of octets but the unused ones
pub but_unused : (u : ℕ) (s : List Bool) (o : List ℕ) → WholeBits s (u ∷ o) → s ≡ bits_but u o
but_unused u s o w =
    let f : o ≡ w.octets = ap (λ q. elim q [ [] ↦ o | z ∷ zs ↦ zs ]) w.is in
    let c = (counted u s o w).0 in
    let all : flat_map bits_of_octet o ≡ s ++ w.filling = ap (flat_map bits_of_octet) f ∙ w.bits in
    sym (ap (take (8 * length o - u)) all ∙ take_front s w.filling (8 * length o - u) (omega arith))

pub bits_read : (k : LeafKind) (room u : ℕ) (x o : List ℕ) → kind_of k ≡ some_bits → JoinsBits room x [] o u → (v : AbstractValue) × (v ≡ bits (bits_but u o)) × IsJoinedAs k v room x
bits_read kinds.BitString room u x o e j =
    let f : o ≡ j.octets = j.joined in
    let w = subst (λ q. WholeBits j.string (u ∷ q)) (sym f) j.whole in
    (bits j.string, ap bits (but_unused u j.string o w), record { contents = of_bits (cut_bits j.holds.segments) tt tt; suits = tt; few = j.holds.few })
bits_read kinds.NamedBits room u x o e j =
    let f : o ≡ j.octets = j.joined in
    let w = subst (λ q. WholeBits j.string (u ∷ q)) (sym f) j.whole in
    (bits j.string, ap bits (but_unused u j.string o w), record { contents = of_named_bits (cut_bits j.holds.segments) tt tt tt; suits = tt; few = j.holds.few })
bits_read kinds.Boolean room u x o e j = absurd (cc)
bits_read q room u x o e j = absurd (cc)

pub few_bits : (room u : ℕ) (x o : List ℕ) → JoinsBits room x [] o u → (u < 8) × (length o ≡ 0 → u ≡ 0)
few_bits room u x o j =
    let f : o ≡ j.octets = j.joined in
    let c = counted u j.string o (subst (λ q. WholeBits j.string (u ∷ q)) (sym f) j.whole) in
    (c.1, λ z. let a = c.0 in omega arith)

pub octets_read : (room : ℕ) (x o : List ℕ) → Joins room x [] o → IsJoinedAs kinds.OctetString (octets o) room x
octets_read room x o j = subst (λ q. IsJoinedAs kinds.OctetString (octets q) room x) (sym j.joined) (record { contents = of_octets (cut j.holds.segments) tt; suits = tt; few = j.holds.few })

pub text_read : (k : LeafKind) (room : ℕ) (x o : List ℕ) → kind_of k ≡ some_text → Joins room x [] o → Suits k (text o) → IsJoinedAs k (text o) room x
text_read kinds.Utf8String room x o e j s = by o j.joined s
  where
    by : (o : List ℕ) → o ≡ j.string → Suits kinds.Utf8String (text o) → IsJoinedAs kinds.Utf8String (text o) room x
    by o f s = subst (λ q. IsJoinedAs kinds.Utf8String (text q) room x) (sym f) (record { contents = of_utf8 (cut j.holds.segments) tt; suits = subst (λ q. Suits kinds.Utf8String (text q)) f s; few = j.holds.few })
text_read (kinds.RestrictedString k) room x o e j s = by o j.joined s
  where
    by : (o : List ℕ) → o ≡ j.string → Suits (kinds.RestrictedString k) (text o) → IsJoinedAs (kinds.RestrictedString k) (text o) room x
    by o f s = subst (λ q. IsJoinedAs (kinds.RestrictedString k) (text q) room x) (sym f) (record { contents = of_restricted (cut j.holds.segments) tt; suits = subst (λ q. Suits (kinds.RestrictedString k) (text q)) f s; few = j.holds.few })
text_read kinds.Boolean room x o e j s = absurd (cc)
text_read q room x o e j s = absurd (cc)

-- ---- refusals

pub bits_refused : (k : LeafKind) (room : ℕ) (x : List ℕ) (f : SegmentsFault) → kind_of k ≡ some_bits → IsRefused (BitsFail room) f x → IsRefused (Fails k room) f x
bits_refused k room x Memory h for_memory = for_memory
bits_refused k room x (At i e) h (at_place f b) = at_place (bits_fail h f) b

pub octets_refused : (room : ℕ) (x : List ℕ) (f : SegmentsFault) → IsRefused (OctetsFail room) f x → IsRefused (Fails kinds.OctetString room) f x
octets_refused room x Memory for_memory = for_memory
octets_refused room x (At i e) (at_place f b) = at_place (octets_fail refl f) b

pub text_refused : (k : LeafKind) (room : ℕ) (x : List ℕ) (f : SegmentsFault) → kind_of k ≡ some_text → IsRefused (OctetsFail room) f x → IsRefused (Fails k room) f x
text_refused k room x Memory h for_memory = for_memory
text_refused k room x (At i e) h (at_place f b) = at_place (text_fails h f) b

pub unsuited : (k : LeafKind) (room : ℕ) (x o : List ℕ) (f : SegmentsFault) → kind_of k ≡ some_text → Joins room x [] o → IsTextRefused k o f → IsRefused (Fails k room) f x
unsuited k room x o f h j text_memory = for_memory
unsuited k room x o f h j (text_unsuited n) = at_place (bad_text h (subst (λ q. OctetsWithin room q x) (sym j.joined) j.holds) n) (omega arith)

-- ---- texts

abbrev IsTextValue : AbstractValue → Type 0
IsTextValue (text o) = Unit {0}
IsTextValue v = ⊥

utf8_value : {z : Constraint} {v : AbstractValue} {c : Bool} {x : List ℕ} → Contents Basic (a_utf8_string z) v c x → IsTextValue v
utf8_value (of_utf8 p e) = tt

restricted_value : {k : StringKind} {a : List ℕ} {z : Constraint} {v : AbstractValue} {c : Bool} {x : List ℕ} → Contents Basic (a_restricted_string k a z) v c x → IsTextValue v
restricted_value (of_restricted p e) = tt

text_value : (k : LeafKind) (v : AbstractValue) (x : List ℕ) → kind_of k ≡ some_text → IsReadAs k v x → IsTextValue v
text_value kinds.Utf8String v x e r = utf8_value r.contents
text_value (kinds.RestrictedString k) v x e r = restricted_value r.contents
text_value q v x e r = absurd (cc)

pub never_other : (k : LeafKind) (x : List ℕ) (l : Leaf) → kind_of k ≡ some_text → IsLeaf k x l → is_text l ≡ false → ⊥
never_other k x (leaves.Text s) h r e = cc
never_other k x (leaves.Oid o) h r e = subst IsTextValue r.means.1 (text_value k r.value x h r.is_read)
never_other k x (leaves.RelativeOid o) h r e = subst IsTextValue r.means.1 (text_value k r.value x h r.is_read)
never_other k x q h r e = subst IsTextValue r.means (text_value k r.value x h r.is_read)

utf8_same : {z : Constraint} {s x : List ℕ} → Contents Basic (a_utf8_string z) (text s) false x → s ≡ x
utf8_same (of_utf8 (whole b) e) = refl

restricted_same : {k : StringKind} {a : List ℕ} {z : Constraint} {s x : List ℕ} → Contents Basic (a_restricted_string k a z) (text s) false x → s ≡ x
restricted_same (of_restricted (whole b) e) = refl

text_same : (k : LeafKind) (s x : List ℕ) → kind_of k ≡ some_text → IsReadAs k (text s) x → (s ≡ x) × Suits k (text x)
text_same kinds.Utf8String s x e r = let q = utf8_same r.contents in (q, subst (λ z. Suits kinds.Utf8String (text z)) q r.suits)
text_same (kinds.RestrictedString k) s x e r = let q = restricted_same r.contents in (q, subst (λ z. Suits (kinds.RestrictedString k) (text z)) q r.suits)
text_same q s x e r = absurd (cc)

abbrev text_as : AbstractValue → List ℕ → Type 0
text_as v s = v ≡ text s

-- octets that are a text are those of the text, and suit the kind
pub is_the_text : (k : LeafKind) (s x : List ℕ) (v : AbstractValue) → kind_of k ≡ some_text → v ≡ text s → IsReadAs k v x → (s ≡ x) × Suits k (text x)
is_the_text k s x v h e r = text_same k s x h (subst (λ q. IsReadAs k q x) e r)

-- octets that suit the kind are contents of a text
pub is_read : (k : LeafKind) (x : List ℕ) → kind_of k ≡ some_text → AllBelowBase 256 x → Suits k (text x) → IsReadAs k (text x) x
is_read kinds.Utf8String x e b s = record { contents = of_utf8 (whole b) tt; suits = s }
is_read (kinds.RestrictedString k) x e b s = record { contents = of_restricted (whole b) tt; suits = s }
is_read q x e b s = absurd (cc)

-- ---- results

pub on_ok : {A E : Type 0} {P Q : A → Type 0} (r : Result A E) → ((a : A) → P a → Q a) → IfOk r P → IfOk r Q
on_ok (Ok a) f p = f a p
on_ok (Err e) f p = tt

pub on_err : {A E : Type 0} {P Q : E → Type 0} (r : Result A E) → ((e : E) → P e → Q e) → IfErr r P → IfErr r Q
on_err (Ok a) f p = tt
on_err (Err e) f p = f e p

pub want_of_memory : (k : LeafKind) (o : List ℕ) (f : SegmentsFault) → f ≡ Memory → IsTextRefused k o f
want_of_memory k o f e = subst (IsTextRefused k o) (sym e) text_memory

pub other_kind : (k : LeafKind) (room : ℕ) (x : List ℕ) → kind_of k ≡ nothing → IsRefused (Fails k room) (At 0 whys.UnexpectedTag) x
other_kind k room x h = at_place (never_constructed h) (omega arith)

-- if the octets are those of a value, `Memory` is the only fault
only_memory : (k : LeafKind) (room : ℕ) (x : List ℕ) (f : SegmentsFault) → ((i : ℕ) (e : SegmentError) → Fails k room e i x → ⊥) → IsRefused (Fails k room) f x → f ≡ Memory
only_memory k room x Memory n for_memory = refl
only_memory k room x (At i e) n (at_place f b) = absurd (n i e f)

pub only_read : (k : LeafKind) (room : ℕ) (x : List ℕ) (r : Result Reassembled SegmentsFault) → ((i : ℕ) (e : SegmentError) → Fails k room e i x → ⊥) → IfErr r (λ f. IsRefused (Fails k room) f x) → IfErr r (λ f. f ≡ Memory)
only_read k room x r n h = on_err r (λ f p. only_memory k room x f n p) h

this_fault : (k : LeafKind) (room i : ℕ) (e : SegmentError) (x : List ℕ) (f : SegmentsFault) → ((j : ℕ) (d : SegmentError) → Fails k room d j x → (e ≡ d) × (i ≡ j)) → IsRefused (Fails k room) f x → (f ≡ At i e) ⊎ (f ≡ Memory)
this_fault k room i e x Memory one for_memory = inr refl
this_fault k room i e x (At j d) one (at_place f b) = let s = one j d f in inl (sym (ap (λ q. At q e) s.1 ∙ ap (λ q. At j q) s.0))

abbrev DenotesAs : Result Reassembled SegmentsFault → ℕ → SegmentError → Type 0
DenotesAs r i e = (r ≡ Err (At i e)) ⊎ (r ≡ Err Memory)

by_fault : (i : ℕ) (e : SegmentError) (f : SegmentsFault) → (f ≡ At i e) ⊎ (f ≡ Memory) → DenotesAs (Err f) i e
by_fault i e f (inl p) = inl (ap Err p)
by_fault i e f (inr p) = inr (ap Err p)

pub just_so : (k : LeafKind) (room i : ℕ) (e : SegmentError) (x : List ℕ) (r : Result Reassembled SegmentsFault)
    → ((v : AbstractValue) → IsJoinedAs k v room x → ⊥)
    → ((j : ℕ) (d : SegmentError) → Fails k room d j x → (e ≡ d) × (i ≡ j))
    → IfOk r (λ j. ReadsContents k room x j)
    → IfErr r (λ f. IsRefused (Fails k room) f x)
    → DenotesAs r i e
just_so k room i e x (Ok j) none one a b = absurd (none a.value a.is_joined)
just_so k room i e x (Err f) none one a b = by_fault i e f (this_fault k room i e x f one b)
