-- Octets encode one value, with one number of levels, if first tags are distinct.
use Rattle.std.proofs.Common.{arith, ◌≡◌, ℕ, zero, suc, ◌+◌, ◌⊎◌, inl, inr, ⊎_elim, Bool, true, false, cond, List, [], ◌∷◌, ◌++◌, length, map, refl, sym, ap, subst, ◌∙◌}
use Rattle.std.specs.Prelude.{Option, Some, None, slice_get, ◌||◌, max}
use Rattle.std.specs.List.{AllByRecursion}
use Rattle.asn_base.specs.declared.tag.Tag.{Tag}
use Rattle.asn_base.specs.Abstract.{AbstractValue, fields, list, alternative, Row, absent}
use Rattle.asn_base.specs.Types.{Kind, Alternative, Component, Resolved}
use Rattle.asn_base.specs.Tags.{First, AreApart, AllApart, is_mandatory, first_run, RunsApart, HasDistinctTags, AllHaveDistinctTags, IsChoice, AllTagged}
use Rattle.encodings.specs.Rules.{Rules}
use Rattle.encodings.specs.Orders.{BeginsWith, EncodingInserted, here, there, Permutes, permutes_none, permutes_more, Merges, merges_none, merges_first, merges_second}
use Rattle.encodings.specs.Encoding.{Unknown, no_unknown, unknown, UnknownIf, closed, extensible, any_mandatory, last_run, EncodesTo, says, ContentsEncode, leaf, sequence, set, sequence_of, set_of, choice, Members, no_member, left_out, member, Elements, no_element, element}
use Rattle.encodings.specs.Levels.{unknown_levels, levels, inner_levels, member_levels, element_levels}
use Rattle.encodings.proofs.Units.{IsUnit}
use Rattle.encodings.specs.proving.LeafForms.{no_leaf, bare_is}
use Rattle.encodings.proofs.LeafValues.{contents_value}
use Rattle.encodings.proofs.LeafLevels.{contents_levels}
use Rattle.encodings.proofs.Firsts.{FirstOf, says_first, one_tag, not_both, frames_contents, units_list, members_units, elements_units, unknown_units, all_appended}
use Rattle.encodings.proofs.Least.{framed_at, alternative_type}
use Rattle.asn_base.specs.proving.OneKind.{same_tags, same_kind}
use Rattle.encodings.specs.proving.LastRuns.{in_last, last_later}

-- an unknown encoding at a place where no known component can be
record Foreign (s : List Resolved) (known : List Component) (x : List ℕ) : Type 0 where
  tag : Tag
  begins : BeginsWith tag x
  is_none : AllByRecursion (λ m. First s m.type tag → ⊥) known

foreigners : {s : List Resolved} {known : List Component} {k : ℕ} {us : List (List ℕ)} → Unknown s known k us → AllByRecursion (Foreign s known) us
foreigners no_unknown = tt
foreigners (unknown {g = g} {c = c} {h = h} x hd b f u) = (record { tag = g; begins = record { constructed = c; count = length x; header = h; rest = x; is_header = hd; whole = refl }; is_none = f }, foreigners u)

foreigners_if : {s : List Resolved} {known : List Component} {e : Bool} {k : ℕ} {us : List (List ℕ)} → UnknownIf s known e k us → AllByRecursion (Foreign s known) us
foreigners_if closed = tt
foreigners_if (extensible u) = foreigners u

units_if : {s : List Resolved} {known : List Component} {e : Bool} {k : ℕ} {us : List (List ℕ)} → UnknownIf s known e k us → AllByRecursion IsUnit us
units_if closed = tt
units_if (extensible u) = unknown_units u

counted : {s : List Resolved} {known : List Component} {k : ℕ} {us : List (List ℕ)} → Unknown s known k us → k ≡ length us
counted no_unknown = refl
counted (unknown x h b f u) = ap suc (counted u)

counted_if : {s : List Resolved} {known : List Component} {e : Bool} {k : ℕ} {us : List (List ℕ)} → UnknownIf s known e k us → k ≡ length us
counted_if closed = refl
counted_if (extensible u) = counted u

abbrev tail_of : List (List ℕ) → List (List ℕ)
tail_of [] = []
tail_of (x ∷ xs) = xs

abbrev head_of : List (List ℕ) → List ℕ
head_of [] = []
head_of (x ∷ xs) = x

foreign_later : (s : List Resolved) (c : Component) (cs : List Component) (us : List (List ℕ)) → AllByRecursion (Foreign s (last_run (c ∷ cs))) us → AllByRecursion (Foreign s (last_run cs)) us
foreign_later s c cs [] a = tt
foreign_later s c cs (u ∷ us) a =
    let f = a.0 in
    (record { tag = f.tag; begins = f.begins; is_none = last_later (λ m. First s m.type f.tag → ⊥) c cs f.is_none }, foreign_later s c cs us a.1)

run_more : (P : Component → Type 0) (c : Component) (cs : List Component) → AllByRecursion P (first_run (c ∷ cs)) → P c
run_more P c cs a = by (is_mandatory c) a
  where
    by : (m : Bool) → AllByRecursion P (cond m (c ∷ []) (c ∷ first_run cs)) → P c
    by true a = a.0
    by false a = a.0

run_rest : (P : Component → Type 0) (c : Component) (cs : List Component) → is_mandatory c ≡ false → AllByRecursion P (first_run (c ∷ cs)) → AllByRecursion P (first_run cs)
run_rest P c cs f a = (subst (λ m. AllByRecursion P (cond m (c ∷ []) (c ∷ first_run cs))) f a).1

none_later : (c : Component) (cs : List Component) → is_mandatory c ≡ false → any_mandatory (c ∷ cs) ≡ any_mandatory cs
none_later c cs f = ap (λ m. m || any_mandatory cs) f

-- after a component that is absent no encoding begins with its first tags
not_next : {s : List Resolved} {r : Rules} {cs : List Component} {ws : Row} {n : ℕ} {ys : List (List ℕ)} → AllTagged s → (t : ℕ) (x : List ℕ) (xs us : List (List ℕ)) → FirstOf s t x → AllByRecursion (λ d. AreApart s t d.type) (first_run cs) → (any_mandatory cs ≡ false → AllByRecursion (λ u. FirstOf s t u → ⊥) us) → Members s r cs ws n ys → x ∷ xs ≡ ys ++ us → ⊥
not_next all t x xs [] f apart out no_member e = let l = ap length e in omega arith
not_next {s} all t x xs (u ∷ us) f apart out no_member e = (out refl).0 (subst (FirstOf s t) (ap head_of e) f)
not_next {s} {cs = c ∷ cs} all t x xs us f apart out (left_out m ms) e =
    not_next all t x xs us f (run_rest (λ d. AreApart s t d.type) c cs m apart) (λ z. out (none_later c cs m ∙ z)) ms e
not_next {s} {cs = c ∷ cs} all t x xs us f apart out (member {x = y} a nd ms) e =
    not_both s t c.type y (run_more (λ d. AreApart s t d.type) c cs apart) (subst (FirstOf s t) (ap head_of e) f) (says_first all a)

-- in a run that nothing mandatory ends, unknown encodings begin with none of its first tags
strangers : (s : List Resolved) (c : Component) (cs : List Component) (us : List (List ℕ)) → is_mandatory c ≡ false → any_mandatory cs ≡ false → AllByRecursion (Foreign s (last_run (c ∷ cs))) us → AllByRecursion (λ u. FirstOf s c.type u → ⊥) us
strangers s c cs [] m e a = tt
strangers s c cs (u ∷ us) m e a =
    let f = a.0 in
    ((λ g. in_last (λ d. First s d.type f.tag → ⊥) c cs e m f.is_none (subst (First s c.type) (one_tag g.tag f.tag u g.begins f.begins) g.is_first)), strangers s c cs us m e a.1)

-- x is one of the encodings
data Has (x : List ℕ) : List (List ℕ) → Type 0 where
  has_first : {xs : List (List ℕ)} → Has x (x ∷ xs)
  has_later : {y : List ℕ} {xs : List (List ℕ)} → Has x xs → Has x (y ∷ xs)

inserted_has : {x y : List ℕ} {xs ys : List (List ℕ)} → EncodingInserted y xs ys → Has x (y ∷ xs) → Has x ys
inserted_has here h = h
inserted_has (there i) has_first = has_later (inserted_has i has_first)
inserted_has (there i) (has_later has_first) = has_first
inserted_has (there i) (has_later (has_later h)) = has_later (inserted_has i (has_later h))

inserted_had : {x y : List ℕ} {xs ys : List (List ℕ)} → EncodingInserted y xs ys → Has x ys → Has x (y ∷ xs)
inserted_had here h = h
inserted_had (there i) has_first = has_later has_first
inserted_had (there i) (has_later h) = swap (inserted_had i h)
  where
    swap : {x y z : List ℕ} {xs : List (List ℕ)} → Has x (y ∷ xs) → Has x (y ∷ z ∷ xs)
    swap has_first = has_first
    swap (has_later h) = has_later (has_later h)

permutes_has : {x : List ℕ} {xs zs : List (List ℕ)} → Permutes xs zs → Has x xs → Has x zs
permutes_has permutes_none h = h
permutes_has (permutes_more p i) has_first = inserted_has i has_first
permutes_has (permutes_more p i) (has_later h) = inserted_has i (has_later (permutes_has p h))

later_by : {x y : List ℕ} {xs ys : List (List ℕ)} → (Has x xs → Has x ys) → Has x (y ∷ xs) → Has x (y ∷ ys)
later_by f has_first = has_first
later_by f (has_later h) = has_later (f h)

permutes_had : {x : List ℕ} {xs zs : List (List ℕ)} → Permutes xs zs → Has x zs → Has x xs
permutes_had permutes_none h = h
permutes_had (permutes_more p i) h = later_by (permutes_had p) (inserted_had i h)

merges_has : {x : List ℕ} {zs us ms : List (List ℕ)} → Merges zs us ms → Has x zs → Has x ms
merges_has merges_none h = h
merges_has (merges_first m) has_first = has_first
merges_has (merges_first m) (has_later h) = has_later (merges_has m h)
merges_has (merges_second m) h = has_later (merges_has m h)

merges_had : {x : List ℕ} {zs us ms : List (List ℕ)} → Merges zs us ms → Has x ms → Has x zs ⊎ Has x us
merges_had merges_none h = inl h
merges_had (merges_first m) has_first = inl has_first
merges_had (merges_first m) (has_later h) = ⊎_elim (λ a. inl (has_later a)) (λ b. inr b) (merges_had m h)
merges_had (merges_second m) has_first = inr has_first
merges_had (merges_second m) (has_later h) = ⊎_elim (λ a. inl a) (λ b. inr (has_later b)) (merges_had m h)

inserted_length : {x : List ℕ} {xs ys : List (List ℕ)} → EncodingInserted x xs ys → length ys ≡ suc (length xs)
inserted_length here = refl
inserted_length (there i) = ap suc (inserted_length i)

permutes_length : {xs ys : List (List ℕ)} → Permutes xs ys → length ys ≡ length xs
permutes_length permutes_none = refl
permutes_length (permutes_more p i) = inserted_length i ∙ ap suc (permutes_length p)

merges_length : {zs us ms : List (List ℕ)} → Merges zs us ms → length ms ≡ length zs + length us
merges_length merges_none = refl
merges_length (merges_first m) = let e = merges_length m in omega arith
merges_length (merges_second m) = let e = merges_length m in omega arith

all_inserted : (P : List ℕ → Type 0) {x : List ℕ} {xs ys : List (List ℕ)} → P x → AllByRecursion P xs → EncodingInserted x xs ys → AllByRecursion P ys
all_inserted P p a here = (p, a)
all_inserted P p a (there i) = (a.0, all_inserted P p a.1 i)

all_permutes : (P : List ℕ → Type 0) {xs ys : List (List ℕ)} → Permutes xs ys → AllByRecursion P xs → AllByRecursion P ys
all_permutes P permutes_none a = tt
all_permutes P (permutes_more p i) a = all_inserted P a.0 (all_permutes P p a.1) i

all_merged : (P : List ℕ → Type 0) {zs us ms : List (List ℕ)} → Merges zs us ms → AllByRecursion P zs → AllByRecursion P us → AllByRecursion P ms
all_merged P merges_none a b = tt
all_merged P (merges_first m) a b = (a.0, all_merged P m a.1 b)
all_merged P (merges_second m) a b = (b.0, all_merged P m a b.1)

abbrev types : List Component → List ℕ
types cs = map (λ c. c.type) cs

-- x begins with a first tag of one of the types
data OneOf (s : List Resolved) (x : List ℕ) : List ℕ → Type 0 where
  of_first : {t : ℕ} {ts : List ℕ} → FirstOf s t x → OneOf s x (t ∷ ts)
  of_later : {t : ℕ} {ts : List ℕ} → OneOf s x ts → OneOf s x (t ∷ ts)

member_of : {s : List Resolved} {r : Rules} {cs : List Component} {ws : Row} {n : ℕ} {xs : List (List ℕ)} {x : List ℕ} → AllTagged s → Members s r cs ws n xs → Has x xs → OneOf s x (types cs)
member_of all no_member h = elim h [ ]
member_of all (left_out m ms) h = of_later (member_of all ms h)
member_of all (member a nd ms) has_first = of_first (says_first all a)
member_of all (member a nd ms) (has_later h) = of_later (member_of all ms h)

-- no encoding of a type apart from all of these
none_of : (s : List Resolved) (t : ℕ) (ts : List ℕ) (x : List ℕ) → AllByRecursion (AreApart s t) ts → FirstOf s t x → OneOf s x ts → ⊥
none_of s t [] x a f o = elim o [ ]
none_of s t (u ∷ ts) x a f (of_first g) = not_both s t u x a.0 f g
none_of s t (u ∷ ts) x a f (of_later o) = none_of s t ts x a.1 f o

not_foreign : (s : List Resolved) (cs : List Component) (x : List ℕ) → OneOf s x (types cs) → Foreign s cs x → ⊥
not_foreign s [] x o f = elim o [ ]
not_foreign s (c ∷ cs) x (of_first g) f = f.is_none.0 (subst (First s c.type) (one_tag g.tag f.tag x g.begins f.begins) g.is_first)
not_foreign s (c ∷ cs) x (of_later o) f = not_foreign s cs x o (record { tag = f.tag; begins = f.begins; is_none = f.is_none.1 })

all_has : (P : List ℕ → Type 0) {x : List ℕ} {xs : List (List ℕ)} → AllByRecursion P xs → Has x xs → P x
all_has P a has_first = a.0
all_has P a (has_later h) = all_has P a.1 h

-- the known encodings of one list are those of the other
known_in : {s : List Resolved} {r : Rules} {cs : List Component} {vs : Row} {j : ℕ} {xs zs us ms ys zs' us' : List (List ℕ)} → AllTagged s → Members s r cs vs j xs → Permutes xs zs → Merges zs us ms → Permutes ys zs' → Merges zs' us' ms → AllByRecursion (Foreign s cs) us' → (x : List ℕ) → Has x xs → Has x ys
known_in {s} {cs = cs} all ma p m q n out x h =
    ⊎_elim (λ a. permutes_had q a) (λ b. absurd (not_foreign s cs x (member_of all ma h) (all_has (Foreign s cs) out b))) (merges_had n (merges_has m (permutes_has p h)))

abbrev IsThere : Option Alternative → Type 0
IsThere None = ⊥
IsThere (Some q) = Unit {0}

abbrev type_in : Option Alternative → ℕ
type_in None = 0
type_in (Some q) = q.type

at_place : (P : ℕ → Type 0) (qs : List Alternative) (j : ℕ) (b : Alternative) → AllByRecursion P (map (λ q. q.type) qs) → slice_get qs j ≡ Some b → P b.type
at_place P [] j b a e = absurd (subst IsThere (sym e) tt)
at_place P (q ∷ qs) zero b a e = subst P (ap type_in e) a.0
at_place P (q ∷ qs) (suc j) b a e = at_place P qs j b a.1 e

clash : (s : List Resolved) (q a b : Alternative) (qs : List Alternative) (j : ℕ) (x : List ℕ) → AllByRecursion (AreApart s q.type) (map (λ q. q.type) qs) → Some q ≡ Some a → slice_get qs j ≡ Some b → FirstOf s a.type x → FirstOf s b.type x → ⊥
clash s q a b qs j x all e f g h = not_both s q.type b.type x (at_place (AreApart s q.type) qs j b all f) (subst (λ t. FirstOf s t x) (sym (ap type_in e)) g) h

-- one alternative begins with a tag
same_place : (s : List Resolved) (qs : List Alternative) (i j : ℕ) (a b : Alternative) (x : List ℕ) → AllApart s (map (λ q. q.type) qs) → slice_get qs i ≡ Some a → slice_get qs j ≡ Some b → FirstOf s a.type x → FirstOf s b.type x → i ≡ j
same_place s [] i j a b x all e f g h = absurd (subst IsThere (sym e) tt)
same_place s (q ∷ qs) zero zero a b x all e f g h = refl
same_place s (q ∷ qs) zero (suc j) a b x all e f g h = absurd (clash s q a b qs j x all.0 e f g h)
same_place s (q ∷ qs) (suc i) zero a b x all e f g h = absurd (clash s q b a qs i x all.0 f e h g)
same_place s (q ∷ qs) (suc i) (suc j) a b x all e f g h = ap suc (same_place s qs i j a b x all.1 e f g h)

-- encodings of members determine their values, and their levels
record SameMembers (vs ws : Row) (j n : ℕ) (us us' : List (List ℕ)) (l m : ℕ) : Type 0 where
  rows : vs ≡ ws
  counts : j ≡ n
  rest : us ≡ us'
  depths : l ≡ m

record SameSet (vs ws : Row) (j n : ℕ) (xs ys : List (List ℕ)) (l m : ℕ) : Type 0 where
  rows : vs ≡ ws
  counts : j ≡ n
  as_many : length xs ≡ length ys
  depths : l ≡ m

-- octets determine the value, how many additions are unknown, and the levels of headers
pub record SameValue (v w : AbstractValue) (j n l m : ℕ) : Type 0 where
  pub values : v ≡ w
  pub counts : j ≡ n
  pub depths : l ≡ m

choice_form : {s : List Resolved} {r : Rules} {k : Kind} {n : ℕ} {v : AbstractValue} {c : Bool} {x : List ℕ} → IsChoice k → ContentsEncode s r k v n c x → c ≡ true
choice_form h (leaf con) = absurd (no_leaf h con)
choice_form h (sequence ms u) = refl
choice_form h (set ms p st u m) = refl
choice_form h (sequence_of es) = refl
choice_form h (set_of es st) = refl
choice_form h (choice g a) = refl

fold_lists : (x : List ℕ) (xs us : List (List ℕ)) → (x ∷ xs) ++ us ≡ x ∷ (xs ++ us)
fold_lists x xs us = refl

first_there : (s : List Resolved) (t : ℕ) (x y : List ℕ) → FirstOf s t x → x ≡ y → FirstOf s t y
first_there s t x y f e = subst (FirstOf s t) e f

must_be_later : {x y : List ℕ} {xs : List (List ℕ)} → Has x (y ∷ xs) → (x ≡ y → ⊥) → Has x xs
must_be_later has_first f = absurd (f refl)
must_be_later (has_later h) f = h

first_or_later : {x y : List ℕ} {xs : List (List ℕ)} → Has x (y ∷ xs) → (x ≡ y) ⊎ Has x xs
first_or_later has_first = inl refl
first_or_later (has_later h) = inr h

deeper : {a b c d : ℕ} → a ≡ b → c ≡ d → max a c ≡ max b d
deeper {a} {b} {c} {d} e f = ap (λ q. max q c) e ∙ ap (λ q. max b q) f

unknown_same : {s : List Resolved} {cs ds : List Component} {e f : Bool} {j k : ℕ} {us us' : List (List ℕ)} (u : UnknownIf s cs e j us) (u' : UnknownIf s ds f k us') → length us ≡ length us' → unknown_levels u ≡ unknown_levels u'
unknown_same closed closed e = refl
unknown_same closed (extensible no_unknown) e = refl
unknown_same closed (extensible (unknown x h b f u)) e = absurd (omega arith)
unknown_same (extensible no_unknown) closed e = refl
unknown_same (extensible (unknown x h b f u)) closed e = absurd (omega arith)
unknown_same (extensible no_unknown) (extensible no_unknown) e = refl
unknown_same (extensible no_unknown) (extensible (unknown x h b f u)) e = absurd (omega arith)
unknown_same (extensible (unknown x h b f u)) (extensible no_unknown) e = absurd (omega arith)
unknown_same (extensible (unknown x h b f u)) (extensible (unknown x' h' b' f' u')) e = refl

-- the same at an equal kind or type, with as many levels
held_at : {s : List Resolved} {r : Rules} {k k' : Kind} {w : AbstractValue} {n : ℕ} {c : Bool} {x : List ℕ} → k' ≡ k → (h : ContentsEncode s r k' w n c x) → (g : ContentsEncode s r k w n c x) × (inner_levels g ≡ inner_levels h)
held_at {s} {r} {w = w} {n = n} {c = c} {x = x} e h = subst (λ q. (g : ContentsEncode s r q w n c x) × (inner_levels g ≡ inner_levels h)) e (h, refl)

said_at : {s : List Resolved} {r : Rules} {t u n : ℕ} {w : AbstractValue} {x : List ℕ} → u ≡ t → (a : EncodesTo s r u w n x) → (b : EncodesTo s r t w n x) × (levels b ≡ levels a)
said_at {s} {r} {n = n} {w = w} {x = x} e a = subst (λ q. (b : EncodesTo s r q w n x) × (levels b ≡ levels a)) e (a, refl)

module _ (s : List Resolved) (r r' : Rules) (all : AllTagged s) (tell : AllHaveDistinctTags s) where
  mutual
    pub says_same : {t j n : ℕ} {v w : AbstractValue} {o p : List ℕ} (a : EncodesTo s r t v j o) (b : EncodesTo s r' t w n p) → o ≡ p → SameValue v w j n (levels a) (levels b)
    says_same (says {tags = []} i h fr) (says k g fr') e =
        let g' = held_at (same_kind i k) g in
        let is = all _ _ i in
        let fr2 = framed_at (same_tags i k) fr' in
        let a = holds_same (tell _ _ _ i) h g'.0 (choice_form is h ∙ sym (choice_form is g'.0)) (sym (bare_is fr) ∙ e ∙ bare_is fr2) in
        record { values = a.values; counts = a.counts; depths = (let d = a.depths in let m = g'.1 in let n = ap length (same_tags i k) in omega arith) }
    says_same (says {tags = f ∷ fs} i h fr) (says k g fr') e =
        let c = frames_contents fr (framed_at (same_tags i k) fr') e in
        let g' = held_at (same_kind i k) g in
        let a = holds_same (tell _ _ _ i) h g'.0 c.forms c.inside in
        record { values = a.values; counts = a.counts; depths = (let d = a.depths in let m = g'.1 in let n = ap length (same_tags i k) in omega arith) }

    holds_same : {k : Kind} {j n : ℕ} {v w : AbstractValue} {c d : Bool} {x y : List ℕ} → HasDistinctTags s k → (a : ContentsEncode s r k v j c x) (b : ContentsEncode s r' k w n d y) → c ≡ d → x ≡ y → SameValue v w j n (inner_levels a) (inner_levels b)
    holds_same q (leaf con) (leaf con') f e = record { values = contents_value con con' f e; counts = refl; depths = contents_levels con con' f e }
    holds_same q (leaf con) (sequence ms' u') f e = elim con [ ]
    holds_same q (leaf con) (set ms' p' st' u' m') f e = elim con [ ]
    holds_same q (leaf con) (sequence_of es') f e = elim con [ ]
    holds_same q (leaf con) (set_of es' st') f e = elim con [ ]
    holds_same q (leaf con) (choice g' b') f e = elim con [ ]
    holds_same q (sequence ms u) (leaf con') f e = elim con' [ ]
    holds_same q (set ms p st u m) (leaf con') f e = elim con' [ ]
    holds_same q (sequence_of es) (leaf con') f e = elim con' [ ]
    holds_same q (set_of es st) (leaf con') f e = elim con' [ ]
    holds_same q (choice g b) (leaf con') f e = elim con' [ ]
    holds_same q (sequence {xs = xs} {us = us} ms u) (sequence {xs = ys} {us = us'} ms' u') f e =
        let l = units_list (xs ++ us) (ys ++ us') (all_appended IsUnit xs us (members_units all ms) (units_if u)) (all_appended IsUnit ys us' (members_units all ms') (units_if u')) e in
        let m = members_same q ms ms' (foreigners_if u) (foreigners_if u') l in
        let a = m.counts in
        let b = counted_if u ∙ ap length m.rest ∙ sym (counted_if u') in
        record { values = ap fields m.rows; counts = omega arith; depths = deeper m.depths (unknown_same u u' (ap length m.rest)) }
    holds_same q (set {xs = xs} {zs = zs} {us = us} {ys = ys} ms p st u m) (set {xs = xs'} {zs = zs'} {us = us'} {ys = ys'} ms' p' st' u' m') f e =
        let l : ys ≡ ys' = units_list ys ys' (all_merged IsUnit m (all_permutes IsUnit p (members_units all ms)) (units_if u)) (all_merged IsUnit m' (all_permutes IsUnit p' (members_units all ms')) (units_if u')) e in
        let m2 : Merges zs' us' ys = subst (Merges zs' us') (sym l) m' in
        let there = known_in all ms p m p' m2 (foreigners_if u') in
        let back = known_in all ms' p' m2 p m (foreigners_if u) in
        let a = sets_same q ms ms' there back in
        let n = a.counts in
        let lengths = a.as_many in
        let b : length us ≡ length us' = omega (arith, lengths, merges_length m, merges_length m2, permutes_length p, permutes_length p') in
        let b' = counted_if u ∙ b ∙ sym (counted_if u') in
        record { values = ap fields a.rows; counts = omega arith; depths = deeper a.depths (unknown_same u u' b) }
    holds_same q (sequence_of {xs = xs} es) (sequence_of {xs = ys} es') f e =
        let a = elements_same es es' (units_list xs ys (elements_units all es) (elements_units all es') e) in
        record { values = ap list a.rows; counts = a.counts; depths = a.depths }
    holds_same q (set_of {xs = xs} es st) (set_of {xs = ys} es' st') f e =
        let a = elements_same es es' (units_list xs ys (elements_units all es) (elements_units all es') e) in
        record { values = ap list a.rows; counts = a.counts; depths = a.depths }
    holds_same q (choice {i = i} {root = root} {more = more} {a = a} {w = v} {x = x} g b) (choice {i = i'} {a = a'} {w = w} {x = y} g' b') f e =
        let places : i ≡ i' = same_place s (root ++ more) i i' a a' y q g g' (first_there s a.type x y (says_first all b) e) (says_first all b') in
        let types' : a'.type ≡ a.type = alternative_type g (ap (slice_get (root ++ more)) places ∙ g') in
        let b2 = said_at types' b' in
        let c = says_same b b2.0 e in
        record { values = ap (λ z. alternative z v) places ∙ ap (λ z. alternative i' z) c.values; counts = c.counts; depths = c.depths ∙ b2.1 }

    members_same : {cs : List Component} {vs ws : Row} {j n : ℕ} {xs ys us us' : List (List ℕ)} → RunsApart s cs → (a : Members s r cs vs j xs) (b : Members s r' cs ws n ys) → AllByRecursion (Foreign s (last_run cs)) us → AllByRecursion (Foreign s (last_run cs)) us' → xs ++ us ≡ ys ++ us' → SameMembers vs ws j n us us' (member_levels a) (member_levels b)
    members_same q no_member no_member f g e = record { rows = refl; counts = refl; rest = e; depths = refl }
    members_same {cs = c ∷ cs} {us = us} {us' = us'} q (left_out m ms) (left_out m' ms') f g e =
        let a = members_same q.1 ms ms' (foreign_later s c cs us f) (foreign_later s c cs us' g) e in
        record { rows = ap absent a.rows; counts = a.counts; rest = a.rest; depths = a.depths }
    members_same {cs = c ∷ cs} {us = us} {us' = us'} q (left_out m ms) (member {x = x} {xs = xs} b nd ms') f g e =
        absurd (not_next all c.type x (xs ++ us') us (says_first all b) (q.0 m) (λ z. strangers s c cs us m z f) ms (sym e))
    members_same {cs = c ∷ cs} {us = us} {us' = us'} q (member {x = x} {xs = xs} a nd ms) (left_out m' ms') f g e =
        absurd (not_next all c.type x (xs ++ us) us' (says_first all a) (q.0 m') (λ z. strangers s c cs us' m' z g) ms' e)
    members_same {cs = c ∷ cs} {us = us} {us' = us'} q (member {x = x} {xs = xs} a nd ms) (member {x = y} {xs = ys} b nd' ms') f g e =
        let h = says_same a b (ap head_of e) in
        let t = members_same q.1 ms ms' (foreign_later s c cs us f) (foreign_later s c cs us' g) (ap tail_of e) in
        let h' = h.counts in
        let t' = t.counts in
        record { rows = (let p = h.values in let p' = t.rows in cc); counts = omega arith; rest = t.rest; depths = deeper h.depths t.depths }

    sets_same : {cs : List Component} {vs ws : Row} {j n : ℕ} {xs ys : List (List ℕ)} → AllApart s (types cs) → (a : Members s r cs vs j xs) (b : Members s r' cs ws n ys) → ((x : List ℕ) → Has x xs → Has x ys) → ((y : List ℕ) → Has y ys → Has y xs) → SameSet vs ws j n xs ys (member_levels a) (member_levels b)
    sets_same q no_member no_member f g = record { rows = refl; counts = refl; as_many = refl; depths = refl }
    sets_same q (left_out m ms) (left_out m' ms') f g =
        let a = sets_same q.1 ms ms' f g in
        record { rows = ap absent a.rows; counts = a.counts; as_many = a.as_many; depths = a.depths }
    sets_same {cs = c ∷ cs} q (left_out m ms) (member {x = x} b nd ms') f g =
        absurd (none_of s c.type (types cs) x q.0 (says_first all b) (member_of all ms (g x has_first)))
    sets_same {cs = c ∷ cs} q (member {x = x} a nd ms) (left_out m' ms') f g =
        absurd (none_of s c.type (types cs) x q.0 (says_first all a) (member_of all ms' (f x has_first)))
    sets_same {cs = c ∷ cs} q (member {x = x} {xs = xs} a nd ms) (member {x = y} {xs = ys} b nd' ms') f g =
        let here' : x ≡ y = ⊎_elim (λ e. e) (λ h. absurd (none_of s c.type (types cs) x q.0 (says_first all a) (member_of all ms' h))) (first_or_later (f x has_first)) in
        let h = says_same a b here' in
        let t = sets_same q.1 ms ms'
        (λ z h. must_be_later (f z (has_later h)) (λ e. none_of s c.type (types cs) y q.0 (says_first all b) (subst (λ l. OneOf s l (types cs)) e (member_of all ms h))))
        (λ z h. must_be_later (g z (has_later h)) (λ e. none_of s c.type (types cs) x q.0 (says_first all a) (subst (λ l. OneOf s l (types cs)) e (member_of all ms' h)))) in
        let h' = h.counts in
        let t' = t.counts in
        record { rows = (let p = h.values in let p' = t.rows in cc); counts = omega arith; as_many = ap suc t.as_many; depths = deeper h.depths t.depths }

    elements_same : {u : ℕ} {vs ws : Row} {j n : ℕ} {xs ys : List (List ℕ)} → (a : Elements s r u vs j xs) (b : Elements s r' u ws n ys) → xs ≡ ys → SameSet vs ws j n xs ys (element_levels a) (element_levels b)
    elements_same no_element no_element e = record { rows = refl; counts = refl; as_many = refl; depths = refl }
    elements_same no_element (element b es') e = absurd (let l = ap length e in omega arith)
    elements_same (element a es) no_element e = absurd (let l = ap length e in omega arith)
    elements_same (element a es) (element b es') e =
        let h = says_same a b (ap head_of e) in
        let t = elements_same es es' (ap tail_of e) in
        let h' = h.counts in
        let t' = t.counts in
        record { rows = (let p = h.values in let p' = t.rows in cc); counts = omega arith; as_many = ap suc t.as_many; depths = deeper h.depths t.depths }
