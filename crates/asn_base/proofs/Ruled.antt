-- The types that keep all rules are a schema, and the types of a schema keep all rules.
use Rattle.std.proofs.Common.{arith, lit<, ◌≡◌, ℕ, zero, suc, ◌<◌, ◌≤◌, Bool, true, false, List, [], ◌∷◌, ◌++◌, length, map, inl, inr, refl, sym, subst, ap, ◌∙◌}
use Rattle.std.specs.Prelude.{◌⊎◌, if◌then◌else◌}
use Rattle.std.specs.List.{AllByRecursion}
use Rattle.asn_base.specs.declared.tag.Tag.{Tag}
use Rattle.asn_base.specs.declared.rule.SchemaRule.{SchemaRule}
use Rattle.asn_base.specs.declared.rule.SchemaRule.TheVariants as rules
use Rattle.asn_base.specs.Names.{AreNames}
use Rattle.asn_base.specs.Types.{Kind, a_boolean, an_integer, an_enumerated, a_bit_string, a_named_bit_string, an_octet_string, a_null, an_object_identifier, a_relative_oid, a_utf8_string, a_restricted_string, a_sequence, a_set, a_sequence_of, a_set_of, a_choice, Component, Resolved, Is}
use Rattle.asn_base.specs.Tags.{HasDistinctTags, IsChoice, AllTagged}
use Rattle.asn_base.specs.Schemas.{is_addition, HasTag, HasValue, AreListed, GroupsTogether, IsSound, components, types_in, PathLeadsTo, leads_itself, leads_onward, IsDefaultCircle, IsSchema}
use Rattle.asn_base.specs.Rules.{root_of, additions_of, names_in, HasBounds, HasAlphabet, HasNumbers, HasFewMembers, AreAfterMarker, HasMarker, HasOwnTags, HasOrder, HasFirstTagsApart, HasRunsApart, Contains, is_itself, contains_in, DefaultLeadsTo, Obeys, Keeps, AllKeep, place_of, IsFirstToBreak}
use Rattle.asn_base.proofs.Lists.{all_mapped}

-- ---- the root and the additions

pub parts : (cs : List Component) → cs ≡ root_of cs ++ additions_of cs
parts [] = refl
parts (c ∷ cs) = go (parts cs) (is_addition c)
  where
    go : cs ≡ root_of cs ++ additions_of cs → (b : Bool) → (c ∷ cs) ≡ (if b then [] else c ∷ root_of cs) ++ (if b then c ∷ cs else additions_of cs)
    go h true = refl
    go h false = ap (λ q. c ∷ q) h

in_root : (cs : List Component) → AllByRecursion (λ c. is_addition c ≡ false) (root_of cs)
in_root [] = tt
in_root (c ∷ cs) = go (in_root cs) (is_addition c) refl
  where
    go : AllByRecursion (λ d. is_addition d ≡ false) (root_of cs) → (b : Bool) → is_addition c ≡ b → AllByRecursion (λ d. is_addition d ≡ false) (if b then [] else c ∷ root_of cs)
    go h true e = tt
    go h false e = (e, h)

root_only : (root more : List Component) → AllByRecursion (λ c. is_addition c ≡ false) root → AllByRecursion (λ c. is_addition c ≡ true) more → root_of (root ++ more) ≡ root
root_only [] [] a b = refl
root_only [] (c ∷ more) a b = ap (λ q. if q then [] else c ∷ root_of more) b.0
root_only (c ∷ root) more a b = ap (λ q. if q then [] else c ∷ root_of (root ++ more)) a.0 ∙ ap (λ q. c ∷ q) (root_only root more a.1 b)

more_only : (root more : List Component) → AllByRecursion (λ c. is_addition c ≡ false) root → AllByRecursion (λ c. is_addition c ≡ true) more → additions_of (root ++ more) ≡ more
more_only [] [] a b = refl
more_only [] (c ∷ more) a b = ap (λ q. if q then c ∷ more else additions_of more) b.0
more_only (c ∷ root) more a b = ap (λ q. if q then c ∷ root ++ more else additions_of (root ++ more)) a.0 ∙ more_only root more a.1 b

pub all_map : {A B : Type 0} (P : B → Type 0) (f : A → B) (xs : List A) → AllByRecursion P (map f xs) → AllByRecursion (λ x. P (f x)) xs
all_map P f [] a = tt
all_map P f (x ∷ xs) a = (a.0, all_map P f xs a.1)

pub map_all : {A B : Type 0} (P : B → Type 0) (f : A → B) (xs : List A) → AllByRecursion (λ x. P (f x)) xs → AllByRecursion P (map f xs)
map_all P f [] a = tt
map_all P f (x ∷ xs) a = (a.0, map_all P f xs a.1)

-- ---- from rules to a schema

abbrev AllObeyed : List Resolved → ℕ → List Tag → Kind → Type 0
AllObeyed s t tags k = (rule : SchemaRule) → Obeys s rule t tags k

listed : (s : List Resolved) (t : ℕ) (tags : List Tag) (e : Bool) (cs : List Component) → Obeys s rules.Additions t tags (a_sequence e cs) → Obeys s rules.Count t tags (a_sequence e cs) → Obeys s rules.Names t tags (a_sequence e cs) → Obeys s rules.Members t tags (a_sequence e cs) → Obeys s rules.Defaults t tags (a_sequence e cs) → AreListed s e cs
listed s t tags e cs added few names members defaults = record {
  root = root_of cs;
  more = additions_of cs;
  parts = parts cs;
  in_root = in_root cs;
  behind = added.behind;
  groups = added.groups;
  marked = added.marked;
  few_root = few.few_root;
  few_more = few.few_more;
  names = names;
  types = all_map (λ u. u < length s) (λ c. c.type) cs members;
  defaults = defaults;
}

sound_by : (s : List Resolved) (t : ℕ) (tags : List Tag) (k : Kind) → AllObeyed s t tags k → IsSound s k
sound_by s t tags a_boolean o = tt
sound_by s t tags (an_integer c) o = o rules.Bounds
sound_by s t tags (an_enumerated root e more) o = record {
  some = (o rules.Count).some;
  names = o rules.Names;
  limits = (o rules.Numbers).limits;
  root_ascends = (o rules.Numbers).root_ascends;
  more_ascend = (o rules.Numbers).more_ascend;
  apart = (o rules.Numbers).apart;
  marked = o rules.Additions;
  few_root = (o rules.Count).few_root;
  few_more = (o rules.Count).few_more;
}
sound_by s t tags (a_bit_string c) o = o rules.Bounds
sound_by s t tags (a_named_bit_string bs) o = record {
  some = o rules.Count;
  names = o rules.Names;
  places = (o rules.Numbers).places;
  limits = (o rules.Numbers).limits;
}
sound_by s t tags (an_octet_string c) o = o rules.Bounds
sound_by s t tags a_null o = tt
sound_by s t tags an_object_identifier o = tt
sound_by s t tags a_relative_oid o = tt
sound_by s t tags (a_utf8_string c) o = o rules.Bounds
sound_by s t tags (a_restricted_string k codes c) o = (o rules.Alphabet, o rules.Bounds)
sound_by s t tags (a_sequence e cs) o = listed s t tags e cs (o rules.Additions) (o rules.Count) (o rules.Names) (o rules.Members) (o rules.Defaults)
sound_by s t tags (a_set e cs) o = (listed s t tags e cs (o rules.Additions) (o rules.Count) (o rules.Names) (o rules.Members) (o rules.Defaults), o rules.OwnTags)
sound_by s t tags (a_sequence_of c u) o = record { bounds = o rules.Bounds; type = (o rules.Members).0 }
sound_by s t tags (a_set_of c u) o = record { bounds = o rules.Bounds; type = (o rules.Members).0 }
sound_by s t tags (a_choice root e more) o = record {
  some = (o rules.Count).some;
  names = o rules.Names;
  types = o rules.OwnTags;
  more_ascend = o rules.Order;
  marked = o rules.Additions;
  few_root = (o rules.Count).few_root;
  few_more = (o rules.Count).few_more;
}

-- a type of a kind that is reached
pub record Reached (s : List Resolved) (k : Kind) (t : ℕ) : Type 0 where
  pub number : ℕ
  pub tags : List Tag
  pub is : Is s number tags k
  pub contained : Contains s number t

reached : {s : List Resolved} {k : Kind} {t : ℕ} → PathLeadsTo s k t → Reached s k t
reached (leads_itself i) = record { number = _; tags = _; is = i; contained = is_itself }
reached (leads_onward i m p) =
    let r = reached p in
    record { number = r.number; tags = r.tags; is = r.is; contained = contains_in i m r.contained }

no_circle : (s : List Resolved) → ((t : ℕ) → Keeps s rules.NoCircle t) → (t : ℕ) → IsDefaultCircle s t → ⊥
no_circle s keep t c =
    let r = reached c.back in
    keep r.number r.tags c.kind r.is (record { component = c.component; stands = c.stands; value = c.value; has_default = c.has_default; back = r.contained })

below_15 : (rule : SchemaRule) → place_of rule < 15
below_15 rules.Tagged = lit< tt
below_15 rules.FewTags = lit< tt
below_15 rules.Bounds = lit< tt
below_15 rules.Alphabet = lit< tt
below_15 rules.Numbers = lit< tt
below_15 rules.Count = lit< tt
below_15 rules.Names = lit< tt
below_15 rules.Additions = lit< tt
below_15 rules.Members = lit< tt
below_15 rules.OwnTags = lit< tt
below_15 rules.Order = lit< tt
below_15 rules.FirstTags = lit< tt
below_15 rules.RunTags = lit< tt
below_15 rules.Defaults = lit< tt
below_15 rules.NoCircle = lit< tt

distinct_by : (s : List Resolved) (k : Kind) → HasFirstTagsApart s k → HasRunsApart s k → HasDistinctTags s k
distinct_by s (a_sequence e cs) a b = b
distinct_by s (a_set e cs) a b = a
distinct_by s (a_choice root e more) a b = a
distinct_by s k a b = tt

first_apart : (s : List Resolved) (k : Kind) → HasDistinctTags s k → HasFirstTagsApart s k
first_apart s (a_set e cs) a = a
first_apart s (a_choice root e more) a = a
first_apart s k a = tt

runs_apart : (s : List Resolved) (k : Kind) → HasDistinctTags s k → HasRunsApart s k
runs_apart s (a_sequence e cs) a = a
runs_apart s k a = tt

pub schema_of_rules : (s : List Resolved) → AllKeep s 15 → IsSchema s
schema_of_rules s h = record {
  tagged = λ t k i. h rules.Tagged (lit< tt) t [] k i refl;
  distinct_tags = λ t tags k i. distinct_by s k (h rules.FirstTags (lit< tt) t tags k i) (h rules.RunTags (lit< tt) t tags k i);
  few_tags = h rules.FewTags (lit< tt);
  sound = λ t tags k i. sound_by s t tags k (λ rule. h rule (below_15 rule) t tags k i);
  no_circle = no_circle s (h rules.NoCircle (lit< tt));
}

-- ---- from a schema to rules

bounds : (s : List Resolved) (k : Kind) → IsSound s k → HasBounds k
bounds s a_boolean a = tt
bounds s (an_integer c) a = a
bounds s (an_enumerated root e more) a = tt
bounds s (a_bit_string c) a = a
bounds s (a_named_bit_string bs) a = tt
bounds s (an_octet_string c) a = a
bounds s a_null a = tt
bounds s an_object_identifier a = tt
bounds s a_relative_oid a = tt
bounds s (a_utf8_string c) a = a
bounds s (a_restricted_string k codes c) a = a.1
bounds s (a_sequence e cs) a = tt
bounds s (a_set e cs) a = tt
bounds s (a_sequence_of c u) a = a.bounds
bounds s (a_set_of c u) a = a.bounds
bounds s (a_choice root e more) a = tt

alphabet : (s : List Resolved) (k : Kind) → IsSound s k → HasAlphabet k
alphabet s (a_restricted_string k codes c) a = a.0
alphabet s k a = tt

numbers : (s : List Resolved) (k : Kind) → IsSound s k → HasNumbers k
numbers s (an_enumerated root e more) a = record { limits = a.limits; root_ascends = a.root_ascends; more_ascend = a.more_ascend; apart = a.apart }
numbers s (a_named_bit_string bs) a = record { places = a.places; limits = a.limits }
numbers s k a = tt

few_listed : (s : List Resolved) (e : Bool) (cs : List Component) → AreListed s e cs → (length (root_of cs) ≤ 256) × (length (additions_of cs) ≤ 64)
few_listed s e cs a =
    let r : root_of cs ≡ a.root = ap root_of a.parts ∙ root_only a.root a.more a.in_root a.behind in
    let m : additions_of cs ≡ a.more = ap additions_of a.parts ∙ more_only a.root a.more a.in_root a.behind in (
      subst (λ q. length q ≤ 256) (sym r) a.few_root,
      subst (λ q. length q ≤ 64) (sym m) a.few_more,
    )

few : (s : List Resolved) (k : Kind) → IsSound s k → HasFewMembers k
few s (an_enumerated root e more) a = record { some = a.some; few_root = a.few_root; few_more = a.few_more }
few s (a_named_bit_string bs) a = a.some
few s (a_sequence e cs) a = let f = few_listed s e cs a in record { some = omega arith; few_root = f.0; few_more = f.1 }
few s (a_set e cs) a = let f = few_listed s e cs a.0 in record { some = omega arith; few_root = f.0; few_more = f.1 }
few s (a_choice root e more) a = record { some = a.some; few_root = a.few_root; few_more = a.few_more }
few s k a = tt

names : (s : List Resolved) (k : Kind) → IsSound s k → AreNames (names_in k)
names s (an_enumerated root e more) a = a.names
names s (a_named_bit_string bs) a = a.names
names s (a_sequence e cs) a = a.names
names s (a_set e cs) a = a.0.names
names s (a_choice root e more) a = a.names
names s a_boolean a = record { identifiers = tt; distinct = tt }
names s (an_integer c) a = record { identifiers = tt; distinct = tt }
names s (a_bit_string c) a = record { identifiers = tt; distinct = tt }
names s (an_octet_string c) a = record { identifiers = tt; distinct = tt }
names s a_null a = record { identifiers = tt; distinct = tt }
names s an_object_identifier a = record { identifiers = tt; distinct = tt }
names s a_relative_oid a = record { identifiers = tt; distinct = tt }
names s (a_utf8_string c) a = record { identifiers = tt; distinct = tt }
names s (a_restricted_string k codes c) a = record { identifiers = tt; distinct = tt }
names s (a_sequence_of c u) a = record { identifiers = tt; distinct = tt }
names s (a_set_of c u) a = record { identifiers = tt; distinct = tt }

after_marker : (s : List Resolved) (e : Bool) (cs : List Component) → AreListed s e cs → AreAfterMarker e cs
after_marker s e cs a =
    let m : additions_of cs ≡ a.more = ap additions_of a.parts ∙ more_only a.root a.more a.in_root a.behind in
    record {
      behind = subst (AllByRecursion (λ c. is_addition c ≡ true)) (sym m) a.behind;
      groups = subst GroupsTogether (sym m) a.groups;
      marked = λ f. m ∙ a.marked f;
    }

marker : (s : List Resolved) (k : Kind) → IsSound s k → HasMarker k
marker s (an_enumerated root e more) a = a.marked
marker s (a_sequence e cs) a = after_marker s e cs a
marker s (a_set e cs) a = after_marker s e cs a.0
marker s (a_choice root e more) a = a.marked
marker s k a = tt

tag_there : (s : List Resolved) (k : Kind) → IsSound s k → HasOwnTags s k
tag_there s (a_set e cs) a = a.1
tag_there s (a_choice root e more) a = a.types
tag_there s k a = tt

order : (s : List Resolved) (k : Kind) → IsSound s k → HasOrder s k
order s (a_choice root e more) a = a.more_ascend
order s k a = tt

default_values : (s : List Resolved) (k : Kind) → IsSound s k → AllByRecursion (HasValue s) (components k)
default_values s (a_sequence e cs) a = a.defaults
default_values s (a_set e cs) a = a.0.defaults
default_values s k a = tt

there : (s : List Resolved) (t : ℕ) → HasTag s t → t < length s
there [] t h = absurd h
there (r ∷ s) zero h = omega arith
there (r ∷ s) (suc t) h = let l = there s t h in omega arith

members : (s : List Resolved) (k : Kind) → IsSound s k → AllByRecursion (λ u. u < length s) (types_in k)
members s (a_sequence e cs) a = map_all (λ u. u < length s) (λ c. c.type) cs a.types
members s (a_set e cs) a = map_all (λ u. u < length s) (λ c. c.type) cs a.0.types
members s (a_sequence_of c u) a = (a.type, tt)
members s (a_set_of c u) a = (a.type, tt)
members s (a_choice root e more) a = map_all (λ u. u < length s) (λ c. c.type) (root ++ more) (all_mapped (λ c. HasTag s c.type) (λ c. c.type < length s) (λ c h. there s c.type h) (root ++ more) a.types)
members s k a = tt

led_to : {s : List Resolved} {t u : ℕ} {tags : List Tag} {k : Kind} → Is s t tags k → Contains s t u → PathLeadsTo s k u
led_to i is_itself = leads_itself i
led_to i (contains_in j m c) = leads_onward j m (led_to i c)

circle_of : (s : List Resolved) (t : ℕ) (tags : List Tag) (k : Kind) → Is s t tags k → DefaultLeadsTo s k t → IsDefaultCircle s t
circle_of s t tags k i d = record { tags = tags; kind = k; is = i; component = d.component; stands = d.stands; value = d.value; has_default = d.has_default; back = led_to i d.back }

tag_needed : (s : List Resolved) → AllTagged s → (t : ℕ) (tags : List Tag) (k : Kind) → Is s t tags k → tags ≡ [] → IsChoice k
tag_needed s a t tags k i e = a t k (subst (λ q. Is s t q k) e i)

pub rules_of_schema : (s : List Resolved) → IsSchema s → (rule : SchemaRule) (t : ℕ) → Keeps s rule t
rules_of_schema s a rules.Tagged t tags k i = tag_needed s a.tagged t tags k i
rules_of_schema s a rules.FewTags t tags k i = a.few_tags t tags k i
rules_of_schema s a rules.Bounds t tags k i = bounds s k (a.sound t tags k i)
rules_of_schema s a rules.Alphabet t tags k i = alphabet s k (a.sound t tags k i)
rules_of_schema s a rules.Numbers t tags k i = numbers s k (a.sound t tags k i)
rules_of_schema s a rules.Count t tags k i = few s k (a.sound t tags k i)
rules_of_schema s a rules.Names t tags k i = names s k (a.sound t tags k i)
rules_of_schema s a rules.Additions t tags k i = marker s k (a.sound t tags k i)
rules_of_schema s a rules.Members t tags k i = members s k (a.sound t tags k i)
rules_of_schema s a rules.OwnTags t tags k i = tag_there s k (a.sound t tags k i)
rules_of_schema s a rules.Order t tags k i = order s k (a.sound t tags k i)
rules_of_schema s a rules.FirstTags t tags k i = first_apart s k (a.distinct_tags t tags k i)
rules_of_schema s a rules.RunTags t tags k i = runs_apart s k (a.distinct_tags t tags k i)
rules_of_schema s a rules.Defaults t tags k i = default_values s k (a.sound t tags k i)
rules_of_schema s a rules.NoCircle t tags k i = λ d. a.no_circle t (circle_of s t tags k i d)

-- ---- one fault at most

abbrev rule_at : ℕ → SchemaRule
rule_at zero = rules.Tagged
rule_at (suc zero) = rules.FewTags
rule_at (suc (suc zero)) = rules.Bounds
rule_at (suc (suc (suc zero))) = rules.Alphabet
rule_at (suc (suc (suc (suc zero)))) = rules.Count
rule_at (suc (suc (suc (suc (suc zero))))) = rules.Numbers
rule_at (suc (suc (suc (suc (suc (suc zero)))))) = rules.Names
rule_at (suc (suc (suc (suc (suc (suc (suc zero))))))) = rules.Additions
rule_at (suc (suc (suc (suc (suc (suc (suc (suc zero)))))))) = rules.Members
rule_at (suc (suc (suc (suc (suc (suc (suc (suc (suc zero))))))))) = rules.OwnTags
rule_at (suc (suc (suc (suc (suc (suc (suc (suc (suc (suc zero)))))))))) = rules.Order
rule_at (suc (suc (suc (suc (suc (suc (suc (suc (suc (suc (suc zero))))))))))) = rules.FirstTags
rule_at (suc (suc (suc (suc (suc (suc (suc (suc (suc (suc (suc (suc zero)))))))))))) = rules.RunTags
rule_at (suc (suc (suc (suc (suc (suc (suc (suc (suc (suc (suc (suc (suc zero))))))))))))) = rules.Defaults
rule_at n = rules.NoCircle

there_again : (rule : SchemaRule) → rule_at (place_of rule) ≡ rule
there_again rules.Tagged = refl
there_again rules.FewTags = refl
there_again rules.Bounds = refl
there_again rules.Alphabet = refl
there_again rules.Numbers = refl
there_again rules.Count = refl
there_again rules.Names = refl
there_again rules.Additions = refl
there_again rules.Members = refl
there_again rules.OwnTags = refl
there_again rules.Order = refl
there_again rules.FirstTags = refl
there_again rules.RunTags = refl
there_again rules.Defaults = refl
there_again rules.NoCircle = refl

pub same_rule : (p q : SchemaRule) → place_of p ≡ place_of q → p ≡ q
same_rule p q e = sym (there_again p) ∙ ap rule_at e ∙ there_again q

three : (m n : ℕ) → (m < n) ⊎ ((n < m) ⊎ (m ≡ n))
three zero zero = inr (inr refl)
three zero (suc n) = inl (omega arith)
three (suc m) zero = inr (inl (omega arith))
three (suc m) (suc n) = elim (three m n) [ inl l ↦ inl (omega arith) | inr r ↦ elim r [ inl l ↦ inr (inl (omega arith)) | inr e ↦ inr (inr (ap suc e)) ] ]

pub one_fault : (s : List Resolved) (p q : SchemaRule) (t u : ℕ) → IsFirstToBreak s p t × AllKeep s (place_of p) → IsFirstToBreak s q u × AllKeep s (place_of q) → (p ≡ q) × (t ≡ u)
one_fault s p q t u a b = elim (three (place_of p) (place_of q)) [
  | inl l ↦ absurd (a.0.broken (b.1 p l t))
  | inr r ↦ elim r [
    | inl l ↦ absurd (b.0.broken (a.1 q l u))
    | inr e ↦ (
        let same = same_rule p q e in (
          same,
          elim (three t u) [
            | inl l ↦ absurd (a.0.broken (subst (λ z. Keeps s z t) (sym same) (b.0.first t l)))
            | inr k ↦ elim k [ inl l ↦ absurd (b.0.broken (subst (λ z. Keeps s z u) same (a.0.first u l))) | inr f ↦ f ]
          ],
        )
        )
  ]
]
