-- No component that the earlier version has can begin as an addition that was appended.
use Rattle.std.proofs.Common.{arith, ◌≡◌, ℕ, zero, suc, ◌<◌, ◌≤◌, Bool, true, false, cond, List, [], ◌∷◌, ◌++◌, length, map, refl, sym, ap, subst, ◌∙◌, length-append}
use Rattle.std.proofs.lemmas.List.{length-map}
use Rattle.std.specs.Prelude.{slice_get, Some, None, Option, IsSomeAnd, ◌||◌}
use Rattle.std.specs.List.{AllByRecursion}
use Rattle.asn_base.specs.declared.tag.Tag.{Tag}
use Rattle.asn_base.specs.Names.{IsMember}
use Rattle.asn_base.specs.Tags.{First, first_tag, first_of_choice, AreApart, AllApart, RunsApart, first_run, is_mandatory}
use Rattle.asn_base.specs.Types.{Alternative, Kind, a_choice, Component, Resolved, Is}
use Rattle.asn_base.specs.Schemas.{HasTag, IsSchema}
use Rattle.encodings.specs.Encoding.{any_mandatory, last_run}
use Rattle.later_versions.specs.Later.{IsLaterKind, later_choice, Later}
use Rattle.version_laws.proofs.Beside.{members_are, later_within, types, AreAdditions, Beside, appended, beside, components_after, after_member, all_member, mandatory_same, not_needed}

pub nothing : {A : Type 0} {x : A} → None ≡ Some x → ⊥
nothing e = cc

-- ---- what is at a place

pub there : {A : Type 0} (xs : List A) (i : ℕ) → i < length xs → (x : A) × (slice_get xs i ≡ Some x)
there [] i l = absurd (omega arith)
there (x ∷ xs) zero l = (x, refl)
there (x ∷ xs) (suc i) l = there xs i (omega arith)

pub within : {A : Type 0} {x : A} (xs : List A) (i : ℕ) → slice_get xs i ≡ Some x → i < length xs
within [] i e = absurd (nothing e)
within (y ∷ xs) zero e = omega arith
within (y ∷ xs) (suc i) e = let l = within xs i e in omega (arith, l)

pub mapped : {A B : Type 0} {x : A} (f : A → B) (xs : List A) (i : ℕ) → slice_get xs i ≡ Some x → slice_get (map f xs) i ≡ Some (f x)
mapped f [] i e = absurd (nothing e)
mapped f (y ∷ xs) zero e = let s : y ≡ _ = cc in ap (λ q. Some (f q)) s
mapped f (y ∷ xs) (suc i) e = mapped f xs i e

pub all_at : {A : Type 0} (P : A → Type 0) {x : A} (xs : List A) (i : ℕ) → AllByRecursion P xs → slice_get xs i ≡ Some x → P x
all_at P [] i a e = absurd (nothing e)
all_at P (y ∷ xs) zero a e = let s : y ≡ _ = cc in subst P s a.0
all_at P (y ∷ xs) (suc i) a e = all_at P xs i a.1 e

-- ---- first tags

abbrev pub HasType : List Resolved → ℕ → Type 0
HasType s u = (r : Resolved) × (slice_get s u ≡ Some r)

some_of : (P : Resolved → Type 0) (o : Option Resolved) → IsSomeAnd o P → (r : Resolved) × (o ≡ Some r)
some_of P None h = absurd h
some_of P (Some r) h = (r, refl)

pub has_type : (s : List Resolved) (u : ℕ) → HasTag s u → HasType s u
has_type s u h = some_of (λ q. 0 < length q.tags) (slice_get s u) h

pub longer : (root others more all : List Alternative) (n : ℕ) → map (λ a. a.name) root ≡ map (λ a. a.name) others → length more ≤ length all → n < length (root ++ more) → n < length (others ++ all)
longer root others more all n names l m =
    let e = ap length names in
    let a = length-map root (λ b. b.name) in
    let b = length-map others (λ c. c.name) in
    let c = length-append root more in
    let d = length-append others all in
    omega (arith, e, a, b, c, d)

-- the alternative of the later version at the same place
record SameChoice (s s' : List Resolved) (u' n : ℕ) (x : Bool) (a : Alternative) : Type 0 where
  root : List Alternative
  more : List Alternative
  other : Alternative
  is : Is s' u' [] (a_choice root x more)
  at : slice_get (root ++ more) n ≡ Some other
  later : Later s a.type s' other.type
  type : HasType s' other.type

same_choice : (s s' : List Resolved) (u u' n : ℕ) {x : Bool} {root more : List Alternative} {a : Alternative} {k : Kind} → IsSchema s' → Later s u s' u' → Is s u [] (a_choice root x more) → slice_get (root ++ more) n ≡ Some a → IsLaterKind s (a_choice root x more) k → Is s' u' [] k → SameChoice s s' u' n x a
same_choice s s' u u' n schema l i e (later_choice {root = root} {others = others} {more = more} {all = all} names front) j =
    let b = there (others ++ all) n (longer root others more all n names front.none_dropped (within (root ++ more) n e)) in
    let at_a = ap (λ q. slice_get q n) (members_are i) ∙ mapped (λ c. c.type) (root ++ more) n e in
    let at_b = ap (λ q. slice_get q n) (members_are j) ∙ mapped (λ c. c.type) (others ++ all) n b.1 in
    let sound = schema.sound u' [] _ j in
    record {
      root = others;
      more = all;
      other = b.0;
      is = j;
      at = b.1;
      later = later_within s s' u u' n l at_a at_b;
      type = has_type s' b.0.type (all_at (λ z. HasTag s' z.type) (others ++ all) n sound.types b.1);
    }

-- a tag that can be first in a value of the earlier type can be first in one of the later type
pub later_first : {s s' : List Resolved} {u u' : ℕ} {g : Tag} → IsSchema s' → Later s u s' u' → HasType s' u' → First s u g → First s' u' g
later_first {s' = s'} {u' = u'} schema l h (first_tag {g = g} {ts = ts} {k = k} i) =
    let e = l [] _ _ _ _ refl refl i.found h.1 in
    let f : Is s' u' (g ∷ ts) h.0.kind = record { found = h.1 ∙ ap (λ q. Some (record { tags = q; kind = h.0.kind })) (sym e.tags) } in
    first_tag f
later_first {s = s} {s' = s'} {u = u} {u' = u'} schema l h (first_of_choice n i a f) =
    let e = l [] _ _ _ _ refl refl i.found h.1 in
    let j : Is s' u' [] h.0.kind = record { found = h.1 ∙ ap (λ q. Some (record { tags = q; kind = h.0.kind })) (sym e.tags) } in
    let c = same_choice s s' u u' n schema l i a e.kind j in
    first_of_choice n c.is c.at (later_first schema c.later c.type f)

-- ---- components

abbrev pub NoneFirst : List Resolved → Tag → List Component → Type 0
NoneFirst s g cs = AllByRecursion (λ m. First s m.type g → ⊥) cs

or_false : (m t : Bool) → (m || t) ≡ false → (m ≡ false) × (t ≡ false)
or_false true t e = absurd (let f : true ≡ false = e in cc)
or_false false t e = (refl, e)

last_whole : (cs : List Component) → any_mandatory cs ≡ false → last_run cs ≡ cs
last_whole [] e = refl
last_whole (c ∷ cs) e =
    let h = or_false (is_mandatory c) (any_mandatory cs) e in
    ap (λ q. cond q (last_run cs) (cond (is_mandatory c) cs (c ∷ cs))) h.1 ∙ ap (λ q. cond q cs (c ∷ cs)) h.0

first_whole : (cs : List Component) → any_mandatory cs ≡ false → first_run cs ≡ cs
first_whole [] e = refl
first_whole (c ∷ cs) e =
    let h = or_false (is_mandatory c) (any_mandatory cs) e in
    ap (λ q. cond q (c ∷ []) (c ∷ first_run cs)) h.0 ∙ ap (λ q. c ∷ q) (first_whole cs h.1)

none_needed : (ds : List Component) → AreAdditions ds → any_mandatory ds ≡ false
none_needed [] a = refl
none_needed (d ∷ ds) a = ap (λ q. q || any_mandatory ds) (not_needed d a.0) ∙ none_needed ds a.1

any_same : {s s' : List Resolved} {cs ds : List Component} → Beside s s' cs ds → any_mandatory cs ≡ any_mandatory ds
any_same (appended {ds = ds} a) = sym (none_needed ds a)
any_same (beside {c = c} {d = d} {cs = cs} l m b) = ap (λ q. q || any_mandatory cs) (mandatory_same c d m) ∙ ap (λ q. is_mandatory d || q) (any_same b)

pub type_there : (s : List Resolved) (u : ℕ) → u < length s → HasType s u
type_there s u l = there s u l

-- none of the last components of a SEQUENCE can begin so
pub apart_in_run : {s s' : List Resolved} {cs ds : List Component} {d : Component} {g : Tag} → IsSchema s' → Beside s s' cs ds → RunsApart s' ds → AllByRecursion (λ c. c.type < length s') ds → IsMember d (components_after cs ds) → First s' d.type g → NoneFirst s g (last_run cs)
apart_in_run schema (appended a) ra th m f = tt
apart_in_run {s} {s'} {d = x} {g = g} schema (beside {c = c} {d = d} {cs = cs} {ds = ds} l mk b) ra th m f = by (any_mandatory cs) refl (apart_in_run schema b ra.1 th.1 m f)
  where
    by : (t : Bool) → any_mandatory cs ≡ t → NoneFirst s g (last_run cs) → NoneFirst s g (last_run (c ∷ cs))
    by true e r = subst (NoneFirst s g) (sym (ap (λ q. cond q (last_run cs) (cond (is_mandatory c) cs (c ∷ cs))) e)) r
    by false e r = under (is_mandatory c) refl
      where
        all : NoneFirst s g cs
        all = subst (NoneFirst s g) (last_whole cs e) r

        under : (t : Bool) → is_mandatory c ≡ t → NoneFirst s g (last_run (c ∷ cs))
        under true h = subst (NoneFirst s g) (sym (ap (λ q. cond q (last_run cs) (cond (is_mandatory c) cs (c ∷ cs))) e ∙ ap (λ q. cond q cs (c ∷ cs)) h)) all
        under false h =
            let away = ra.0 (sym (mandatory_same c d mk) ∙ h) in
            let whole = first_whole ds (sym (any_same b) ∙ e) in
            let apart = all_member (λ z. AreApart s' d.type z.type) ds (subst (AllByRecursion (λ z. AreApart s' d.type z.type)) whole away) (after_member cs ds m) in
            let none : First s c.type g → ⊥ = (λ q. apart g (later_first schema l (type_there s' d.type th.0) q) f) in
            subst (NoneFirst s g) (sym (ap (λ q. cond q (last_run cs) (cond (is_mandatory c) cs (c ∷ cs))) e ∙ ap (λ q. cond q cs (c ∷ cs)) h)) (none, all)

apart_mapped : (s : List Resolved) (t : ℕ) {d : Component} (ds : List Component) → AllByRecursion (AreApart s t) (types ds) → IsMember d ds → AreApart s t d.type
apart_mapped s t ds a m = all_member (λ z. AreApart s t z.type) ds (unmapped ds a) m
  where
    unmapped : (es : List Component) → AllByRecursion (AreApart s t) (types es) → AllByRecursion (λ z. AreApart s t z.type) es
    unmapped [] h = tt
    unmapped (e ∷ es) h = (h.0, unmapped es h.1)

-- none of a SET can
pub apart_in_set : {s s' : List Resolved} {cs ds : List Component} {d : Component} {g : Tag} → IsSchema s' → Beside s s' cs ds → AllApart s' (types ds) → AllByRecursion (λ c. c.type < length s') ds → IsMember d (components_after cs ds) → First s' d.type g → NoneFirst s g cs
apart_in_set schema (appended a) ra th m f = tt
apart_in_set {s' = s'} {g = g} schema (beside {d = d} {cs = cs} {ds = ds} l mk b) ra th m f = (
  λ q. apart_mapped s' d.type ds ra.0 (after_member cs ds m) g (later_first schema l (type_there s' d.type th.0) q) f,
  apart_in_set schema b ra.1 th.1 m f,
)
