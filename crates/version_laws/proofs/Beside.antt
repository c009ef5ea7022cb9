-- A type of the earlier version beside the later one, and their members side by side.
use Rattle.std.proofs.Common.{arith, ◌≡◌, ℕ, suc, ◌≤◌, Bool, true, false, List, [], ◌∷◌, length, map, refl, ap, ◌∙◌}
use Rattle.std.specs.Prelude.{slice_get, Some, None}
use Rattle.std.specs.List.{AllByRecursion}
use Rattle.asn_base.specs.declared.tag.Tag.{Tag}
use Rattle.asn_base.specs.Names.{IsMember, is_first, is_later}
use Rattle.asn_base.specs.Tags.{is_mandatory}
use Rattle.asn_base.specs.Types.{Kind, Presence, mandatory, optional, default, addition, Component, Resolved, Is}
use Rattle.asn_base.specs.Schemas.{is_addition, types_in}
use Rattle.later_versions.specs.Projected.{members_of}
use Rattle.later_versions.specs.Later.{IsMarkedAlike, both_mandatory, both_optional, both_default, both_additions, IsSameComponent, IsLaterType, Later, leads}

pub later_here : {s s' : List Resolved} {t t' : ℕ} {tags tags' : List Tag} {k k' : Kind} → Later s t s' t' → Is s t tags k → Is s' t' tags' k'
    → IsLaterType s (record { tags = tags; kind = k }) (record { tags = tags'; kind = k' })
later_here {t = t} {t' = t'} l i j = l [] t t' _ _ refl refl i.found j.found

pub members_are : {s : List Resolved} {t : ℕ} {tags : List Tag} {k : Kind} → Is s t tags k → members_of s t ≡ types_in k
members_are i = ap (λ o. elim o [ None ↦ [] | Some r ↦ types_in r.kind ]) i.found

leads_in : (s : List Resolved) (t i : ℕ) {u a : ℕ} (places : List ℕ) → slice_get (members_of s t) i ≡ Some u → leads s u places ≡ Some a → leads s t (i ∷ places) ≡ Some a
leads_in s t i places e f = ap (λ o. elim o [ None ↦ None | Some w ↦ leads s w places ]) e ∙ f

-- members at one place
pub later_within : (s s' : List Resolved) (t t' : ℕ) {u u' : ℕ} (i : ℕ) → Later s t s' t' → slice_get (members_of s t) i ≡ Some u → slice_get (members_of s' t') i ≡ Some u' → Later s u s' u'
later_within s s' t t' i l e f = λ places a b q r x y v w. l (i ∷ places) a b q r (leads_in s t i places e x) (leads_in s' t' i places f y) v w

-- each of the members is a later version of the other one at its place
abbrev pub LaterMembers : List Resolved → List Resolved → List ℕ → List ℕ → Type 0
LaterMembers s s' us us' = (i u u' : ℕ) → slice_get us i ≡ Some u → slice_get us' i ≡ Some u' → Later s u s' u'

pub later_members : {s s' : List Resolved} {t t' : ℕ} {tags tags' : List Tag} {k k' : Kind} → Later s t s' t' → Is s t tags k → Is s' t' tags' k' → LaterMembers s s' (types_in k) (types_in k')
later_members {s} {s'} {t} {t'} l i j = λ n u u' e f. later_within s s' t t' n l (ap (λ q. slice_get q n) (members_are i) ∙ e) (ap (λ q. slice_get q n) (members_are j) ∙ f)

abbrev pub types : List Component → List ℕ
types cs = map (λ c. c.type) cs

abbrev pub AreAdditions : List Component → Type 0
AreAdditions ds = AllByRecursion (λ d. is_addition d ≡ true) ds

-- components of the earlier version beside those of the later one, after which there are additions
pub data Beside (s s' : List Resolved) : List Component → List Component → Type 0 where
  appended : {ds : List Component} → AreAdditions ds → Beside s s' [] ds
  beside : {c d : Component} {cs ds : List Component}
      → Later s c.type s' d.type
      → IsMarkedAlike s c.type c.presence d.presence
      → Beside s s' cs ds
      → Beside s s' (c ∷ cs) (d ∷ ds)

all_additions : (ds : List Component) → ((i : ℕ) (d : Component) → slice_get ds i ≡ Some d → is_addition d ≡ true) → AreAdditions ds
all_additions [] h = tt
all_additions (d ∷ ds) h = (h 0 d refl, all_additions ds (λ i x e. h (suc i) x e))

pub beside_of : {s s' : List Resolved} (cs ds : List Component) → length cs ≤ length ds
    → ((i : ℕ) (c d : Component) → slice_get cs i ≡ Some c → slice_get ds i ≡ Some d → IsSameComponent s c d)
    → ((i : ℕ) (d : Component) → length cs ≤ i → slice_get ds i ≡ Some d → is_addition d ≡ true)
    → LaterMembers s s' (types cs) (types ds)
    → Beside s s' cs ds
beside_of [] ds l k a m = appended (all_additions ds (λ i d e. a i d (omega arith) e))
beside_of (c ∷ cs) [] l k a m = absurd (omega arith)
beside_of (c ∷ cs) (d ∷ ds) l k a m =
    beside (m 0 c.type d.type refl refl) (k 0 c d refl refl).mark
    (beside_of cs ds (omega arith) (λ i x y e f. k (suc i) x y e f) (λ i x q e. a (suc i) x (omega arith) e) (λ i u w e f. m (suc i) u w e f))

-- the additions that were appended
abbrev pub components_after : List Component → List Component → List Component
components_after [] ds = ds
components_after (c ∷ cs) [] = []
components_after (c ∷ cs) (d ∷ ds) = components_after cs ds

pub after_member : {d : Component} (cs ds : List Component) → IsMember d (components_after cs ds) → IsMember d ds
after_member [] ds m = m
after_member (c ∷ cs) [] m = m
after_member (c ∷ cs) (d ∷ ds) m = is_later (after_member cs ds m)

pub after_additions : {s s' : List Resolved} {cs ds : List Component} → Beside s s' cs ds → AreAdditions (components_after cs ds)
after_additions (appended a) = a
after_additions (beside l m b) = after_additions b

pub all_member : {A : Type 0} (P : A → Type 0) {x : A} (xs : List A) → AllByRecursion P xs → IsMember x xs → P x
all_member P [] a m = elim m [ ]
all_member P (y ∷ ys) a is_first = a.0
all_member P (y ∷ ys) a (is_later m) = all_member P ys a.1 m

-- ---- what must be present

abbrev need : Presence → Bool
need p = elim p [ mandatory ↦ true | optional ↦ false | default d ↦ false | addition o g ↦ false ]

need_same : {s : List Resolved} {t : ℕ} {p q : Presence} → IsMarkedAlike s t p q → need p ≡ need q
need_same both_mandatory = refl
need_same both_optional = refl
need_same (both_default z e) = refl
need_same both_additions = refl

pub mandatory_same : {s : List Resolved} (c d : Component) → IsMarkedAlike s c.type c.presence d.presence → is_mandatory c ≡ is_mandatory d
mandatory_same c d m = need_same m

addition_need : (p : Presence) → (elim p [ mandatory ↦ false | optional ↦ false | default d ↦ false | addition o g ↦ true ]) ≡ true → need p ≡ false
addition_need mandatory e = absurd (let f : false ≡ true = e in cc)
addition_need optional e = refl
addition_need (default d) e = refl
addition_need (addition o g) e = refl

pub not_needed : (d : Component) → is_addition d ≡ true → is_mandatory d ≡ false
not_needed d e = addition_need d.presence e
