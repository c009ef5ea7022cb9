-- The outermost tags of members, and the tags that can be first.
use Rattle.std.proofs.Common.{◌≡◌, ◌⊎◌, inl, inr, ℕ, zero, suc, ◌+◌, ◌-◌, ◌<◌, Bool, false, List, [], ◌∷◌, ◌++◌, length, Option, Some, None, refl, sym, ap, ◌∙◌, arith, subst}
use Rattle.std.specs.Prelude.{slice_get, slice_index_or, Contains, All, MatchResult, Result, Ok, Err, Vec}
use Rattle.std.specs.Global.{Global}
use Rattle.std.proofs.lemmas.Bool.{cases_lt}
use Rattle.trees.specs.declared.module.TagDefault.{TagDefault}
use Rattle.type_table.specs.Table.{Part}
use Rattle.trees.specs.declared.types.ListKind.{ListKind}
use Rattle.trees.specs.declared.types.ListKind.TheVariants.{Sequence, Set, Choice}
use Rattle.type_table.specs.Table.{Type', WrittenKind, simple, reference, tagged, members, elements, target as target_kind, target_of, next, walk, IsWrittenType, IsUnderlying, IsLinked}
use Rattle.type_table.specs.Walks.{onward}
use Rattle.type_table.specs.proving.Walks.{stops}
use Rattle.tagging.specs.declared.path.TagForm.{TagForm}
use Rattle.tagging.specs.declared.path.FormedTag.{FormedTag}
use Rattle.tagging.specs.Tags.{Label, label, Path, path_of, context_tag, outermost, automatic, tag_form, WrittenTags, core, target, own, Tags, as_written, numbered}
use Rattle.tagging.specs.proving.TagStep.{Outermost, Adds}
use Rattle.trees.specs.declared.types.Keyword.TheVariants.{Absent}
use Rattle.trees.specs.declared.module.TagDefault.TheVariants.{Automatic}
use Rattle.tagging.specs.First.{CanBeFirst, outermost as outermost_tag, alternative}
use Rattle.tagging.specs.proving.Heads.{Head, Fronts, none, front, AreFirst, IsFrontFault, IsFirstFault, members_of}
use Rattle.tagging.specs.declared.first.FirstTagFault.{FirstTagFault}
use Rattle.tagging.specs.declared.first.FirstTagFault.TheVariants.{Memory, Untagged}
use Rattle.tagging.proofs.Paths.{same_kind, written_exists, written_unique}

pub tags_unique : (ts : List Type') (i : ℕ) (p q : Path) → Tags ts i p → Tags ts i q → p ≡ q
tags_unique ts i p q (as_written e v) (as_written f w) = written_unique ts i p q v w
tags_unique ts i p q (as_written e v) (numbered f w g) = let x = sym e ∙ f in absurd cc
tags_unique ts i p q (numbered e v g) (as_written f w) = let x = sym e ∙ f in absurd cc
tags_unique ts i p q (numbered {p = p'} e v g) (numbered {p = q'} f w h) =
    let x = sym e ∙ f in
    let y : p' ≡ q' = written_unique ts i p' q' v w in
    cc

pub head_unique : (ts : List Type') (i : ℕ) (o u : Option Label) → Head ts i o → Head ts i u → o ≡ u
head_unique ts i o u h g = h.is ∙ ap outermost (tags_unique ts i h.path g.path h.tags g.tags) ∙ sym g.is

pub head_written : (ts : List Type') (i : ℕ) (o : Option Label) → automatic ts i ≡ None → Outermost ts i o → Head ts i o
head_written ts i o e w = record { path = w.path; tags = as_written e w.written; is = w.is }

pub head_numbered : (ts : List Type') (i n : ℕ) → IsLinked ts → i < length ts → automatic ts i ≡ Some n →
    Head ts i (Some (context_tag n))
head_numbered ts i n k l e = let w = written_exists ts i k l in record { path = _; tags = numbered e w.1 refl; is = refl }

-- a core is the only one
core_below : (ts : List Type') (i a b : ℕ) (u : IsUnderlying ts i a) (v : IsUnderlying ts i b) → u.steps < v.steps → ⊥
core_below ts i a b u v l =
    let r : ℕ = v.steps - suc u.steps in
    let s : u.steps + suc r ≡ v.steps = omega arith in
    let x = sym (stops (next ts) u.steps r i a u.chain u.ends) ∙ ap (λ k. walk ts k i) s ∙ v.chain in
    absurd cc

pub core_unique : (ts : List Type') (i a b : ℕ) → IsUnderlying ts i a → IsUnderlying ts i b → a ≡ b
core_unique ts i a b u v =
    elim (cases_lt u.steps v.steps) [
      | inl l ↦ absurd (core_below ts i a b u v l)
      | inr m ↦ elim (cases_lt v.steps u.steps) [
        | inl l ↦ absurd (core_below ts i b a v u l)
        | inr n ↦ (let s : u.steps ≡ v.steps = omega arith in let x = sym u.chain ∙ ap (λ k. walk ts k i) s ∙ v.chain in cc)
      ]
    ]

first_on : (ts : List Type') (i : ℕ) (t : Label) (p : Path) → Tags ts i p → Some t ≡ outermost p → CanBeFirst ts i t
first_on ts i t [] h e = absurd cc
first_on ts i t (x ∷ p) h e = let s : x.0 ≡ t = cc in subst (CanBeFirst ts i) s (outermost_tag {t = x.0} {f = x.1} h)

pub head_first : (ts : List Type') (i : ℕ) (t : Label) → Head ts i (Some t) → CanBeFirst ts i t
head_first ts i t h = first_on ts i t h.path h.tags h.is

pub first_head : (ts : List Type') (i : ℕ) (t u : Label) → Head ts i (Some u) → CanBeFirst ts i t → u ≡ t
first_head ts i t u h (outermost_tag g) = let e = head_unique ts i (Some u) (Some t) h (record { path = _; tags = g; is = refl }) in cc
first_head ts i t u h (alternative c b cs n a g k m e f) = let e = head_unique ts i (Some u) None h (record { path = _; tags = g; is = refl }) in absurd cc

-- a type with a tag has one first tag
pub one_first : (ts : List Type') (i : ℕ) (t : Label) → Head ts i (Some t) → AreFirst ts i (t ∷ [])
one_first ts i t h = record {
  each = λ u c. head_first ts i u (subst (λ x. Head ts i (Some x)) (only t u c.0 c.1 c.2) h);
  all = λ u f. (zero, omega arith, first_head ts i u t h f);
}
  where
    only : (t u : Label) (k : ℕ) → k < 1 → slice_index_or (t ∷ []) k u ≡ u → t ≡ u
    only t u zero l e = e
    only t u (suc k) l e = absurd (omega arith)

record FrontAt (ts : List Type') (cs : List Part) (k : ℕ) (t : Label) : Type 0 where
  member : Part
  there : slice_get cs k ≡ Some member
  head : Head ts member.ty (Some t)

front_at : (ts : List Type') (cs : List Part) (us : List Label) (k : ℕ) (t : Label) → Fronts ts cs us →
    k < length us → slice_index_or us k t ≡ t → FrontAt ts cs k t
front_at ts cs us k t none l e = absurd (omega arith)
front_at ts cs us zero t (front {c = c} h f) l e = record { member = c; there = refl; head = subst (λ x. Head ts c.ty (Some x)) e h }
front_at ts cs us (suc k) t (front {cs = cs'} {us = us'} h f) l e = let r = front_at ts cs' us' k t f (omega arith) e in record { member = r.member; there = r.there; head = r.head }

record TagAt (ts : List Type') (us : List Label) (k : ℕ) (a : Part) : Type 0 where
  tag : Label
  few : k < length us
  there : (d : Label) → slice_index_or us k d ≡ tag
  head : Head ts a.ty (Some tag)

tag_at : (ts : List Type') (cs : List Part) (us : List Label) (k : ℕ) (a : Part) → Fronts ts cs us →
    slice_get cs k ≡ Some a → TagAt ts us k a
tag_at ts cs us k a none e = absurd cc
tag_at ts cs us zero a (front {c = c} {t = t} h f) e = let s : c ≡ a = cc in record { tag = t; few = omega arith; there = λ d. refl; head = subst (λ x. Head ts x.ty (Some t)) s h }
tag_at ts cs us (suc k) a (front {cs = cs'} {us = us'} h f) e = let r = tag_at ts cs' us' k a f e in record { tag = r.tag; few = omega (arith, r.few); there = λ d. r.there d; head = r.head }

same_members : (ts : List Type') (a b : ℕ) (u v : Bool) (cs es : List Part) {k l : ListKind} {d e : TagDefault}
    {m n : Option (ℕ × ℕ)} → a ≡ b → IsWrittenType ts a (members k u cs) d m → IsWrittenType ts b (members l v es) e n → cs ≡ es
same_members ts a b u v cs es {k = k} {d = d} {m = m} s x y = let q = same_kind (subst (λ z. IsWrittenType ts z (members k u cs) d m) s x) y in cc

all_of : (ts : List Type') (i c : ℕ) (b : Bool) (cs : List Part) (us : List Label) (d : TagDefault)
    (l : Option (ℕ × ℕ)) (t : Label) →
    Head ts i None → IsUnderlying ts i c → IsWrittenType ts c (members Choice b cs) d l → Fronts ts cs us → CanBeFirst ts i t → Contains us t
all_of ts i c b cs us d l t h k m f (outermost_tag g) = let e = head_unique ts i None (Some t) h (record { path = _; tags = g; is = refl }) in absurd cc
all_of ts i c b cs us d l t h k m f (alternative c' b' cs' n a g k' m' e x) =
    let s = core_unique ts i c' c k' k in
    let r : cs' ≡ cs = same_members ts c' c b' b cs' cs s m' m in
    let w = tag_at ts cs us n a f (ap (λ z. slice_get z n) (sym r) ∙ e) in
    (n, w.few, w.there t ∙ first_head ts a.ty t w.tag w.head x)

-- those of an untagged CHOICE are its alternatives'
pub choice_first : (ts : List Type') (i c : ℕ) (b : Bool) (cs : List Part) (us : List Label) (d : TagDefault)
    (l : Option (ℕ × ℕ)) →
    Head ts i None → IsUnderlying ts i c → IsWrittenType ts c (members Choice b cs) d l → Fronts ts cs us → AreFirst ts i us
choice_first ts i c b cs us d l h k m f = record {
  each = λ t g. let w = front_at ts cs us g.0 t f g.1 g.2 in alternative c b cs g.0 w.member (untagged h.path h.tags h.is) k m w.there (head_first ts w.member.ty t w.head);
  all = λ t g. all_of ts i c b cs us d l t h k m f g;
}
  where
    untagged : (p : Path) → Tags ts i p → None ≡ outermost p → Tags ts i []
    untagged [] g e = g
    untagged (x ∷ p) g e = absurd cc

-- one member more
pub fronts_push : (ts : List Type') (cs : List Part) (us : List Label) (c : Part) (t : Label) → Fronts ts cs us →
    Head ts c.ty (Some t) → Fronts ts (cs ++ c ∷ []) (us ++ t ∷ [])
fronts_push ts cs us c t none h = front h none
fronts_push ts cs us c t (front {cs = cs'} {us = us'} g f) h = front g (fronts_push ts cs' us' c t f h)

same_at : (ts : List Type') (a b : ℕ) {k m : WrittenKind} {d e : TagDefault} {l n : Option (ℕ × ℕ)} → a ≡ b →
    IsWrittenType ts a k d l → IsWrittenType ts b m e n → k ≡ m
same_at ts a b {k = k} {d = d} {l = l} s x y = same_kind (subst (λ z. IsWrittenType ts z k d l) s x) y

own_target : (k : WrittenKind) (p : Path) → own k ≡ Some p → target_kind k ≡ None
own_target (simple n) p e = refl
own_target (reference j) p e = absurd cc
own_target (tagged t w j) p e = absurd cc
own_target (members m b cs) p e = refl
own_target (elements y j) p e = refl

own_stops : (ts : List Type') (i c n : ℕ) (k : WrittenKind) (d : TagDefault) (l : Option (ℕ × ℕ)) (p : Path) →
    IsWrittenType ts i k d l → own k ≡ Some p → walk ts (suc n) i ≡ Some c → ⊥
own_stops ts i c n k d l p h e w =
    let x = ap target_of h.found ∙ own_target k p e in
    let y = sym (ap (λ o. onward o (λ q. walk ts n q)) x) ∙ w in
    absurd cc

-- the references of an untagged CHOICE lead to the CHOICE
untagged_core : (ts : List Type') (i c n : ℕ) (k : WrittenKind) (d : TagDefault) (l : Option (ℕ × ℕ)) → WrittenTags ts i [] →
    walk ts n i ≡ Some c → next ts c ≡ None → IsWrittenType ts c k d l → own k ≡ Some []
untagged_core ts i c zero k d l (core h e) w f g = let s : i ≡ c = cc in let q = same_at ts i c s h g in ap own (sym q) ∙ e
untagged_core ts i c (suc n) k d l (core {k = k'} h e) w f g = absurd (own_stops ts i c n k' _ _ [] h e w)
untagged_core ts i c zero k d l (target h v) w f g = let s : i ≡ c = cc in let x = sym (ap (next ts) s) ∙ ap target_of h.found in let y = sym f ∙ x in absurd cc
untagged_core ts i c (suc n) k d l (target {j = j} h v) w f g = untagged_core ts j c n k d l v (sym (ap (λ o. onward o (λ q. walk ts n q)) (ap target_of h.found)) ∙ w) f g

abbrev marker_of : WrittenKind → Bool
marker_of (members k m cs) = m
marker_of k = false

is_choice : (ts : List Type') (c : ℕ) (k : WrittenKind) (d : TagDefault) (l : Option (ℕ × ℕ)) → own k ≡ Some [] →
    IsWrittenType ts c k d l → IsWrittenType ts c (members Choice (marker_of k) (members_of k)) d l
is_choice ts c (simple n) d l e g = absurd cc
is_choice ts c (reference j) d l e g = absurd cc
is_choice ts c (tagged t w j) d l e g = absurd cc
is_choice ts c (members Sequence m cs) d l e g = absurd cc
is_choice ts c (members Set m cs) d l e g = absurd cc
is_choice ts c (members Choice m cs) d l e g = g
is_choice ts c (elements y j) d l e g = absurd cc

written_of : (ts : List Type') (i : ℕ) (p : Path) → Tags ts i p → None ≡ outermost p → WrittenTags ts i []
written_of ts i [] (as_written e w) f = w
written_of ts i (x ∷ p) h f = absurd cc

pub choice_core : (ts : List Type') (i c : ℕ) (k : WrittenKind) (d : TagDefault) (l : Option (ℕ × ℕ)) → Head ts i None →
    IsUnderlying ts i c → IsWrittenType ts c k d l → IsWrittenType ts c (members Choice (marker_of k) (members_of k)) d l
choice_core ts i c k d l h u g = is_choice ts c k d l (untagged_core ts i c u.steps k d l (written_of ts i h.path h.tags h.is) u.chain u.ends g) g

pub parts_of : (ts : List Type') (i : ℕ) (k : WrittenKind) (d : TagDefault) (l : Option (ℕ × ℕ)) → IsLinked ts →
    IsWrittenType ts i k d l → All (λ c. c.ty < length ts) (members_of k)
parts_of ts i (simple n) d l h g = λ m c z. absurd (omega arith)
parts_of ts i (reference j) d l h g = λ m c z. absurd (omega arith)
parts_of ts i (tagged t w j) d l h g = λ m c z. absurd (omega arith)
parts_of ts i (members k m cs) d l h g = h.parts i k m cs d l g
parts_of ts i (elements y j) d l h g = λ m c z. absurd (omega arith)

pub headless : (ts : List Type') (i : ℕ) → Head ts i None → Tags ts i []
headless ts i h = no_tags h.path h.tags h.is
  where
    no_tags : (p : Path) → Tags ts i p → None ≡ outermost p → Tags ts i []
    no_tags [] g e = g
    no_tags (x ∷ p) g e = absurd cc

-- a member that is an untagged CHOICE, in a CHOICE or a SET
pub front_untagged : (ts : List Type') (k : ListKind) (m : Bool) (cs : List Part) (i : ℕ) (d : TagDefault)
    (p : Option (ℕ × ℕ)) (e : FirstTagFault) → (k ≡ Choice) ⊎ (k ≡ Set) → IsWrittenType ts i (members k m cs) d p →
    IsFrontFault ts cs e → IsFirstFault ts e
front_untagged ts k m cs i d p Memory w h f = tt
front_untagged ts k m cs i d p (Untagged j at) w h f = record { list = i; kind = k; marker = m; cs = cs; default = d; place = p; is = h; within = w; number = f.0; member = f.1; there = f.2; at = f.3; untagged = headless ts j f.4 }

pub choice_answer : (ts : List Type') (i c : ℕ) (k : WrittenKind) (d : TagDefault) (l : Option (ℕ × ℕ))
    (r : Result (Vec Label Global) FirstTagFault) → Head ts i None → IsUnderlying ts i c → IsWrittenType ts c k d l →
    MatchResult r (λ v. Fronts ts (members_of k) v.items) (IsFrontFault ts (members_of k)) → MatchResult r (λ v. AreFirst ts i v.items) (IsFirstFault ts)
choice_answer ts i c k d l (Ok v) h u g f = choice_first ts i c (marker_of k) (members_of k) v.items d l h u (choice_core ts i c k d l h u g) f
choice_answer ts i c k d l (Err e) h u g f = front_untagged ts Choice (marker_of k) (members_of k) c d l e (inl refl) (choice_core ts i c k d l h u g) f

pub single_answer : (ts : List Type') (i : ℕ) (t : Label) (r : Result (Vec Label Global) FirstTagFault) →
    Head ts i (Some t) → MatchResult r (λ v. v.items ≡ t ∷ []) (λ e. e ≡ Memory) →
    MatchResult r (λ v. AreFirst ts i v.items) (IsFirstFault ts)
single_answer ts i t (Ok v) h e = subst (AreFirst ts i) (sym e) (one_first ts i t h)
single_answer ts i t (Err f) h e = subst (IsFirstFault ts) (sym e) tt

pub written_answer : (ts : List Type') (i : ℕ) (b q : Path) → automatic ts i ≡ None → b ≡ [] → Adds ts i b q →
    Tags ts i q
written_answer ts i b q e f a = as_written e (subst (WrittenTags ts i) (sym (a.is ∙ ap (λ x. x ++ a.path) f)) a.written)

pub numbered_answer : (ts : List Type') (i n : ℕ) (b q : Path) (f : TagForm) → automatic ts i ≡ Some n →
    ((p : Path) → WrittenTags ts i p → f ≡ tag_form Absent Automatic p) → b ≡ (context_tag n, f) ∷ [] → Adds ts i b q →
    Tags ts i q
numbered_answer ts i n b q f e g h a = subst (Tags ts i) (sym (a.is ∙ ap (λ x. x ++ a.path) h)) (numbered e a.written (g a.path a.written))

pub pushed_first : (a b : List FormedTag) (x : FormedTag) → b ≡ a ++ x ∷ [] → a ≡ [] →
    path_of b ≡ (label x.tag, x.form) ∷ []
pushed_first a b x e f = ap path_of (e ∙ ap (λ y. y ++ x ∷ []) f)

-- what holds of all members holds of one
pub within_all : (n : ℕ) (cs : List Part) (k : ℕ) (c : Part) → All (λ x. x.ty < n) cs → slice_get cs k ≡ Some c →
    c.ty < n
within_all n [] k c a e = absurd cc
within_all n (x ∷ cs) zero c a e = let s : x ≡ c = cc in subst (λ z. z.ty < n) s (a zero x (omega arith))
within_all n (x ∷ cs) (suc k) c a e = within_all n cs k c (λ m d l. a (suc m) d (omega arith)) e
