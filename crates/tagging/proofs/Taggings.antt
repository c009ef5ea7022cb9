-- Tables that can be tagged, and faults.
use Rattle.std.proofs.Common.{◌≡◌, ◌⊎◌, inl, inr, ℕ, zero, suc, ◌+◌, ◌<◌, ◌≤◌, Bool, List, [], ◌∷◌, ◌++◌, length, Option, Some, None, refl, sym, ap, ◌∙◌, arith, subst}
use Rattle.std.specs.Prelude.{slice_get}
use Rattle.std.proofs.lemmas.Bool.{cases_lt}
use Rattle.std.proofs.lemmas.Option.{slice_get_within}
use Rattle.asn_base.specs.declared.tag.Tag.{Tag}
use Rattle.trees.specs.declared.types.Keyword.{Keyword}
use Rattle.trees.specs.declared.types.Keyword.TheVariants.{Absent, Implicit, Explicit}
use Rattle.trees.specs.declared.module.TagDefault.{TagDefault}
use Rattle.trees.specs.declared.module.TagDefault.TheVariants.{Automatic}
use Rattle.resolve.specs.Program.{Program}
use Rattle.trees.specs.declared.types.ListKind.{ListKind}
use Rattle.trees.specs.declared.types.ListKind.TheVariants.{Sequence, Set, Choice}
use Rattle.type_table.specs.Table.{Part, Type', tagged, members, target_of, IsWrittenType, IsLinked}
use Rattle.tagging.specs.declared.check.Rule.{Rule}
use Rattle.tagging.specs.declared.check.Rule.TheVariants.{Tags as TagsRule, TagNumber, TagClash, ImplicitChoice, UntaggedChoice, MixedAutomatic}
use Rattle.tagging.specs.Tags.{Label, Path, outermost, Tags, as_written, numbered, WrittenTags, TagCount, none_written, as_target, one_more, automatic, automatic_of}
use Rattle.tagging.specs.proving.Heads.{Head, Fronts, none, front, AreFirst}
use Rattle.tagging.specs.proving.Lists.{Collected, none as nothing, one}
use Rattle.tagging.specs.Tagged.{Bears, OneFirst, HaveOneFirst, BearTags, IsTagged, IsImplicit, Breaks}
use Rattle.tagging.specs.Faults.{IsRightTagFault}
use Rattle.tagging.specs.declared.fault.TagFault.{TagFault}
use Rattle.tagging.specs.declared.fault.TagFault.TheVariants as faults
use Rattle.tagging.specs.declared.fault.Limit.TheVariants as limits
use Rattle.tagging.specs.proving.Checks.{SuitsTag, IsGood, BearsHere, BearsAt, NoneBears}
use Rattle.tagging.specs.proving.TagStep.{Outermost}
use Rattle.tagging.proofs.Paths.{written_exists, written_unique}
use Rattle.tagging.proofs.Fronts.{within_all, head_first, first_head, head_unique}

pub collected_push : (ts : List Type') (cs : List Part) (vs : List (List Label)) (c : Part) (us : List Label) →
    Collected ts cs vs → AreFirst ts c.ty us → Collected ts (cs ++ c ∷ []) (vs ++ us ∷ [])
collected_push ts cs vs c us nothing a = one a nothing
collected_push ts cs vs c us (one {cs = cs'} {vs = vs'} b w) a = one b (collected_push ts cs' vs' c us w a)

pub collected_long : (ts : List Type') (cs : List Part) (vs : List (List Label)) → Collected ts cs vs →
    length vs ≡ length cs
collected_long ts cs vs nothing = refl
collected_long ts cs vs (one {cs = cs'} {vs = vs'} b w) = ap suc (collected_long ts cs' vs' w)

pub front_none : (ts : List Type') (cs : List Part) (us : List Label) (n : ℕ) (c : Part) → Fronts ts cs us →
    slice_get cs n ≡ Some c → Tags ts c.ty [] → ⊥
front_none ts cs us n c none e t = absurd cc
front_none ts cs us zero c (front {c = b} {t = u} h f) e t = let s : b ≡ c = cc in let x = head_unique ts c.ty (Some u) None (subst (λ z. Head ts z.ty (Some u)) s h) (record { path = []; tags = t; is = refl }) in absurd cc
front_none ts cs us (suc n) c (front {cs = cs'} {us = us'} h f) e t = front_none ts cs' us' n c f e t

pub bear : (ts : List Type') (k : ListKind) (cs : List Part) (us : List Label) → Fronts ts cs us → BearTags ts k cs
bear ts Sequence cs us f = tt
bear ts Set cs us f = λ n c e t. front_none ts cs us n c f e t
bear ts Choice cs us f = λ n c e t. front_none ts cs us n c f e t

written_none : (ts : List Type') (i : ℕ) (p : Path) → WrittenTags ts i p → None ≡ outermost p → WrittenTags ts i []
written_none ts i [] w e = w
written_none ts i (x ∷ p) w e = absurd cc

pub untagged : (ts : List Type') (i : ℕ) → Outermost ts i None → WrittenTags ts i []
untagged ts i o = written_none ts i o.path o.written o.is

pub not_sequence : (k : ListKind) → (k ≡ Sequence → ⊥) → (k ≡ Choice) ⊎ (k ≡ Set)
not_sequence Sequence f = absurd (f refl)
not_sequence Set f = inr refl
not_sequence Choice f = inl refl

pub has_tag : (ts : List Type') (i : ℕ) (t : Label) → Outermost ts i (Some t) → WrittenTags ts i [] → ⊥
has_tag ts i t o w = let e = written_unique ts i o.path [] o.written w in let f = o.is ∙ ap outermost e in absurd cc

pub inside_table : (ts : List Type') (i j : ℕ) (t : Tag) (w : Keyword) (d : TagDefault) (p : Option (ℕ × ℕ)) →
    IsLinked ts → IsWrittenType ts i (tagged t w j) d p → j < length ts
inside_table ts i j t w d p k h = k.closed i j (ap target_of h.found)

-- if each type breaks no rule, the table is tagged
below : {X : Type 0} (xs : List X) (i : ℕ) (x : X) → slice_get xs i ≡ Some x → i < length xs
below [] i x e = absurd cc
below (y ∷ ys) zero x e = omega arith
below (y ∷ ys) (suc i) x e = let h = below ys i x e in omega arith

count_there : (ts : List Type') (i n : ℕ) → TagCount ts i n → i < length ts
count_there ts i n (none_written h e) = below ts i _ h.found
count_there ts i n (as_target h c) = below ts i _ h.found
count_there ts i n (one_more h c) = below ts i _ h.found

numbered_at : (ts : List Type') (i n : ℕ) (o : Option Type') → slice_get ts i ≡ o → automatic_of ts o ≡ Some n →
    i < length ts
numbered_at ts i n None e f = absurd cc
numbered_at ts i n (Some t) e f = below ts i t e

-- a type with an automatic tag is one of the table
pub numbered_there : (ts : List Type') (i n : ℕ) → automatic ts i ≡ Some n → i < length ts
numbered_there ts i n e = numbered_at ts i n (slice_get ts i) refl e

pub all_good : (ts : List Type') → ((i : ℕ) → i < length ts → IsGood ts i) → IsTagged ts
all_good ts g = record {
  numbers = λ i n e. (g i (numbered_there ts i n e)).number n e;
  few = λ i n c. (g i (count_there ts i n c)).few n c;
  forms = λ i j t d p h. (g i (below ts i _ h.found)).suits (tagged t Implicit j) d p h;
  unmixed = λ i k m cs p h. ((g i (below ts i _ h.found)).suits (members k m cs) Automatic p h).unmixed;
  bear = λ i k m cs d p h. ((g i (below ts i _ h.found)).suits (members k m cs) d p h).bear;
  distinct = λ i k m cs d p h. ((g i (below ts i _ h.found)).suits (members k m cs) d p h).distinct;
}

bears : (ts : List Type') (k : ListKind) (cs : List Part) (n : ℕ) (c : Part) → (k ≡ Choice) ⊎ (k ≡ Set) →
    BearTags ts k cs → slice_get cs n ≡ Some c → Tags ts c.ty [] → ⊥
bears ts Sequence cs n c (inl e) b f t = absurd cc
bears ts Sequence cs n c (inr e) b f t = absurd cc
bears ts Set cs n c w b f t = b n c f t
bears ts Choice cs n c w b f t = b n c f t

-- a table of which a type breaks a rule can't be tagged
pub none_breaks : (ts : List Type') (r : Rule) (i : ℕ) → Breaks ts r i → IsTagged ts → ⊥
none_breaks ts TagsRule i s t = let f = t.few i s.count s.counts in absurd (omega (arith, f, s.many))
none_breaks ts TagNumber i s t = let f = t.numbers i s.number s.is in absurd (omega (arith, f, s.great))
none_breaks ts UntaggedChoice i s t = bears ts s.kind s.cs s.number s.member s.within (t.bear s.list s.kind s.marker s.cs s.default s.place s.is) s.there (subst (λ j. Tags ts j []) (sym s.at) s.untagged)
none_breaks ts MixedAutomatic i s t = s.root (t.unmixed i s.kind s.marker s.cs s.place s.is s.additions)
none_breaks ts ImplicitChoice i s t = t.forms i s.inner s.tag s.default s.place s.is s.untagged
none_breaks ts TagClash i s t =
    let c = s.clash in
    t.distinct i s.kind s.marker s.cs s.default s.place s.is s.one s.other c.first c.second c.before c.at_first c.at_second c.together c.tag c.in_first c.in_second

pub implicit_at : (ts : List Type') (i j : ℕ) (k : Keyword) (t : Tag) (d : TagDefault) (p : Option (ℕ × ℕ)) →
    k ≡ Implicit → IsWrittenType ts i (tagged t k j) d p → WrittenTags ts j [] → IsImplicit ts i
implicit_at ts i j k t d p e h w = record { tag = t; inner = j; default = d; place = p; is = subst (λ q. IsWrittenType ts i (tagged t q j) d p) e h; untagged = w }

pub suits_tag : (ts : List Type') (k : Keyword) (j : ℕ) → (WrittenTags ts j [] → ⊥) → SuitsTag ts k j
suits_tag ts Absent j f = tt
suits_tag ts Implicit j f = f
suits_tag ts Explicit j f = tt

-- each type has a list of tags
pub tags_exist : (ts : List Type') (i : ℕ) → IsLinked ts → i < length ts → (p : Path) × Tags ts i p
tags_exist ts i k l = tags_by ts i (automatic ts i) (written_exists ts i k l) refl
  where
    tags_by : (ts : List Type') (i : ℕ) (o : Option ℕ) → (p : Path) × WrittenTags ts i p → automatic ts i ≡ o →
        (p : Path) × Tags ts i p
    tags_by ts i None w e = (w.0, as_written e w.1)
    tags_by ts i (Some n) w e = (_, numbered e w.1 refl)

first_of : (ts : List Type') (i : ℕ) (p : Path) → Tags ts i p → (Tags ts i [] → ⊥) → OneFirst ts i
first_of ts i [] t f = absurd (f t)
first_of ts i (x ∷ p) t f = let h : Head ts i (Some x.0) = record { path = x ∷ p; tags = t; is = refl } in record { tag = x.0; is_so = head_first ts i x.0 h; only = λ u g. sym (first_head ts i u x.0 h g) }

pub one_each : (ts : List Type') → IsLinked ts → IsTagged ts → HaveOneFirst ts
one_each ts l t i k m cs d p n c h w e =
    let there = within_all (length ts) cs n c (l.parts i k m cs d p h) e in
    let u = tags_exist ts c.ty l there in
    first_of ts c.ty u.0 u.1 (bears ts k cs n c w (t.bear i k m cs d p h) e)

-- tagged modules have no fault
pub no_other_fault : (p : Program) (e : TagFault) → (e ≡ faults.Memory → ⊥) → IsRightTagFault p e → IsTagged p.types → ⊥
no_other_fault p faults.Memory n s t = n refl
no_other_fault p (faults.Limit limits.Tags x) n s t = none_breaks p.types TagsRule s.ty s.has t
no_other_fault p (faults.Limit limits.TagNumber x) n s t = none_breaks p.types TagNumber s.ty s.has t
no_other_fault p (faults.TagClash x) n s t = none_breaks p.types TagClash s.ty s.has t
no_other_fault p (faults.ImplicitChoice x) n s t = none_breaks p.types ImplicitChoice s.ty s.has t
no_other_fault p (faults.UntaggedChoice x) n s t = none_breaks p.types UntaggedChoice s.ty s.has t
no_other_fault p (faults.MixedAutomatic x) n s t = none_breaks p.types MixedAutomatic s.ty s.has t

pub bears_here : (ts : List Type') (cs : List Part) (b : Bool) (n : ℕ) (c : Part) → slice_get cs n ≡ Some c →
    BearsHere ts c b → BearsAt ts cs b n
bears_here ts cs b n c e h = record { bearing = record { number = n; member = c; there = e; is_so = h.is_so; bears = h.bears }; is = refl }

pub none_next : (ts : List Type') (cs : List Part) (b : Bool) (n : ℕ) (c : Part) → slice_get cs n ≡ Some c →
    (BearsHere ts c b → ⊥) → NoneBears ts cs b n → NoneBears ts cs b (n + 1)
none_next ts cs b n c e f g r = elim (cases_lt n r.number) [
  | inl l ↦ omega (arith, l)
  | inr m ↦ (
      let l = g r in
      let q : r.number ≡ n = omega (arith, m, l) in
      let s : r.member ≡ c = some_one (sym r.there ∙ ap (slice_get cs) q ∙ e) in
      absurd (f (subst (λ z. BearsHere ts z b) s (record { is_so = r.is_so; bears = r.bears })))
      )
]
  where
    some_one : {x y : Part} → Some x ≡ Some y → x ≡ y
    some_one h = cc

pub none_bear : (ts : List Type') (cs : List Part) (b : Bool) (n : ℕ) → length cs ≤ n → NoneBears ts cs b n →
    Bears ts cs b → ⊥
none_bear ts cs b n l f r = let w = slice_get_within cs r.number r.member r.there in let m = f r in omega (arith, w, l, m)
