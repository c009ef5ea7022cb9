-- Members whose first tags have to differ.
use Rattle.std.proofs.Common.{◌≡◌, ◌⊎◌, inl, inr, ℕ, zero, suc, ◌+◌, ◌<◌, ◌≤◌, Bool, true, false, cond, List, [], ◌∷◌, length, Some, refl, sym, ap, ◌∙◌, arith, subst, get_or, option_map}
use Rattle.std.specs.Prelude.{slice_get, Contains, Vec}
use Rattle.std.specs.Global.{Global}
use Rattle.std.specs.List.{list_any}
use Rattle.std.specs.Ordering.{is_eq, nat_cmp, ordering_then, MatchOrdering}
use Rattle.std.specs.declared.cmp.Ordering.{Ordering}
use Rattle.std.specs.declared.cmp.Ordering.TheVariants.{Less, Equal, Greater}
use Rattle.std.proofs.lemmas.Bool.{cases_lt}
use Rattle.std.proofs.lemmas.Cmp.{ranked, tied_itself, nat_cmp_total}
use Rattle.std.proofs.lemmas.Option.{slice_get-map, slice_get_read, slice_get_within, same_Some}
use Rattle.asn_base.specs.Tags.{class_rank}
use Rattle.asn_base.specs.declared.tag.Class.{Class}
use Rattle.asn_base.specs.declared.tag.Class.TheVariants.{Universal, Application, Context, Private}
use Rattle.tagging.specs.Tags.{Label}
use Rattle.trees.specs.declared.types.ListKind.{ListKind}
use Rattle.trees.specs.declared.types.ListKind.TheVariants.{Sequence, Set, Choice}
use Rattle.type_table.specs.Table.{Part, Type'}
use Rattle.tagging.specs.First.{member_can_be_absent, Together, Distinct}
use Rattle.tagging.specs.proving.Heads.{AreFirst}
use Rattle.tagging.specs.proving.Lists.{Collected, none, one, tag_lists, Passes, IsClear, key_of, key_cmp, IsIn, HasKey, Meets}
use Rattle.tagging.specs.Tagged.{Clash}
use Rattle.tagging.proofs.Tables.{contains_at, contained_at}

-- if the member at a place may be absent, what can come together with it can with the next one
together_next : (k : ListKind) (cs : List Part) (p q : ℕ) (c : Part) → slice_get cs q ≡ Some c → Passes k c →
    Together k cs p q → Together k cs p (q + 1)
together_next Sequence cs p q c e h t = λ r d l m f. elim (cases_lt r q) [
  | inl x ↦ t r d l x f
  | inr y ↦ (let s : q ≡ r = omega (arith, y, m) in subst (λ z. member_can_be_absent z ≡ true) (same_Some c d (sym e ∙ ap (slice_get cs) s ∙ f)) h)
]
together_next Set cs p q c e h t = tt
together_next Choice cs p q c e h t = tt

together_here : (k : ListKind) (cs : List Part) (q : ℕ) (c : Part) → slice_get cs q ≡ Some c → Passes k c →
    Together k cs q (q + 1)
together_here Sequence cs q c e h = λ r d l m f. let s : q ≡ r = omega (arith, l, m) in subst (λ z. member_can_be_absent z ≡ true) (same_Some c d (sym e ∙ ap (slice_get cs) s ∙ f)) h
together_here Set cs q c e h = tt
together_here Choice cs q c e h = tt

together_back : (k : ListKind) (cs : List Part) (p q : ℕ) → Together k cs p (q + 1) → Together k cs p q
together_back Sequence cs p q t = λ r c l m e. t r c l (omega arith) e
together_back Set cs p q t = tt
together_back Choice cs p q t = tt

not_passed : (k : ListKind) (cs : List Part) (p q : ℕ) (c : Part) → slice_get cs q ≡ Some c → (Passes k c → ⊥) →
    p < q + 1 → Together k cs p (q + 1) → ⊥
not_passed Sequence cs p q c e f l t = f (t q c (omega arith) (omega arith) e)
not_passed Set cs p q c e f l t = f tt
not_passed Choice cs p q c e f l t = f tt

pub collected_at : (ts : List Type') (cs : List Part) (us : List (List Label)) (k : ℕ) (c : Part) (u : List Label) →
    Collected ts cs us → slice_get cs k ≡ Some c → slice_get us k ≡ Some u → AreFirst ts c.ty u
collected_at ts cs us k c u none e f = absurd cc
collected_at ts cs us zero c u (one {c = c'} {us = u'} a w) e f =
    let s : c' ≡ c = cc in
    let t : u' ≡ u = cc in
    subst (λ x. AreFirst ts x.ty u) s (subst (AreFirst ts c'.ty) t a)
collected_at ts cs us (suc k) c u (one {cs = cs'} {vs = vs} a w) e f = collected_at ts cs' vs k c u w e f

pub list_at : (vs : List (Vec Label Global)) (k : ℕ) (v : Vec Label Global) → k < length vs → v ≡ get_or vs k v →
    slice_get (tag_lists vs) k ≡ Some v.items
list_at vs k v l e = slice_get-map (λ x. x.items) vs k ∙ ap (option_map (λ x. x.items)) (slice_get_read vs (length vs) k v refl l e)

-- ---- tags in an ordered set

equal_by : (P Q R : Type 0) (o : Ordering) → is_eq o ≡ true → MatchOrdering o P Q R → Q
equal_by P Q R Less e m = absurd cc
equal_by P Q R Equal e m = m
equal_by P Q R Greater e m = absurd cc

then_left : (o p : Ordering) → is_eq (ordering_then o p) ≡ true → is_eq o ≡ true
then_left Less p e = absurd cc
then_left Equal p e = refl
then_left Greater p e = absurd cc

then_right : (o p : Ordering) → is_eq (ordering_then o p) ≡ true → is_eq p ≡ true
then_right Less p e = absurd cc
then_right Equal p e = e
then_right Greater p e = absurd cc

key_exact : (x y : ℕ × ℕ) → is_eq (key_cmp x y) ≡ true → x ≡ y
key_exact x y e =
    let a : x.0 ≡ y.0 = equal_by (x.0 < y.0) (x.0 ≡ y.0) (y.0 < x.0) (nat_cmp x.0 y.0) (then_left (nat_cmp x.0 y.0) (nat_cmp x.1 y.1) e) (ranked x.0 y.0 (nat_cmp x.0 y.0) refl) in
    let b : x.1 ≡ y.1 = equal_by (x.1 < y.1) (x.1 ≡ y.1) (y.1 < x.1) (nat_cmp x.1 y.1) (then_right (nat_cmp x.0 y.0) (nat_cmp x.1 y.1) e) (ranked x.1 y.1 (nat_cmp x.1 y.1) refl) in
    ap (λ z. (z, x.1)) a ∙ ap (λ z. (y.0, z)) b

key_itself : (x y : ℕ × ℕ) → x ≡ y → is_eq (key_cmp x y) ≡ true
key_itself x y e =
    ap (λ z. is_eq (key_cmp x z)) (sym e)
    ∙ ap (λ o. is_eq (ordering_then o (nat_cmp x.1 x.1))) (tied_itself nat_cmp_total x.0)
    ∙ ap is_eq (tied_itself nat_cmp_total x.1)

class_exact : (c d : Class) → class_rank c ≡ class_rank d → c ≡ d
class_exact Universal Universal e = refl
class_exact Universal Application e = absurd (omega (arith, e))
class_exact Universal Context e = absurd (omega (arith, e))
class_exact Universal Private e = absurd (omega (arith, e))
class_exact Application Universal e = absurd (omega (arith, e))
class_exact Application Application e = refl
class_exact Application Context e = absurd (omega (arith, e))
class_exact Application Private e = absurd (omega (arith, e))
class_exact Context Universal e = absurd (omega (arith, e))
class_exact Context Application e = absurd (omega (arith, e))
class_exact Context Context e = refl
class_exact Context Private e = absurd (omega (arith, e))
class_exact Private Universal e = absurd (omega (arith, e))
class_exact Private Application e = absurd (omega (arith, e))
class_exact Private Context e = absurd (omega (arith, e))
class_exact Private Private e = refl

-- tags with one key are one
tag_exact : (t u : Label) → key_of t ≡ key_of u → t ≡ u
tag_exact t u e =
    let a : t.0 ≡ u.0 = class_exact t.0 u.0 (ap (λ z. z.0) e) in
    let b : t.1 ≡ u.1 = ap (λ z. z.1) e in
    ap (λ z. (z, t.1)) a ∙ ap (λ z. (u.0, z)) b

none_in : (keys : List (ℕ × ℕ)) (x : ℕ × ℕ) → keys ≡ [] → IsIn keys x → ⊥
none_in [] x e h = absurd cc
none_in (k ∷ keys) x e h = absurd cc

pub not_in : (keys : List (ℕ × ℕ)) (x : ℕ × ℕ) → list_any (λ y. is_eq (key_cmp x y)) keys ≡ false → IsIn keys x → ⊥
not_in keys x e h = let g = sym e ∙ h in absurd cc

put_cases : (k x : ℕ × ℕ) (a b : Bool) → is_eq (key_cmp k x) ≡ b → cond b true a ≡ true → (a ≡ true) ⊎ (k ≡ x)
put_cases k x a true e f = inr (key_exact k x e)
put_cases k x a false e f = inl f

put_either : (b : Bool) → cond b true true ≡ true
put_either true = refl
put_either false = refl

-- the new set has what the old one has, and key k
abbrev pub PutsOne : (old new : List (ℕ × ℕ)) → ℕ × ℕ → Type 0
PutsOne old new k = (x : ℕ × ℕ) → (IsIn new x → IsIn old x ⊎ (k ≡ x)) × (IsIn old x ⊎ (k ≡ x) → IsIn new x)

pub put_one : (old new : List (ℕ × ℕ)) (k : ℕ × ℕ) →
    ((q : ℕ × ℕ) → list_any (λ y. is_eq (key_cmp q y)) new
    ≡ cond (is_eq (key_cmp k q)) true (list_any (λ y. is_eq (key_cmp q y)) old)) →
    PutsOne old new k
put_one old new k f x = (
  λ h. put_cases k x (list_any (λ y. is_eq (key_cmp x y)) old) (is_eq (key_cmp k x)) refl (sym (f x) ∙ h),
  λ h. f x ∙ elim h [
    | inl a ↦ ap (λ z. cond (is_eq (key_cmp k x)) true z) a ∙ put_either (is_eq (key_cmp k x))
    | inr e ↦ ap (λ z. cond z true (list_any (λ y. is_eq (key_cmp x y)) old)) (key_itself k x e)
  ],
)

-- key x is that of one of the first n of these tags
pub record HasKeyTo (us : List Label) (n : ℕ) (x : ℕ × ℕ) : Type 0 where
  pub has : HasKey us x
  pub few : has.place < n

-- the new set has what the old one has, and the keys of the first n of these tags
abbrev pub PutsTo : List Label → ℕ → (old new : List (ℕ × ℕ)) → Type 0
PutsTo us n old new = (x : ℕ × ℕ) → (IsIn new x → IsIn old x ⊎ HasKeyTo us n x) × (IsIn old x ⊎ HasKeyTo us n x → IsIn new x)

same_tag : (us : List Label) (i : ℕ) (t u : Label) → slice_get us i ≡ Some t → slice_get us i ≡ Some u → t ≡ u
same_tag us i t u e f = same_Some t u (sym e ∙ f)

pub put_next : (us : List Label) (n : ℕ) (t : Label) (old mid new : List (ℕ × ℕ)) → slice_get us n ≡ Some t →
    PutsTo us n old mid → PutsOne mid new (key_of t) → PutsTo us (n + 1) old new
put_next us n t old mid new e f g x = (
  λ h. elim ((g x).0 h) [
    | inl a ↦ elim ((f x).0 a) [ inl b ↦ inl b | inr b ↦ inr (record { has = b.has; few = omega (arith, b.few) }) ]
    | inr q ↦ inr (record { has = record { place = n; tag = t; there = e; is = q }; few = omega arith })
  ],
  λ h. elim h [
    | inl a ↦ (g x).1 (inl ((f x).1 (inl a)))
    | inr b ↦ elim (cases_lt b.has.place n) [
      | inl l ↦ (g x).1 (inl ((f x).1 (inr (record { has = b.has; few = l }))))
      | inr m ↦ (let q : b.has.place ≡ n = omega (arith, m, b.few) in (g x).1 (inr (ap key_of (same_tag us n t b.has.tag e (ap (slice_get us) (sym q) ∙ b.has.there)) ∙ b.has.is)))
    ]
  ],
)

pub put_end : (us : List Label) (n : ℕ) (old new : List (ℕ × ℕ)) → length us ≤ n → PutsTo us n old new →
    (x : ℕ × ℕ) → (IsIn new x → IsIn old x ⊎ HasKey us x) × (IsIn old x ⊎ HasKey us x → IsIn new x)
put_end us n old new l f x = (
  λ h. elim ((f x).0 h) [ inl a ↦ inl a | inr b ↦ inr b.has ],
  λ h. elim h [
    | inl a ↦ (f x).1 (inl a)
    | inr b ↦ (let w = slice_get_within us b.place b.tag b.there in (f x).1 (inr (record { has = b; few = omega (arith, l, w) })))
  ],
)

-- none of the first n of these tags is in the set
abbrev pub NoneTo : List Label → ℕ → List (ℕ × ℕ) → Type 0
NoneTo us n keys = (x : ℕ × ℕ) → HasKeyTo us n x → IsIn keys x → ⊥

pub none_next : (us : List Label) (n : ℕ) (t : Label) (keys : List (ℕ × ℕ)) → slice_get us n ≡ Some t →
    NoneTo us n keys → (IsIn keys (key_of t) → ⊥) → NoneTo us (n + 1) keys
none_next us n t keys e f g x b h =
    elim (cases_lt b.has.place n) [
      | inl l ↦ f x (record { has = b.has; few = l }) h
      | inr m ↦ (let q : b.has.place ≡ n = omega (arith, m, b.few) in g (subst (IsIn keys) (sym (ap key_of (same_tag us n t b.has.tag e (ap (slice_get us) (sym q) ∙ b.has.there)) ∙ b.has.is)) h))
    ]

pub none_end : (us : List Label) (n : ℕ) (keys : List (ℕ × ℕ)) → length us ≤ n → NoneTo us n keys → (x : ℕ × ℕ) →
    HasKey us x → IsIn keys x → ⊥
none_end us n keys l f x b h = let w = slice_get_within us b.place b.tag b.there in f x (record { has = b; few = omega (arith, l, w) }) h

-- ---- tags that the member at a place can meet

pub meets_next : (k : ListKind) (cs : List Part) (vs : List (List Label)) (q : ℕ) (c : Part) (us : List Label)
    (mid new : List (ℕ × ℕ)) → slice_get cs q ≡ Some c → slice_get vs q ≡ Some us → Passes k c → Meets k cs vs q mid →
    ((x : ℕ × ℕ) → (IsIn new x → IsIn mid x ⊎ HasKey us x) × (IsIn mid x ⊎ HasKey us x →
    IsIn new x)) → Meets k cs vs (q + 1) new
meets_next k cs vs q c us mid new d e r f g x = (
  λ h. elim ((g x).0 h) [
    | inl a ↦ (let m = (f x).0 a in record { place = m.place; before = omega (arith, m.before); together = together_next k cs m.place q c d r m.together; tags = m.tags; there = m.there; has = m.has })
    | inr b ↦ record { place = q; before = omega arith; together = together_here k cs q c d r; tags = us; there = e; has = b }
  ],
  λ m. elim (cases_lt m.place q) [
    | inl l ↦ (g x).1 (inl ((f x).1 (record { place = m.place; before = l; together = together_back k cs m.place q m.together; tags = m.tags; there = m.there; has = m.has })))
    | inr l ↦ (let s : m.place ≡ q = omega (arith, l, m.before) in (g x).1 (inr (subst (λ z. HasKey z x) (same_Some m.tags us (sym m.there ∙ ap (slice_get vs) s ∙ e)) m.has)))
  ],
)

pub meets_none : (k : ListKind) (cs : List Part) (vs : List (List Label)) (q : ℕ) (c : Part) (keys : List (ℕ × ℕ)) →
    slice_get cs q ≡ Some c → (Passes k c → ⊥) → keys ≡ [] → Meets k cs vs (q + 1) keys
meets_none k cs vs q c keys d r e x = (λ h. absurd (none_in keys x e h), λ m. absurd (not_passed k cs m.place q c d r m.before m.together))

tags_at : (ts : List Type') (cs : List Part) (vs : List (List Label)) (k : ℕ) (c : Part) → Collected ts cs vs →
    slice_get cs k ≡ Some c → (u : List Label) × (slice_get vs k ≡ Some u) × AreFirst ts c.ty u
tags_at ts cs vs k c none e = absurd cc
tags_at ts cs vs zero c (one {c = c'} {us = u} a w) e =
    let s : c' ≡ c = cc in
    (u, refl, subst (λ (x : Part). AreFirst ts x.ty u) s a)
tags_at ts cs vs (suc k) c (one {cs = cs'} {vs = vs'} a w) e = tags_at ts cs' vs' k c w e

-- a member that meets no tag is apart from those before it
pub clear_next : (ts : List Type') (k : ListKind) (cs : List Part) (vs : List (List Label)) (q : ℕ)
    (us : List Label) (keys : List (ℕ × ℕ)) → Collected ts cs vs → slice_get vs q ≡ Some us → Meets k cs vs q keys →
    ((x :
    ℕ × ℕ) → HasKey us x → IsIn keys x → ⊥) → ((p : ℕ) → IsClear ts k cs p q) → (p : ℕ) → IsClear ts k cs p (q + 1)
clear_next ts k cs vs q us keys col e f free before p r c d l m g h t =
    elim (cases_lt r q) [
      | inl z ↦ before p r c d l z g h t
      | inr z ↦ (
          let s : r ≡ q = omega (arith, z, m) in
          let a = tags_at ts cs vs p c col g in
          let b = collected_at ts cs vs q d us col (ap (slice_get cs) (sym s) ∙ h) e in
          λ u x y.
          let v = a.2.all u x in
          let w = b.all u y in
          let k1 : HasKey a.0 (key_of u) = record { place = v.0; tag = u; there = contained_at a.0 u v; is = refl } in
          let k2 : HasKey us (key_of u) = record { place = w.0; tag = u; there = contained_at us u w; is = refl } in
          free (key_of u) k2 ((f (key_of u)).1 (record { place = p; before = omega (arith, l, s); together = subst (Together k cs p) s t; tags = a.0; there = a.1; has = k1 }))
          )
    ]

member_there : (cs : List Part) (k : ℕ) → k < length cs → (c : Part) × (slice_get cs k ≡ Some c)
member_there [] k l = absurd (omega arith)
member_there (c ∷ cs) zero l = (c, refl)
member_there (c ∷ cs) (suc k) l = member_there cs k (omega arith)

-- a member that meets a tag clashes
pub clash_met : (ts : List Type') (k : ListKind) (cs : List Part) (vs : List (List Label)) (q : ℕ) (us : List Label)
    (keys : List (ℕ × ℕ)) (x : ℕ × ℕ) → Collected ts cs vs → q < length cs → slice_get vs q ≡ Some us →
    Meets k cs vs q keys → HasKey us x → IsIn keys x → (p : ℕ) × Clash ts k cs p q
clash_met ts k cs vs q us keys x col l e f b h =
    let m = (f x).0 h in
    let c = member_there cs m.place (omega (arith, m.before, l)) in
    let d = member_there cs q l in
    let s : m.has.tag ≡ b.tag = tag_exact m.has.tag b.tag (m.has.is ∙ sym b.is) in (
      m.place,
      record {
        first = c.0;
        second = d.0;
        before = m.before;
        at_first = c.1;
        at_second = d.1;
        together = m.together;
        tag = b.tag;
        in_first = (collected_at ts cs vs m.place c.0 m.tags col c.1 m.there).each b.tag (subst (Contains m.tags) s (contains_at m.tags m.has.place m.has.tag m.has.there));
        in_second = (collected_at ts cs vs q d.0 us col d.1 e).each b.tag (contains_at us b.place b.tag b.there);
      },
    )

-- if all members are clear, the list is distinct
pub distinct_all : (ts : List Type') (k : ListKind) (cs : List Part) (n : ℕ) → length cs ≤ n →
    ((p : ℕ) → IsClear ts k cs p n) → Distinct ts k cs
distinct_all ts k cs n l all p q c d m e f t = let w = slice_get_within cs q d f in all p q c d m (omega (arith, w, l)) e f t
