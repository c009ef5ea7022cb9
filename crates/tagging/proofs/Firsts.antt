-- The first fault of tags.
use Rattle.std.proofs.Common.{◌≡◌, ℕ, zero, suc, ◌<◌, ◌≤◌, ◌+◌, ◌⊎◌, inl, inr, Bool, true, List, [], ◌∷◌, length, take, map, Option, Some, None, refl, sym, ap, ◌∙◌, arith, subst}
use Rattle.std.specs.Prelude.{slice_get, IfSome, IfErr, MatchResult, Result, option_map, Ok, Err, Vec}
use Rattle.std.specs.Global.{Global}
use Rattle.std.proofs.lemmas.Bool.{cases_lt}
use Rattle.std.proofs.lemmas.Option.{same_Some, slice_get-map}
use Rattle.asn_base.specs.declared.tag.Tag.{Tag}
use Rattle.trees.specs.declared.types.Keyword.{Keyword}
use Rattle.trees.specs.declared.module.TagDefault.{TagDefault}
use Rattle.trees.specs.declared.types.ListKind.{ListKind}
use Rattle.trees.specs.declared.types.ListKind.TheVariants.{Choice, Set}
use Rattle.type_table.specs.declared.table.ListMember.{ListMember}
use Rattle.type_table.specs.declared.table.Shape.{Shape}
use Rattle.type_table.specs.declared.table.Shape.TheVariants as shapes
use Rattle.type_table.specs.declared.table.TypeNode.{TypeNode}
use Rattle.type_table.specs.Seen.{kind_of, part_of, type_of, types_of}
use Rattle.type_table.specs.Table.{Part, Type', IsUnderlying}
use Rattle.tagging.specs.declared.check.Fault.{Fault}
use Rattle.tagging.specs.declared.check.Fault.TheVariants.{Memory, At}
use Rattle.tagging.specs.declared.check.Rule.{Rule}
use Rattle.tagging.specs.declared.check.Rule.TheVariants as rules
use Rattle.tagging.specs.declared.first.FirstTagFault.{FirstTagFault}
use Rattle.tagging.specs.declared.first.FirstTagFault.TheVariants as fronts
use Rattle.tagging.specs.Tags.{Label, Tags}
use Rattle.tagging.specs.Tagged.{BearTags, Clash}
use Rattle.tagging.specs.FirstFault.{IsBearingAt, IsClashingAt, own, inner, IsListFault, IsShapeFault, IsTypeBreach, IsFaultless, IsFirstOf, NoneWithin, NoneInside, written_members}
use Rattle.tagging.specs.proving.Checks.{BearsAt, BearsHere, HasFew, IsGood, IsNumbered, NoneBears, SuitsAutomatic}
use Rattle.tagging.specs.proving.Heads.{Head, Fronts, IsFrontFault, members_of}
use Rattle.tagging.specs.proving.Lists.{IsClear, ReportsClash}
use Rattle.tagging.specs.proving.Reported.{IsImplicitFault, IsMixedFault, IsBareFault, IsOwnFault, IsClashFault, IsWithinFault, IsInsideFault, NoneInsideTo, IsBroken, as_fault}
use Rattle.tagging.proofs.Fronts.{head_unique, core_unique, headless}
use Rattle.tagging.proofs.Taggings.{front_none}

-- ---- members

pub none_before : (ts : List Type') (cs : List Part) (b : Bool) (n : ℕ) → NoneBears ts cs b n →
    (m : ℕ) (c : Part) → m < n → slice_get cs m ≡ Some c → BearsHere ts c b → ⊥
none_before ts cs b n f m c l e h =
    let g = f (record { number = m; member = c; there = e; is_so = h.is_so; bears = h.bears }) in
    omega (arith, l, g)

some_part : (c d : Part) → Some c ≡ Some d → c ≡ d
some_part c d e = cc

inside_parts : (ms : List ListMember) (n : ℕ) (c : Part) → slice_get (map part_of ms) n ≡ Some c → n < length ms
inside_parts [] n c e = absurd cc
inside_parts (m ∷ ms) zero c e = omega arith
inside_parts (m ∷ ms) (suc n) c e = let l = inside_parts ms n c e in omega (arith, l)

pub part_there : (ms : List ListMember) (n : ℕ) (m : ListMember) →
    slice_get ms n ≡ Some m →
    slice_get (map part_of ms) n ≡ Some (part_of m)
part_there [] n m e = absurd cc
part_there (x ∷ ms) zero m e = let q : x ≡ m = cc in ap (λ z. Some (part_of z)) q
part_there (x ∷ ms) (suc n) m e = part_there ms n m e

-- the member that bears a tag, at the place of its name
pub bearing_at : (ts : List Type') (ms : List ListMember) (n : ℕ) (m : ListMember) (at : ℕ) →
    at ≡ m.name.at →
    BearsAt ts (map part_of ms) true n →
    (n < length ms → slice_get ms n ≡ Some m) →
    ((k : ℕ) (c : Part) → k < n → slice_get (map part_of ms) k ≡ Some c → BearsHere ts c true → ⊥) →
    IsBearingAt ts ms at
bearing_at ts ms n m at a b h f =
    let r = b.bearing in
    let e : slice_get (map part_of ms) n ≡ Some r.member = ap (slice_get (map part_of ms)) (sym b.is) ∙ r.there in
    let t = h (inside_parts ms n r.member e) in
    let q = some_part r.member (part_of m) (sym e ∙ part_there ms n m t) in
    record {
      number = n;
      member = m;
      there = t;
      reported = a;
      bears = subst (λ z. BearsHere ts z true) q (record { is_so = r.is_so; bears = r.bears });
      before = f;
    }

taken_at : {X : Type 0} (xs : List X) (n m : ℕ) (x : X) → m < n → slice_get xs m ≡ Some x → slice_get (take n xs) m ≡ Some x
taken_at [] n m x l e = absurd cc
taken_at (y ∷ xs) zero m x l e = absurd (omega (arith, l))
taken_at (y ∷ xs) (suc n) zero x l e = e
taken_at (y ∷ xs) (suc n) (suc m) x l e = taken_at xs n m x (omega (arith, l)) e

pub tagged_before : (ts : List Type') (cs : List Part) (us : List Label) (n : ℕ) → Fronts ts (take n cs) us →
    (m : ℕ) (c : Part) → m < n → slice_get cs m ≡ Some c → Tags ts c.ty [] → ⊥
tagged_before ts cs us n f m c l e = front_none ts (take n cs) us m c f (taken_at cs n m c l e)

pub clear_before : (ts : List Type') (k : ListKind) (cs : List Part) (q : ℕ) → ((p : ℕ) → IsClear ts k cs p q) →
    (m n : ℕ) → n < q → Clash ts k cs m n → ⊥
clear_before ts k cs q f m n l c =
    f m n c.first c.second c.before l c.at_first c.at_second c.together c.tag c.in_first c.in_second

-- the member that clashes with one before it, at the place of its name
pub clashing_at : (ts : List Type') (k : ListKind) (ms : List ListMember) (n : ℕ) (m : ListMember) (o : Option ℕ)
    (at : ℕ) →
    at ≡ m.name.at →
    o ≡ Some n →
    ReportsClash ts k (map part_of ms) o →
    slice_get ms n ≡ Some m →
    IsClashingAt ts k ms at
clashing_at ts k ms n m o at a e t h =
    let f = subst (ReportsClash ts k (map part_of ms)) e t in
    record { number = n; member = m; there = h; reported = a; earlier = f.earlier; clash = f.clash; before = f.before }

pub later_inside : (l n : ℕ) (o : Option ℕ) → o ≡ Some n → IfSome o (λ q. q < l) → n < l
later_inside l n o e h = subst (λ z. IfSome z (λ q. q < l)) e h

-- ---- lists

pub of_mixed : (ts : List Type') (ws : List TypeNode) (i : ℕ) (k : ListKind) (d : TagDefault) (ms : List ListMember)
    (e : Fault) →
    IsMixedFault ts i d ms e →
    IsListFault ts ws i k d ms e
of_mixed ts ws i k d ms Memory f = tt
of_mixed ts ws i k d ms (At rules.MixedAutomatic ty at) f = f
of_mixed ts ws i k d ms (At rules.Tags ty at) f = absurd f
of_mixed ts ws i k d ms (At rules.TagNumber ty at) f = absurd f
of_mixed ts ws i k d ms (At rules.TagClash ty at) f = absurd f
of_mixed ts ws i k d ms (At rules.ImplicitChoice ty at) f = absurd f
of_mixed ts ws i k d ms (At rules.UntaggedChoice ty at) f = absurd f

pub own_fault : (ts : List Type') (k : ListKind) (ms : List ListMember) (e : FirstTagFault) →
    (k ≡ Choice) ⊎ (k ≡ Set) →
    IsBareFault ts ms e →
    IsOwnFault ts k ms e
own_fault ts k ms fronts.Memory w f = tt
own_fault ts k ms (fronts.Untagged ty at) w f = (w, f)

pub of_bare : (ts : List Type') (ws : List TypeNode) (i : ℕ) (k : ListKind) (d : TagDefault) (ms : List ListMember)
    (e : FirstTagFault) →
    SuitsAutomatic ts (map part_of ms) d →
    IsOwnFault ts k ms e →
    IsListFault ts ws i k d ms (as_fault e)
of_bare ts ws i k d ms fronts.Memory s f = tt
of_bare ts ws i k d ms (fronts.Untagged ty at) s f = (s, own f.0 f.1)

pub of_clash : (ts : List Type') (ws : List TypeNode) (i : ℕ) (k : ListKind) (d : TagDefault) (ms : List ListMember)
    (e : Fault) →
    SuitsAutomatic ts (map part_of ms) d →
    BearTags ts k (map part_of ms) →
    IsClashFault ts ws i k ms e →
    IsListFault ts ws i k d ms e
of_clash ts ws i k d ms Memory s b f = tt
of_clash ts ws i k d ms (At rules.UntaggedChoice ty at) s b f = (s, inner b f)
of_clash ts ws i k d ms (At rules.TagClash ty at) s b f = (s, b, f.0, f.1, f.2)
of_clash ts ws i k d ms (At rules.Tags ty at) s b f = absurd f
of_clash ts ws i k d ms (At rules.TagNumber ty at) s b f = absurd f
of_clash ts ws i k d ms (At rules.ImplicitChoice ty at) s b f = absurd f
of_clash ts ws i k d ms (At rules.MixedAutomatic ty at) s b f = absurd f

pub of_front : (ts : List Type') (ws : List TypeNode) (i : ℕ) (k : ListKind) (ms : List ListMember)
    (e : FirstTagFault) →
    IsInsideFault ts ws ms e →
    IsClashFault ts ws i k ms (as_fault e)
of_front ts ws i k ms fronts.Memory f = tt
of_front ts ws i k ms (fronts.Untagged ty at) f = f

-- ---- alternatives of members

-- a type of a table as definitions see it
pub seen_at : (ts : List Type') (ws : List TypeNode) (i : ℕ) (w : TypeNode) →
    types_of ws ≡ ts →
    slice_get ws i ≡ Some w →
    slice_get ts i ≡ Some (type_of w)
seen_at ts ws i w e f =
    ap (λ z. slice_get z i) (sym e) ∙ slice_get-map type_of ws i ∙ ap (option_map type_of) f

pub seen_members : (s : Shape) → map part_of (written_members s) ≡ members_of (kind_of s)
seen_members (shapes.Simple x) = refl
seen_members (shapes.Reference j) = refl
seen_members (shapes.Tagged t w j) = refl
seen_members (shapes.Members k m ms) = refl
seen_members (shapes.Elements k j) = refl

-- a type with a tag has no alternative without one
tagged_within : (ts : List Type') (ws : List TypeNode) (i : ℕ) (t : Label) → Head ts i (Some t) → NoneWithin ts ws i
tagged_within ts ws i t h ty at b =
    let x = head_unique ts i (Some t) None h (record { path = []; tags = b.untagged; is = refl }) in absurd cc

pub single_within : (ts : List Type') (ws : List TypeNode) (i : ℕ) (t : Label)
    (r : Result (Vec Label Global) FirstTagFault) →
    Head ts i (Some t) →
    MatchResult r (λ v. v.items ≡ t ∷ []) (λ e. e ≡ fronts.Memory) →
    MatchResult r (λ v. NoneWithin ts ws i) (IsWithinFault ts ws i)
single_within ts ws i t (Ok v) h e = tagged_within ts ws i t h
single_within ts ws i t (Err f) h e = subst (IsWithinFault ts ws i) (sym e) tt

-- if all alternatives have a tag
none_within : (ts : List Type') (ws : List TypeNode) (i c : ℕ) (w : TypeNode) (us : List Label) →
    IsUnderlying ts i c →
    slice_get ws c ≡ Some w →
    Fronts ts (map part_of (written_members w.shape)) us →
    NoneWithin ts ws i
none_within ts ws i c w us u e f ty at b =
    let s : b.choice ≡ c = core_unique ts i b.choice c b.leads u in
    let q : b.written ≡ w = same_Some b.written w (sym b.there ∙ ap (slice_get ws) s ∙ e) in
    let x = b.bare in
    front_none ts (map part_of (written_members w.shape)) us x.number (part_of x.member) f
    (subst (λ (z : TypeNode). slice_get (map part_of (written_members z.shape)) x.number ≡ Some (part_of x.member)) q
    (part_there (written_members b.written.shape) x.number x.member x.there))
    (subst (λ z. Tags ts z []) (sym x.is) x.untagged)

pub choice_within : (ts : List Type') (ws : List TypeNode) (i c : ℕ) (w : TypeNode)
    (r : Result (Vec Label Global) FirstTagFault) →
    Head ts i None →
    IsUnderlying ts i c →
    slice_get ws c ≡ Some w →
    MatchResult r (λ v. Fronts ts (map part_of (written_members w.shape)) v.items)
    (IsFrontFault ts (map part_of (written_members w.shape))) →
    IfErr r (IsBareFault ts (written_members w.shape)) →
    MatchResult r (λ v. NoneWithin ts ws i) (IsWithinFault ts ws i)
choice_within ts ws i c w (Ok v) h u e f b = none_within ts ws i c w v.items u e f
choice_within ts ws i c w (Err fronts.Memory) h u e f b = tt
choice_within ts ws i c w (Err (fronts.Untagged ty at)) h u e f b =
    record { untagged = headless ts i h; choice = c; leads = u; written = w; there = e; bare = b }

pub none_inside_more : (ts : List Type') (ws : List TypeNode) (ms : List ListMember) (k : ℕ) (m : ListMember) →
    slice_get (map part_of ms) k ≡ Some (part_of m) →
    NoneWithin ts ws m.ty →
    NoneInsideTo ts ws ms k →
    NoneInsideTo ts ws ms (k + 1)
none_inside_more ts ws ms k m h g f n c l e = elim (cases_lt n k) [
  | inl x ↦ f n c x e
  | inr y ↦ (let s : n ≡ k = omega (arith, l, y) in
      let q = some_part (part_of m) c (sym h ∙ ap (slice_get (map part_of ms)) (sym s) ∙ e) in
      subst (λ (z : Part). NoneWithin ts ws z.ty) q g)
]

pub inside_at : (ts : List Type') (ws : List TypeNode) (ms : List ListMember) (k : ℕ) (m : ListMember)
    (e : FirstTagFault) →
    slice_get ms k ≡ Some m →
    IsWithinFault ts ws m.ty e →
    NoneInsideTo ts ws ms k →
    IsInsideFault ts ws ms e
inside_at ts ws ms k m fronts.Memory h f g = tt
inside_at ts ws ms k m (fronts.Untagged ty at) h f g = record {
  number = k;
  member = m;
  there = h;
  within = f;
  before = λ n c j p l e b. g n c l e j p b;
}

pub inside_all : (ts : List Type') (ws : List TypeNode) (ms : List ListMember) (k : ℕ) → length ms ≤ k →
    NoneInsideTo ts ws ms k → NoneInside ts ws ms
inside_all ts ws ms k l f n c e = let w = inside_parts ms n c e in f n c (omega (arith, l, w)) e

-- ---- types

pub memberless : (ts : List Type') (ws : List TypeNode) (s : Shape) → written_members s ≡ [] →
    NoneInside ts ws (written_members s)
memberless ts ws s e n c f = let q = sym (ap (λ z. slice_get (map part_of z) n) e) ∙ f in absurd cc

pub faultless : (ts : List Type') (ws : List TypeNode) (i : ℕ) (w : TypeNode) →
    slice_get ws i ≡ Some w →
    IsGood ts i →
    NoneInside ts ws (written_members w.shape) →
    IsFaultless ts ws i
faultless ts ws i w e g f = record {
  good = g;
  inside = λ v h. subst (λ (z : TypeNode). NoneInside ts ws (written_members z.shape)) (same_Some w v (sym e ∙ h)) f;
}

in_list : (ts : List Type') (ws : List TypeNode) (i place : ℕ) (d : TagDefault) (s : Shape) (k : ListKind)
    (m : Bool)
    (ms : Vec ListMember Global) (e : Fault) →
    s ≡ shapes.Members k m ms →
    IsListFault ts ws i k d ms.items e →
    IsShapeFault ts ws i place d s e
in_list ts ws i place d s k m ms e q f = subst (λ z. IsShapeFault ts ws i place d z e) (sym q) f

pub in_members : (ts : List Type') (ws : List TypeNode) (i place : ℕ) (d : TagDefault) (s : Shape) (k : ListKind)
    (m : Bool) (ms : Vec ListMember Global) (ns : List ListMember) (r : Result (Unit {0}) Fault) →
    s ≡ shapes.Members k m ms →
    ns ≡ ms.items →
    MatchResult r (λ _. NoneInside ts ws ns) (IsListFault ts ws i k d ns) →
    MatchResult r (λ _. NoneInside ts ws (written_members s)) (IsShapeFault ts ws i place d s)
in_members ts ws i place d s k m ms ns (Ok u) q v f =
    subst (NoneInside ts ws) (v ∙ ap written_members (sym q)) f
in_members ts ws i place d s k m ms ns (Err e) q v f =
    in_list ts ws i place d s k m ms e q (subst (λ z. IsListFault ts ws i k d z e) v f)

by_tag : (ts : List Type') (ws : List TypeNode) (i place : ℕ) (d : TagDefault) (t : Tag) (w : Keyword) (j : ℕ)
    (e : Fault) →
    IsImplicitFault ts i place e →
    IsShapeFault ts ws i place d (shapes.Tagged t w j) e
by_tag ts ws i place d t w j Memory f = tt
by_tag ts ws i place d t w j (At rules.ImplicitChoice ty at) f = f
by_tag ts ws i place d t w j (At rules.Tags ty at) f = absurd f
by_tag ts ws i place d t w j (At rules.TagNumber ty at) f = absurd f
by_tag ts ws i place d t w j (At rules.TagClash ty at) f = absurd f
by_tag ts ws i place d t w j (At rules.UntaggedChoice ty at) f = absurd f
by_tag ts ws i place d t w j (At rules.MixedAutomatic ty at) f = absurd f

pub in_tag : (ts : List Type') (ws : List TypeNode) (i place : ℕ) (d : TagDefault) (s : Shape) (t : Tag)
    (w : Keyword) (j : ℕ) (e : Fault) →
    s ≡ shapes.Tagged t w j →
    IsImplicitFault ts i place e →
    IsShapeFault ts ws i place d s e
in_tag ts ws i place d s t w j e q f =
    subst (λ z. IsShapeFault ts ws i place d z e) (sym q) (by_tag ts ws i place d t w j e f)

no_tags : (ts : List Type') (ws : List TypeNode) (i place : ℕ) (d : TagDefault) (s : Shape) (ty at : ℕ) →
    IsShapeFault ts ws i place d s (At rules.Tags ty at) → ⊥
no_tags ts ws i place d (shapes.Simple x) ty at f = f
no_tags ts ws i place d (shapes.Reference j) ty at f = f
no_tags ts ws i place d (shapes.Tagged t w j) ty at f = f
no_tags ts ws i place d (shapes.Members k m ms) ty at f = f
no_tags ts ws i place d (shapes.Elements k j) ty at f = f

no_number : (ts : List Type') (ws : List TypeNode) (i place : ℕ) (d : TagDefault) (s : Shape) (ty at : ℕ) →
    IsShapeFault ts ws i place d s (At rules.TagNumber ty at) → ⊥
no_number ts ws i place d (shapes.Simple x) ty at f = f
no_number ts ws i place d (shapes.Reference j) ty at f = f
no_number ts ws i place d (shapes.Tagged t w j) ty at f = f
no_number ts ws i place d (shapes.Members k m ms) ty at f = f
no_number ts ws i place d (shapes.Elements k j) ty at f = f

pub of_shape : (ts : List Type') (ws : List TypeNode) (i : ℕ) (w : TypeNode) (e : Fault) →
    HasFew ts i →
    IsNumbered ts i →
    IsShapeFault ts ws i w.at w.default w.shape e →
    IsTypeBreach ts ws i w e
of_shape ts ws i w Memory h n f = tt
of_shape ts ws i w (At rules.Tags ty at) h n f = absurd (no_tags ts ws i w.at w.default w.shape ty at f)
of_shape ts ws i w (At rules.TagNumber ty at) h n f = absurd (no_number ts ws i w.at w.default w.shape ty at f)
of_shape ts ws i w (At rules.TagClash ty at) h n f = (h, n, f)
of_shape ts ws i w (At rules.ImplicitChoice ty at) h n f = (h, n, f)
of_shape ts ws i w (At rules.UntaggedChoice ty at) h n f = (h, n, f)
of_shape ts ws i w (At rules.MixedAutomatic ty at) h n f = (h, n, f)

pub of_broken : (ts : List Type') (ws : List TypeNode) (i : ℕ) (w : TypeNode) (r : Rule) →
    IsBroken ts r i →
    IsTypeBreach ts ws i w (At r i w.at)
of_broken ts ws i w rules.Tags b = (refl, refl, b)
of_broken ts ws i w rules.TagNumber b = (refl, refl, b.0, b.1)
of_broken ts ws i w rules.TagClash b = absurd b
of_broken ts ws i w rules.ImplicitChoice b = absurd b
of_broken ts ws i w rules.UntaggedChoice b = absurd b
of_broken ts ws i w rules.MixedAutomatic b = absurd b

pub first_of : (ts : List Type') (ws : List TypeNode) (n : ℕ) (w : TypeNode) (e : Fault) →
    slice_get ws n ≡ Some w →
    IsTypeBreach ts ws n w e →
    ((i : ℕ) → i < n → IsFaultless ts ws i) →
    IsFirstOf ts ws e
first_of ts ws n w Memory h f b = tt
first_of ts ws n w (At r ty at) h f b = record { number = n; written = w; there = h; fault = f; before = b }
