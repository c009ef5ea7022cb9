-- Each type has one list of tags.
use Rattle.std.proofs.Common.{◌≡◌, ℕ, zero, suc, ◌+◌, ◌-◌, ◌<◌, Bool, true, false, List, [], ◌∷◌, length, Option, Some, None, refl, sym, ap, ◌∙◌, arith, subst, ◌++◌, append_assoc}
use Rattle.std.proofs.lemmas.List.{length-append, length-map, map-append}
use Rattle.std.specs.Prelude.{slice_get}
use Rattle.trees.specs.declared.types.Keyword.{Keyword}
use Rattle.trees.specs.declared.module.TagDefault.{TagDefault}
use Rattle.trees.specs.declared.types.ListKind.TheVariants.{Sequence, Set, Choice}
use Rattle.type_table.specs.Table.{Type', WrittenKind, simple, reference, tagged, members, elements, target as target_kind, target_of, next, walk, IsWrittenType, IsClosed, IsLinked}
use Rattle.tagging.specs.declared.path.FormedTag.{FormedTag}
use Rattle.tagging.specs.Tags.{Label, label, Path, path_of, outermost, own, tag_form, WrittenTags, core, target, inside}
use Rattle.type_table.specs.Walks.{onward}
use Rattle.type_table.specs.proving.Walks.{stops}
use Rattle.tagging.specs.proving.TagStep.{form_before, Adds}
use Rattle.std.specs.Prelude.{is_none, is_some, not}
use Rattle.trees.specs.declared.types.Keyword.TheVariants.{Absent, Implicit as ImplicitWord, Explicit as ExplicitWord}
use Rattle.trees.specs.declared.module.TagDefault.TheVariants.{Explicit as ExplicitTags, Implicit as ImplicitTags, Automatic}

-- a type of the table
pub record There (ts : List Type') (i : ℕ) : Type 0 where
  pub type : Type'
  pub found : slice_get ts i ≡ Some type

pub there : (ts : List Type') (i : ℕ) → i < length ts → There ts i
there [] i l = absurd (omega arith)
there (t ∷ ts) zero l = record { type = t; found = refl }
there (t ∷ ts) (suc i) l = let h = there ts i (omega arith) in record { type = h.type; found = h.found }

pub is_at : (ts : List Type') (i : ℕ) (t : Type') → slice_get ts i ≡ Some t → IsWrittenType ts i t.kind t.default t.place
is_at ts i t e = record { constraints = t.constraints; assignment = t.assignment; found = e }

pub next_is : (ts : List Type') (i : ℕ) (t : Type') → slice_get ts i ≡ Some t → next ts i ≡ target_kind t.kind
next_is ts i t e = ap target_of e

pub same_kind : {ts : List Type'} {i : ℕ} {k m : WrittenKind} {d e : TagDefault} {l n : Option (ℕ × ℕ)} → IsWrittenType ts i k d l →
    IsWrittenType ts i m e n → k ≡ m
same_kind x y = let e = sym x.found ∙ y.found in ap kind_in e
  where
    kind_in : Option Type' → WrittenKind
    kind_in None = reference 0
    kind_in (Some t) = t.kind

pub same_default : {ts : List Type'} {i : ℕ} {k m : WrittenKind} {d e : TagDefault} {l n : Option (ℕ × ℕ)} →
    IsWrittenType ts i k d l → IsWrittenType ts i m e n → d ≡ e
same_default {d = d} x y = ap default_in (sym x.found ∙ y.found)
  where
    default_in : Option Type' → TagDefault
    default_in None = d
    default_in (Some t) = t.default

-- a type that leads to no other type has its own tags
own_of : (k : WrittenKind) → target_kind k ≡ None → (p : Path) × (own k ≡ Some p)
own_of (simple n) e = (_, refl)
own_of (members Sequence m cs) e = (_, refl)
own_of (members Set m cs) e = (_, refl)
own_of (members Choice m cs) e = (_, refl)
own_of (elements y j) e = (_, refl)
own_of (reference j) e = absurd cc
own_of (tagged t k j) e = absurd cc

written_target : (ts : List Type') (i j : ℕ) (k : WrittenKind) (d : TagDefault) (l : Option (ℕ × ℕ)) → IsWrittenType ts i k d l →
    target_kind k ≡ Some j → (p : Path) × WrittenTags ts j p → (p : Path) × WrittenTags ts i p
written_target ts i j (simple n) d l h e w = absurd cc
written_target ts i j (members y m cs) d l h e w = absurd cc
written_target ts i j (elements y m) d l h e w = absurd cc
written_target ts i j (reference m) d l h e w = let q : m ≡ j = cc in (w.0, target h (subst (λ n. WrittenTags ts n w.0) (sym q) w.1))
written_target ts i j (tagged t k m) d l h e w = let q : m ≡ j = cc in ((label t, tag_form k d w.0) ∷ w.0, inside h (subst (λ n. WrittenTags ts n w.0) (sym q) w.1) refl)

written_on : (ts : List Type') (k i : ℕ) (t : Type') (c : ℕ) (o : Option ℕ) → IsClosed ts →
    slice_get ts i ≡ Some t → next ts i ≡ o →
    ((j :
    ℕ) → j < length ts → walk ts k j ≡ Some c → (p : Path) × WrittenTags ts j p) → onward o (λ j. walk ts k j)
    ≡ Some c → (p : Path) × WrittenTags ts i p
written_on ts k i t c None cl e f go h = absurd cc
written_on ts k i t c (Some j) cl e f go h =
    written_target ts i j t.kind t.default t.place (is_at ts i t e) (sym (next_is ts i t e) ∙ f) (go j (cl i j f) h)

written_by : (ts : List Type') (k i c : ℕ) → IsClosed ts → i < length ts → walk ts k i ≡ Some c → next ts c ≡ None →
    (p : Path) × WrittenTags ts i p
written_by ts zero i c cl l e f =
    let h = there ts i l in
    let s : i ≡ c = cc in
    let n : next ts i ≡ None = ap (next ts) s ∙ f in
    let o = own_of h.type.kind (sym (next_is ts i h.type h.found) ∙ n) in
    (o.0, core (is_at ts i h.type h.found) o.1)
written_by ts (suc k) i c cl l e f =
    let h = there ts i l in
    written_on ts k i h.type c (next ts i) cl h.found refl (λ j m w. written_by ts k j c cl m w f) e

-- each type has a list of tags
pub written_exists : (ts : List Type') (i : ℕ) → IsLinked ts → i < length ts → (p : Path) × WrittenTags ts i p
written_exists ts i k l = let u = k.unfolds i l in written_by ts u.1.steps i u.0 k.closed l u.1.chain u.1.ends

-- and one alone
pub written_unique : (ts : List Type') (i : ℕ) (p q : Path) → WrittenTags ts i p → WrittenTags ts i q → p ≡ q
written_unique ts i p q (core h e) (core g f) = let s = same_kind h g in let t = ap own s in cc
written_unique ts i p q (core h e) (target g w) = let s = same_kind h g in let t = ap own s in absurd cc
written_unique ts i p q (core h e) (inside g w f) = let s = same_kind h g in let t = ap own s in absurd cc
written_unique ts i p q (target h v) (core g f) = let s = same_kind h g in let t = ap own s in absurd cc
written_unique ts i p q (target {j = j} h v) (target {j = m} g w) = let s = same_kind h g in let t : j ≡ m = cc in written_unique ts m p q (subst (λ n. WrittenTags ts n p) t v) w
written_unique ts i p q (target h v) (inside g w f) = let s = same_kind h g in absurd cc
written_unique ts i p q (inside h v e) (core g f) = let s = same_kind h g in let t = ap own s in absurd cc
written_unique ts i p q (inside h v e) (target g w) = let s = same_kind h g in absurd cc
written_unique ts i p q (inside {j = j} {t = t} {k = k} {d = d} {f = e'} {p = p'} h v e) (inside {j = m} {t = u} {k = n} {d = b} {f = f'} {p = q'} g w f) =
    let s = same_kind h g in
    let a : t ≡ u = cc in
    let y : j ≡ m = cc in
    let x : k ≡ n = cc in
    let c : d ≡ b = same_default h g in
    let r : p' ≡ q' = written_unique ts m p' q' (subst (λ z. WrittenTags ts z p') y v) w in
    let z : tag_form k d p' ≡ tag_form n b q' = cc in
    let o : e' ≡ f' = e ∙ z ∙ sym f in
    cc

-- no walk in a linked table is that long
pub never_long : (ts : List Type') (i at : ℕ) → IsLinked ts → i < length ts → walk ts (length ts) i ≡ Some at → ⊥
never_long ts i at k l e =
    let u = k.unfolds i l in
    let r : ℕ = length ts - suc u.1.steps in
    let s : u.1.steps + suc r ≡ length ts = omega (arith, u.1.few) in
    let f = stops (next ts) u.1.steps r i u.0 u.1.chain u.1.ends in
    let g = sym f ∙ ap (λ q. walk ts q i) s ∙ e in
    absurd cc

pub form_same : (k : Keyword) (d : TagDefault) (p : Path) (o : Option Label) → o ≡ outermost p →
    form_before k d (is_none o) ≡ tag_form k d p
form_same k d p o e = ap (λ u. form_before k d (is_none u)) e ∙ same_form k d p
  where
    same_form : (k : Keyword) (d : TagDefault) (p : Path) → form_before k d (is_none (outermost p)) ≡ tag_form k d p
    same_form ExplicitWord d p = refl
    same_form ImplicitWord d p = refl
    same_form Absent ExplicitTags p = refl
    same_form Absent ImplicitTags [] = refl
    same_form Absent ImplicitTags (x ∷ p) = refl
    same_form Absent Automatic [] = refl
    same_form Absent Automatic (x ∷ p) = refl

-- the length of the whole
pub added_long : (ts : List Type') (i : ℕ) (b w p : Path) → Adds ts i b w → WrittenTags ts i p →
    length w ≡ length b + length p
added_long ts i b w p a v = ap length a.is ∙ length-append b a.path ∙ ap (λ q. length b + length q) (written_unique ts i a.path p a.written v)

pub pushed : (v w : List FormedTag) (p : Path) (x : FormedTag) → w ≡ v ++ x ∷ [] →
    path_of w ++ p ≡ path_of v ++ ((label x.tag, x.form) ∷ p)
pushed v w p x e = rw (e, map-append, append_assoc) refl

pub pushed_last : (v w : List FormedTag) (x : FormedTag) (o : Path) → w ≡ v ++ x ∷ [] → path_of (x ∷ []) ≡ o →
    path_of w ≡ path_of v ++ o
pushed_last v w x o e f = rw (e, map-append) (ap (λ q. path_of v ++ q) f)

pub path_long : (v : List FormedTag) (p : Path) → length (path_of v ++ p) ≡ length v + length p
path_long v p = length-append (path_of v) p ∙ ap (λ n. n + length p) (length-map v (λ x. (label x.tag, x.form)))

pub none_is : (o : Option Label) (b : Bool) → is_some o ≡ not b → b ≡ is_none o
none_is None true e = refl
none_is None false e = absurd cc
none_is (Some t) true e = absurd cc
none_is (Some t) false e = refl
