-- The rows of types, and what they say of types that contain others.
use Rattle.std.proofs.Common.{arith, ◌≡◌, ℕ, zero, suc, ◌+◌, ◌<◌, Bool, true, false, List, [], ◌∷◌, ◌++◌, length, map, drop, refl, sym, subst, ap, ◌∙◌}
use Rattle.std.specs.Prelude.{Some, slice_get, Vec, if◌then◌else◌}
use Rattle.std.specs.declared.alloc.Global.{Global}
use Rattle.std.specs.List.{AllByRecursion}
use Rattle.std.proofs.lemmas.List.{map-append}
use Rattle.asn_base.specs.declared.tag.Tag.{Tag}
use Rattle.asn_base.specs.declared.rule.SchemaRule.TheVariants as rules
use Rattle.asn_base.specs.Abstract.{AbstractValue}
use Rattle.asn_base.specs.Names.{IsMember, is_first, is_later}
use Rattle.asn_base.specs.Types.{Presence, mandatory, optional, default, addition, Component, Kind, a_sequence, a_set, Resolved, Is}
use Rattle.asn_base.specs.Schemas.{components, types_in}
use Rattle.asn_base.specs.Rules.{Contains, is_itself, contains_in, DefaultLeadsTo, Keeps}
use Rattle.asn_base.specs.Depths.{row_at, rows_of}
use Rattle.asn_base.specs.proving.Reaching.{parts_of, has_default, default_types, defaults_of, Reaches, itself, onward, RowReaches, IsClosed}
use Rattle.asn_base.specs.proving.Lists.{length_mapped}

-- ---- rows that are gathered

assoc : {A : Type 0} (xs ys zs : List A) → (xs ++ ys) ++ zs ≡ xs ++ (ys ++ zs)
assoc [] ys zs = refl
assoc (x ∷ xs) ys zs = ap (λ q. x ∷ q) (assoc xs ys zs)

pub default_one : (c : Component) (b : Bool) (old : List ℕ) → b ≡ has_default c → b ≡ false → old ≡ old ++ default_types (c ∷ [])
default_one c b old e f = sym (none old) ∙ ap (λ d. old ++ (if d then c.type ∷ [] else [])) (sym f ∙ e)
  where
    none : (ys : List ℕ) → ys ++ [] ≡ ys
    none [] = refl
    none (y ∷ ys) = ap (λ q. y ∷ q) (none ys)

pub default_piece : (c : Component) (cs whole : List Component) → whole ≡ c ∷ cs → default_types whole ≡ default_types (c ∷ []) ++ default_types cs
default_piece c cs whole w = ap default_types w ∙ go (has_default c)
  where
    go : (b : Bool) → (if b then c.type ∷ default_types cs else default_types cs) ≡ (if b then c.type ∷ [] else []) ++ default_types cs
    go true = refl
    go false = refl

pub row_added : (g : Resolved → List ℕ) (old new : List (Vec ℕ Global)) (one : Vec ℕ Global) (s : List Resolved) (i : ℕ) (r : Resolved) → new ≡ old ++ one ∷ [] → drop i s ≡ r ∷ drop (i + 1) s → one.items ≡ g r → rows_of old ++ map g (drop i s) ≡ map g s → rows_of new ++ map g (drop (i + 1) s) ≡ map g s
row_added g old new one s i r e d o h =
    ap (λ q. rows_of q ++ map g (drop (i + 1) s)) e
    ∙ ap (λ q. q ++ map g (drop (i + 1) s)) (map-append (λ (v : Vec ℕ Global). v.items) old (one ∷ []) ∙ ap (λ q. rows_of old ++ q ∷ []) o)
    ∙ assoc (rows_of old) (g r ∷ []) (map g (drop (i + 1) s))
    ∙ ap (λ q. rows_of old ++ q) (sym (ap (map g) d)) ∙ h

pub rows_added : (g : Resolved → List ℕ) (new : List (Vec ℕ Global)) (s : List Resolved) (i : ℕ) → drop i s ≡ [] → rows_of new ++ map g (drop i s) ≡ map g s → rows_of new ≡ map g s
rows_added g new s i d h = sym (none (rows_of new)) ∙ ap (λ q. rows_of new ++ map g q) (sym d) ∙ h
  where
    none : (ys : List (List ℕ)) → ys ++ [] ≡ ys
    none [] = refl
    none (y ∷ ys) = ap (λ q. y ∷ q) (none ys)

-- ---- rows of types

row_is : (g : Resolved → List ℕ) (s : List Resolved) (t : ℕ) (r : Resolved) → slice_get s t ≡ Some r → row_at (map g s) t ≡ g r
row_is g [] t r e = absurd cc
row_is g (q ∷ s) zero r e = let f : q ≡ r = cc in ap g f
row_is g (q ∷ s) (suc t) r e = row_is g s t r e

pub record There (s : List Resolved) (t : ℕ) : Type 0 where
  pub type : Resolved
  pub found : slice_get s t ≡ Some type

there : (g : Resolved → List ℕ) (s : List Resolved) (t : ℕ) {x : ℕ} → IsMember x (row_at (map g s) t) → There s t
there g [] t m = elim m [ ]
there g (q ∷ s) zero m = record { type = q; found = refl }
there g (q ∷ s) (suc t) m = let h = there g s t m in record { type = h.type; found = h.found }

reaches_of : {s : List Resolved} {t u : ℕ} → Contains s t u → Reaches (parts_of s) t u
reaches_of is_itself = itself
reaches_of {s} (contains_in {u = u} {v = v} {tags = tags} {k = k} i m c) = onward (subst (IsMember v) (sym (row_is (λ r. types_in r.kind) s u _ i.found)) m) (reaches_of c)

contains_of : {s : List Resolved} {t u : ℕ} → Reaches (parts_of s) t u → Contains s t u
contains_of itself = is_itself
contains_of {s} (onward {i = i} {k = k} m r) =
    let h = there (λ r. types_in r.kind) s i m in
    contains_in (record { found = h.found }) (subst (IsMember k) (row_is (λ r. types_in r.kind) s i h.type h.found) m) (contains_of r)

-- ---- defaults

abbrev is_default : Presence → Bool
is_default mandatory = false
is_default optional = false
is_default (default d) = true
is_default (addition o g) = false

default_value : (p : Presence) → is_default p ≡ true → (d : AbstractValue) × (p ≡ default d)
default_value mandatory e = absurd cc
default_value optional e = absurd cc
default_value (default d) e = (d, refl)
default_value (addition o g) e = absurd cc

pub record Defaulted (cs : List Component) (j : ℕ) : Type 0 where
  pub component : Component
  pub stands : IsMember component cs
  pub defaulted : is_default component.presence ≡ true
  pub type : component.type ≡ j

defaulted_of : (cs : List Component) {j : ℕ} → IsMember j (default_types cs) → Defaulted cs j
defaulted_of [] m = elim m [ ]
defaulted_of (c ∷ cs) {j} m = go (is_default c.presence) refl m (λ n. defaulted_of cs n)
  where
    further : Defaulted cs j → Defaulted (c ∷ cs) j
    further d = record { component = d.component; stands = is_later d.stands; defaulted = d.defaulted; type = d.type }

    split : {x : ℕ} {xs : List ℕ} → IsMember j (x ∷ xs) → (x ≡ j → Defaulted (c ∷ cs) j) → (IsMember j xs → Defaulted (c ∷ cs) j) → Defaulted (c ∷ cs) j
    split is_first p q = p refl
    split (is_later n) p q = q n

    go : (b : Bool) → is_default c.presence ≡ b → IsMember j (if b then c.type ∷ default_types cs else default_types cs) → (IsMember j (default_types cs) → Defaulted cs j) → Defaulted (c ∷ cs) j
    go true e n rest = split n (λ q. record { component = c; stands = is_first; defaulted = e; type = q }) (λ k. further (rest k))
    go false e n rest = further (rest n)

of_defaulted : (cs : List Component) {c : Component} → IsMember c cs → is_default c.presence ≡ true → IsMember c.type (default_types cs)
of_defaulted [] m e = elim m [ ]
of_defaulted (b ∷ cs) is_first e = subst (λ d. IsMember b.type (if d then b.type ∷ default_types cs else default_types cs)) (sym e) is_first
of_defaulted (b ∷ cs) {c} (is_later m) e = go (is_default b.presence) (of_defaulted cs m e)
  where
    go : (d : Bool) → IsMember c.type (default_types cs) → IsMember c.type (if d then b.type ∷ default_types cs else default_types cs)
    go true n = is_later n
    go false n = n

leads_of : (s : List Resolved) (t : ℕ) (tags : List Tag) (k : Kind) → Is s t tags k → RowReaches (parts_of s) (row_at (defaults_of s) t) t → DefaultLeadsTo s k t
leads_of s t tags k i r =
    let d = defaulted_of (components k) (subst (IsMember r.0) (row_is (λ q. default_types (components q.kind)) s t _ i.found) r.1) in
    let v = default_value d.component.presence d.defaulted in
    record { component = d.component; stands = d.stands; value = v.0; has_default = v.1; back = subst (λ z. Contains s t z) (sym d.type) (contains_of r.2) }

of_leads : (s : List Resolved) (t : ℕ) (tags : List Tag) (k : Kind) → Is s t tags k → DefaultLeadsTo s k t → RowReaches (parts_of s) (row_at (defaults_of s) t) t
of_leads s t tags k i l = (
  l.component.type,
  subst (IsMember l.component.type) (sym (row_is (λ q. default_types (components q.kind)) s t _ i.found)) (of_defaulted (components k) l.stands (ap is_default l.has_default)),
  reaches_of l.back,
)

pub no_circle : (s : List Resolved) (t : ℕ) → (RowReaches (parts_of s) (row_at (defaults_of s) t) t → ⊥) → Keeps s rules.NoCircle t
no_circle s t f tags k i l = f (of_leads s t tags k i l)

pub a_circle : (s : List Resolved) (t : ℕ) → RowReaches (parts_of s) (row_at (defaults_of s) t) t → Keeps s rules.NoCircle t → ⊥
a_circle s t r keep =
    let h = there (λ q. default_types (components q.kind)) s t r.1 in
    let i : Is s t h.type.tags h.type.kind = record { found = h.found } in
    keep h.type.tags h.type.kind i (leads_of s t h.type.tags h.type.kind i r)

-- ---- the rows are closed

all_member : (P : ℕ → Type 0) (xs : List ℕ) (x : ℕ) → AllByRecursion P xs → IsMember x xs → P x
all_member P [] x a m = elim m [ ]
all_member P (y ∷ xs) x a is_first = a.0
all_member P (y ∷ xs) x a (is_later m) = all_member P xs x a.1 m

part_below : (s : List Resolved) → ((t : ℕ) → Keeps s rules.Members t) → (t j : ℕ) → IsMember j (row_at (parts_of s) t) → j < length s
part_below s keep t j m =
    let h = there (λ r. types_in r.kind) s t m in
    all_member (λ u. u < length s) (types_in h.type.kind) j (keep t h.type.tags h.type.kind (record { found = h.found })) (subst (IsMember j) (row_is (λ r. types_in r.kind) s t h.type h.found) m)

pub closed : (s : List Resolved) → ((t : ℕ) → Keeps s rules.Members t) → IsClosed (parts_of s)
closed s keep t j m = let l = part_below s keep t j m in omega (arith, l, length_mapped (λ (r : Resolved). types_in r.kind) s)

type_of_member : (cs : List Component) {c : Component} → IsMember c cs → IsMember c.type (map (λ d. d.type) cs)
type_of_member [] m = elim m [ ]
type_of_member (b ∷ cs) is_first = is_first
type_of_member (b ∷ cs) (is_later m) = is_later (type_of_member cs m)

pub default_below : (s : List Resolved) → ((t : ℕ) → Keeps s rules.Members t) → (t j : ℕ) → IsMember j (row_at (defaults_of s) t) → j < length s
default_below s keep t j m =
    let h = there (λ q. default_types (components q.kind)) s t m in
    let d = defaulted_of (components h.type.kind) (subst (IsMember j) (row_is (λ q. default_types (components q.kind)) s t h.type h.found) m) in
    subst (λ z. z < length s) d.type (all_member (λ u. u < length s) (types_in h.type.kind) d.component.type (keep t h.type.tags h.type.kind (record { found = h.found })) (among h.type.kind d.component d.stands))
  where
    among : (k : Kind) (c : Component) → IsMember c (components k) → IsMember c.type (types_in k)
    among (a_sequence e cs) c n = type_of_member cs n
    among (a_set e cs) c n = type_of_member cs n
    among k c n = elim n [ ]
