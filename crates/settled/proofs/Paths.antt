-- Tags that are encoded, beside the path that they are of.
use Rattle.std.proofs.Common.{◌≡◌, ℕ, zero, suc, ◌<◌, ◌≤◌, List, [], ◌∷◌, length, Some, refl, ap, subst, ◌∙◌, arith}
use Rattle.std.proofs.Props.{props}
use Rattle.std.specs.Prelude.{map, slice_get, IfSome}
use Rattle.std.specs.List.{All, AllByRecursion}
use Rattle.std.proofs.lemmas.List.{length-map}
use Rattle.std.proofs.lemmas.Option.{get_or_from_slice_get, slice_get_within}
use Rattle.asn_base.specs.declared.tag.Tag.{Tag}
use Rattle.asn_base.specs.declared.tag.Class.TheVariants.{Universal}
use Rattle.tagging.specs.declared.path.TagForm.{TagForm}
use Rattle.tagging.specs.declared.path.TagForm.TheVariants.{Implicit, Explicit}
use Rattle.tagging.specs.Tags.{Label, Path, label, WrittenTags, TagCount, own, core, target, inside, none_written, as_target, one_more, Tags, as_written, numbered}
use Rattle.trees.specs.declared.types.ListKind.TheVariants.{Sequence, Set, Choice}
use Rattle.type_table.specs.Table.{Type', WrittenKind, simple, reference, tagged, members, elements}
use Rattle.settled.specs.Settled.{without_first, standing}

-- ---- lists

-- the element at a place of the list
pub record At {X : Type 0} (xs : List X) (i : ℕ) : Type 0 where
  pub element : X
  pub there : slice_get xs i ≡ Some element

pub at : {X : Type 0} (xs : List X) (i : ℕ) → i < length xs → At xs i
at [] i l = absurd (omega arith)
at (x ∷ xs) zero l = record { element = x; there = refl }
at (x ∷ xs) (suc i) l = let h = at xs i (omega arith) in record { element = h.element; there = h.there }

pub of_all : {X : Type 0} (P : X → Type 0) (xs : List X) (i : ℕ) (x : X) → All P xs → slice_get xs i ≡ Some x → P x
of_all P xs i x all e = subst P (get_or_from_slice_get xs i x x e) (all i x (slice_get_within xs i x e))

pub all_of : {X : Type 0} (P : X → Type 0) (xs : List X) → ((i : ℕ) (x : X) → slice_get xs i ≡ Some x → P x) → AllByRecursion P xs
all_of P [] f = tt
all_of P (x ∷ xs) f = (f zero x refl, all_of P xs (λ i y e. f (suc i) y e))

-- ---- tags by their labels

below_prop : (n : ℕ) → IsProp (n < 2147483648)
below_prop n = hlevel props

reserved_prop : (l : Label) → IsProp (l.0 ≡ Universal → 0 < l.1)
reserved_prop l = hlevel props

-- a tag is its class and its number
pub same_tag : (g h : Tag) → label g ≡ label h → g ≡ h
same_tag g h e = subst IsTag e begun h.in_range h.not_reserved
  where
    IsTag : Label → Type 0
    IsTag l = (q : l.1 < 2147483648) (t : l.0 ≡ Universal → 0 < l.1) → ◌≡◌ {A = Tag} g (record { class = l.0; number = l.1; in_range = q; not_reserved = t })

    begun : IsTag (label g)
    begun q t = ap (λ z. record { class = g.class; number = g.number; in_range = z; not_reserved = g.not_reserved }) (below_prop g.number g.in_range q)
        ∙ ap (λ z. record { class = g.class; number = g.number; in_range = q; not_reserved = z }) (reserved_prop (label g) g.not_reserved t)

pub same_tags : (gs hs : List Tag) → map label gs ≡ map label hs → gs ≡ hs
same_tags [] [] e = refl
same_tags [] (h ∷ hs) e = absurd cc
same_tags (g ∷ gs) [] e = absurd cc
same_tags (g ∷ gs) (h ∷ hs) e =
    let q : label g ≡ label h = cc in
    let r : map label gs ≡ map label hs = cc in
    let x = same_tag g h q in
    let y = same_tags gs hs r in
    cc

-- ---- tags that are encoded

pub none_stands : (p : Path) → [] ≡ standing p → p ≡ []
none_stands [] e = refl
none_stands ((l, Implicit) ∷ p) e = absurd cc
none_stands ((l, Explicit) ∷ p) e = absurd cc

-- the first tag that is encoded is the first that is written
pub record StartsWith (l : Label) (p : Path) : Type 0 where
  pub form : TagForm
  pub rest : Path
  pub is : p ≡ (l, form) ∷ rest

pub starts : (l : Label) (ls : List Label) (p : Path) → l ∷ ls ≡ standing p → StartsWith l p
starts l ls [] e = absurd cc
starts l ls ((m, Implicit) ∷ p) e = let q : m ≡ l = cc in record { form = Implicit; rest = p; is = ap (λ z. (z, Implicit) ∷ p) q }
starts l ls ((m, Explicit) ∷ p) e = let q : m ≡ l = cc in record { form = Explicit; rest = p; is = ap (λ z. (z, Explicit) ∷ p) q }

few_without : (ls : List Label) → length (without_first ls) ≤ length ls
few_without [] = omega arith
few_without (l ∷ ls) = omega arith

-- at most as many tags are encoded as are written
few_stand : (p : Path) → length (standing p) ≤ length p
few_stand [] = omega arith
few_stand ((l, Implicit) ∷ p) = omega (arith, few_stand p, few_without (standing p))
few_stand ((l, Explicit) ∷ p) = omega (arith, few_stand p)

-- ---- how many are written

-- a type's own tags are one at most
few_own : (k : WrittenKind) → IfSome (own k) (λ p. length p ≤ 1)
few_own (simple s) = omega arith
few_own (members Sequence m cs) = omega arith
few_own (members Set m cs) = omega arith
few_own (members Choice m cs) = omega arith
few_own (elements y j) = omega arith
few_own (reference j) = tt
few_own (tagged t k j) = tt

one_own : (k : WrittenKind) (p : Path) → own k ≡ Some p → length p ≤ 1
one_own k p e = subst (λ o. IfSome o (λ p. length p ≤ 1)) e (few_own k)

pub record Counted (ts : List Type') (i : ℕ) (p : Path) : Type 0 where
  pub count : ℕ
  pub counts : TagCount ts i count
  pub within : length p ≤ suc count

pub counted : {ts : List Type'} {i : ℕ} {p : Path} → WrittenTags ts i p → Counted ts i p
counted (core {k} {p} is e) = record { count = 0; counts = none_written is e; within = one_own k p e }
counted (target is w) = let c = counted w in record { count = c.count; counts = as_target is c.counts; within = c.within }
counted (inside is w e) = let c = counted w in record { count = suc c.count; counts = one_more is c.counts; within = omega (arith, c.within) }

pub few_tags : {ts : List Type'} {i : ℕ} {p : Path} → ((n : ℕ) → TagCount ts i n → n ≤ 4) → Tags ts i p → length p ≤ 6
few_tags few (as_written e w) = let c = counted w in omega (arith, few c.count c.counts, c.within)
few_tags few (numbered e w f) = let c = counted w in omega (arith, few c.count c.counts, c.within)

pub few_standing : (gs : List Tag) (p : Path) → map label gs ≡ standing p → length p ≤ 6 → length gs ≤ 6
few_standing gs p e l = omega (arith, length-map gs label, ap length e, few_stand p)
