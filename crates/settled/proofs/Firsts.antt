-- The first tags of a schema's types are those of the program's.
use Rattle.std.proofs.Common.{◌≡◌, ℕ, zero, suc, ◌+◌, ◌-◌, ◌<◌, Bool, List, [], ◌∷◌, ◌++◌, length, Option, Some, None, refl, sym, ap, subst, ◌∙◌, arith, inl, inr}
use Rattle.std.specs.Prelude.{ℤ, map, slice_get}
use Rattle.std.proofs.lemmas.Bool.{cases_order}
use Rattle.std.proofs.lemmas.Option.{same_Some, slice_get_within}
use Rattle.asn_base.specs.declared.tag.Tag.{Tag}
use Rattle.asn_base.specs.Types.{Alternative, Resolved}
use Rattle.asn_base.specs.Types as types
use Rattle.asn_base.specs.Tags.{IsChoice}
use Rattle.asn_base.specs.Tags as firsts
use Rattle.trees.specs.declared.module.TagDefault.{TagDefault}
use Rattle.trees.specs.declared.types.ListKind.TheVariants.{Choice}
use Rattle.type_table.specs.Table.{Part, WrittenKind, Type', simple, reference, tagged, members, elements, IsWrittenType, IsUnderlying, next, target_of, target as target_kind}
use Rattle.type_table.specs.Walks.{follow, onward}
use Rattle.type_table.specs.proving.Walks.{stops}
use Rattle.resolve.specs.Program.{Program}
use Rattle.tagging.specs.declared.path.TagForm.{TagForm}
use Rattle.tagging.specs.declared.path.TagForm.TheVariants.{Implicit, Explicit}
use Rattle.tagging.specs.Tags.{Label, Path, Tags, label, own, WrittenTags, core, target, inside, as_written, numbered}
use Rattle.tagging.specs.First.{CanBeFirst, outermost, alternative}
use Rattle.schema_of.specs.SchemaOf.{IsSchemaOf, IsKindOf, IsChosenPart, AreAlternativesOf}
use Rattle.settled.specs.Settled.{HasTags, standing}
use Rattle.settled.proofs.Paths.{at, none_stands, starts, same_tag, same_tags}
use Rattle.settled.proofs.TagLists.{alternatives_of, choice_of, is_choice, chosen_of}

-- ---- tables

pub is_at : (ts : List Type') (i : ℕ) (t : Type') (k : WrittenKind) → slice_get ts i ≡ Some t → t.kind ≡ k → IsWrittenType ts i k t.default t.place
is_at ts i t k e f = record { constraints = t.constraints; assignment = t.assignment; found = e ∙ ap (λ k. Some (record t { kind = k })) f }

-- a type that has tags by its kind leads to no other type
ends : (k : WrittenKind) (p : Path) → own k ≡ Some p → target_kind k ≡ None
ends (simple s) p e = refl
ends (members y m cs) p e = refl
ends (elements y j) p e = refl
ends (reference j) p e = absurd cc
ends (tagged t k j) p e = absurd cc

next_is : {ts : List Type'} {i : ℕ} {k : WrittenKind} {d : TagDefault} {l : Option (ℕ × ℕ)} → IsWrittenType ts i k d l → next ts i ≡ target_kind k
next_is is = ap target_of is.found

-- if a type bears no tags, nor does the type after its references
untagged_core : (ts : List Type') (n i c : ℕ) → WrittenTags ts i [] → follow (next ts) n i ≡ Some c → WrittenTags ts c []
untagged_core ts zero i c w e = let q : i ≡ c = cc in subst (λ i. WrittenTags ts i []) q w
untagged_core ts (suc n) i c (core {k} is o) e =
    let q : next ts i ≡ None = next_is is ∙ ends k [] o in
    let f : onward (next ts i) (λ j. follow (next ts) n j) ≡ None = ap (λ o. onward o (λ j. follow (next ts) n j)) q in
    let g = sym f ∙ e in
    absurd cc
untagged_core ts (suc n) i c (target {j} is w) e =
    let f : onward (next ts i) (λ j. follow (next ts) n j) ≡ follow (next ts) n j = ap (λ o. onward o (λ j. follow (next ts) n j)) (next_is is) in
    untagged_core ts n j c w (sym f ∙ e)

-- and it is a CHOICE
own_none : (ts : List Type') (c : ℕ) (t : Type') → slice_get ts c ≡ Some t → next ts c ≡ None → WrittenTags ts c [] → own t.kind ≡ Some []
own_none ts c t e n (core {k} is o) =
    let q : k ≡ t.kind = let f = sym is.found ∙ e in ap kind_in f in
    subst (λ k. own k ≡ Some []) q o
  where
    kind_in : Option Type' → WrittenKind
    kind_in None = reference 0
    kind_in (Some t) = t.kind
own_none ts c t e n (target is w) = let q = sym (next_is is) ∙ n in absurd cc

-- the references of a type end at one type
one_end : (f : ℕ → Option ℕ) (k m i c d : ℕ) → follow f k i ≡ Some c → f c ≡ None → follow f m i ≡ Some d → f d ≡ None → c ≡ d
one_end f k m i c d e n g o =
    elim (cases_order k m) [
      | inl q ↦ same_Some c d (sym e ∙ ap (λ k. follow f k i) q ∙ g)
      | inr r ↦ elim r [
        | inl l ↦ absurd (longer k m c d l e n g)
        | inr l ↦ absurd (longer m k d c l g o e)
      ]
    ]
  where
    longer : (k m c d : ℕ) → k < m → follow f k i ≡ Some c → f c ≡ None → follow f m i ≡ Some d → ⊥
    longer k m c d l e n g =
        let r : ℕ = m - suc k in
        let q : k + suc r ≡ m = omega arith in
        let h = sym (stops f k r i c e n) ∙ ap (λ k. follow f k i) q ∙ g in
        absurd cc

one_core : (ts : List Type') (i c d : ℕ) → IsUnderlying ts i c → IsUnderlying ts i d → c ≡ d
one_core ts i c d a b = one_end (next ts) a.steps b.steps i c d a.chain a.ends b.chain b.ends

of_written : {ts : List Type'} {i : ℕ} {p : Path} → WrittenTags ts i p → i < length ts
of_written {ts} {i} (core is o) = slice_get_within ts i _ is.found
of_written {ts} {i} (target is w) = slice_get_within ts i _ is.found
of_written {ts} {i} (inside is w e) = slice_get_within ts i _ is.found

in_table : {ts : List Type'} {i : ℕ} {p : Path} → Tags ts i p → i < length ts
in_table (as_written e w) = of_written w
in_table (numbered e w f) = of_written w

-- ---- tags by their labels

no_labels : (gs : List Tag) → map label gs ≡ [] → gs ≡ []
no_labels [] e = refl
no_labels (g ∷ gs) e = absurd cc

starts_so : (g : Tag) (f : TagForm) (q : Path) (gs : List Tag) → map label gs ≡ standing ((label g, f) ∷ q) → (rest : List Tag) × (gs ≡ g ∷ rest)
starts_so g Implicit q [] e = absurd cc
starts_so g Explicit q [] e = absurd cc
starts_so g Implicit q (h ∷ hs) e = let z : label h ≡ label g = cc in (hs, ap (λ x. x ∷ hs) (same_tag h g z))
starts_so g Explicit q (h ∷ hs) e = let z : label h ≡ label g = cc in (hs, ap (λ x. x ∷ hs) (same_tag h g z))

-- ---- the types of a schema

same_kind : (ts : List Type') (c : ℕ) (t u : Type') → slice_get ts c ≡ Some t → slice_get ts c ≡ Some u → t.kind ≡ u.kind
same_kind ts c t u e f = ap (λ t. t.kind) (same_Some t u (sym e ∙ f))

as_is : (s : List Resolved) (t : ℕ) (r : Resolved) (k : types.Kind) → slice_get s t ≡ Some r → r.tags ≡ [] → r.kind ≡ k → types.Is s t [] k
as_is s t r k e f g = record { found = e ∙ ap (λ gs. Some (record r { tags = gs })) f ∙ ap (λ k. Some (record { tags = []; kind = k })) g }

-- type t of the schema is a CHOICE without tags, of these alternatives
record IsUntaggedChoice (s : List Resolved) (t : ℕ) (cs : List Part) : Type 0 where
  root : List Alternative
  marker : Bool
  more : List Alternative
  is : types.Is s t [] (types.a_choice root marker more)
  alternatives : AreAlternativesOf cs root more

module _ (p : Program) (A : ℕ → ℤ → Type 0) (C : ℕ → ℕ → Type 0) (s : List Resolved)
    (of : IsSchemaOf p A C s) (has : (i : ℕ) (r : Resolved) → slice_get s i ≡ Some r → HasTags p i r) where
  -- ---- types without tags

  untagged : (t : ℕ) (k : types.Kind) → slice_get s t ≡ Some (record { tags = []; kind = k }) → Tags p.types t []
  untagged t k e = let h = has t (record { tags = []; kind = k }) e in subst (λ p'. Tags p.types t p') (none_stands h.path h.same) h.tags

  written_none : {t : ℕ} → Tags p.types t [] → WrittenTags p.types t []
  written_none (as_written e w) = w

  pub all_tagged : (t : ℕ) (k : types.Kind) → types.Is s t [] k → IsChoice k
  all_tagged t k is =
      let o = of.each t (record { tags = []; kind = k }) is.found in
      let w = untagged_core p.types o.chain.steps t o.core (written_none (untagged t k is.found)) o.chain.chain in
      is_choice o.kind (own_none p.types o.core o.type o.there o.chain.ends w)

  -- ---- first tags

  module _ (chosen : (cs : List Part) (root more : List Alternative) (i : ℕ) (a : Alternative) →
      AreAlternativesOf cs root more → slice_get (root ++ more) i ≡ Some a → IsChosenPart cs i a) where
    pub first_written : {t : ℕ} {g : Tag} → firsts.First s t g → CanBeFirst p.types t (label g)
    first_written {t} {g} (firsts.first_tag {ts} {k} is) =
        let h = has t (record { tags = g ∷ ts; kind = k }) is.found in
        let q = starts (label g) (map label ts) h.path h.same in
        outermost (subst (λ p'. Tags p.types t p') q.is h.tags)
    first_written {t} {g} (firsts.first_of_choice {e} {root} {more} {a} i is there f) =
        let o = of.each t (record { tags = []; kind = types.a_choice root e more }) is.found in
        let l = alternatives_of o.kind in
        let c = chosen l.0 root more i a l.2 there in
        alternative o.core e l.0 i c.part (untagged t (types.a_choice root e more) is.found) o.chain
        (is_at p.types o.core o.type (members Choice e l.0) o.there l.1) c.there
        (subst (λ u. CanBeFirst p.types u (label g)) c.alike.type (first_written f))

  -- ---- and the other way

  module _ (unique : (i : ℕ) (x y : Path) → Tags p.types i x → Tags p.types i y → x ≡ y) where
    outer : (t : ℕ) (g : Tag) (f : TagForm) (q : Path) (r : Resolved) → slice_get s t ≡ Some r → HasTags p t r → Tags p.types t ((label g, f) ∷ q) → firsts.First s t g
    outer t g f q r e h w =
        let z = unique t h.path ((label g, f) ∷ q) h.tags w in
        let n = starts_so g f q r.tags (h.same ∙ ap standing z) in
        firsts.first_tag {ts = n.0} {k = r.kind} (record { found = e ∙ ap (λ gs. Some (record r { tags = gs })) n.1 })

    -- a CHOICE without tags
    untagged_choice : (t c : ℕ) (m : Bool) (cs : List Part) (d : TagDefault) (l : Option (ℕ × ℕ)) (r : Resolved) → slice_get s t ≡ Some r → HasTags p t r → Tags p.types t [] →
        IsUnderlying p.types t c → IsWrittenType p.types c (members Choice m cs) d l → IsUntaggedChoice s t cs
    untagged_choice t c m cs d l r e h w chain is =
        let z = unique t h.path [] h.tags w in
        let n : r.tags ≡ [] = no_labels r.tags (h.same ∙ ap standing z) in
        let o = of.each t r e in
        let q : o.core ≡ c = one_core p.types t o.core c o.chain chain in
        let k : o.type.kind ≡ members Choice m cs = same_kind p.types c o.type _ (sym (ap (slice_get p.types) q) ∙ o.there) is.found in
        let a = choice_of (subst (λ k. IsKindOf p A C t o.within k r.kind) k o.kind) in
        record { root = a.0; marker = m; more = a.1; is = as_is s t r (types.a_choice a.0 m a.1) e n a.2; alternatives = a.3 }

    pub first_resolved : {t : ℕ} {l : Label} (g : Tag) → CanBeFirst p.types t l → l ≡ label g → firsts.First s t g
    first_resolved {t} {l} g (outermost {f} {p = q} w) e =
        let h = at s t (omega (arith, of.as_many, in_table w)) in
        outer t g f q h.element h.there (has t h.element h.there) (subst (λ l. Tags p.types t ((l, f) ∷ q)) e w)
    first_resolved {t} {l} g (alternative {d} {l = place} c marker cs n a w chain is there f) e =
        let h = at s t (omega (arith, of.as_many, in_table w)) in
        let u = untagged_choice t c marker cs d place h.element h.there (has t h.element h.there) w chain is in
        let x = chosen_of n a u.alternatives there in
        firsts.first_of_choice n u.is x.there (subst (λ t. firsts.First s t g) (sym x.type) (first_resolved g f e))

-- the tags of a program's type in two schemas
pub one_each : (p : Program) (i : ℕ) (r q : Resolved) → ((i : ℕ) (x y : Path) → Tags p.types i x → Tags p.types i y → x ≡ y) → HasTags p i r → HasTags p i q → r.tags ≡ q.tags
one_each p i r q unique h k = same_tags r.tags q.tags (h.same ∙ ap standing (unique i h.path k.path h.tags k.tags) ∙ sym k.same)
