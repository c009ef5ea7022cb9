-- What the tags of a schema keep, of those of the program.
use Rattle.std.proofs.Common.{◌≡◌, ℕ, zero, suc, ◌<◌, ◌≤◌, Bool, List, [], ◌∷◌, ◌++◌, length, Some, refl, sym, subst, arith}
use Rattle.std.specs.Prelude.{ℤ, map, slice_get, IsSomeAnd}
use Rattle.std.specs.List.{AllByRecursion}
use Rattle.asn_base.specs.declared.tag.Tag.{Tag}
use Rattle.asn_base.specs.Types.{Alternative, Component, Resolved}
use Rattle.asn_base.specs.Types as types
use Rattle.asn_base.specs.Tags.{AreApart, AllApart, RunsApart, HasDistinctTags, TagBefore}
use Rattle.asn_base.specs.Tags as firsts
use Rattle.asn_base.specs.Schemas.{HasTag, TagsAscend}
use Rattle.trees.specs.Values.{Name}
use Rattle.trees.specs.declared.types.ListKind.{ListKind}
use Rattle.trees.specs.declared.types.ListKind.TheVariants.{Sequence, Set, Choice}
use Rattle.type_table.specs.Table.{Part, Type', members, IsLinked}
use Rattle.resolve.specs.Program.{Program}
use Rattle.tagging.specs.Tags.{Path, Tags, label}
use Rattle.tagging.specs.First.{CanBeFirst, Apart, Together, Distinct}
use Rattle.tagging.specs.Tagged.{IsTagged}
use Rattle.additions.specs.Additions.{IsInOrder, IsAdded, KeepAdditions}
use Rattle.schema_of.specs.SchemaOf as schema_of
use Rattle.schema_of.specs.SchemaOf.{IsSchemaOf, IsTypeOf, AreComponentsOf, AreAlternativesOf, IsChosenPart}
use Rattle.settled.specs.Settled.{HasTags, standing}
use Rattle.settled.proofs.Paths.{at, of_all, all_of, none_stands, few_tags, few_standing}
use Rattle.settled.proofs.TagLists.{alike_components, alike_alternatives, components_of, set_of, alternatives_of, all_apart, may_be, one_before, all_shifted, run_of, each_component}
use Rattle.settled.proofs.Firsts.{is_at, first_written}

module _ (p : Program) (A : ℕ → ℤ → Type 0) (C : ℕ → ℕ → Type 0) (s : List Resolved)
    (of : IsSchemaOf p A C s) (has : (i : ℕ) (r : Resolved) → slice_get s i ≡ Some r → HasTags p i r)
    (chosen : (cs : List Part) (root more : List Alternative) (i : ℕ) (a : Alternative) →
    AreAlternativesOf cs root more → slice_get (root ++ more) i ≡ Some a → IsChosenPart cs i a) where
  apart : (i j : ℕ) → Apart p.types i j → AreApart s i j
  apart i j a g f h = a (label g) (first_written p A C s of has chosen f) (first_written p A C s of has chosen h)

  -- ---- tellable lists

  runs : (M : Name) {cs : List Part} {ds : List Component} → AreComponentsOf p M cs ds → Distinct p.types Sequence cs → RunsApart s ds
  runs M schema_of.no_component d = tt
  runs M (schema_of.component_and {c} {cs} {d = b} {ds} a as') d = (
    λ e. run_of p M (λ u. AreApart s b.type u) as' (λ q x h m. subst (λ u. AreApart s u x.ty) (sym a.type)
        (apart c.ty x.ty (d zero (suc q) c x (omega arith) refl h (one_before c cs q (may_be b.name b.type c a.presence e) m)))),
    runs M as' (λ q r x y l g h t. d (suc q) (suc r) x y (omega arith) g h (all_shifted c cs q r t)),
  )

  lists : (cs : List Part) (k : ListKind) → ((q r : ℕ) → Together k cs q r) → Distinct p.types k cs → AllApart s (map (λ c. c.ty) cs)
  lists cs k t d = all_apart s cs (λ i j c e l g h. apart c.ty e.ty (d i j c e l g h (t i j)))

  module _ (tagged : IsTagged p.types) where
    -- the types of lists differ where the rules ask for it
    distinct : (c : ℕ) (t : Type') (k : ListKind) (m : Bool) (cs : List Part) → slice_get p.types c ≡ Some t → t.kind ≡ members k m cs → Distinct p.types k cs
    distinct c t k m cs e f = tagged.distinct c k m cs t.default t.place (is_at p.types c t (members k m cs) e f)

    distinct_tags : (t : ℕ) (k : types.Kind) → IsTypeOf p A C t k → HasDistinctTags s k
    distinct_tags t (types.a_sequence m ds) o =
        let l = components_of o.kind in
        runs o.within l.2 (distinct o.core o.type Sequence m l.0 o.there l.1)
    distinct_tags t (types.a_set m ds) o =
        let l = set_of o.kind in
        subst (AllApart s) (sym (alike_components l.2)) (lists l.0 Set (λ q r. tt) (distinct o.core o.type Set m l.0 o.there l.1))
    distinct_tags t (types.a_choice root m more) o =
        let l = alternatives_of o.kind in
        subst (AllApart s) (sym (alike_alternatives l.2)) (lists l.0 Choice (λ q r. tt) (distinct o.core o.type Choice m l.0 o.there l.1))
    distinct_tags t k o = tt

    pub all_tellable : (t : ℕ) (tags : List Tag) (k : types.Kind) → types.Is s t tags k → HasDistinctTags s k
    all_tellable t tags k is = distinct_tags t k (of.each t (record { tags = tags; kind = k }) is.found)

    pub has_few : (t : ℕ) (tags : List Tag) (k : types.Kind) → types.Is s t tags k → length tags ≤ 6
    has_few t tags k is =
        let h = has t (record { tags = tags; kind = k }) is.found in
        few_standing tags h.path h.same (few_tags (tagged.few t) h.tags)

    -- ---- tags of their own

    has_tag : (t : ℕ) → t < length p.types → (Tags p.types t [] → ⊥) → HasTag s t
    has_tag t l none =
        let h = at s t (omega (arith, of.as_many)) in
        subst (λ o. IsSomeAnd o (λ r. 0 < length r.tags)) (sym h.there) (some h.element.tags (has t h.element h.there).path (has t h.element h.there).same (has t h.element h.there).tags)
      where
        some : (gs : List Tag) (p' : Path) → map label gs ≡ standing p' → Tags p.types t p' → 0 < length gs
        some [] p' e w = absurd (none (subst (λ p'. Tags p.types t p') (none_stands p' e) w))
        some (g ∷ gs) p' e w = omega arith

    module _ (linked : IsLinked p.types) where
      bears : (c : ℕ) (t : Type') (k : ListKind) (m : Bool) (cs : List Part) → slice_get p.types c ≡ Some t → t.kind ≡ members k m cs →
          ((n : ℕ) (c : Part) → slice_get cs n ≡ Some c → Tags p.types c.ty [] → ⊥) →
          (n : ℕ) (c : Part) → slice_get cs n ≡ Some c → HasTag s c.ty
      bears c t k m cs e f b n d h =
          has_tag d.ty (of_all (λ d. d.ty < length p.types) cs n d (linked.parts c k m cs t.default t.place (is_at p.types c t (members k m cs) e f)) h) (b n d h)

      pub components_tagged : (t : ℕ) (tags : List Tag) (m : Bool) (ds : List Component) → types.Is s t tags (types.a_set m ds) → AllByRecursion (λ d. HasTag s d.type) ds
      components_tagged t tags m ds is =
          let o = of.each t (record { tags = tags; kind = types.a_set m ds }) is.found in
          let l = set_of o.kind in
          let b = tagged.bear o.core Set m l.0 o.type.default o.type.place (is_at p.types o.core o.type (members Set m l.0) o.there l.1) in
          each_component p o.within (HasTag s) l.2 (bears o.core o.type Set m l.0 o.there l.1 b)

      pub alternatives_tagged : (t : ℕ) (tags : List Tag) (m : Bool) (root more : List Alternative) → types.Is s t tags (types.a_choice root m more) →
          AllByRecursion (λ a. HasTag s a.type) (root ++ more)
      alternatives_tagged t tags m root more is =
          let o = of.each t (record { tags = tags; kind = types.a_choice root m more }) is.found in
          let l = alternatives_of o.kind in
          let b = tagged.bear o.core Choice m l.0 o.type.default o.type.place (is_at p.types o.core o.type (members Choice m l.0) o.there l.1) in
          let c = bears o.core o.type Choice m l.0 o.there l.1 b in
          all_of (λ a. HasTag s a.type) (root ++ more) (λ i a e. let h = chosen l.0 root more i a l.2 e in subst (HasTag s) (sym h.alike.type) (c i h.part h.there))

  -- ---- additions in order

  later : (Q : ℕ → Type 0) {cs : List Part} {more : List Alternative} → AreAlternativesOf cs [] more →
      ((n : ℕ) (d : Part) → slice_get cs n ≡ Some d → IsAdded d → Q d.ty) → AllByRecursion (λ b. Q b.type) more
  later Q schema_of.no_alternative f = tt
  later Q (schema_of.addition_and {c} g e a as') f = (
    subst Q (sym a.type) (f zero c refl (rw e refl)),
    later Q as' (λ n d h b. f (suc n) d h b),
  )

  ascend : {cs : List Part} {root more : List Alternative} → AreAlternativesOf cs root more →
      ((n : ℕ) (c : Part) → slice_get cs n ≡ Some c → IsInOrder p.types cs n c) → TagsAscend s more
  ascend schema_of.no_alternative f = tt
  ascend (schema_of.root_and e a as') f = ascend as' (λ n c h m d g u l. f (suc n) c h (suc m) d g u (omega arith))
  ascend (schema_of.addition_and {c} {a = b} g e a as') f = (
    later (λ u. (x y : Tag) → firsts.First s b.type x → firsts.First s u y → TagBefore x y) as' (λ n d h w x y v z.
        f (suc n) d h zero c (label x) (label y) (omega arith) refl (rw e refl) w (subst (λ u. CanBeFirst p.types u (label x)) a.type (first_written p A C s of has chosen v)) (first_written p A C s of has chosen z)),
    ascend as' (λ n c h m d g u l. f (suc n) c h (suc m) d g u (omega arith)),
  )

  pub additions_ascend : KeepAdditions p.types → (t : ℕ) (tags : List Tag) (m : Bool) (root more : List Alternative) → types.Is s t tags (types.a_choice root m more) →
      TagsAscend s more
  additions_ascend keep t tags m root more is =
      let o = of.each t (record { tags = tags; kind = types.a_choice root m more }) is.found in
      let l = alternatives_of o.kind in
      ascend l.2 (λ n c h. ((keep o.core n).member Choice m l.0 o.type.default o.type.place c (is_at p.types o.core o.type (members Choice m l.0) o.there l.1) h).ordered refl)
