-- Each type of a settled schema keeps what a schema asks of it, once its parts have their tags.
use Rattle.std.proofs.Common.{◌≡◌, ℕ, zero, suc, ◌<◌, ◌≤◌, Bool, true, false, List, [], ◌∷◌, ◌++◌, length, Option, Some, None, refl, sym, ap, subst, ◌∙◌, arith}
use Rattle.std.specs.Prelude.{◌↔◌, ℤ, map, slice_get}
use Rattle.std.specs.List.{AllByRecursion, All}
use Rattle.std.proofs.lemmas.Option.{same_Some, none-some}
use Rattle.asn_base.specs.Abstract.{AbstractValue}
use Rattle.asn_base.specs.declared.tag.Tag.{Tag}
use Rattle.asn_base.specs.Names.{IsMember}
use Rattle.asn_base.specs.Types.{Component, Resolved, Is}
use Rattle.asn_base.specs.Types as types
use Rattle.asn_base.specs.Typed.{IsValue}
use Rattle.asn_base.specs.Schemas.{HasTag, HasValue, IsSound, TagsAscend}
use Rattle.trees.specs.declared.types.ListKind.{ListKind}
use Rattle.trees.specs.declared.types.ListKind.TheVariants.{Sequence, Set, Choice}
use Rattle.trees.specs.declared.types.ElementsKind.{ElementsKind}
use Rattle.trees.specs.declared.types.ElementsKind.TheVariants.{SequenceOf, SetOf}
use Rattle.trees.specs.Values.{Name, Tree}
use Rattle.trees.specs.Types.{default}
use Rattle.type_table.specs.Items.{additions_of}
use Rattle.type_table.specs.Lists.{IsSoundKind}
use Rattle.type_table.specs.Table.{Part, WrittenKind, Type', members, elements}
use Rattle.names.specs.Names.{IsApart}
use Rattle.type_table.specs.Lists.{AreSound}
use Rattle.resolve.specs.Program.{Program, IsAssignment}
use Rattle.value_notations.specs.Notations.{Notation}
use Rattle.value_notations.specs.Values as values
use Rattle.schema_of.specs.values.Allowing.{Allows, AllowsCode}
use Rattle.spelled.specs.Spelled.{IsSpelledKind}
use Rattle.schema_of.specs.SchemaOf as schema_of
use Rattle.schema_of.specs.SchemaOf.{IsKindOf, IsSchemaOf, AreComponentsOf}
use Rattle.settled.specs.Settled.{IsConstrained, ItemsAscend, IsProgramSchema}
use Rattle.settled.specs.Parts.{IsChecked, HasKeptTags}
use Rattle.settled.proofs.Lists.{place_of}
use Rattle.settled.proofs.Items.{items_kept}
use Rattle.settled.proofs.Cores.{kind_of_core, is_kind}
use Rattle.settled.proofs.Written.{written_component, default_written}
use Rattle.settled.proofs.Members.{ArePlaced, listed, alternatives_in_root, alternatives_after, alternatives_marked, alternative_names, bits_kept}

-- the rules of a type of this kind for the tags of the types in it
abbrev KeepsTags : List Resolved → types.Kind → Type 0
KeepsTags s (types.a_set e cs) = AllByRecursion (λ c. HasTag s c.type) cs
KeepsTags s (types.a_choice root e more) = AllByRecursion (λ a. HasTag s a.type) (root ++ more) × TagsAscend s more
KeepsTags s k = Unit {0}

tags_kept : (s : List Resolved) (t : ℕ) (tags : List Tag) (k : types.Kind) → HasKeptTags s → Is s t tags k → KeepsTags s k
tags_kept s t tags (types.a_set e cs) h is = h.components t tags e cs is
tags_kept s t tags (types.a_choice root e more) h is = (h.alternatives t tags e root more is, h.ascending t tags e root more is)
tags_kept s t tags types.a_boolean h is = tt
tags_kept s t tags (types.an_integer c) h is = tt
tags_kept s t tags (types.an_enumerated root e more) h is = tt
tags_kept s t tags (types.a_bit_string c) h is = tt
tags_kept s t tags (types.a_named_bit_string bs) h is = tt
tags_kept s t tags (types.an_octet_string c) h is = tt
tags_kept s t tags types.a_null h is = tt
tags_kept s t tags types.an_object_identifier h is = tt
tags_kept s t tags types.a_relative_oid h is = tt
tags_kept s t tags (types.a_utf8_string c) h is = tt
tags_kept s t tags (types.a_restricted_string y codes c) h is = tt
tags_kept s t tags (types.a_sequence e cs) h is = tt
tags_kept s t tags (types.a_sequence_of c j) h is = tt
tags_kept s t tags (types.a_set_of c j) h is = tt

-- what is known of a written type that is of this kind
record IsKept (p : Program) (s : List Resolved) (M : Name) (K : WrittenKind) : Type 0 where
  sound : IsSoundKind K
  spelled : IsSpelledKind K
  placed : (l : ListKind) (m : Bool) (cs : List Part) → K ≡ members l m cs → ArePlaced m cs
  inside : (l : ListKind) (m : Bool) (cs : List Part) (n : ℕ) (c : Part) → K ≡ members l m cs → slice_get cs n ≡ Some c → c.ty < length s
  element : (e : ElementsKind) (j : ℕ) → K ≡ elements e j → j < length s
  valued : (l : ListKind) (m : Bool) (cs : List Part) (n : ℕ) (c : Part) (w : Tree) (v : AbstractValue) → K ≡ members l m cs → slice_get cs n ≡ Some c →
      c.presence ≡ default w → Notation p [] M c.ty w v → IsValue s c.ty v

-- a default of the schema is a value
has_value : {p : Program} {s : List Resolved} {M : Name} {l : ListKind} {m : Bool} {cs : List Part} {ds : List Component} → AreComponentsOf p M cs ds → IsKept p s M (members l m cs) →
    (d : Component) → IsMember d ds → HasValue s d
has_value {s} {l} {m} {cs} {ds} a k d h v e =
    let n = place_of d ds h in
    let w = written_component n.0 d a n.1 in
    let x = default_written w.part v w.alike.presence e in
    subst (λ z. IsValue s z v) (sym w.alike.type) (k.valued l m cs n.0 w.part x.notation v refl w.there x.is x.is_so)

kind_sound : {p : Program} {A : ℕ → ℤ → Type 0} {C : ℕ → ℕ → Type 0} {s : List Resolved} {i : ℕ} {M : Name} {K : WrittenKind} {k : types.Kind} →
    IsKindOf p A C i M K k → IsConstrained p K i k → ItemsAscend k → IsKept p s M K → KeepsTags s k → IsSound s k
kind_sound schema_of.boolean c a h t = tt
kind_sound (schema_of.integer f) c a h t = c.numbers refl
kind_sound (schema_of.enumerated {root} {more} {in_root} {added} {marker} f) c a h t = items_kept root more in_root added marker f h.sound h.spelled.0 h.spelled.1 a.0 a.1
kind_sound (schema_of.bits f) c a h t = c.sizes refl
kind_sound {s} (schema_of.named_bits {b} {bs} e) c a h t = subst (λ ns. IsSound s (types.a_named_bit_string ns)) (sym e) (bits_kept b bs h.sound.0 h.sound.1 h.sound.2 h.spelled)
kind_sound (schema_of.octets f) c a h t = c.sizes refl
kind_sound schema_of.null c a h t = tt
kind_sound schema_of.object_identifier c a h t = tt
kind_sound schema_of.relative_oid c a h t = tt
kind_sound (schema_of.utf8 f) c a h t = c.sizes refl
kind_sound (schema_of.restricted g f) c a h t = (c.0.alphabet, c.1.sizes refl)
kind_sound {s} (schema_of.sequence {marker} {cs} {ds} f) c a h t =
    listed cs ds marker f (h.placed Sequence marker cs refl) s h.sound h.spelled.0 (λ n d e. h.inside Sequence marker cs n d refl e) (has_value f h)
kind_sound {s} (schema_of.set {marker} {cs} {ds} f) c a h t =
    (listed cs ds marker f (h.placed Set marker cs refl) s h.sound h.spelled.0 (λ n d e. h.inside Set marker cs n d refl e) (has_value f h), t)
kind_sound (schema_of.sequence_of {j} f) c a h t = record { bounds = c.sizes refl; type = h.element SequenceOf j refl }
kind_sound (schema_of.set_of {j} f) c a h t = record { bounds = c.sizes refl; type = h.element SetOf j refl }
kind_sound (schema_of.choice {marker} {cs} {root} {more} f) c a h t =
    let r = alternatives_in_root f in
    let b = alternatives_after f in
    let some = h.spelled.1 in
    let few = h.sound.root_few in
    let fewer = h.sound.more_few in
    record {
      some = omega (arith, r, some);
      names = alternative_names f h.sound h.spelled.0;
      types = t.0;
      more_ascend = t.1;
      marked = λ e. alternatives_marked marker f (h.placed Choice marker cs refl) e;
      few_root = omega (arith, r, few);
      few_more = omega (arith, b, fewer);
    }

-- what holds of all members of a list holds of the one at a place
one_below : (n : ℕ) (cs : List Part) (j : ℕ) (c : Part) → All (λ c. c.ty < n) cs → slice_get cs j ≡ Some c → c.ty < n
one_below n [] j c a e = absurd (none-some c e)
one_below n (x ∷ cs) zero c a e = subst (λ z. z.ty < n) (same_Some x c e) (a zero x (omega arith))
one_below n (x ∷ cs) (suc j) c a e = one_below n cs j c (λ m d l. a (suc m) d (omega (arith, l))) e

module _ (p : Program) (s : List Resolved) (ok : IsChecked p) (settled : IsProgramSchema p s)
    (one : (M : Name) (i : ℕ) (n : Tree) (v w : AbstractValue) → Notation p [] M i n v → Notation p [] M i n w → v ≡ w)
    (same : (i : ℕ) (v : AbstractValue) → values.IsNotatedValue p (Allows p) (AllowsCode p) i v → IsValue s i v) where
  kept : (c : ℕ) (t : Type') (M x : Name) → slice_get p.types c ≡ Some t → IsAssignment p t.assignment M x → IsKept p s M t.kind
  kept c t M x e is_so =
      let long = settled.types.as_many in
      record {
        sound = ok.sound.lists c t e;
        spelled = ok.spelled c t e;
        placed = λ l m cs q n d g. ((ok.additions c n).member l m cs t.default t.place d (is_kind p.types c t (members l m cs) e q) g).placed;
        inside = λ l m cs n d q g.
            (let b = one_below (length p.types) cs n d (ok.whole.linked.parts c l m cs t.default t.place (is_kind p.types c t (members l m cs) e q)) g in
            omega (arith, b, long));
        element = λ y j q.
            (let b = ok.whole.linked.inner c j y t.default t.place (is_kind p.types c t (elements y j) e q) in omega (arith, b, long));
        valued = λ l m cs n d w v q g is h.
            (let f = ok.defaults c t M x l m cs d e is_so q (n, g) w is in
            same d.ty v (subst (λ z. values.IsNotatedValue p (Allows p) (AllowsCode p) d.ty z) (one M d.ty w f.0 v f.1.is_so h) f.1.value));
      }

  -- each type of the schema keeps what a schema asks of it
  pub sound : HasKeptTags s → (i : ℕ) (tags : List Tag) (k : types.Kind) → Is s i tags k → IsSound s k
  sound h i tags k is =
      let r : Resolved = record { tags = tags; kind = k } in
      let f = settled.types.each i r is.found in
      let g = settled.each i r is.found in
      let q = kind_of_core p.types i f.core f.type g.kind f.chain f.there g.is in
      kind_sound f.kind (subst (λ z. IsConstrained p z i k) q g.constrained) g.items (kept f.core f.type f.within f.assigns f.there f.is_so) (tags_kept s i tags k h is)
