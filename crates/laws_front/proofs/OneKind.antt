-- What a schema has for a written type is determined by the type, but for the ranges of its constraints.
use Rattle.std.proofs.Common.{◌≡◌, ℕ, Bool, true, false, List, [], ◌∷◌, Option, Some, None, refl, sym, ap, subst}
use Rattle.std.proofs.Common.{◌∙◌, arith}
use Rattle.std.proofs.lemmas.Int.{ints}
use Rattle.std.specs.Prelude.{◌↔◌, ℤ, ◌≤ℤ◌}
use Rattle.asn_base.specs.Abstract.{AbstractValue}
use Rattle.asn_base.specs.Schemas.{IsNumber, IsSize, IsLeast, IsGreatest}
use Rattle.asn_base.specs.Types.{Alternative, Bounds, Component, Constraint, Presence, addition}
use Rattle.asn_base.specs.Types as types
use Rattle.trees.specs.declared.types.Standing.TheVariants.{Root, Addition}
use Rattle.trees.specs.Values.{Name, Tree}
use Rattle.trees.specs.Types.{mandatory, optional, default}
use Rattle.type_table.specs.Items.{WrittenItem, additions_of}
use Rattle.type_table.specs.Table.{WrittenKind, Part}
use Rattle.resolve.specs.Program.{Program}
use Rattle.constraints.specs.Allowed.{IsConstraintOf, IsCounted, IsExtensible, IsInRoot}
use Rattle.value_notations.specs.Notations.{Notation}
use Rattle.values.specs.Allowing.{Allows, AllowsCode}
use Rattle.schema_of.specs.SchemaOf.{AreAlternativesOf, AreComponentsOf, AreItemsOf, IsAddedItem, IsAlternativeOf}
use Rattle.schema_of.specs.SchemaOf.{IsComponentOf, IsKindOf, IsPresenceOf, IsRootItem, addition_and, component_and}
use Rattle.schema_of.specs.SchemaOf.{has_default, is_addition, is_mandatory, is_optional, is_optional_addition}
use Rattle.schema_of.specs.SchemaOf.{no_alternative, no_component, root_and}
use Rattle.schema_of.specs.SchemaOf as schema_of
use Rattle.settled.specs.Settled.{IsConstrained, ItemsAscend}
use Rattle.laws_front.specs.OneSchema.{AllowTheSame, IsSameKind}
use Rattle.laws_front.proofs.Lists.{same_codes, same_items}

-- ---- constraints

same_number : (y z : ℤ) → y ≤ℤ z → z ≤ℤ y → y ≡ z
same_number y z l m = omega (arith, ints, l, m)

one_least : (P : ℤ → Type 0) (a b : Option ℤ) → IsLeast P a → IsLeast P b → a ≡ b
one_least P (Some l) (Some m) a b = ap Some (same_number l m (a.1 m b.0) (b.1 l a.0))
one_least P (Some l) None a b = absurd (b l a.1)
one_least P None (Some m) a b = absurd (a m b.1)
one_least P None None a b = refl

one_greatest : (P : ℤ → Type 0) (a b : Option ℤ) → IsGreatest P a → IsGreatest P b → a ≡ b
one_greatest P (Some l) (Some m) a b = ap Some (same_number l m (b.1 l a.0) (a.1 m b.0))
one_greatest P (Some l) None a b = absurd (b l a.1)
one_greatest P None (Some m) a b = absurd (a m b.1)
one_greatest P None None a b = refl

-- a flag that is set exactly if P holds
one_flag : (P : Type 0) (a b : Bool) → (a ≡ true ↔ P) → (b ≡ true ↔ P) → a ≡ b
one_flag P true b f g = sym (g.1 (f.0 refl))
one_flag P false true f g = f.1 (g.0 refl)
one_flag P false false f g = refl

-- a flag that is not set exactly if P holds
one_lack : (P : Type 0) (a b : Bool) → (a ≡ false ↔ P) → (b ≡ false ↔ P) → a ≡ b
one_lack P false b f g = sym (g.1 (f.0 refl))
one_lack P true false f g = f.1 (g.0 refl)
one_lack P true true f g = refl

same_bounds : (a b : Bounds)
    → a.least ≡ b.least
    → a.greatest ≡ b.greatest
    → a.extensible ≡ b.extensible
    → a ≡ b
same_bounds a b e f g =
    ap (λ (l : Option ℤ). record { least = l; greatest = a.greatest; extensible = a.extensible }) e
    ∙ ap (λ (h : Option ℤ). record { least = b.least; greatest = h; extensible = a.extensible }) f
    ∙ ap (λ (x : Bool). record { least = b.least; greatest = b.greatest; extensible = x }) g

lemma_one_constraint : (p : Program) (k : WrittenKind) (i : ℕ) (P : ℤ → Type 0) (c d : Constraint)
    → ((z : ℤ) → P z → IsCounted k z)
    → IsConstraintOf p k i c
    → IsConstraintOf p k i d
    → AllowTheSame P c d
lemma_one_constraint p k i P c d counts a b = record {
  allowed = λ z h. (
    λ w. (b.allowed z (counts z h)).1 ((a.allowed z (counts z h)).0 w),
    λ w. (a.allowed z (counts z h)).1 ((b.allowed z (counts z h)).0 w),
  );
  visible = same_bounds c.visible d.visible
      (one_least (IsInRoot p k i) c.visible.least d.visible.least a.visible.least b.visible.least)
      (one_greatest (IsInRoot p k i) c.visible.greatest d.visible.greatest a.visible.greatest b.visible.greatest)
      (one_flag (IsExtensible p i) c.visible.extensible d.visible.extensible a.visible.extensible b.visible.extensible);
}

-- ---- items

one_enumeration : (root : List WrittenItem) (more : Option (List WrittenItem)) (is js as' bs : List types.Item)
    (m n : Bool)
    → AreItemsOf root more is m as'
    → AreItemsOf root more js n bs
    → ItemsAscend (types.an_enumerated is m as')
    → ItemsAscend (types.an_enumerated js n bs)
    → types.an_enumerated is m as' ≡ types.an_enumerated js n bs
one_enumeration root more is js as' bs m n a b o q =
    let e = same_items is js (λ i. IsRootItem root (additions_of more) i.name i.number) o.0 q.0
    (λ i. a.roots i.name i.number)
    (λ i. b.roots i.name i.number) in
    let f = same_items as' bs (λ i. IsAddedItem root (additions_of more) i.name i.number) o.1 q.1
    (λ i. a.additions i.name i.number)
    (λ i. b.additions i.name i.number) in
    let g = one_lack (more ≡ None) m n a.marked b.marked in
    ap (λ (x : List types.Item). types.an_enumerated x m as') e
    ∙ ap (λ (x : Bool). types.an_enumerated js x as') g
    ∙ ap (λ (x : List types.Item). types.an_enumerated js n x) f

-- ---- components

-- a notation stands for at most one value
abbrev pub OneNotation : Program → Type 0
OneNotation p = (M : Name) (i : ℕ) (n : Tree) (v w : AbstractValue) →
    Notation p [] M i n v →
    Notation p [] M i n w →
    v ≡ w

not_in_root : {X : Type 0} (c : Part) (g : Option ℕ) → c.standing ≡ Root → c.standing ≡ Addition g → X
not_in_root c g e f = absurd (let q = sym e ∙ f in cc)

not_optional : {X : Type 0} (c : Part) → c.presence ≡ mandatory → c.presence ≡ optional → X
not_optional c e f = absurd (let q = sym e ∙ f in cc)

no_default : {X : Type 0} (c : Part) (n : Tree) → c.presence ≡ mandatory → c.presence ≡ default n → X
no_default c n e f = absurd (let q = sym e ∙ f in cc)

not_of_both : {X : Type 0} (c : Part) (n : Tree) → c.presence ≡ optional → c.presence ≡ default n → X
not_of_both c n e f = absurd (let q = sym e ∙ f in cc)

one_default : (c : Part) (n m : Tree) → c.presence ≡ default n → c.presence ≡ default m → m ≡ n
one_default c n m e f = let q : default n ≡ default m = sym e ∙ f in let r : m ≡ n = cc in r

one_group : (c : Part) (g h : Option ℕ) → c.standing ≡ Addition g → c.standing ≡ Addition h → g ≡ h
one_group c g h e f = let q : Addition g ≡ Addition h = sym e ∙ f in let r : g ≡ h = cc in r

one_presence : {p : Program} {M : Name} (c : Part) {q r : Presence}
    → OneNotation p
    → IsPresenceOf p M c q
    → IsPresenceOf p M c r
    → q ≡ r
one_presence c one (is_mandatory e f) (is_mandatory g h) = refl
one_presence c one (is_mandatory e f) (is_optional g h) = not_optional c f h
one_presence c one (is_mandatory e f) (has_default {n} g h v) = no_default c n f h
one_presence c one (is_mandatory e f) (is_addition {g = k} g h) = not_in_root c k e g
one_presence c one (is_mandatory e f) (is_optional_addition {g = k} g h) = not_in_root c k e g
one_presence c one (is_optional e f) (is_mandatory g h) = not_optional c h f
one_presence c one (is_optional e f) (is_optional g h) = refl
one_presence c one (is_optional e f) (has_default {n} g h v) = not_of_both c n f h
one_presence c one (is_optional e f) (is_addition {g = k} g h) = not_in_root c k e g
one_presence c one (is_optional e f) (is_optional_addition {g = k} g h) = not_in_root c k e g
one_presence c one (has_default {n} e f u) (is_mandatory g h) = no_default c n h f
one_presence c one (has_default {n} e f u) (is_optional g h) = not_of_both c n h f
one_presence {p} {M} c one (has_default {n} {d} e f u) (has_default {n = m} {d = w} g h v) =
    ap types.default (one M c.ty n d w u (subst (λ x. Notation p [] M c.ty x w) (one_default c n m f h) v))
one_presence c one (has_default {n} e f u) (is_addition {g = k} g h) = not_in_root c k e g
one_presence c one (has_default {n} e f u) (is_optional_addition {g = k} g h) = not_in_root c k e g
one_presence c one (is_addition {g = k} e f) (is_mandatory g h) = not_in_root c k g e
one_presence c one (is_addition {g = k} e f) (is_optional g h) = not_in_root c k g e
one_presence c one (is_addition {g = k} e f) (has_default {n} g h v) = not_in_root c k g e
one_presence c one (is_addition {g = k} e f) (is_addition {g = l} g h) = ap (addition false) (one_group c k l e g)
one_presence c one (is_addition {g = k} e f) (is_optional_addition {g = l} g h) = not_optional c f h
one_presence c one (is_optional_addition {g = k} e f) (is_mandatory g h) = not_in_root c k g e
one_presence c one (is_optional_addition {g = k} e f) (is_optional g h) = not_in_root c k g e
one_presence c one (is_optional_addition {g = k} e f) (has_default {n} g h v) = not_in_root c k g e
one_presence c one (is_optional_addition {g = k} e f) (is_addition {g = l} g h) = not_optional c h f
one_presence c one (is_optional_addition {g = k} e f) (is_optional_addition {g = l} g h) =
    ap (addition true) (one_group c k l e g)

one_component : {p : Program} {M : Name} (c : Part) (d e : Component)
    → OneNotation p
    → IsComponentOf p M c d
    → IsComponentOf p M c e
    → d ≡ e
one_component c d e one a b =
    ap (λ (x : Name). record { name = x; type = d.type; presence = d.presence }) (a.name ∙ sym b.name)
    ∙ ap (λ (x : ℕ). record { name = e.name; type = x; presence = d.presence }) (a.type ∙ sym b.type)
    ∙ ap (λ (x : Presence). record { name = e.name; type = e.type; presence = x })
    (one_presence c one a.presence b.presence)

one_row : {p : Program} {M : Name} {cs : List Part} {ds es : List Component}
    → OneNotation p
    → AreComponentsOf p M cs ds
    → AreComponentsOf p M cs es
    → ds ≡ es
one_row one no_component no_component = refl
one_row one (component_and {c} {d} {ds} a as') (component_and {d = e} {ds = es} b bs) =
    ap (λ w. w ∷ ds) (one_component c d e one a b) ∙ ap (λ ws. e ∷ ws) (one_row one as' bs)

-- ---- alternatives

one_alternative : (c : Part) (a b : Alternative) → IsAlternativeOf c a → IsAlternativeOf c b → a ≡ b
one_alternative c a b e f =
    ap (λ (x : Name). record { name = x; type = a.type }) (e.name ∙ sym f.name)
    ∙ ap (λ (x : ℕ). record { name = b.name; type = x }) (e.type ∙ sym f.type)

one_choice : {cs : List Part} {as' more bs others : List Alternative}
    → AreAlternativesOf cs as' more
    → AreAlternativesOf cs bs others
    → (as' ≡ bs) × (more ≡ others)
one_choice no_alternative no_alternative = (refl, refl)
one_choice (root_and {c} {a} {root} st e r) (root_and {a = b} {root = bs} su f q) =
    let t = one_choice r q in
    (ap (λ w. w ∷ root) (one_alternative c a b e f) ∙ ap (λ ws. b ∷ ws) t.0, t.1)
one_choice (root_and {c} st e r) (addition_and g su f q) = not_in_root c g st su
one_choice (addition_and {c} g st e r) (root_and su f q) = not_in_root c g su st
one_choice (addition_and {c} {a} {more} g st e r) (addition_and {a = b} {more = others} h su f q) =
    let t = one_choice r q in
    (refl, ap (λ w. w ∷ more) (one_alternative c a b e f) ∙ ap (λ ws. b ∷ ws) t.1)

-- ---- kinds

sizes : (z : ℤ) → IsSize z → IsSize z
sizes z h = h

pub one_kind : (p : Program) (i : ℕ) (M : Name) (j : WrittenKind) (k l : types.Kind)
    → OneNotation p
    → IsKindOf p (Allows p) (AllowsCode p) i M j k
    → IsKindOf p (Allows p) (AllowsCode p) i M j l
    → IsConstrained p j i k
    → IsConstrained p j i l
    → ItemsAscend k
    → ItemsAscend l
    → IsSameKind k l
one_kind p i M j k l one schema_of.boolean schema_of.boolean x y m n = refl
one_kind p i M j k l one (schema_of.integer {c} f) (schema_of.integer {c = d} g) x y m n =
    lemma_one_constraint p j i IsNumber c d (λ z h. tt) x y
one_kind p i M j k l one
    (schema_of.enumerated {root} {more} {in_root} {added} {marker} a)
    (schema_of.enumerated {in_root = js} {added = bs} {marker = w} b)
    x
    y
    m
    n =
    one_enumeration root more in_root js added bs marker w a b m n
one_kind p i M j k l one (schema_of.bits {c} f) (schema_of.bits {c = d} g) x y m n =
    lemma_one_constraint p j i IsSize c d sizes x y
one_kind p i M j k l one (schema_of.named_bits {ns} e) (schema_of.named_bits {ns = ms} f) x y m n =
    ap types.a_named_bit_string (e ∙ sym f)
one_kind p i M j k l one (schema_of.octets {c} f) (schema_of.octets {c = d} g) x y m n =
    lemma_one_constraint p j i IsSize c d sizes x y
one_kind p i M j k l one schema_of.null schema_of.null x y m n = refl
one_kind p i M j k l one schema_of.object_identifier schema_of.object_identifier x y m n = refl
one_kind p i M j k l one schema_of.relative_oid schema_of.relative_oid x y m n = refl
one_kind p i M j k l one (schema_of.utf8 {c} f) (schema_of.utf8 {c = d} g) x y m n =
    lemma_one_constraint p j i IsSize c d sizes x y
one_kind p i M j k l one
    (schema_of.restricted {codes} {c} f u)
    (schema_of.restricted {codes = others} {c = d} g v)
    x
    y
    m
    n = (
      refl,
      same_codes codes others (AllowsCode p i) x.0.alphabet.ascend y.0.alphabet.ascend f g,
      lemma_one_constraint p j i IsSize c d sizes x.1 y.1,
    )
one_kind p i M j k l one (schema_of.sequence {marker} {ds} a) (schema_of.sequence {ds = es} b) x y m n =
    ap (types.a_sequence marker) (one_row one a b)
one_kind p i M j k l one (schema_of.set {marker} {ds} a) (schema_of.set {ds = es} b) x y m n =
    ap (types.a_set marker) (one_row one a b)
one_kind p i M j k l one (schema_of.sequence_of {c} f) (schema_of.sequence_of {c = d} g) x y m n =
    (refl, lemma_one_constraint p j i IsSize c d sizes x y)
one_kind p i M j k l one (schema_of.set_of {c} f) (schema_of.set_of {c = d} g) x y m n =
    (refl, lemma_one_constraint p j i IsSize c d sizes x y)
one_kind p i M j k l one
    (schema_of.choice {marker} {root} {more} a)
    (schema_of.choice {root = roots} {more = others} b)
    x
    y
    m
    n =
    let t = one_choice a b in
    ap (λ (r : List Alternative). types.a_choice r marker more) t.0
    ∙ ap (λ (r : List Alternative). types.a_choice roots marker r) t.1
