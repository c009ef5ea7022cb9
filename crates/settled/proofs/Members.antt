-- The components and the alternatives of a settled schema, and bits with names, keep what a schema asks of them.
use Rattle.std.proofs.Common.{◌≡◌, ℕ, zero, suc, ◌+◌, ◌<◌, ◌≤◌, Bool, true, false, List, [], ◌∷◌, ◌++◌, length, Option, Some, None, refl, sym, ap, subst, ◌∙◌, arith, inl, inr}
use Rattle.std.specs.Prelude.{◌⊎◌, map, slice_get}
use Rattle.std.specs.List.{AllByRecursion}
use Rattle.std.proofs.lemmas.Option.{same_Some, none-some}
use Rattle.asn_base.specs.Names.{IsMember, is_first, is_later, AreDistinct, AreNames, IsIdentifier}
use Rattle.asn_base.specs.Types.{Component, Alternative, NamedBit, Presence, Resolved}
use Rattle.asn_base.specs.Types as types
use Rattle.asn_base.specs.Typed.{group_of, IsOfGroup}
use Rattle.asn_base.specs.Schemas.{HasValue, GroupsTogether, AreListed, AreNamedBits}
use Rattle.asn_base.specs.Schemas.{is_addition as adds}
use Rattle.trees.specs.declared.types.Standing.{Standing}
use Rattle.trees.specs.declared.types.Standing.TheVariants.{Root, Addition}
use Rattle.trees.specs.Values.{Name}
use Rattle.names.specs.Modules.{OccursIn}
use Rattle.names.specs.Modules as modules
use Rattle.type_table.specs.Lists.{in_root, in_additions, root_count, addition_count, IsSoundList}
use Rattle.type_table.specs.Table.{Part}
use Rattle.resolve.specs.Program.{Program}
use Rattle.tagging.specs.First.{is_added_member as occurs_after}
use Rattle.additions.specs.Additions.{IsAdded, IsPlaced}
use Rattle.schema_of.specs.SchemaOf as schema_of
use Rattle.schema_of.specs.SchemaOf.{IsPresenceOf, is_mandatory, is_optional, has_default, is_optional_addition, AreComponentsOf, no_component, component_and, AreAlternativesOf, no_alternative, root_and, addition_and, schema_bit}
use Rattle.settled.proofs.Lists.{place_of, of_back, all_members, value_of, less_or_more, none_twice}
use Rattle.settled.proofs.Written.{written_component}

-- ---- the place of a component

abbrev added : Presence → Bool
added q = adds (record { name = []; type = 0; presence = q })

root_standing : {p : Program} {M : Name} {q : Presence} (c : Part) → IsPresenceOf p M c q → added q ≡ false → c.standing ≡ Root
root_standing c (is_mandatory f g) e = f
root_standing c (is_optional f g) e = f
root_standing c (has_default f g h) e = f
root_standing c (schema_of.is_addition f g) e = absurd cc
root_standing c (is_optional_addition f g) e = absurd cc

added_standing : {p : Program} {M : Name} {q : Presence} (c : Part) → IsPresenceOf p M c q → added q ≡ true → (g : Option ℕ) × (c.standing ≡ Addition g)
added_standing c (is_mandatory f g) e = absurd cc
added_standing c (is_optional f g) e = absurd cc
added_standing c (has_default f g h) e = absurd cc
added_standing c (schema_of.is_addition {g = k} f g) e = (k, f)
added_standing c (is_optional_addition {g = k} f g) e = (k, f)

no_root : (s : Standing) → s ≡ Root → occurs_after s ≡ true → ⊥
no_root s f h = absurd (let e : false ≡ true = sym (ap occurs_after f) ∙ h in cc)

written_added : {p : Program} {M : Name} {q : Presence} (c : Part) → IsPresenceOf p M c q → added q ≡ true → IsAdded c
written_added c a e = ap occurs_after (added_standing c a e).1

resolved_added : {p : Program} {M : Name} {q : Presence} (c : Part) → IsPresenceOf p M c q → IsAdded c → added q ≡ true
resolved_added c (is_mandatory f g) e = absurd (no_root c.standing f e)
resolved_added c (is_optional f g) e = absurd (no_root c.standing f e)
resolved_added c (has_default f g h) e = absurd (no_root c.standing f e)
resolved_added c (schema_of.is_addition f g) e = refl
resolved_added c (is_optional_addition f g) e = refl

-- ---- its group

written_group : {p : Program} {M : Name} {q : Presence} (c : Part) (n : ℕ) → IsPresenceOf p M c q → group_of q ≡ Some n → c.standing ≡ Addition (Some n)
written_group c n (is_mandatory f g) e = absurd (none-some n e)
written_group c n (is_optional f g) e = absurd (none-some n e)
written_group c n (has_default f g h) e = absurd (none-some n e)
written_group c n (schema_of.is_addition f g) e = f ∙ ap Addition e
written_group c n (is_optional_addition f g) e = f ∙ ap Addition e

no_root_group : (s : Standing) (n : ℕ) → s ≡ Root → s ≡ Addition (Some n) → ⊥
no_root_group s n f e = absurd (let g = sym f ∙ e in cc)

same_group : (s : Standing) (g : Option ℕ) (n : ℕ) → s ≡ Addition g → s ≡ Addition (Some n) → g ≡ Some n
same_group s g n f e = let h = sym f ∙ e in cc

resolved_group : {p : Program} {M : Name} {q : Presence} (c : Part) (n : ℕ) → IsPresenceOf p M c q → c.standing ≡ Addition (Some n) → group_of q ≡ Some n
resolved_group c n (is_mandatory f g) e = absurd (no_root_group c.standing n f e)
resolved_group c n (is_optional f g) e = absurd (no_root_group c.standing n f e)
resolved_group c n (has_default f g h) e = absurd (no_root_group c.standing n f e)
resolved_group c n (schema_of.is_addition {g = k} f g) e = same_group c.standing k n f e
resolved_group c n (is_optional_addition {g = k} f g) e = same_group c.standing k n f e

-- ---- root, then additions

-- after an addition there are only additions
abbrev AreInOrder : List Component → Type 0
AreInOrder ds = (m n : ℕ) (d e : Component) → m < n → slice_get ds m ≡ Some d → slice_get ds n ≡ Some e → adds d ≡ true → adds e ≡ true

-- a component between two of a group is of the group
abbrev AreTogether : List Component → Type 0
AreTogether ds = (l m n g : ℕ) (d e b : Component) → l < m → m < n → slice_get ds l ≡ Some d → slice_get ds m ≡ Some e → slice_get ds n ≡ Some b → IsOfGroup g d → IsOfGroup g b → IsOfGroup g e

record Split (cs : List Part) (ds : List Component) : Type 0 where
  root : List Component
  more : List Component
  parts : ds ≡ root ++ more
  in_root : AllByRecursion (λ c. adds c ≡ false) root
  following : AllByRecursion (λ c. adds c ≡ true) more
  few_root : length root ≤ root_count cs
  few_more : length more ≤ addition_count cs

all_added : {p : Program} {M : Name} {cs : List Part} {ds : List Component} → AreComponentsOf p M cs ds → AllByRecursion (λ c. adds c ≡ true) ds → length ds ≤ addition_count cs
all_added no_component h = omega arith
all_added (component_and {c} a as') h =
    let s = added_standing c a.presence h.0 in
    let e : in_additions c.standing ≡ 1 = ap in_additions s.1 in
    let f = all_added as' h.1 in
    omega (arith, e, f)

split : {p : Program} {M : Name} {cs : List Part} {ds : List Component} → AreComponentsOf p M cs ds → AreInOrder ds → Split cs ds
split no_component o = record { root = []; more = []; parts = refl; in_root = tt; following = tt; few_root = omega arith; few_more = omega arith }
split (component_and {c} {cs} {d} {ds} a as') o =
    go (adds d) refl (split as' (λ m n x y l e g. o (suc m) (suc n) x y (omega (arith, l)) e g))
  where
    following : adds d ≡ true → AllByRecursion (λ c. adds c ≡ true) (d ∷ ds)
    following e = (e, all_members (λ c. adds c ≡ true) ds (λ b m. (let n = place_of b ds m in o 0 (suc n.0) d b (omega arith) refl n.1 e)))

    go : (b : Bool) → adds d ≡ b → Split cs ds → Split (c ∷ cs) (d ∷ ds)
    go true e r = record { root = []; more = d ∷ ds; parts = refl; in_root = tt; following = following e; few_root = omega arith; few_more = all_added (component_and a as') (following e) }
    go false e r =
        let s : in_root c.standing ≡ 1 = ap in_root (root_standing c a.presence e) in
        let f = r.few_root in
        let g = r.few_more in
        record {
          root = d ∷ r.root;
          more = r.more;
          parts = ap (λ z. d ∷ z) r.parts;
          in_root = (e, r.in_root);
          following = r.following;
          few_root = omega (arith, s, f);
          few_more = omega (arith, g);
        }

-- ---- groups

equal_or_not : (m n : ℕ) → (m ≡ n) ⊎ ((m ≡ n) → ⊥)
equal_or_not m n = elim (less_or_more m n) [ inl e ↦ inl e | inr h ↦ elim h [ inl l ↦ inr (λ e. omega (arith, l, e)) | inr l ↦ inr (λ e. omega (arith, l, e)) ] ]

decided : (o : Option ℕ) (g : ℕ) → (o ≡ Some g) ⊎ ((o ≡ Some g) → ⊥)
decided None g = inr (λ e. none-some g e)
decided (Some h) g = elim (equal_or_not h g) [ inl e ↦ inl (ap Some e) | inr n ↦ inr (λ e. n (same_Some h g e)) ]

one_on : (c : Component) (ds : List Component) → AreTogether (c ∷ ds) → AreTogether ds
one_on c ds t l m n g d e b i j x y z u v = t (suc l) (suc m) (suc n) g d e b (omega (arith, i)) (omega (arith, j)) x y z u v

after_root : (root more : List Component) → AreTogether (root ++ more) → AreTogether more
after_root [] more t = t
after_root (c ∷ root) more t = after_root root more (one_on c (root ++ more) t)

groups_together : (ds : List Component) → AreTogether ds → GroupsTogether ds
groups_together [] t = tt
groups_together (c ∷ []) t = tt
groups_together (c ∷ d ∷ cs) t = (λ g h. go g h (decided (group_of d.presence) g), groups_together (d ∷ cs) (one_on c (d ∷ cs) t))
  where
    go : (g : ℕ) → IsOfGroup g c → (group_of d.presence ≡ Some g) ⊎ ((group_of d.presence ≡ Some g) → ⊥) →
        IsOfGroup g d ⊎ AllByRecursion (λ b. IsOfGroup g b → ⊥) (d ∷ cs)
    go g h (inl e) = inl e
    go g h (inr differs) = inr (differs, all_members (λ b. IsOfGroup g b → ⊥) cs (λ b m k. (let n = place_of b cs m in differs (t 0 1 (suc (suc n.0)) g c d b (omega arith) (omega arith) refl refl n.1 h k))))

-- ---- components

same_names : {p : Program} {M : Name} {cs : List Part} {ds : List Component} → AreComponentsOf p M cs ds → map (λ d. d.name) ds ≡ map (λ c. c.name) cs
same_names no_component = refl
same_names (component_and {c} {cs} {d} {ds} a as') = ap (λ x. x ∷ map (λ d. d.name) ds) a.name ∙ ap (λ xs. c.name ∷ xs) (same_names as')

-- names of the program are names of a schema
names_kept : (xs ys : List Name) → xs ≡ ys → AllByRecursion IsIdentifier ys → modules.AreDifferent ys → AreNames xs
names_kept xs ys e i d = subst AreNames (sym e) (record { identifiers = i; distinct = none_twice ys d })

-- all members of a written list are where they may be
abbrev pub ArePlaced : Bool → List Part → Type 0
ArePlaced marker cs = (n : ℕ) (c : Part) → slice_get cs n ≡ Some c → IsPlaced marker cs n c

true_or_false : (b : Bool) → b ≡ true → b ≡ false → ⊥
true_or_false b e f = absurd (let g = sym e ∙ f in cc)

module _ {p : Program} {M : Name} (cs : List Part) (ds : List Component) (marker : Bool) (a : AreComponentsOf p M cs ds) (placed : ArePlaced marker cs) where
  in_order : AreInOrder ds
  in_order m n d e l x y h =
      let u = written_component m d a x in
      let v = written_component n e a y in
      resolved_added v.part v.alike.presence ((placed n v.part v.there).following m u.part l u.there (written_added u.part u.alike.presence h))

  together : AreTogether ds
  together l m n g d e b i j x y z h k =
      let u = written_component l d a x in
      let v = written_component m e a y in
      let w = written_component n b a z in
      resolved_group v.part g v.alike.presence
      ((placed n w.part w.there).together l m g u.part v.part i j u.there v.there (written_group u.part g u.alike.presence h) (written_group w.part g w.alike.presence k))

  none_after : marker ≡ false → (more : List Component) → ((d : Component) → IsMember d more → IsMember d ds) → AllByRecursion (λ c. adds c ≡ true) more → more ≡ []
  none_after e [] f h = refl
  none_after e (d ∷ more) f h =
      let n = place_of d ds (f d is_first) in
      let w = written_component n.0 d a n.1 in
      absurd (true_or_false marker ((placed n.0 w.part w.there).marked (written_added w.part w.alike.presence h.0)) e)

  pub listed : (s : List Resolved) → IsSoundList cs → AllByRecursion IsIdentifier (map (λ (c : Part). c.name) cs) →
      ((n : ℕ) (c : Part) → slice_get cs n ≡ Some c → c.ty < length s) → ((d : Component) → IsMember d ds → HasValue s d) → AreListed s marker ds
  listed s sound spelled inside values =
      let r = split a in_order in
      let f = r.few_root in
      let g = r.few_more in
      let i = sound.root_few in
      let j = sound.more_few in
      record {
        root = r.root;
        more = r.more;
        parts = r.parts;
        in_root = r.in_root;
        behind = r.following;
        groups = groups_together r.more (after_root r.root r.more (subst AreTogether r.parts together));
        marked = λ e. none_after e r.more (λ d m. subst (IsMember d) (sym r.parts) (of_back d r.root r.more m)) r.following;
        few_root = omega (arith, f, i);
        few_more = omega (arith, g, j);
        names = names_kept (map (λ d. d.name) ds) (map (λ c. c.name) cs) (same_names a) spelled sound.names;
        types = all_members (λ d. d.type < length s) ds (λ d m. (
            let n = place_of d ds m in
            let w = written_component n.0 d a n.1 in
            subst (λ z. z < length s) (sym w.alike.type) (inside n.0 w.part w.there)));
        defaults = all_members (HasValue s) ds values;
      }

-- ---- alternatives

pub same_alternative_names : {cs : List Part} {root more : List Alternative} → AreAlternativesOf cs root more → map (λ a. a.name) (root ++ more) ≡ map (λ c. c.name) cs
same_alternative_names no_alternative = refl
same_alternative_names (root_and {c} {root} {more} f h hs) = ap (λ x. x ∷ map (λ a. a.name) (root ++ more)) h.name ∙ ap (λ xs. c.name ∷ xs) (same_alternative_names hs)
same_alternative_names (addition_and {c} {more} g f h hs) = ap (λ x. x ∷ map (λ a. a.name) more) h.name ∙ ap (λ xs. c.name ∷ xs) (same_alternative_names hs)

pub alternatives_in_root : {cs : List Part} {root more : List Alternative} → AreAlternativesOf cs root more → root_count cs ≡ length root
alternatives_in_root no_alternative = refl
alternatives_in_root (root_and f h hs) = let s : in_root _ ≡ 1 = ap in_root f in let e = alternatives_in_root hs in omega (arith, s, e)
alternatives_in_root (addition_and g f h hs) = let s : in_root _ ≡ 0 = ap in_root f in let e = alternatives_in_root hs in omega (arith, s, e)

pub alternatives_after : {cs : List Part} {root more : List Alternative} → AreAlternativesOf cs root more → addition_count cs ≡ length more
alternatives_after no_alternative = refl
alternatives_after (root_and f h hs) = let s : in_additions _ ≡ 0 = ap in_additions f in let e = alternatives_after hs in omega (arith, s, e)
alternatives_after (addition_and g f h hs) = let s : in_additions _ ≡ 1 = ap in_additions f in let e = alternatives_after hs in omega (arith, s, e)

none_added : {cs : List Part} {root more : List Alternative} → AreAlternativesOf cs root more → ((n : ℕ) (c : Part) → slice_get cs n ≡ Some c → IsAdded c → ⊥) → more ≡ []
none_added no_alternative none = refl
none_added (root_and f h hs) none = none_added hs (λ n c e. none (suc n) c e)
none_added (addition_and {c} g f h hs) none = absurd (none 0 c refl (ap occurs_after f))

pub alternatives_marked : {cs : List Part} {root more : List Alternative} (marker : Bool) → AreAlternativesOf cs root more → ArePlaced marker cs → marker ≡ false → more ≡ []
alternatives_marked marker a placed e = none_added a (λ n c g h. true_or_false marker ((placed n c g).marked h) e)

pub alternative_names : {cs : List Part} {root more : List Alternative} → AreAlternativesOf cs root more → IsSoundList cs → AllByRecursion IsIdentifier (map (λ (c : Part). c.name) cs) →
    AreNames (map (λ a. a.name) (root ++ more))
alternative_names {cs} {root} {more} a sound spelled = names_kept (map (λ a. a.name) (root ++ more)) (map (λ c. c.name) cs) (same_alternative_names a) spelled sound.names

-- ---- bits with names

bit_names : (bs : List (Name × ℕ)) → map (λ (n : NamedBit). n.name) (map schema_bit bs) ≡ map (λ b. b.0) bs
bit_names [] = refl
bit_names (b ∷ bs) = ap (λ xs. b.0 ∷ xs) (bit_names bs)

bit_places : (bs : List (Name × ℕ)) → map (λ (n : NamedBit). n.place) (map schema_bit bs) ≡ map (λ b. b.1) bs
bit_places [] = refl
bit_places (b ∷ bs) = ap (λ xs. b.1 ∷ xs) (bit_places bs)

pub bits_kept : (b : Name × ℕ) (bs : List (Name × ℕ)) → modules.AreDifferent (map (λ b. b.0) (b ∷ bs)) → modules.AreDifferent (map (λ b. b.1) (b ∷ bs)) →
    ((i : ℕ) (c : Name × ℕ) → slice_get (b ∷ bs) i ≡ Some c → c.1 ≤ 65535) → AllByRecursion IsIdentifier (map (λ b. b.0) (b ∷ bs)) → AreNamedBits (map schema_bit (b ∷ bs))
bits_kept b bs names places few spelled = record {
  some = omega arith;
  names = names_kept (map (λ n. n.name) (map schema_bit (b ∷ bs))) (map (λ b. b.0) (b ∷ bs)) (bit_names (b ∷ bs)) spelled names;
  places = subst distinct (sym (bit_places (b ∷ bs))) (none_twice (map (λ b. b.1) (b ∷ bs)) places);
  limits = all_members (λ n. n.place ≤ 65535) (map schema_bit (b ∷ bs)) (λ n m. (
      let v = value_of schema_bit (b ∷ bs) n m in
      let i = place_of v.argument (b ∷ bs) v.member in
      subst (λ (z : NamedBit). z.place ≤ 65535) v.same (few i.0 v.argument i.1)));
}
  where
    distinct : List ℕ → Type 0
    distinct = AreDistinct
