-- No component with a DEFAULT of a settled schema leads back to the list of components that it is in.
use Rattle.std.proofs.Common.{◌≡◌, ℕ, List, [], ◌∷◌, length, Option, Some, None, refl, sym, ap, subst, ◌∙◌}
use Rattle.std.specs.Prelude.{ℤ, slice_get}
use Rattle.std.proofs.lemmas.Option.{same_Some}
use Rattle.asn_base.specs.declared.tag.Tag.{Tag}
use Rattle.asn_base.specs.Names.{IsMember}
use Rattle.asn_base.specs.Types.{Component, Resolved, Is}
use Rattle.asn_base.specs.Types as types
use Rattle.asn_base.specs.Schemas.{components, PathLeadsTo, leads_itself, leads_onward}
use Rattle.asn_base.specs.Schemas as schemas
use Rattle.trees.specs.Values.{Name}
use Rattle.type_table.specs.Table.{Part, WrittenKind, Type', members, HasPlaces}
use Rattle.circles.specs.Circles.{Reaches, itself, onward, NoDefaultCircles}
use Rattle.resolve.specs.Program.{Program}
use Rattle.schema_of.specs.SchemaOf.{IsSchemaOf, IsTypeOf}
use Rattle.settled.proofs.Lists.{place_of}
use Rattle.settled.proofs.Cores.{joined, reaches_core, is_kind}
use Rattle.settled.proofs.Written.{part_of, IsListWith, list_with, default_written}

module _ (p : Program) (A : ℕ → ℤ → Type 0) (C : ℕ → ℕ → Type 0) (s : List Resolved) (of : IsSchemaOf p A C s) (places : HasPlaces p.types) where
  -- the written type leads where the type of the schema does
  record IsReached (k : types.Kind) (t : ℕ) : Type 0 where
    end : ℕ
    tags : List Tag
    is : Is s end tags k
    reached : Reaches p.types t end

  reached : (k : types.Kind) (t : ℕ) → PathLeadsTo s k t → IsReached k t
  reached k t (leads_itself {tags} is) = record { end = t; tags = tags; is = is; reached = itself }
  reached k t (leads_onward {u} {tags} {m} is h l) =
      let f = of.each t (record { tags = tags; kind = m }) is.found in
      let r = reached k u l in
      record {
        end = r.end;
        tags = r.tags;
        is = r.is;
        reached = joined (reaches_core p.types t f.core f.chain) (onward u f.type f.there (part_of u f.kind h) r.reached);
      }

  -- Two lists of the program of which the schema has the same component at the same place are one: a type is a member
  -- of one list alone.
  one_list : (n : ℕ) (d : Component) (c e : ℕ) (t u : Type') (M N : Name) → slice_get p.types c ≡ Some t → slice_get p.types e ≡ Some u →
      IsListWith p M t.kind n d → IsListWith p N u.kind n d → c ≡ e
  one_list n d c e t u M N a b f g =
      let x = places c n f.list f.marker f.parts t.default t.place f.at_place.part (is_kind p.types c t (members f.list f.marker f.parts) a f.is) f.at_place.there in
      let y = places e n g.list g.marker g.parts u.default u.place g.at_place.part (is_kind p.types e u (members g.list g.marker g.parts) b g.is) g.at_place.there in
      let same : f.at_place.part.ty ≡ g.at_place.part.ty = sym f.at_place.alike.type ∙ g.at_place.alike.type in
      let one = same_Some _ _ (sym x.1.found ∙ ap (slice_get p.types) same ∙ y.1.found) in
      ap (λ (z : ℕ × ℕ). z.0) (same_Some (c, n) (e, n) (ap (λ (z : Type'). z.place) one))

  pub no_circle : NoDefaultCircles p.types → (t : ℕ) → schemas.IsDefaultCircle s t → ⊥
  no_circle none t h =
      let f = of.each t (record { tags = h.tags; kind = h.kind }) h.is.found in
      let n = place_of h.component (components h.kind) h.stands in
      let l = list_with n.0 h.component f.kind n.1 in
      let r = reached h.kind h.component.type h.back in
      let g = of.each r.end (record { tags = r.tags; kind = h.kind }) r.is.found in
      let m = list_with n.0 h.component g.kind n.1 in
      let same = one_list n.0 h.component f.core g.core f.type g.type f.within g.within f.there g.there l m in
      let w = l.at_place in
      let v = default_written w.part h.value w.alike.presence h.has_default in
      none f.core (record {
        written = f.type;
        there = f.there;
        list = l.list;
        marker = l.marker;
        components = l.parts;
        is = l.is;
        number = n.0;
        component = w.part;
        held = w.there;
        notation = v.notation;
        defaulted = v.is;
        back = subst (λ z. Reaches p.types w.part.ty z) (sym same) (subst (λ z. Reaches p.types z g.core) w.alike.type (joined r.reached (reaches_core p.types r.end g.core g.chain)));
      })
