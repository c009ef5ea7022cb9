-- Types and values as they are written, gathered one after another.
use Rattle.std.proofs.Common.{◌≡◌, ◌++◌, List, [], ◌∷◌, map, refl, sym, subst, ap, ◌∙◌, append_assoc}
use Rattle.std.proofs.lemmas.List.{append-nil, map-append}
use Rattle.trees.specs.declared.module.Assignment.{Assignment}
use Rattle.trees.specs.declared.module.Assignment.TheVariants as givens
use Rattle.trees.specs.declared.module.Module.{Module as ModuleSyntax}
use Rattle.trees.specs.Values.{name_at}
use Rattle.names.specs.declared.gather.ModuleTables.{ModuleTables}
use Rattle.names.specs.declared.gather.Tables.{Tables}
use Rattle.names.specs.First.{name_place, written_spots}
use Rattle.names.specs.Scopes.{all_spots}
use Rattle.names.specs.Written.{assigned_type, assigned_values, written_places, written_types, written_values}
use Rattle.names.specs.proving.Gathering.{AddsWritten, HasWritten, assignment_places, syntaxes, value_syntaxes}

values_joined : (gs ks : List Assignment) → assigned_values (gs ++ ks) ≡ assigned_values gs ++ assigned_values ks
values_joined [] ks = refl
values_joined (givens.Type a ∷ gs) ks = values_joined gs ks
values_joined (givens.Value a ∷ gs) ks = ap (λ l. a.value ∷ l) (values_joined gs ks)

adds_more : (gs ks : List Assignment) (old now new : Tables) → AddsWritten gs old now → AddsWritten ks now new →
    AddsWritten (gs ++ ks) old new
adds_more gs ks old now new a b = record {
  types = b.types ∙ ap (λ z. z ++ map assigned_type ks) a.types ∙ append_assoc (syntaxes old.roots.items) (map assigned_type gs) (map assigned_type ks) ∙ ap (λ z. syntaxes old.roots.items ++ z) (sym (map-append assigned_type gs ks));
  values = b.values ∙ ap (λ z. z ++ assigned_values ks) a.values ∙ append_assoc (value_syntaxes old.values.items) (assigned_values gs) (assigned_values ks) ∙ ap (λ z. value_syntaxes old.values.items ++ z) (sym (values_joined gs ks));
  names = b.names ∙ ap (λ z. z ++ map name_place ks) a.names ∙ append_assoc (assignment_places old.assignments.items) (map name_place gs) (map name_place ks) ∙ ap (λ z. assignment_places old.assignments.items ++ z) (sym (map-append name_place gs ks));
}

-- assignments that are added so far, and those that wait
pub record AreWritten (all rest : List Assignment) (old now : Tables) : Type 0 where
  pub done : List Assignment
  pub splits : done ++ rest ≡ all
  pub adds : AddsWritten done old now

pub written_start : (all : List Assignment) (old : Tables) → AreWritten all all old old
written_start all old = record {
  done = [];
  splits = refl;
  adds = record { types = sym (append-nil (syntaxes old.roots.items)); values = sym (append-nil (value_syntaxes old.values.items)); names = sym (append-nil (assignment_places old.assignments.items)) };
}

pub written_step : (all rest : List Assignment) (g : Assignment) (old now new : Tables) →
    AreWritten all (g ∷ rest) old now → AddsWritten (g ∷ []) now new → AreWritten all rest old new
written_step all rest g old now new p b = record {
  done = p.done ++ g ∷ [];
  splits = append_assoc p.done (g ∷ []) rest ∙ p.splits;
  adds = adds_more p.done (g ∷ []) old now new p.adds b;
}

pub written_end : (all : List Assignment) (old now : Tables) → AreWritten all [] old now → AddsWritten all old now
written_end all old now p = subst (λ l. AddsWritten l old now) (sym (append-nil p.done) ∙ p.splits) p.adds

-- ---- modules

types_joined : (ws : List ModuleSyntax) (m : ModuleSyntax) →
    written_types (ws ++ m ∷ []) ≡ written_types ws ++ map assigned_type m.assignments.items
types_joined [] m = append-nil (map assigned_type m.assignments.items)
types_joined (w ∷ ws) m =
    let front = map assigned_type w.assignments.items in
    ap (λ l. front ++ l) (types_joined ws m) ∙ sym (append_assoc front (written_types ws) (map assigned_type m.assignments.items))

all_values_joined : (ws : List ModuleSyntax) (m : ModuleSyntax) →
    written_values (ws ++ m ∷ []) ≡ written_values ws ++ assigned_values m.assignments.items
all_values_joined [] m = append-nil (assigned_values m.assignments.items)
all_values_joined (w ∷ ws) m =
    let front = assigned_values w.assignments.items in
    ap (λ l. front ++ l) (all_values_joined ws m) ∙ sym (append_assoc front (written_values ws) (assigned_values m.assignments.items))

places_joined : (ws : List ModuleSyntax) (m : ModuleSyntax) →
    written_places (ws ++ m ∷ []) ≡ written_places ws ++ map name_place m.assignments.items
places_joined [] m = append-nil (map name_place m.assignments.items)
places_joined (w ∷ ws) m =
    let front = map name_place w.assignments.items in
    ap (λ l. front ++ l) (places_joined ws m) ∙ sym (append_assoc front (written_places ws) (map name_place m.assignments.items))

pub written_more : (ws : List ModuleSyntax) (m : ModuleSyntax) (g g' : ModuleTables) → HasWritten ws g →
    all_spots g'.modules.entries ≡ all_spots g.modules.entries ++ (name_at m.name, written_spots m) ∷ [] →
    AddsWritten m.assignments.items g.tables g'.tables → HasWritten (ws ++ m ∷ []) g'
written_more ws m g g' h e a = record {
  spots = e ∙ ap (λ z. z ++ (name_at m.name, written_spots m) ∷ []) h.spots ∙ sym (map-append (λ (w : ModuleSyntax). (name_at w.name, written_spots w)) ws (m ∷ []));
  types = a.types ∙ ap (λ z. z ++ map assigned_type m.assignments.items) h.types ∙ sym (types_joined ws m);
  values = a.values ∙ ap (λ z. z ++ assigned_values m.assignments.items) h.values ∙ sym (all_values_joined ws m);
  names = a.names ∙ ap (λ z. z ++ map name_place m.assignments.items) h.names ∙ sym (places_joined ws m);
}
