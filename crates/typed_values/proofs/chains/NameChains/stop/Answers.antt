use Rattle.std.proofs.Common.{inl, inr, map, subst, sym, ◌∙◌, List, Some, None}
use Rattle.names.specs.Modules.{OccursIn}
use Rattle.names.specs.Names.{names_of}
use Rattle.trees.specs.declared.types.Simple.{Simple}
use Rattle.trees.specs.declared.types.EnumeratedItem.{EnumeratedItem}
use Rattle.trees.specs.declared.types.NamedNumber.{NamedNumber}
use Rattle.trees.specs.Types.{item_of, numbered_name, plain_of}
use Rattle.type_table.specs.Table.{simple}
use Rattle.value_notations.specs.References.{own_names}
use Rattle.typed_values.proofs.Nearest.{items_either, near_both, near_names, no_name, same_root}
use Rattle.typed_values.proofs.chains.NameChains.stop.Goals as goal

pub returns-in-Integer : goal.returns-in-Integer
returns-in-Integer c = λ p turns is w l. near_names (c.nearest_number.ensures p turns is w l) (λ x s.
    subst (λ (ns : List NamedNumber). OccursIn (names_of (map numbered_name ns)) x) (sym c.as_slice.ensures.value)
    (subst (λ (k : Simple). OccursIn (own_names (simple (plain_of k))) x) c.in-Integer.is s))

pub returns-in-None : goal.returns-in-None
returns-in-None c = λ p turns is w l. near_names (c.nearest_item-best.ensures p turns is w l) (λ x s.
    let own = subst (λ (k : Simple). OccursIn (own_names (simple (plain_of k))) x) c.in-Enumerated.is s in
    elim (items_either c.in-Enumerated.given c.deref-in-Enumerated.result.now None x c.deref-in-Enumerated.ensures c.in-None.is own) [
      | inl r ↦ subst (λ (is : List EnumeratedItem). OccursIn (names_of (map item_of is)) x)
          (sym c.as_slice-in-Enumerated.ensures.value) (same_root _ _ x (c.deref-in-Enumerated.ensures ∙ sym c.deref.ensures) r)
      | inr r ↦ absurd (no_name x r)
    ])

pub returns-in-Some : goal.returns-in-Some
returns-in-Some c = λ p turns is w l.
    let g = c.nearest_item-best.ensures p turns is w l in
    near_both g (c.nearest_item.ensures p turns is w g.as_near.on) (λ x s.
    let own = subst (λ (k : Simple). OccursIn (own_names (simple (plain_of k))) x) c.in-Enumerated.is s in
    elim (items_either c.in-Enumerated.given c.deref-in-Enumerated.result.now (Some c.in-Some.additions) x c.deref-in-Enumerated.ensures c.in-Some.is own) [
      | inl r ↦ inl (subst (λ (is : List EnumeratedItem). OccursIn (names_of (map item_of is)) x)
          (sym c.as_slice-in-Enumerated.ensures.value) (same_root _ _ x (c.deref-in-Enumerated.ensures ∙ sym c.deref.ensures) r))
      | inr r ↦ inr (subst (λ (is : List EnumeratedItem). OccursIn (names_of (map item_of is)) x)
          (sym c.as_slice-in-Some.ensures.value) r)
    ])
