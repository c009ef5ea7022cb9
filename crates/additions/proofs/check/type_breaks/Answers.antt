use Rattle.std.proofs.Common.{map, option_map, sym, subst, ap, ◌∙◌, length, refl}
use Rattle.std.proofs.lemmas.List.{length-map}
use Rattle.type_table.specs.declared.table.Shape.TheVariants as shapes
use Rattle.trees.specs.declared.types.EnumeratedSyntax.{EnumeratedSyntax}
use Rattle.trees.specs.Types.{an_enumerated, plain_of}
use Rattle.type_table.specs.Seen.{kind_of, part_of, root_items, after_marker}
use Rattle.type_table.specs.Table.{members, simple}
use Rattle.additions.specs.proving.Checks.{IsNamedAt, IsMemberAt, IsItemAt}
use Rattle.additions.proofs.Breaking.{sound_items, found_map, keeps_shape, keeps_list, ascend_all, breaks_list, breaks_items}
use Rattle.additions.proofs.check.type_breaks.Goals as goal

pub in_items-requires : goal.in_items-requires
in_items-requires c =
    let g = c.deref-in-Some.result.now in
    let q = ap kind_of c.in-Simple.is ∙ ap (λ z. simple (plain_of z)) c.in-Some.ensures
    ∙ ap (λ (e : EnumeratedSyntax). simple (an_enumerated (root_items e) (after_marker e))) (sym c.deref-in-Some.ensures) in
    sound_items c.args.tagged.now.program.types c.args.ty c.args.written.now (root_items g) (after_marker g) c.requires.sound c.requires.is q

pub returns-in-Members : goal.returns-in-Members
returns-in-Members c =
    let ts = c.args.tagged.now.program.types in
    let w = c.args.written.now in
    let x = c.in-Members in
    let cs = c.deref.result.now in
    let q = ap kind_of x.is ∙ ap (λ v. members x.kind x.marker (map part_of v)) (sym c.deref.ensures.value) in
    found_map c.in_members.result
    (λ k. keeps_shape ts c.args.ty w (members x.kind x.marker (map part_of cs)) c.requires.is q (keeps_list ts x.kind x.marker (map part_of cs) (length cs) (length-map cs part_of) k))
    (λ b h. (
      breaks_list ts c.args.ty w x.kind x.marker (map part_of cs) b.0 c.requires.is q h.0,
      subst (λ s. IsNamedAt s b.0.place b.1) (sym x.is) (subst (λ v. IsMemberAt v b.0.place b.1) c.deref.ensures.value h.1),
    ))
    c.in_members.ensures

pub returns-in-Some : goal.returns-in-Some
returns-in-Some c =
    let ts = c.args.tagged.now.program.types in
    let w = c.args.written.now in
    let g = c.deref-in-Some.result.now in
    let q = ap kind_of c.in-Simple.is ∙ ap (λ z. simple (plain_of z)) c.in-Some.ensures
    ∙ ap (λ (e : EnumeratedSyntax). simple (an_enumerated (root_items e) (after_marker e))) (sym c.deref-in-Some.ensures) in
    found_map c.in_items.result
    (λ k. keeps_shape ts c.args.ty w (simple (an_enumerated (root_items g) (after_marker g))) c.requires.is q (ascend_all ts (root_items g) (after_marker g) k))
    (λ b h. (
      breaks_items ts c.args.ty w (root_items g) (after_marker g) b.0.place b.0 c.requires.is q h.0 refl h.1,
      subst (λ s. IsNamedAt s b.0.place b.1) (sym (c.in-Simple.is ∙ ap shapes.Simple c.in-Some.ensures))
          (subst (λ (e : EnumeratedSyntax). IsItemAt (option_map (λ is. is.items) e.additions) b.0.place b.1) c.deref-in-Some.ensures h.2),
    ))
    c.in_items.ensures
