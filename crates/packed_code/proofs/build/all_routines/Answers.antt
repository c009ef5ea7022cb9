use Rattle.std.proofs.Common.{◌≡◌, length, refl, sym, ap, subst, ◌∙◌}
use Rattle.std.specs.Prelude.{Some, option_map, slice_get}
use Rattle.std.proofs.lemmas.Option.{slice_get-map, slice_get_read}
use Rattle.asn_base.specs.Schemas.{IsSound}
use Rattle.asn_base.specs.Seen.{kind_of, resolved_of, types_of}
use Rattle.packed_code.proofs.build.all_routines.Goals as goal

pub push_routine-requires : goal.push_routine-requires
push_routine-requires c =
    let s = types_of c.args.types.now in
    let r = c.index-types-i.result in
    let there : slice_get s c.loop-i.i ≡ Some (resolved_of r) =
    slice_get-map resolved_of c.args.types.now c.loop-i.i
    ∙ ap (option_map resolved_of) (slice_get_read c.args.types.now (length c.args.types.now) c.loop-i.i r refl c.loop-i-test.true c.index-types-i.is) in
    subst (λ q. IsSound s (kind_of q)) (sym (c.deref.ensures ∙ ap (λ q. q.core.value) (sym c.index-types-i.is)))
    (c.requires.sound c.loop-i.i r.tags.items (kind_of r.core.value) (record { found = there }))
