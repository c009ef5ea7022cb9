use Rattle.std.proofs.Common.{None, [], ◌∷◌, ◌++◌, ap, ◌∙◌, map, subst, sym}
use Rattle.type_table.specs.Seen.{kind_of}
use Rattle.asn_base.specs.Seen.{range_of}
use Rattle.asn_base.specs.Typed.{IsInSome}
use Rattle.constraints.proofs.Narrowing.{first_is}
use Rattle.constraints.proofs.limit.first_numbers.Goals as goal

pub returns-in-Ok : goal.returns-in-Ok
returns-in-Ok c =
    let k = kind_of c.args.shape.now in
    let e = c.in_ok-push.ensures.items
    ∙ ap (λ xs. xs ++ record { least = c.floor.result; greatest = None } ∷ []) c.new-all.ensures.items in
    λ z. (
      λ i. (first_is k z).0 (subst (λ o. IsInSome z (record { least = o; greatest = None } ∷ [])) c.floor.ensures
          (subst (λ xs. IsInSome z (map range_of xs)) e ((c.in-Ok.ensures.members z).0 i))),
      λ i. (c.in-Ok.ensures.members z).1 (subst (λ xs. IsInSome z (map range_of xs)) (sym e)
          (subst (λ o. IsInSome z (record { least = o; greatest = None } ∷ [])) (sym c.floor.ensures) ((first_is k z).1 i))),
    )
