use Rattle.std.proofs.Common.{◌≡◌, ◌-◌, ◌++◌, [], get_or, length, map, sym, subst, ◌∙◌, Some}
use Rattle.std.specs.Prelude.{slice_get}
use Rattle.asn_base.specs.Seen.{alternative_of}
use Rattle.later_versions.proofs.Places.{in_first, in_second, or_some}
use Rattle.later_versions.proofs.text_of.alternative_name.Goals as goal

pub returns-then-place-root : goal.returns-then-place-root
returns-then-place-root c =
    c.as_str.ensures.value
    ∙ sym (or_some _ c.args.place [] _
    (subst (λ q. slice_get (map (λ a. a.name) (map alternative_of q ++ map alternative_of c.args.alternatives.now.additions.items)) c.args.place ≡ Some (alternative_of (get_or c.as_slice-root.result.now c.args.place c.index-root-place.result)).name)
    c.as_slice-root.ensures.value
    (in_first alternative_of (λ a. a.name) c.as_slice-root.result.now c.args.alternatives.now.additions.items c.args.place c.index-root-place.result c.if-place-root.true c.index-root-place.is)))

pub returns-then-place-root-2 : goal.returns-then-place-root-2
returns-then-place-root-2 c =
    c.as_str-then-place-root-2.ensures.value
    ∙ sym (or_some _ c.args.place [] _
    (subst (λ q. slice_get (map (λ a. a.name) (map alternative_of q ++ map alternative_of c.args.alternatives.now.additions.items)) c.args.place ≡ Some (alternative_of (get_or c.as_slice-additions.result.now (c.args.place - length c.as_slice-root.result.now) c.index-additions-place.result)).name)
    c.as_slice-root.ensures.value
    (subst (λ q. slice_get (map (λ a. a.name) (map alternative_of c.as_slice-root.result.now ++ map alternative_of q)) c.args.place ≡ Some (alternative_of (get_or c.as_slice-additions.result.now (c.args.place - length c.as_slice-root.result.now) c.index-additions-place.result)).name)
    c.as_slice-additions.ensures.value
    (in_second alternative_of (λ a. a.name) c.as_slice-root.result.now c.as_slice-additions.result.now c.args.place c.index-additions-place.result c.if-place-root.false c.if-place-root-2.true c.index-additions-place.is))))
