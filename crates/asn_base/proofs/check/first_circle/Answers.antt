use Rattle.std.proofs.Common.{arith, lit<, length, sym, subst, ap, ◌∙◌}
use Rattle.asn_base.specs.declared.rule.SchemaRule.TheVariants.{Members}
use Rattle.asn_base.specs.Depths.{row_at, rows_of}
use Rattle.asn_base.specs.Names.{IsMember}
use Rattle.asn_base.specs.Schemas.{components, types_in}
use Rattle.asn_base.specs.proving.Reaching.{parts_of, defaults_of, default_types, IsClosed}
use Rattle.asn_base.proofs.Graphs.{closed, default_below}
use Rattle.asn_base.proofs.Checks.{circle_answer}
use Rattle.asn_base.proofs.check.first_circle.Goals as goal
use Rattle.asn_base.specs.proving.Lists.{length_mapped}

pub first_back-requires-clause-closed : goal.first_back-requires-clause-closed
first_back-requires-clause-closed c =
    let g = ap rows_of c.as_slice.ensures.value ∙ c.in_ok-parts.ensures ∙ ap parts_of c.types.ensures in
    subst IsClosed (sym g) (closed c.args.types.now (c.requires Members (lit< tt)))

pub first_back-requires-clause-long : goal.first_back-requires-clause-long
first_back-requires-clause-long c =
    let g = ap length (ap rows_of c.as_slice.ensures.value ∙ c.in_ok-parts.ensures ∙ ap parts_of c.types.ensures) in
    let d = ap length (ap rows_of c.as_slice-2.ensures.value ∙ c.in_ok-defaults.ensures ∙ ap defaults_of c.types-2.ensures) in
    omega (arith, g, d, length_mapped (λ v. v.items) c.as_slice.result.now, length_mapped (λ v. v.items) c.as_slice-2.result.now, length_mapped (λ r. types_in r.kind) c.args.types.now, length_mapped (λ r. default_types (components r.kind)) c.args.types.now)

pub first_back-requires-clause-inside : goal.first_back-requires-clause-inside
first_back-requires-clause-inside c = λ i j m.
    let g = ap length (ap rows_of c.as_slice.ensures.value ∙ c.in_ok-parts.ensures ∙ ap parts_of c.types.ensures) in
    let d = ap rows_of c.as_slice-2.ensures.value ∙ c.in_ok-defaults.ensures ∙ ap defaults_of c.types-2.ensures in
    let l = default_below c.args.types.now (c.requires Members (lit< tt)) i j (subst (λ q. IsMember j (row_at q i)) d m) in
    omega (arith, l, g, length_mapped (λ v. v.items) c.as_slice.result.now, length_mapped (λ r. types_in r.kind) c.args.types.now)

pub returns : goal.returns
returns c =
    let g = ap rows_of c.as_slice.ensures.value ∙ c.in_ok-parts.ensures ∙ ap parts_of c.types.ensures in
    let d = ap rows_of c.as_slice-2.ensures.value ∙ c.in_ok-defaults.ensures ∙ ap defaults_of c.types-2.ensures in
    circle_answer c.args.types.now (rows_of c.as_slice.result.now) (rows_of c.as_slice-2.result.now) c.first_back.result g d c.first_back.ensures
