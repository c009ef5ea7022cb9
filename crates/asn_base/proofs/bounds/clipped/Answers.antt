use mir.Syntax.{w128}
use mir.Val.{SFits, of_z, to_z}
use Rattle.std.proofs.Common.{rules, subst, sym}
use Rattle.std.proofs.lemmas.Int.{to_z-of_z}
use Rattle.std.specs.Prelude.{◌↔◌, Some}
use Rattle.asn_base.specs.Seen.{range_of}
use Rattle.asn_base.specs.Typed.{IsInRange}
use Rattle.asn_base.specs.proving.Bounding.{From}
use Rattle.asn_base.proofs.Bounding.{Starts, clip_none, clip_some}
use Rattle.asn_base.proofs.bounds.clipped.Goals as goal

pub returns-then-starts_from : goal.returns-then-starts_from
returns-then-starts_from c =
    let f : SFits w128 c.in-Some.floor = search rules in
    let r = range_of c.args.range in
    let a = subst (Starts r) (to_z-of_z w128 c.in-Some.floor f) (c.starts_from.ensures.0 c.if-starts_from.true) in
    λ z. subst (λ q. IsInRange z r ↔ (From q z × IsInRange z r)) (sym c.in-Some.is) (clip_none r c.in-Some.floor z a)

pub returns-else-starts_from : goal.returns-else-starts_from
returns-else-starts_from c =
    let f : SFits w128 c.in-Some.floor = search rules in
    let r = range_of c.args.range in
    let n : Starts r c.in-Some.floor → ⊥ = λ h. let e = c.starts_from.ensures.1 (subst (Starts r) (sym (to_z-of_z w128 c.in-Some.floor f)) h) in let k = c.if-starts_from.false in cc in
    λ z. subst (λ q. IsInRange z (record { least = Some (to_z w128 (of_z w128 c.in-Some.floor)); greatest = r.greatest }) ↔ (From q z × IsInRange z r)) (sym c.in-Some.is)
    (subst (λ m. IsInRange z (record { least = Some m; greatest = r.greatest }) ↔ (From (Some c.in-Some.floor) z × IsInRange z r)) (sym (to_z-of_z w128 c.in-Some.floor f)) (clip_some r c.in-Some.floor z n))
