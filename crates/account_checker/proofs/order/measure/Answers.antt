use Rattle.std.proofs.Common.{arith, ap, subst, ◌≡◌, ◌∙◌, ◌+◌, ◌-◌, ◌<◌, ◌++◌}
use Rattle.octet_account.specs.Flat.{member_rows}
use Rattle.account_checker.specs.Parts.{EndsAt, size_or, count_or}
use Rattle.account_checker.proofs.Members.{all_left, asked_of, at_end, first}
use Rattle.account_checker.proofs.Ends.{counts_next, ends_next}
use Rattle.account_checker.proofs.order.measure.Goals as goal

pub loop-i-init : goal.loop-i-init
loop-i-init c = (
  omega arith,
  omega arith,
  λ rs rest e f.
      (let g = f ∙ (let n : c.args.members ≡ c.args.members - 0 = omega arith in n) in (all_left rs e g, λ known. all_left rs e g)),
)

pub offset_after-octets-requires : goal.offset_after-octets-requires
offset_after-octets-requires c = c.loop-i.invariant.0

pub loop-i-preserved : goal.loop-i-preserved
loop-i-preserved c = (
  (let b = c.loop-i.invariant.0 in omega (arith, b, c.offset_after-octets.ensures.most)),
  (let b = c.loop-i.invariant.1 in omega (arith, b, c.written_to-written.ensures.most)),
  λ rs rest e f. (
      let some : 0 < c.args.members - c.loop-i.i = omega (arith, c.loop-i-test.true) in
      let v = c.loop-i.invariant.2 rs rest e f in (
        (let h = v.0 in
            let following = member_rows (first h some).following ++ rest in
            let z = c.first_size-size.ensures (first h some).member following (asked_of h some) in
            counts_next rs h some (c.after_member-left.ensures (first h some).member following (asked_of h some)) (omega (arith, c.loop-i-test.true)) (c.offset_after-octets.ensures.is ∙ ap (λ s. c.loop-i.octets + size_or s) z) (c.written_to-written.ensures.is ∙ ap (λ s. c.loop-i.written + count_or s) z)),
        λ known. (
            let k = c.still_known-known.ensures.0 known in
            let h = v.1 k.0 in
            let following = member_rows (first h some).following ++ rest in
            let z = c.first_size-size.ensures (first h some).member following (asked_of h some) in
            ends_next rs c.args.set.now.places.items c.args.set.now.ends.items h some (subst (EndsAt c.args.set.now.places.items c.args.set.now.ends.items c.loop-i.written) z k.1) (c.after_member-left.ensures (first h some).member following (asked_of h some)) (omega (arith, c.loop-i-test.true)) (c.offset_after-octets.ensures.is ∙ ap (λ s. c.loop-i.octets + size_or s) z) (c.written_to-written.ensures.is ∙ ap (λ s. c.loop-i.written + count_or s) z)),
      )),
)

pub returns : goal.returns
returns c = λ rs rest e f.
    let v = c.loop-i.invariant.2 rs rest e f in
    let h = at_end v.0 (omega (arith, c.loop-i-test.false)) (λ k. tt) in
    (h.2, h.3, λ known. (at_end (v.1 known) (omega (arith, c.loop-i-test.false)) (λ k. tt)).0)
