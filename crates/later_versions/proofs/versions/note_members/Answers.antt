use Rattle.std.proofs.Common.{arith, inl, inr, refl, sym, ap, ◌∙◌}
use Rattle.std.specs.Prelude.{option_map}
use Rattle.later_versions.specs.Projected.{members_of}
use Rattle.later_versions.specs.proving.Pairs.{pair_of}
use Rattle.later_versions.proofs.Few.{few_members}
use Rattle.later_versions.proofs.Places.{past_end}
use Rattle.later_versions.proofs.Pairing.{noted_all, noted_first, noted_next}
use Rattle.later_versions.proofs.versions.note_members.Goals as goal

pub returns-in_default-clause-noted : goal.returns-in_default-clause-noted
returns-in_default-clause-noted c =
    noted_all c.args.first.now c.args.second.now c.args.at (pair_of c.args.pair) c.args.pairs.now c.loop-place.pairs c.loop-place.place (inr (sym c.in_default.ensures')) c.loop-place.invariant

pub returns-in_default-2-clause-noted : goal.returns-in_default-2-clause-noted
returns-in_default-2-clause-noted c =
    noted_all c.args.first.now c.args.second.now c.args.at (pair_of c.args.pair) c.args.pairs.now c.loop-place.pairs c.loop-place.place
    (inl (sym c.member_at.ensures ∙ ap (λ o. option_map (λ t. t.index) o) c.in_default.is-0)) c.loop-place.invariant

pub loop-place-init : goal.loop-place-init
loop-place-init c = noted_first c.args.first.now c.args.second.now c.args.at (pair_of c.args.pair) c.args.pairs.now c.requires

pub loop-place-preserved : goal.loop-place-preserved
loop-place-preserved c =
    noted_next c.args.first.now c.args.second.now c.args.at (pair_of c.args.pair)
    (record { pair = record { first = c.in-Some-Some.one; second = c.in-Some-Some.other }; from = c.args.at; place = c.loop-place.place })
    c.args.pairs.now c.loop-place.pairs c.note.new.pairs c.loop-place.place
    (refl, (sym c.in-Some-Some.ensures, sym c.in-Some-Some.ensures')) refl
    c.in_ok-note-in-Some-Some.ensures.known c.in_ok-note-in-Some-Some.ensures.is_met c.in_ok-note-in-Some-Some.ensures.noted c.loop-place.invariant

pub returns-clause-noted : goal.returns-clause-noted
returns-clause-noted c =
    let l = few_members c.args.first.now c.args.pair.first.index c.lemma_invariant.ensures in
    let m = c.loop-place-test.false in
    noted_all c.args.first.now c.args.second.now c.args.at (pair_of c.args.pair) c.args.pairs.now c.loop-place.pairs c.loop-place.place
    (inl (past_end (members_of c.args.first.now c.args.pair.first.index) c.loop-place.place (omega (arith, l, m)))) c.loop-place.invariant
