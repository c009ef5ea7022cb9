use Rattle.std.proofs.Common.{◌<◌, ◌∙◌, length, ap, map, arith, sym, subst}
use Rattle.std.specs.Prelude.{All, IfErr, MatchResult}
use Rattle.std.proofs.lemmas.List.{length-map}
use Rattle.names.specs.Sources.{place_of}
use Rattle.type_table.specs.Seen.{type_of, kind_of, part_of}
use Rattle.tagging.specs.proving.Heads.{Fronts, IsFrontFault}
use Rattle.tagging.specs.proving.Reported.{IsBareFault}
use Rattle.tagging.proofs.Paths.{is_at}
use Rattle.tagging.proofs.Fronts.{choice_answer, single_answer, parts_of}
use Rattle.tagging.proofs.Firsts.{choice_within, single_within, seen_at, seen_members}
use Rattle.tagging.proofs.first.first_tags.Goals as goal

pub written_at-requires : goal.written_at-requires
written_at-requires c =
    let n = length-map c.args.types.now type_of in
    let m = ap length c.requires.types in
    omega (arith, n, m, c.core.ensures.there)

pub returns-in-Some-clause-found : goal.returns-in-Some-clause-found
returns-in-Some-clause-found c =
    single_answer c.args.columns.now.program.types c.args.ty c.in-Some.tag c.single.result c.in-Some.ensures c.single.ensures

pub returns-in-Some-clause-first : goal.returns-in-Some-clause-first
returns-in-Some-clause-first c =
    single_within c.args.columns.now.program.types c.args.types.now c.args.ty c.in-Some.tag c.single.result c.in-Some.ensures
    c.single.ensures

pub returns-in-None-clause-found : goal.returns-in-None-clause-found
returns-in-None-clause-found c =
    let ts = c.args.columns.now.program.types in
    let w = c.written_at.result.now in
    let e = seen_at ts c.args.types.now c.core.result w c.requires.types c.written_at.ensures in
    let q = ap (map part_of) c.members.ensures ∙ seen_members w.shape in
    choice_answer ts c.args.ty c.core.result (kind_of w.shape) w.default (place_of w.place) c.fronts.result
    c.in-None.ensures c.core.ensures.core (is_at ts c.core.result (type_of w) e)
    (subst (λ ms. MatchResult c.fronts.result (λ v. Fronts ts ms v.items) (IsFrontFault ts ms)) q c.fronts.ensures.found)

pub returns-in-None-clause-first : goal.returns-in-None-clause-first
returns-in-None-clause-first c =
    let ts = c.args.columns.now.program.types in
    let w = c.written_at.result.now in
    choice_within ts c.args.types.now c.args.ty c.core.result w c.fronts.result c.in-None.ensures c.core.ensures.core
    c.written_at.ensures
    (subst (λ ms. MatchResult c.fronts.result (λ v. Fronts ts (map part_of ms) v.items) (IsFrontFault ts (map part_of ms)))
    c.members.ensures c.fronts.ensures.found)
    (subst (λ ms. IfErr c.fronts.result (IsBareFault ts ms)) c.members.ensures c.fronts.ensures.first)

pub fronts-requires : goal.fronts-requires
fronts-requires c =
    let ts = c.args.columns.now.program.types in
    let w = c.written_at.result.now in
    let e = seen_at ts c.args.types.now c.core.result w c.requires.types c.written_at.ensures in
    let q = ap (map part_of) c.members.ensures ∙ seen_members w.shape in
    record {
      parts = subst (All (λ m. m.ty < length ts)) (sym q) (parts_of ts c.core.result (kind_of w.shape) w.default
          (place_of w.place) c.lemma_whole.ensures (is_at ts c.core.result (type_of w) e));
    }
