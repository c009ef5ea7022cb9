use Rattle.std.proofs.Common.{subst}
use Rattle.names.specs.Sources.{place_of}
use Rattle.type_table.specs.Seen.{type_of, kind_of}
use Rattle.type_table.specs.Table.{IsWrittenType, tagged}
use Rattle.tagging.specs.proving.TagStep.{ending}
use Rattle.tagging.proofs.Tables.{no_tag}
use Rattle.tagging.proofs.Paths.{is_at}
use Rattle.tagging.proofs.Steps.{ends_there, inside_there}
use Rattle.tagging.proofs.path.step_at.Goals as goal

pub returns-in-Tagged : goal.returns-in-Tagged
returns-in-Tagged c =
    let ts = c.args.columns.now.program.types in
    let w = c.written-written.result.now in
    let x = c.in-Tagged in
    let h : IsWrittenType ts c.front.result (tagged x.tag x.keyword x.j) w.default (place_of w.place) = subst (λ s. IsWrittenType ts c.front.result (kind_of s) w.default (place_of w.place)) x.is (is_at ts c.front.result (type_of w) c.written-written.ensures.written) in
    inside_there ts c.args.ty c.front.result x.j x.tag x.keyword w.default (place_of w.place) c.written-written.ensures.linked c.front.ensures.front h

pub returns-in_default : goal.returns-in_default
returns-in_default c =
    let ts = c.args.columns.now.program.types in
    let w = c.written-written.result.now in
    let h = is_at ts c.front.result (type_of w) c.written-written.ensures.written in
    ends_there ts c.args.ty c.front.result (kind_of w.shape) w.default (place_of w.place) (ending c.own_tag.result) c.front.ensures.front h (no_tag w.shape c.in_default.not-Tagged) c.own_tag.ensures
