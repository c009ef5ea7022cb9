use Rattle.std.proofs.Common.{sym, subst}
use Rattle.std.specs.Prelude.{Vec}
use Rattle.std.specs.Global.{Global}
use Rattle.type_table.specs.Seen.{kind_of}
use Rattle.range_ends.specs.declared.notes.Note.{Note}
use Rattle.range_ends.specs.proving.Noted.{AreRight, IsPath}
use Rattle.range_ends.proofs.Marks.{leads_all, path_leads, right_push}
use Rattle.range_ends.proofs.finder.find.Goals as goal

pub reached_after-reached-requires : goal.reached_after-reached-requires
reached_after-reached-requires c =
    let p = c.args.course.now.linked.now.program in
    let os = c.args.course.now.target.now in
    let latest = subst (λ (v : Vec Note Global). AreRight p os v.items) (sym c.ask.ensures.latest) c.requires.found.latest in
    record {
      inside = c.walked-steps.ensures.inside;
      referred = c.requires.referred;
      signed = c.requires.signed;
      kind = c.requires.kind;
      right = subst (AreRight p os) (sym c.deref-2.ensures.value) latest;
    }

pub returns : goal.returns
returns c =
    let p = c.args.course.now.linked.now.program in
    let k = kind_of c.args.course.now.shape.now in
    let os = c.args.course.now.target.now in
    let core = c.args.course.now.core in
    let kept = subst (λ (v : Vec Note Global). AreRight p os v.items) (sym c.ask.ensures.kept) c.requires.found.kept in
    let path : IsPath p k os c.walked-steps.result.0 c.args.start c.reached_after-reached.result = record {
      place = c.walked-steps.result.1;
      chain = c.walked-steps.ensures.walk;
      goes = c.reached_after-reached.ensures;
    } in
    record {
      latest = c.mark.ensures;
      kept = right_push p os c.ask.new.finder.kept.items c.push.new.self.items
          (record { core = core; start = c.args.start; reached = c.reached_after-reached.result }) c.in_ok-push.ensures.items kept
          (leads_all p os core k c.args.start c.reached_after-reached.result c.requires.kind
          (path_leads p k os c.walked-steps.result.0 c.args.start c.reached_after-reached.result path));
    }
