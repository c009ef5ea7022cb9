use Rattle.std.proofs.Common.{◌∷◌, [], ◌++◌, Some, refl, sym, ◌∙◌, arith, subst, append-nil}
use Rattle.std.proofs.lemmas.List.{length-append}
use Rattle.tagging.specs.declared.path.TagForm.TheVariants.{Explicit}
use Rattle.tagging.specs.Tags.{Path, label, path_of, WrittenTags}
use Rattle.tagging.specs.proving.TagStep.{ending}
use Rattle.tagging.proofs.Paths.{path_long, pushed_last, pushed, written_exists, added_long}
use Rattle.tagging.proofs.Steps.{none_passed, many_passed, one_passed}
use Rattle.tagging.proofs.path.with_written.Goals as goal

pub loop-passed-init : goal.loop-passed-init
loop-passed-init c = record {
  inside = c.requires.there;
  passed = none_passed c.args.columns.now.program.types c.args.start;
  onto = λ p q v e. record { path = p; written = v; is = e };
  room = c.requires.room;
}

pub returns-in-Ends-None-clause-ok : goal.returns-in-Ends-None-clause-ok
returns-in-Ends-None-clause-ok c =
    let ts = c.args.columns.now.program.types in
    let x = c.in-Ends-None in
    let w : WrittenTags ts c.loop-passed.at [] = subst (λ o. WrittenTags ts c.loop-passed.at (ending o)) x.field-0-is x.ensures.0 in
    c.loop-passed.invariant.onto [] (path_of c.loop-passed.path.items) w (sym (append-nil (path_of c.loop-passed.path.items)))

pub returns-in-Ends-Some-clause-ok : goal.returns-in-Ends-Some-clause-ok
returns-in-Ends-Some-clause-ok c =
    let ts = c.args.columns.now.program.types in
    let x = c.in-Ends-Some in
    let w : WrittenTags ts c.loop-passed.at (ending (Some x.tag)) = subst (λ o. WrittenTags ts c.loop-passed.at (ending o)) x.field-0-is x.ensures.0 in
    c.loop-passed.invariant.onto (ending (Some x.tag)) (path_of c.push.new.self.items) w
    (pushed_last c.loop-passed.path.items c.push.new.self.items (record { tag = x.tag; form = Explicit }) (ending (Some x.tag)) c.in_ok-push-in-Ends-Some.ensures.ok refl)

pub returns-in_err-push-in-Ends-Some-clause-short : goal.returns-in_err-push-in-Ends-Some-clause-short
returns-in_err-push-in-Ends-Some-clause-short c = λ p v l.
    let ts = c.args.columns.now.program.types in
    let x = c.in-Ends-Some in
    let o : Path = ending (Some x.tag) in
    let w : WrittenTags ts c.loop-passed.at o = subst (λ z. WrittenTags ts c.loop-passed.at (ending z)) x.field-0-is x.ensures.0 in
    let a = c.loop-passed.invariant.onto o (path_of c.loop-passed.path.items ++ o) w refl in
    let n = added_long ts c.args.start (path_of c.args.before.items) (path_of c.loop-passed.path.items ++ o) p a v in
    let m = path_long c.loop-passed.path.items o in
    let b = path_long c.args.before.items [] in
    let b2 = length-append (path_of c.args.before.items) [] in
    let z = c.in_err-push-in-Ends-Some.ensures.succeeds (omega (arith, n, m, l, b, b2, c.loop-passed.invariant.room)) in
    absurd cc

pub returns-in_err-push-in-Inside-clause-short : goal.returns-in_err-push-in-Inside-clause-short
returns-in_err-push-in-Inside-clause-short c = λ p v l.
    let ts = c.args.columns.now.program.types in
    let x = c.in-Inside in
    let u = written_exists ts x.j c.lemma_whole.ensures x.ensures.there in
    let o : Path = (label x.tag, c.form_at-form.result) ∷ u.0 in
    let w : WrittenTags ts c.loop-passed.at o = subst (λ f. WrittenTags ts c.loop-passed.at ((label x.tag, f) ∷ u.0)) (sym (c.form_at-form.ensures u.0 u.1)) (x.ensures.tags u.0 u.1) in
    let a = c.loop-passed.invariant.onto o (path_of c.loop-passed.path.items ++ o) w refl in
    let k = added_long ts c.args.start (path_of c.args.before.items) (path_of c.loop-passed.path.items ++ o) p a v in
    let m = path_long c.loop-passed.path.items o in
    let b = path_long c.args.before.items [] in
    let b2 = length-append (path_of c.args.before.items) [] in
    let y = c.in_err-push-in-Inside.ensures.succeeds (omega (arith, k, m, l, b, b2, c.loop-passed.invariant.room)) in
    absurd cc

pub loop-passed-preserved : goal.loop-passed-preserved
loop-passed-preserved c =
    let ts = c.args.columns.now.program.types in
    let x = c.in-Inside in
    record {
      inside = x.ensures.there;
      passed = one_passed ts c.args.start c.loop-passed.at c.loop-passed.passed x.tag x.keyword x.default x.j c.loop-passed.invariant.passed x.ensures;
      onto = λ p q v s. c.loop-passed.invariant.onto ((label x.tag, c.form_at-form.result) ∷ p) q
          (subst (λ f. WrittenTags ts c.loop-passed.at ((label x.tag, f) ∷ p)) (sym (c.form_at-form.ensures p v)) (x.ensures.tags p v))
          (s ∙ pushed c.loop-passed.path.items c.push-in-Inside.new.self.items p (record { tag = x.tag; form = c.form_at-form.result }) c.in_ok-push-in-Inside.ensures.ok);
      room = omega (arith, c.loop-passed.invariant.room, c.in_ok-push-in-Inside.ensures.capacity);
    }

pub returns : goal.returns
returns c =
    let o = many_passed c.args.columns.now.program.types c.args.start c.loop-passed.at c.loop-passed.passed c.lemma_whole.ensures c.loop-passed.invariant.inside c.loop-passed.invariant.passed (omega arith) in
    absurd (omega (arith, c.requires.few o.count o.counts, o.many))
