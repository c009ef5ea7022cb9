use Rattle.std.proofs.Common.{◌∷◌, ap, sym, subst, ◌∙◌}
use Rattle.std.specs.Prelude.{IfOk, Some}
use Rattle.codec_source.specs.declared.ask.Answer.{Answer}
use Rattle.codec_source.specs.Reading.{Asks, call}
use Rattle.codec_source.specs.Stopping.{AsksNothing, asked}
use Rattle.codec_source.specs.proving.Frames.{IfRefused, IfRefusedWith}
use Rattle.codec_source.proofs.ask.ask.Goals as goal

pub ask_ranked-requires : goal.ask_ranked-requires
ask_ranked-requires g c = c.requires ∙ ap (λ q. q ∷ c.args.rest.now) c.in-SetComponent.is

pub ask_each-requires : goal.ask_each-requires
ask_each-requires g c = c.requires ∙ ap (λ q. q ∷ c.args.rest.now) c.in-Each.is

pub ask_sorted-requires : goal.ask_sorted-requires
ask_sorted-requires g c = c.requires ∙ ap (λ q. q ∷ c.args.rest.now) c.in-EachSorted.is

pub returns-in-Head-clause-ok : goal.returns-in-Head-clause-ok
returns-in-Head-clause-ok g c = subst (λ q. IfOk c.ask_head.result (λ (a : Answer). Asks g.S.Source.takes (q ∷ c.args.rest.now) c.args.source.now a.following.now a.value c.ask_head.new.source)) (sym c.in-Head.is) c.ask_head.ensures.ok

pub returns-in-Head-clause-err : goal.returns-in-Head-clause-err
returns-in-Head-clause-err g c = subst (λ q. IfRefused c.ask_head.result (AsksNothing g.S.Source.takes (q ∷ c.args.rest.now) c.args.source.now)) (sym c.in-Head.is) c.ask_head.ensures.err

pub returns-in-End-clause-ok : goal.returns-in-End-clause-ok
returns-in-End-clause-ok g c = subst (λ q. IfOk c.ask_end.result (λ (a : Answer). Asks g.S.Source.takes (q ∷ c.args.rest.now) c.args.source.now a.following.now a.value c.ask_end.new.source)) (sym c.in-End.is) c.ask_end.ensures.ok

pub returns-in-End-clause-err : goal.returns-in-End-clause-err
returns-in-End-clause-err g c = subst (λ q. IfRefused c.ask_end.result (AsksNothing g.S.Source.takes (q ∷ c.args.rest.now) c.args.source.now)) (sym c.in-End.is) c.ask_end.ensures.err

pub returns-in-Leaf-clause-ok : goal.returns-in-Leaf-clause-ok
returns-in-Leaf-clause-ok g c = subst (λ q. IfOk c.ask_leaf.result (λ (a : Answer). Asks g.S.Source.takes (q ∷ c.args.rest.now) c.args.source.now a.following.now a.value c.ask_leaf.new.source)) (sym c.in-Leaf.is) c.ask_leaf.ensures.ok

pub returns-in-Leaf-clause-err : goal.returns-in-Leaf-clause-err
returns-in-Leaf-clause-err g c = subst (λ q. IfRefused c.ask_leaf.result (AsksNothing g.S.Source.takes (q ∷ c.args.rest.now) c.args.source.now)) (sym c.in-Leaf.is) c.ask_leaf.ensures.err

pub returns-in-Rest-clause-ok : goal.returns-in-Rest-clause-ok
returns-in-Rest-clause-ok g c = subst (λ q. IfOk c.ask_rest.result (λ (a : Answer). Asks g.S.Source.takes (q ∷ c.args.rest.now) c.args.source.now a.following.now a.value c.ask_rest.new.source)) (sym c.in-Rest.is) c.ask_rest.ensures.ok

pub returns-in-Rest-clause-err : goal.returns-in-Rest-clause-err
returns-in-Rest-clause-err g c = subst (λ q. IfRefused c.ask_rest.result (AsksNothing g.S.Source.takes (q ∷ c.args.rest.now) c.args.source.now)) (sym c.in-Rest.is) c.ask_rest.ensures.err

pub returns-in-Field-clause-ok : goal.returns-in-Field-clause-ok
returns-in-Field-clause-ok g c = subst (λ q. IfOk c.ask_field.result (λ (a : Answer). Asks g.S.Source.takes (q ∷ c.args.rest.now) c.args.source.now a.following.now a.value c.ask_field.new.source)) (sym c.in-Field.is) c.ask_field.ensures.ok

pub returns-in-Field-clause-err : goal.returns-in-Field-clause-err
returns-in-Field-clause-err g c = subst (λ q. IfRefused c.ask_field.result (AsksNothing g.S.Source.takes (q ∷ c.args.rest.now) c.args.source.now)) (sym c.in-Field.is) c.ask_field.ensures.err

pub returns-in-SetComponent-clause-ok : goal.returns-in-SetComponent-clause-ok
returns-in-SetComponent-clause-ok g c = subst (λ q. IfOk c.ask_ranked.result (λ (a : Answer). Asks g.S.Source.takes (q ∷ c.args.rest.now) c.args.source.now a.following.now a.value c.ask_ranked.new.source)) (sym c.in-SetComponent.is) c.ask_ranked.ensures.ok

pub returns-in-SetComponent-clause-err : goal.returns-in-SetComponent-clause-err
returns-in-SetComponent-clause-err g c = subst (λ q. IfRefused c.ask_ranked.result (AsksNothing g.S.Source.takes (q ∷ c.args.rest.now) c.args.source.now)) (sym c.in-SetComponent.is) c.ask_ranked.ensures.err

pub returns-in-Each-clause-ok : goal.returns-in-Each-clause-ok
returns-in-Each-clause-ok g c = subst (λ q. IfOk c.ask_each.result (λ (a : Answer). Asks g.S.Source.takes (q ∷ c.args.rest.now) c.args.source.now a.following.now a.value c.ask_each.new.source)) (sym c.in-Each.is) c.ask_each.ensures.ok

pub returns-in-Each-clause-err : goal.returns-in-Each-clause-err
returns-in-Each-clause-err g c = subst (λ q. IfRefused c.ask_each.result (AsksNothing g.S.Source.takes (q ∷ c.args.rest.now) c.args.source.now)) (sym c.in-Each.is) c.ask_each.ensures.err

pub returns-in-EachSorted-clause-ok : goal.returns-in-EachSorted-clause-ok
returns-in-EachSorted-clause-ok g c = subst (λ q. IfOk c.ask_sorted.result (λ (a : Answer). Asks g.S.Source.takes (q ∷ c.args.rest.now) c.args.source.now a.following.now a.value c.ask_sorted.new.source)) (sym c.in-EachSorted.is) c.ask_sorted.ensures.ok

pub returns-in-EachSorted-clause-err : goal.returns-in-EachSorted-clause-err
returns-in-EachSorted-clause-err g c = subst (λ q. IfRefused c.ask_sorted.result (AsksNothing g.S.Source.takes (q ∷ c.args.rest.now) c.args.source.now)) (sym c.in-EachSorted.is) c.ask_sorted.ensures.err

pub returns-in-Pick-clause-ok : goal.returns-in-Pick-clause-ok
returns-in-Pick-clause-ok g c = subst (λ q. IfOk c.ask_pick.result (λ (a : Answer). Asks g.S.Source.takes (q ∷ c.args.rest.now) c.args.source.now a.following.now a.value c.ask_pick.new.source)) (sym c.in-Pick.is) c.ask_pick.ensures.ok

pub returns-in-Pick-clause-err : goal.returns-in-Pick-clause-err
returns-in-Pick-clause-err g c = subst (λ q. IfRefused c.ask_pick.result (AsksNothing g.S.Source.takes (q ∷ c.args.rest.now) c.args.source.now)) (sym c.in-Pick.is) c.ask_pick.ensures.err

pub returns-in-Call-clause-ok : goal.returns-in-Call-clause-ok
returns-in-Call-clause-ok g c = subst (λ q. Asks g.S.Source.takes (q ∷ c.args.rest.now) c.args.source.now c.args.rest.now (Some c.in-Call.id) c.args.source.now) (sym c.in-Call.is) call

pub returns-in-Head-clause-left : goal.returns-in-Head-clause-left
returns-in-Head-clause-left g c = subst (λ q. IfRefusedWith c.ask_head.result (g.S.Source.refuses c.args.source.now (asked (q ∷ c.args.rest.now)) c.ask_head.new.source)) (sym c.in-Head.is) c.ask_head.ensures.left

pub returns-in-End-clause-left : goal.returns-in-End-clause-left
returns-in-End-clause-left g c = subst (λ q. IfRefusedWith c.ask_end.result (g.S.Source.refuses c.args.source.now (asked (q ∷ c.args.rest.now)) c.ask_end.new.source)) (sym c.in-End.is) c.ask_end.ensures.left

pub returns-in-Leaf-clause-left : goal.returns-in-Leaf-clause-left
returns-in-Leaf-clause-left g c = subst (λ q. IfRefusedWith c.ask_leaf.result (g.S.Source.refuses c.args.source.now (asked (q ∷ c.args.rest.now)) c.ask_leaf.new.source)) (sym c.in-Leaf.is) c.ask_leaf.ensures.left

pub returns-in-Rest-clause-left : goal.returns-in-Rest-clause-left
returns-in-Rest-clause-left g c = subst (λ q. IfRefusedWith c.ask_rest.result (g.S.Source.refuses c.args.source.now (asked (q ∷ c.args.rest.now)) c.ask_rest.new.source)) (sym c.in-Rest.is) c.ask_rest.ensures.left

pub returns-in-Field-clause-left : goal.returns-in-Field-clause-left
returns-in-Field-clause-left g c = subst (λ q. IfRefusedWith c.ask_field.result (g.S.Source.refuses c.args.source.now (asked (q ∷ c.args.rest.now)) c.ask_field.new.source)) (sym c.in-Field.is) c.ask_field.ensures.left

pub returns-in-SetComponent-clause-left : goal.returns-in-SetComponent-clause-left
returns-in-SetComponent-clause-left g c = subst (λ q. IfRefusedWith c.ask_ranked.result (g.S.Source.refuses c.args.source.now (asked (q ∷ c.args.rest.now)) c.ask_ranked.new.source)) (sym c.in-SetComponent.is) c.ask_ranked.ensures.left

pub returns-in-Each-clause-left : goal.returns-in-Each-clause-left
returns-in-Each-clause-left g c = subst (λ q. IfRefusedWith c.ask_each.result (g.S.Source.refuses c.args.source.now (asked (q ∷ c.args.rest.now)) c.ask_each.new.source)) (sym c.in-Each.is) c.ask_each.ensures.left

pub returns-in-EachSorted-clause-left : goal.returns-in-EachSorted-clause-left
returns-in-EachSorted-clause-left g c = subst (λ q. IfRefusedWith c.ask_sorted.result (g.S.Source.refuses c.args.source.now (asked (q ∷ c.args.rest.now)) c.ask_sorted.new.source)) (sym c.in-EachSorted.is) c.ask_sorted.ensures.left

pub returns-in-Pick-clause-left : goal.returns-in-Pick-clause-left
returns-in-Pick-clause-left g c = subst (λ q. IfRefusedWith c.ask_pick.result (g.S.Source.refuses c.args.source.now (asked (q ∷ c.args.rest.now)) c.ask_pick.new.source)) (sym c.in-Pick.is) c.ask_pick.ensures.left
