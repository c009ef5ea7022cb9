use Rattle.std.proofs.Common.{subst}
use Rattle.codec_source.specs.Events.{which_comes}
use Rattle.codec_source.proofs.Asking.{ranked_some, ranked_none, ranked_never}
use Rattle.codec_source.proofs.ask.ask_ranked.Goals as goal

pub returns-in-Ok-Some-clause-ok : goal.returns-in-Ok-Some-clause-ok
returns-in-Ok-Some-clause-ok g c = ranked_some g.S.Source.takes c.args.field c.args.rank c.args.rest.now c.args.all.now c.args.source.now c.next_component.new.self c.in-Ok-Some.field-0 c.in-Ok-Some.id c.requires c.in-Ok-Some.ensures.ok c.in-Ok-Some.field-0-is

pub returns-in-Ok-None-clause-ok : goal.returns-in-Ok-None-clause-ok
returns-in-Ok-None-clause-ok g c = ranked_none g.S.Source.takes c.args.field c.args.rank c.args.rest.now c.args.all.now c.after_components.result.now c.args.source.now c.next_component.new.self c.in-Ok-None.field-0 c.requires c.in-Ok-None.ensures.ok c.in-Ok-None.field-0-is c.after_components.ensures

pub returns-in-Err-clause-err : goal.returns-in-Err-clause-err
returns-in-Err-clause-err g c = λ other. ranked_never g.S.Source.takes c.args.field c.args.rank c.args.rest.now c.args.all.now c.args.source.now c.requires (c.in-Err.ensures.err other)

pub returns-in-Err-clause-left : goal.returns-in-Err-clause-left
returns-in-Err-clause-left g c = λ other. subst (λ q. g.S.Source.refuses c.args.source.now (which_comes q) c.next_component.new.self c.in-Err.fault) c.requires (c.in-Err.ensures.left other)
