use Rattle.std.proofs.Common.{◌<◌, length, sym, ap, ◌∙◌, subst}
use Rattle.value_text.specs.Print.{print}
use Rattle.views.specs.Tree.{value_of}
use Rattle.asnc.specs.Reading.{rules_of}
use Rattle.asnc.proofs.MessagesRead.{type_there}
use Rattle.asnc.proofs.reading.read_text.Goals as goal

pub print_shown-requires : goal.print_shown-requires
print_shown-requires c =
    record { there = subst (λ s. c.args.ty.id.index < length s) (sym c.args.ty.same) (type_there c.in-Ok.ensures.read.reading.encodes.value) }

pub returns-clause-read : goal.returns-clause-read
returns-clause-read c =
    let q = c.in-Ok.ensures.read.reading in
    record {
      value = value_of c.in-Ok.read.view;
      encodes = q.encodes;
      few = q.few;
      short = q.short;
      only = c.in-Ok.ensures.read.only;
      by_rules = c.in-Ok.ensures.read.by_rules;
      text = c.in_ok-text.ensures ∙ ap (λ s. print s c.args.ty.id.index (value_of c.in-Ok.read.view)) c.args.ty.same;
    }

pub returns-in-Err-clause-refused : goal.returns-in-Err-clause-refused
returns-in-Err-clause-refused c =
    c.refusal.ensures.valid (rules_of c.args.rules) c.in-Err.ensures.refused
