use Rattle.named_values.proofs.meaning.of_text.Goals as goal

pub returns-in-Err-clause-refused : goal.returns-in-Err-clause-refused
returns-in-Err-clause-refused c =
    c.unread.ensures c.args.modules.now c.args.ty.now c.args.text.now (c.args.id.index, c.requires.typed) c.in-Err.ensures.fault

pub returns-clause-refused : goal.returns-clause-refused
returns-clause-refused c =
    let same = rw c.in-Err-Diagnosed.field-0-is at c.in-Err-Diagnosed.ensures.fault in
    c.placed.ensures c.args.ty.now c.module_in-within.ensures (record {
      type = c.args.id.index;
      within = c.module_in-within.result.now;
      notation = c.in-Ok.notation;
      named = record {
        typed = c.requires.typed;
        given = record { within = c.module_in-within.ensures; is = c.in-Ok.ensures.found };
      };
      none = same;
    })
