use Rattle.extensions.specs.proving.Tables.{table_seen}
use Rattle.extensions.proofs.Each.{all_typed}
use Rattle.extensions.proofs.schema.settled_types.Goals as goal

pub returns-in-Err : goal.returns-in-Err
returns-in-Err c = c.of_additions.ensures c.args.bounded.now c.in-Err.ensures

pub returns-in-Err-all_typed : goal.returns-in-Err-all_typed
returns-in-Err-all_typed c =
    let p = c.args.bounded.now.program in
    c.of_assigned.ensures c.args.bounded.now c.in-Ok.ensures (all_typed p (table_seen c.in-Ok-all_defaults.table.items) c.in-Ok-all_defaults.ensures.table)
    c.in-Err-all_typed.ensures.fault

pub returns-in-Ok-all_types : goal.returns-in-Ok-all_types
returns-in-Ok-all_types c = record {
  asked = record {
    additions = c.in-Ok.ensures;
    defaults = all_typed c.args.bounded.now.program (table_seen c.in-Ok-all_defaults.table.items) c.in-Ok-all_defaults.ensures.table;
    values = c.in-Ok-all_typed.ensures.typed;
  };
  settled = c.in-Ok-all_types.ensures;
}
