use Rattle.std.proofs.Common.{arith, ap, ◌∙◌, length, subst}
use Rattle.std.proofs.lemmas.List.{length-map}
use Rattle.trees.specs.Types.{item_of}
use Rattle.type_table.specs.Items.{root_numbers, addition_numbers}
use Rattle.type_table.specs.Seen.{root_items, more_of}
use Rattle.type_table.specs.proving.Checks.{IsGreatAt}
use Rattle.additions.proofs.Rising.{no_great, roots_within, roots_long, found_items}
use Rattle.additions.proofs.items.items_break.Goals as goal

pub falling-requires : goal.falling-requires
falling-requires c =
    let g = c.args.given.now in
    let a = roots_within (root_items g) (more_of g) c.in-Ok.numbers.items c.in-Ok.ensures.numbers in
    let m = length-map g.root.items item_of in
    let v = ap length c.deref.ensures.value in
    omega (arith, a, m, v, c.len.ensures)

pub unreachable-requires : goal.unreachable-requires
unreachable-requires c =
    let root = root_items c.args.given.now in
    let more = more_of c.args.given.now in
    no_great root more c.in-Err-TooGreat.field-0-0 c.requires
    (subst (IsGreatAt (root_numbers root) more) c.in-Err-TooGreat.field-0-is c.in-Err-TooGreat.ensures.fault)

pub returns-in-Ok : goal.returns-in-Ok
returns-in-Ok c =
    let g = c.args.given.now in
    let a = roots_long (root_items g) in
    let m = length-map g.root.items item_of in
    found_items (root_items g) (more_of g) c.falling.result
    (c.falling.ensures (root_numbers (root_items g)) (addition_numbers (root_items g) (more_of g)) (c.deref.ensures.value ∙ c.in-Ok.ensures.numbers) (omega (arith, a, m, c.len.ensures)))
