use Rattle.std.proofs.Common.{◌≡◌, ◌||◌, rules, sym, ap, cond, true, ◌∙◌, string_bytes}
use Rattle.std.specs.Str.{bytes_eq}
use Rattle.std.specs.HashSet.{contains_text}
use Rattle.std.proofs.lemmas.Map.Text.{hash_set_updates_text}
use Rattle.trees.specs.Values.{name_at}
use Rattle.names.proofs.Listing.{any_more, either_way}
use Rattle.names.proofs.exports.fill.Goals as goal

pub loop-name-preserved : goal.loop-name-preserved
loop-name-preserved c = λ x.
    let ns = c.args.names.now in
    let i = c.loop-name.name-index in
    let name = c.in_ok-from_str.field-0 in
    let same : string_bytes name ≡ name_at c.name-item.result = search rules in
    let u = hash_set_updates_text (string_bytes name) c.loop-name.table c.insert.new.self _ c.in_ok-insert.ensures.updates x in
    u ∙ ap (λ z. cond (bytes_eq z x) true (contains_text c.loop-name.table x)) same ∙ either_way x (name_at c.name-item.result) (contains_text c.loop-name.table x) ∙ ap (λ b. b || bytes_eq x (name_at c.name-item.result)) (c.loop-name.invariant x) ∙ sym (any_more x ns i c.name-item.result c.loop-name-test.true c.name-item.is)
