use Rattle.std.proofs.Common.{◌≡◌, false, subst, sym, ap, ◌∙◌, string_bytes}
use Rattle.std.specs.List.{list_any}
use Rattle.std.specs.Prelude.{bytes_eq}
use Rattle.std.proofs.lemmas.Slice.Eq.{bytes_eq-Decides}
use Rattle.trees.specs.Values.{name_at}
use Rattle.names.specs.Modules.{OccursIn}
use Rattle.type_table.specs.proving.Checks.{texts}
use Rattle.type_table.proofs.Sets.{any_true, any_false, added_text}
use Rattle.type_table.proofs.lists.name_once.Goals as goal

pub returns-then-contains-clause-fault : goal.returns-then-contains-clause-fault
returns-then-contains-clause-fault c =
    let x = c.as_str-text.result.now in
    let ks = c.args.names.now.keys in
    let e = c.in_ok-source_location.ensures in
    (e.within, e.name ∙ c.as_str-text.ensures.value, subst (λ z. OccursIn (texts ks) z) c.as_str-text.ensures.value (any_true string_bytes x (λ k. bytes_eq x (string_bytes k)) ks (λ k e. (bytes_eq-Decides x (string_bytes k)).0 e) (sym c.if-contains.ensures)))

pub returns-clause-added : goal.returns-clause-added
returns-clause-added c =
    let ks = c.args.names.now.keys in
    let none : list_any (λ y. bytes_eq (name_at c.args.name.now) (string_bytes y)) ks ≡ false = ap (λ z. list_any (λ y. bytes_eq z (string_bytes y)) ks) (sym c.as_str-text.ensures.value) ∙ sym c.if-contains.ensures in
    added_text ks c.insert.new.self.keys c.in_ok-from_str.field-0 (name_at c.args.name.now) (c.in_ok-from_str.ensures.ok ∙ c.as_str-text.ensures.value) none c.in_ok-insert.ensures.keys

pub returns-clause-fresh : goal.returns-clause-fresh
returns-clause-fresh c = λ s.
    let x = c.as_str-text.result.now in
    let ks = c.args.names.now.keys in
    any_false string_bytes x (λ k. bytes_eq x (string_bytes k)) ks (λ k e. (bytes_eq-Decides x (string_bytes k)).1 e) (sym c.if-contains.ensures) (subst (λ z. OccursIn (texts ks) z) (sym c.as_str-text.ensures.value) s)
