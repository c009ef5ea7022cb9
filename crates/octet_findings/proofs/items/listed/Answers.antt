use Rattle.std.proofs.Common.{◌∙◌, [], ap, map, string_bytes}
use Rattle.asn_base.specs.Seen.{item_of}
use Rattle.octet_findings.proofs.Found.{listed_both, listed_cut}
use Rattle.octet_findings.proofs.items.listed.Goals as goal
use Rattle.octet_findings.proofs.items.listed.Goals.{then-branch+in_ok-push_items-2, else-branch}

pub returns : goal.returns
returns c =
    let roots = map item_of c.args.items.now.root.items in
    let more = map item_of c.args.items.now.additions.items in
    elim c.if-branch.branch [
      | then-branch+in_ok-push_items-2 w ↦ ap (λ s. string_bytes s) w.list-is
          ∙ listed_both (string_bytes c.new-list.result) (string_bytes c.push_items.new.list)
          (string_bytes w.push_items-then-branch.new.list)
          roots (map item_of c.as_slice.result.now) more (map item_of w.as_slice-then-branch.result.now)
          c.in_ok-push_items.field-0 w.in_ok-push_items-2.field-0
          c.new-list.ensures.bytes (ap (λ y. map item_of y) c.as_slice.ensures.value)
          (ap (λ y. map item_of y) w.as_slice-then-branch.ensures.value) w.if-branch.true
          (c.in_ok-push_items.ensures more) (w.in_ok-push_items-2.ensures [])
      | else-branch w ↦ ap (λ s. string_bytes s) w.list-is
          ∙ listed_cut (string_bytes c.new-list.result) (string_bytes c.push_items.new.list)
          roots (map item_of c.as_slice.result.now) more c.in_ok-push_items.field-0
          c.new-list.ensures.bytes (ap (λ y. map item_of y) c.as_slice.ensures.value) w.if-branch.false
          (c.in_ok-push_items.ensures more)
    ]
