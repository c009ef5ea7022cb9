use Rattle.std.proofs.Common.{◌≡◌, List, ℕ, map, subst, sym, ap, ◌∙◌}
use Rattle.type_table.specs.trees.Types.{plain_of}
use Rattle.type_table.specs.Seen.{part_of, kind_of}
use Rattle.circles.specs.Circles.{IsPart, referred, target_tag, element}
use Rattle.type_table.specs.Table.{WrittenKind, simple, reference, tagged, members, elements}
use Rattle.circles.specs.proving.Reach.{Marks}
use Rattle.circles.proofs.Marking.{marks_simple, marks_reference, marks_tagged, marks_elements, member_either}
use Rattle.circles.proofs.reach.mark_parts.Goals as goal

-- the kind is known
of_kind : (s : ℕ) (k l : WrittenKind) (m m' w w' : List ℕ) → k ≡ l → Marks s (λ i. IsPart i l) m m' w w' → Marks s (λ i. IsPart i k) m m' w w'
of_kind s k l m m' w w' e a = subst (λ z. Marks s (λ i. IsPart i z) m m' w w') (sym e) a

pub returns-in-Simple : goal.returns-in-Simple
returns-in-Simple c =
    of_kind c.args.search (kind_of c.args.written.now.shape) (simple (plain_of c.in-Simple.field-0)) c.args.marks.now c.args.marks.now c.args.waiting.now.items c.args.waiting.now.items (ap kind_of c.in-Simple.is)
    (marks_simple c.args.search (plain_of c.in-Simple.field-0) c.args.marks.now c.args.waiting.now.items)

pub mark-requires : goal.mark-requires
mark-requires c = c.requires c.in-Reference.meant (subst (λ z. IsPart c.in-Reference.meant z) (sym (ap kind_of c.in-Reference.is)) referred)

pub returns-in_ok-mark-in-Reference : goal.returns-in_ok-mark-in-Reference
returns-in_ok-mark-in-Reference c =
    of_kind c.args.search (kind_of c.args.written.now.shape) (reference c.in-Reference.meant) c.args.marks.now c.mark.new.marks c.args.waiting.now.items c.mark.new.waiting.items (ap kind_of c.in-Reference.is)
    (marks_reference c.args.search c.in-Reference.meant c.args.marks.now c.mark.new.marks c.args.waiting.now.items c.mark.new.waiting.items c.in_ok-mark-in-Reference.ensures)

pub mark-requires-in-Tagged : goal.mark-requires-in-Tagged
mark-requires-in-Tagged c = c.requires c.in-Tagged.inner (subst (λ z. IsPart c.in-Tagged.inner z) (sym (ap kind_of c.in-Tagged.is)) target_tag)

pub returns-in_ok-mark-in-Tagged : goal.returns-in_ok-mark-in-Tagged
returns-in_ok-mark-in-Tagged c =
    of_kind c.args.search (kind_of c.args.written.now.shape) (tagged c.in-Tagged.field-0 c.in-Tagged.field-1 c.in-Tagged.inner) c.args.marks.now c.mark-in-Tagged.new.marks c.args.waiting.now.items c.mark-in-Tagged.new.waiting.items (ap kind_of c.in-Tagged.is)
    (marks_tagged c.args.search c.in-Tagged.inner c.in-Tagged.field-0 c.in-Tagged.field-1 c.args.marks.now c.mark-in-Tagged.new.marks c.args.waiting.now.items c.mark-in-Tagged.new.waiting.items c.in_ok-mark-in-Tagged.ensures)

pub mark-requires-in-Elements : goal.mark-requires-in-Elements
mark-requires-in-Elements c = c.requires c.in-Elements.element (subst (λ z. IsPart c.in-Elements.element z) (sym (ap kind_of c.in-Elements.is)) element)

pub returns-in_ok-mark-in-Elements : goal.returns-in_ok-mark-in-Elements
returns-in_ok-mark-in-Elements c =
    of_kind c.args.search (kind_of c.args.written.now.shape) (elements c.in-Elements.field-0 c.in-Elements.element) c.args.marks.now c.mark-in-Elements.new.marks c.args.waiting.now.items c.mark-in-Elements.new.waiting.items (ap kind_of c.in-Elements.is)
    (marks_elements c.args.search c.in-Elements.element c.in-Elements.field-0 c.args.marks.now c.mark-in-Elements.new.marks c.args.waiting.now.items c.mark-in-Elements.new.waiting.items c.in_ok-mark-in-Elements.ensures)

pub mark_members-requires : goal.mark_members-requires
mark_members-requires c = λ l m k p.
    let e : kind_of c.args.written.now.shape ≡ members c.in-Members.field-0 c.in-Members.field-1 (map part_of c.deref.result.now) = ap kind_of c.in-Members.is ∙ ap (λ x. members c.in-Members.field-0 c.in-Members.field-1 (map part_of x)) (sym c.deref.ensures.value) in
    c.requires k (subst (λ z. IsPart k z) (sym e) (member_either l c.in-Members.field-0 m c.in-Members.field-1 (map part_of c.deref.result.now) k p))

pub returns-in_ok-mark_members-in-Members : goal.returns-in_ok-mark_members-in-Members
returns-in_ok-mark_members-in-Members c =
    let e : kind_of c.args.written.now.shape ≡ members c.in-Members.field-0 c.in-Members.field-1 (map part_of c.deref.result.now) = ap kind_of c.in-Members.is ∙ ap (λ x. members c.in-Members.field-0 c.in-Members.field-1 (map part_of x)) (sym c.deref.ensures.value) in
    of_kind c.args.search (kind_of c.args.written.now.shape) (members c.in-Members.field-0 c.in-Members.field-1 (map part_of c.deref.result.now)) c.args.marks.now c.mark_members.new.marks c.args.waiting.now.items c.mark_members.new.waiting.items e
    (c.in_ok-mark_members-in-Members.ensures c.in-Members.field-0 c.in-Members.field-1)
