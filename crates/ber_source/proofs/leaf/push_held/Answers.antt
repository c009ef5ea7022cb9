use Rattle.std.proofs.Common.{◌≡◌, sym, subst}
use Rattle.std.specs.Prelude.{OnOk}
use Rattle.octets.specs.Forms.{is_constructed}
use Rattle.views.specs.Building.{with_leaf}
use Rattle.views.specs.Seen.{HasBuilt}
use Rattle.views.specs.Tree.{Leaf, leaf_value}
use Rattle.ber_source.specs.PrimitiveValue.{AreReadAs}
use Rattle.ber_source.specs.Shown.{IsShownAs}
use Rattle.ber_source.specs.Wants.{AreHeld}
use Rattle.ber_source.proofs.Leaves.{joined_in, joined_of, whole_of, widened}
use Rattle.ber_source.proofs.leaf.push_held.Goals as goal

pub push_whole-requires-clause-read : goal.push_whole-requires-clause-read
push_whole-requires-clause-read c =
    (whole_of (is_constructed c.args.held.form) (subst (λ q. AreReadAs (is_constructed c.args.held.form) c.args.held.kind c.args.held.octets.now q) c.in-Whole.is c.requires.read)).1

pub returns-in-Whole : goal.returns-in-Whole
returns-in-Whole c v b h k =
    let x = c.args.held.octets.now in
    let at = c.args.held.at in
    let w = whole_of (is_constructed c.args.held.form) (subst (λ q. AreReadAs (is_constructed c.args.held.form) c.args.held.kind x q) c.in-Whole.is c.requires.read) in
    subst (λ f. OnOk c.push_whole.result ((l : Leaf) × (leaf_value l ≡ v) × IsShownAs f x at l × HasBuilt c.push_whole.new.builder (with_leaf c.args.number l b))) (sym w.0)
    (c.push_whole.ensures v b (subst (λ f. AreHeld c.args.held.kind f x at v) w.0 h) k)

pub push_joined-requires : goal.push_joined-requires
push_joined-requires c =
    (joined_in (is_constructed c.args.held.form) (subst (λ q. AreReadAs (is_constructed c.args.held.form) c.args.held.kind c.args.held.octets.now q) c.in-Reassembled.is c.requires.read)).1.1

pub returns-in-Reassembled : goal.returns-in-Reassembled
returns-in-Reassembled c v b h k =
    let x = c.args.held.octets.now in
    let at = c.args.held.at in
    let w = joined_in (is_constructed c.args.held.form) (subst (λ q. AreReadAs (is_constructed c.args.held.form) c.args.held.kind x q) c.in-Reassembled.is c.requires.read) in
    let j = w.1.0 in
    subst (λ f. OnOk c.push_joined.result ((l : Leaf) × (leaf_value l ≡ v) × IsShownAs f x at l × HasBuilt c.push_joined.new.builder (with_leaf c.args.number l b))) (sym w.0)
    (c.push_joined.ensures v b x at (joined_of (λ y u p q. c.lemma_one_joining.ensures.value c.args.held.kind y u 400 x p q) (subst (λ f. AreHeld c.args.held.kind f x at v) w.0 h) (widened j.1 j.2)) k)
