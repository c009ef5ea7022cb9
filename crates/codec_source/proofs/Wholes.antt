-- Values that hold no others, read at once.
use Rattle.std.proofs.Common.{arith, ℕ, List, [], ◌∷◌, refl}
use Rattle.std.specs.Prelude.{None}
use Rattle.codec_code.specs.declared.step.Head.{Head as Head'}
use Rattle.encodings.specs.declared.leaf_kind.LeafKind.{LeafKind}
use Rattle.codec_code.specs.declared.step.Step.{Step}
use Rattle.codec_code.specs.declared.step.Step.TheVariants.{Head, Leaf, End}
use Rattle.codec_source.specs.declared.frame.Frame.{Frame}
use Rattle.codec_source.specs.Events.{Event, opens, holds, closes, ends, IsOneAnswer, Question, to_open, to_hold, to_close, to_end}
use Rattle.codec_source.specs.Reading.{head, leaf, ending}
use Rattle.codec_source.specs.proving.Frames.{Same, Never, Goes, Before, GoesStop, BeforeStops}
use Rattle.codec_source.proofs.Asking.{no_head, no_leaf, no_end}
use Rattle.codec_source.proofs.Running.{same_then, asked_before, ended_before, never_asked, never_ended}
use Rattle.codec_source.proofs.Halting.{asked_stops, before_none, nothing_asked, none_ended, ended_stops}

-- the three steps, and those after the first ones
abbrev pub at_header : Head' → LeafKind → List Step
at_header h k = Head h ∷ Leaf k ∷ End ∷ []

abbrev pub at_contents : LeafKind → List Step
at_contents k = Leaf k ∷ End ∷ []

abbrev pub at_close : List Step
at_close = End ∷ []

module _ {S : Type 0} (r : ℕ → List Step) (takes : S → Event → S → Type 0) (one : IsOneAnswer takes) (h : Head') (k : LeafKind) (fs : List Frame) where
  opened : (x a : S) → takes x (opens h) a → Same (Before r takes (at_header h k) fs x) (Before r takes (at_contents k) fs a)
  opened x a o = asked_before r takes one (at_header h k) (at_contents k) None fs x a (head o)

  held : (a b : S) → takes a (holds k) b → Same (Before r takes (at_contents k) fs a) (Before r takes at_close fs b)
  held a b l = asked_before r takes one (at_contents k) at_close None fs a b (leaf l)

  closed : (b c : S) → takes b closes c → Same (Before r takes at_close fs b) (Before r takes [] fs c)
  closed b c e = asked_before r takes one at_close [] None fs b c (ending e)

  through_close : (x a b : S) → takes x (opens h) a → takes a (holds k) b → Same (Before r takes (at_header h k) fs x) (Before r takes at_close fs b)
  through_close x a b o l = same_then (opened x a o) (held a b l)

  through_end : (x a b c : S) → takes x (opens h) a → takes a (holds k) b → takes b closes c → Same (Before r takes (at_header h k) fs x) (Before r takes [] fs c)
  through_end x a b c o l e = same_then (through_close x a b o l) (closed b c e)

  pub at_once : (x a b c z : S) → takes x (opens h) a → takes a (holds k) b → takes b closes c → takes c ends z → Same (Before r takes (at_header h k) fs x) (Goes r takes fs z)
  at_once x a b c z o l e d = same_then (through_end x a b c o l e) (ended_before r takes one [] fs c z refl d)

  pub none_opened : (x : S) → ((y : S) → takes x (opens h) y → ⊥) → Never (Before r takes (at_header h k) fs x)
  none_opened x n = never_asked r takes one (at_header h k) fs x (omega arith) (no_head takes h (at_contents k) x n)

  pub none_held : (x a : S) → takes x (opens h) a → ((y : S) → takes a (holds k) y → ⊥) → Never (Before r takes (at_header h k) fs x)
  none_held x a o n z p = never_asked r takes one (at_contents k) fs a (omega arith) (no_leaf takes k at_close a n) z ((opened x a o).to z p)

  pub none_closed : (x a b : S) → takes x (opens h) a → takes a (holds k) b → ((y : S) → takes b closes y → ⊥) → Never (Before r takes (at_header h k) fs x)
  none_closed x a b o l n z p = never_asked r takes one at_close fs b (omega arith) (no_end takes [] b n) z ((through_close x a b o l).to z p)

  pub none_left : (x a b c : S) → takes x (opens h) a → takes a (holds k) b → takes b closes c → ((y : S) → takes c ends y → ⊥) → Never (Before r takes (at_header h k) fs x)
  none_left x a b c o l e n z p = never_ended r takes one [] fs c refl n z ((through_end x a b c o l e).to z p)

module _ {S : Type 0} (r : ℕ → List Step) (takes : S → Event → S → Type 0) (refuses : S → Question → S → Type 0) (h : Head') (k : LeafKind) (fs : List Frame) where
  after_header : (x a z : S) → takes x (opens h) a → BeforeStops r takes refuses (at_contents k) fs a z → BeforeStops r takes refuses (at_header h k) fs x z
  after_header x a z o s = asked_stops r takes refuses (at_header h k) (at_contents k) None fs x a z (head o) (before_none r takes refuses (at_contents k) fs a z s)

  after_contents : (a b z : S) → takes a (holds k) b → BeforeStops r takes refuses at_close fs b z → BeforeStops r takes refuses (at_contents k) fs a z
  after_contents a b z l s = asked_stops r takes refuses (at_contents k) at_close None fs a b z (leaf l) (before_none r takes refuses at_close fs b z s)

  after_close : (b c z : S) → takes b closes c → BeforeStops r takes refuses [] fs c z → BeforeStops r takes refuses at_close fs b z
  after_close b c z e s = asked_stops r takes refuses at_close [] None fs b c z (ending e) (before_none r takes refuses [] fs c z s)

  after_all : (x a b c z : S) → takes x (opens h) a → takes a (holds k) b → takes b closes c → BeforeStops r takes refuses [] fs c z → BeforeStops r takes refuses (at_header h k) fs x z
  after_all x a b c z o l e s = after_header x a z o (after_contents a b z l (after_close b c z e s))

  pub stops_after : (x a b c y z : S) → takes x (opens h) a → takes a (holds k) b → takes b closes c → takes c ends y → GoesStop r takes refuses fs y z → BeforeStops r takes refuses (at_header h k) fs x z
  stops_after x a b c y z o l e d s = after_all x a b c z o l e (ended_stops r takes refuses [] fs c y z refl d s)

  pub stops_at_header : (x z : S) → ((y : S) → takes x (opens h) y → ⊥) → refuses x (to_open h) z → BeforeStops r takes refuses (at_header h k) fs x z
  stops_at_header x z n l = nothing_asked r takes refuses (at_header h k) fs x z (omega arith) (no_head takes h (at_contents k) x n) l

  pub stops_at_contents : (x a z : S) → takes x (opens h) a → ((y : S) → takes a (holds k) y → ⊥) → refuses a (to_hold k) z → BeforeStops r takes refuses (at_header h k) fs x z
  stops_at_contents x a z o n l = after_header x a z o (nothing_asked r takes refuses (at_contents k) fs a z (omega arith) (no_leaf takes k at_close a n) l)

  pub stops_at_close : (x a b z : S) → takes x (opens h) a → takes a (holds k) b → ((y : S) → takes b closes y → ⊥) → refuses b to_close z → BeforeStops r takes refuses (at_header h k) fs x z
  stops_at_close x a b z o i n l = after_header x a z o (after_contents a b z i (nothing_asked r takes refuses at_close fs b z (omega arith) (no_end takes [] b n) l))

  pub stops_at_end : (x a b c z : S) → takes x (opens h) a → takes a (holds k) b → takes b closes c → ((y : S) → takes c ends y → ⊥) → refuses c to_end z → BeforeStops r takes refuses (at_header h k) fs x z
  stops_at_end x a b c z o i e n l = after_all x a b c z o i e (none_ended r takes refuses [] fs c z refl n l)

-- ---- the end of a value whose routine began with a header

module _ {S : Type 0} (r : ℕ → List Step) (takes : S → Event → S → Type 0) (one : IsOneAnswer takes) (fs : List Frame) where
  closed_only : (b c : S) → takes b closes c → Same (Before r takes at_close fs b) (Before r takes [] fs c)
  closed_only b c e = asked_before r takes one at_close [] None fs b c (ending e)

  pub closed_and_ended : (b c z : S) → takes b closes c → takes c ends z → Same (Before r takes at_close fs b) (Goes r takes fs z)
  closed_and_ended b c z e d = same_then (closed_only b c e) (ended_before r takes one [] fs c z refl d)

  pub never_closed : (b : S) → ((y : S) → takes b closes y → ⊥) → Never (Before r takes at_close fs b)
  never_closed b n = never_asked r takes one at_close fs b (omega arith) (no_end takes [] b n)

  pub closed_never_ended : (b c : S) → takes b closes c → ((y : S) → takes c ends y → ⊥) → Never (Before r takes at_close fs b)
  closed_never_ended b c e n z p = never_ended r takes one [] fs c refl n z ((closed_only b c e).to z p)

module _ {S : Type 0} (r : ℕ → List Step) (takes : S → Event → S → Type 0) (refuses : S → Question → S → Type 0) (fs : List Frame) where
  closed_first : (b c z : S) → takes b closes c → BeforeStops r takes refuses [] fs c z → BeforeStops r takes refuses at_close fs b z
  closed_first b c z e s = asked_stops r takes refuses at_close [] None fs b c z (ending e) (before_none r takes refuses [] fs c z s)

  pub stops_past_end : (b c y z : S) → takes b closes c → takes c ends y → GoesStop r takes refuses fs y z → BeforeStops r takes refuses at_close fs b z
  stops_past_end b c y z e d s = closed_first b c z e (ended_stops r takes refuses [] fs c y z refl d s)

  pub stops_unclosed : (b z : S) → ((y : S) → takes b closes y → ⊥) → refuses b to_close z → BeforeStops r takes refuses at_close fs b z
  stops_unclosed b z n l = nothing_asked r takes refuses at_close fs b z (omega arith) (no_end takes [] b n) l

  pub stops_unended : (b c z : S) → takes b closes c → ((y : S) → takes c ends y → ⊥) → refuses c to_end z → BeforeStops r takes refuses at_close fs b z
  stops_unended b c z e n l = closed_first b c z e (none_ended r takes refuses [] fs c z refl n l)
