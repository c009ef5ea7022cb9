use Rattle.std.proofs.Common.{◌↔◌, ◌⊎◌, ◌<◌, ℕ, take}
use Rattle.asn_base.specs.Names.{IsMember}
use Rattle.constraints.proofs.characters.add_text.Given as goal

abbrev pub invariant-loop-octet : goal.invariant-loop-octet
invariant-loop-octet l =
    (c : ℕ) → (IsMember c l.codes ↔ (IsMember c l.initial.codes ⊎ (IsMember c (take l.octet-index l.text) × (c < 128))))
