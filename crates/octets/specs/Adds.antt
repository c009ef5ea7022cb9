-- What a written header adds.
use Rattle.std.specs.Prelude.{◌≡◌, ℕ, Bool, List, ◌++◌}
use Rattle.asn_base.specs.declared.tag.Tag.{Tag}
use Rattle.encodings.specs.Rules.{Distinguished}
use Rattle.encodings.specs.Header.{HeaderBy}

-- the octets gained one header of this tag, form and length by the distinguished rules, and there is no other such
-- header
pub record AddsHeader (t : Tag) (c : Bool) (n : ℕ) (old new : List ℕ) : Type 0 where
  pub header : List ℕ
  pub is : HeaderBy Distinguished t c n header
  pub only : (p : List ℕ) → HeaderBy Distinguished t c n p → p ≡ header
  pub joined : new ≡ old ++ header
