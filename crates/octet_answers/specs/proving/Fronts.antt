-- The header of an encoding at the start of octets.
use Rattle.std.proofs.Common.{arith, ℕ, Bool, List, ◌++◌, length, length-append}
use Rattle.asn_base.specs.declared.tag.Tag.{Tag}
use Rattle.octets.specs.Fronts.{HeaderAt}
use Rattle.octet_answers.specs.Units.{UnitAt}

pub front_of : {g : Tag} {c : Bool} {k : ℕ} {x r o : List ℕ} → UnitAt g c k x r o → HeaderAt g c (length x) k o
front_of {x = x} {r = r} u = record {
  header = u.header;
  rest = x ++ r;
  is_header = u.is_header;
  few = u.few;
  long = u.long;
  whole = u.whole;
  follow = let l = length-append x r in omega arith;
}
