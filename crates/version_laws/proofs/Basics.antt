-- What octets say by any rules they say by the basic ones, with no more levels.
use Rattle.std.proofs.Common.{arith, ℕ, ◌≤◌, Bool, List}
use Rattle.asn_base.specs.Abstract.{AbstractValue, Row}
use Rattle.asn_base.specs.Types.{Kind, Component, Resolved}
use Rattle.encodings.specs.Rules.{Rules, Basic}
use Rattle.encodings.specs.Contents.{Contents, of_false, of_true, of_integer, of_enumerated, of_bits, of_named_bits, of_octets, of_null, of_oid, of_relative_oid, of_utf8, of_restricted}
use Rattle.encodings.specs.Encoding.{EncodesTo, says, ContentsEncode, leaf, sequence, set, sequence_of, set_of, choice, Members, no_member, left_out, member, Elements, no_element, element}
use Rattle.encodings.specs.Levels.{levels, inner_levels, leaf_levels, member_levels, element_levels}
use Rattle.version_laws.proofs.Older.{basic_frame, SaysWithin, ElementsWithin}

record HoldsBasic (s : List Resolved) (k : Kind) (w : AbstractValue) (n : ℕ) (c : Bool) (x : List ℕ) (m : ℕ) : Type 0 where
  holds : ContentsEncode s Basic k w n c x
  few : inner_levels holds ≤ m

record MembersBasic (s : List Resolved) (cs : List Component) (ws : Row) (n : ℕ) (xs : List (List ℕ)) (m : ℕ) : Type 0 where
  members : Members s Basic cs ws n xs
  few : member_levels members ≤ m

leaf_basic : {s : List Resolved} {r : Rules} {k : Kind} {w : AbstractValue} {c : Bool} {x : List ℕ} → (con : Contents r k w c x) → HoldsBasic s k w 0 c x (leaf_levels con)
leaf_basic of_false = record { holds = leaf of_false; few = omega arith }
leaf_basic (of_true a l e) = record { holds = leaf (of_true a l tt); few = omega arith }
leaf_basic (of_integer a) = record { holds = leaf (of_integer a); few = omega arith }
leaf_basic (of_enumerated a) = record { holds = leaf (of_enumerated a); few = omega arith }
leaf_basic (of_bits a e y) = record { holds = leaf (of_bits a tt tt); few = omega arith }
leaf_basic (of_named_bits a e y z) = record { holds = leaf (of_named_bits a tt tt tt); few = omega arith }
leaf_basic (of_octets a e) = record { holds = leaf (of_octets a tt); few = omega arith }
leaf_basic of_null = record { holds = leaf of_null; few = omega arith }
leaf_basic (of_oid a) = record { holds = leaf (of_oid a); few = omega arith }
leaf_basic (of_relative_oid a) = record { holds = leaf (of_relative_oid a); few = omega arith }
leaf_basic (of_utf8 a e) = record { holds = leaf (of_utf8 a tt); few = omega arith }
leaf_basic (of_restricted a e) = record { holds = leaf (of_restricted a tt); few = omega arith }

mutual
  pub basic : {s : List Resolved} {r : Rules} {t n : ℕ} {w : AbstractValue} {o : List ℕ} → (d : EncodesTo s r t w n o) → SaysWithin s t w n o (levels d)
  basic (says i h f) = let one = holds_basic h in let few = one.few in record { says_it = says i one.holds (basic_frame f); few = omega (arith, few) }

  holds_basic : {s : List Resolved} {r : Rules} {k : Kind} {n : ℕ} {w : AbstractValue} {c : Bool} {x : List ℕ} → (h : ContentsEncode s r k w n c x) → HoldsBasic s k w n c x (inner_levels h)
  holds_basic (leaf con) = leaf_basic con
  holds_basic (sequence p u) = let r = members_basic p in let few = r.few in record { holds = sequence r.members u; few = omega (arith, few) }
  holds_basic (set p pe st u mg) = let r = members_basic p in let few = r.few in record { holds = set r.members pe tt u mg; few = omega (arith, few) }
  holds_basic (sequence_of es) = let r = elements_basic es in record { holds = sequence_of r.elements; few = r.few }
  holds_basic (set_of es st) = let r = elements_basic es in record { holds = set_of r.elements tt; few = r.few }
  holds_basic (choice g d) = let r = basic d in record { holds = choice g r.says_it; few = r.few }

  members_basic : {s : List Resolved} {r : Rules} {cs : List Component} {ws : Row} {n : ℕ} {xs : List (List ℕ)} → (ms : Members s r cs ws n xs) → MembersBasic s cs ws n xs (member_levels ms)
  members_basic no_member = record { members = no_member; few = omega arith }
  members_basic (left_out f ms) = let r = members_basic ms in record { members = left_out f r.members; few = r.few }
  members_basic (member a st ms) =
      let one = basic a in
      let r = members_basic ms in
      let few = one.few in
      let rest = r.few in
      record { members = member one.says_it tt r.members; few = omega (arith, few, rest) }

  elements_basic : {s : List Resolved} {r : Rules} {u n : ℕ} {ws : Row} {xs : List (List ℕ)} → (es : Elements s r u ws n xs) → ElementsWithin s u ws n xs (element_levels es)
  elements_basic no_element = record { elements = no_element; few = omega arith }
  elements_basic (element a es) =
      let one = basic a in
      let r = elements_basic es in
      let few = one.few in
      let rest = r.few in
      record { elements = element one.says_it r.elements; few = omega (arith, few, rest) }
