use Rattle.std.proofs.Common.{◌≡◌, ◌+◌, ◌*◌, ◌-◌, ◌≤◌, List, ◌++◌, length, map, drop}
use Rattle.std.specs.Prelude.{option_map}
use Rattle.asn_base.specs.Abstract.{abstract, row_of_options, row_of_list}
use Rattle.asn_base.specs.Seen.{component_of}
use Rattle.encodings.specs.Account.{Rows}
use Rattle.octet_account.specs.Flat.{FlatRow, count, member_rows}
use Rattle.octet_account.specs.Seen.{flat}
use Rattle.account_checker.specs.Follows.{sizes, MembersFollow, ElementsFollow}
use Rattle.account_checker.specs.Parts.{place_in}
use Rattle.account_checker.proofs.Members.{LeftAt, MembersLeft, ElementsLeft}
use Rattle.account_checker.proofs.+follow.Given as goal

abbrev pub decreases-follow::follows : goal.decreases-follow::follows
decreases-follow::follows l = 10 * l.walk.levels

abbrev pub decreases-follow::under : goal.decreases-follow::under
decreases-follow::under l = 10 * l.walk.levels + 9

abbrev pub decreases-follow::bare : goal.decreases-follow::bare
decreases-follow::bare l = 10 * l.walk.levels + 8

abbrev pub decreases-follow::headed : goal.decreases-follow::headed
decreases-follow::headed l = 10 * l.walk.levels + 8

abbrev pub decreases-follow::inside : goal.decreases-follow::inside
decreases-follow::inside l = 10 * l.walk.levels + 7

abbrev pub decreases-follow::held : goal.decreases-follow::held
decreases-follow::held l = 10 * l.walk.levels + 6

abbrev pub decreases-follow::chosen : goal.decreases-follow::chosen
decreases-follow::chosen l = 10 * l.walk.levels + 5

abbrev pub decreases-components::structure : goal.decreases-components::structure
decreases-components::structure l = 10 * l.walk.levels + 6

abbrev pub decreases-components::members : goal.decreases-components::members
decreases-components::members l = 10 * l.walk.levels + 5

abbrev pub decreases-components::member : goal.decreases-components::member
decreases-components::member l = 10 * l.walk.levels + 4

abbrev pub decreases-follow::written : goal.decreases-follow::written
decreases-follow::written l = 10 * l.walk.levels + 3

abbrev pub decreases-elements::series : goal.decreases-elements::series
decreases-elements::series l = 10 * l.walk.levels + 6

abbrev pub decreases-elements::elements : goal.decreases-elements::elements
decreases-elements::elements l = 10 * l.walk.levels + 5

abbrev pub decreases-elements::one_element : goal.decreases-elements::one_element
decreases-elements::one_element l = 10 * l.walk.levels + 4

abbrev pub invariant-components::members-loop-i : goal.invariant-components::members-loop-i
invariant-components::members-loop-i l =
    (l.place ≤ 18446744073709551615 * l.i) × (l.number ≤ l.i)
    × ((rs : Rows) (rest : List FlatRow)
    → flat l.contents.rows.now ≡ member_rows rs ++ rest
    → count rs ≡ l.contents.members
    → LeftAt (MembersFollow l.walk.schema.now l.walk.checks (place_in l.contents.order (sizes rs)) (map component_of l.components) (row_of_options (map (option_map abstract) l.values)) 0 l.contents.octets.now rs)
    (MembersLeft l.walk.schema.now l.walk.checks (place_in l.contents.order (sizes rs)) (drop l.i (map component_of l.components)) (drop l.i (map (option_map abstract) l.values)) l.contents.octets.now)
    (sizes rs) (flat l.left) rest (length l.components - l.i) l.place l.number)

abbrev pub invariant-elements::elements-loop-i : goal.invariant-elements::elements-loop-i
invariant-elements::elements-loop-i l =
    (l.place ≤ 18446744073709551615 * l.i) × (l.number ≤ l.i)
    × ((rs : Rows) (rest : List FlatRow)
    → flat l.contents.rows.now ≡ member_rows rs ++ rest
    → count rs ≡ l.contents.members
    → LeftAt (ElementsFollow l.walk.schema.now l.walk.checks (place_in l.contents.order (sizes rs)) l.element.index (row_of_list (map abstract l.values)) 0 l.contents.octets.now rs)
    (ElementsLeft l.walk.schema.now l.walk.checks (place_in l.contents.order (sizes rs)) l.element.index (drop l.i (map abstract l.values)) l.contents.octets.now)
    (sizes rs) (flat l.left) rest (length l.values - l.i) l.place l.number)
