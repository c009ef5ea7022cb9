-- The items of an ENUMERATED in words (own rules).
use Rattle.std.specs.Prelude.{ℕ, ◌+◌, nat_lt, if◌then◌else◌, List, [], ◌∷◌, ◌++◌, codes, length}
use Rattle.std.specs.Fmt.{signed_decimal}
use Rattle.asn_base.specs.Types.{Item}

-- the name and the number of an item
abbrev pub item_words : Item → List ℕ
item_words i = i.name ++ (codes " " ++ signed_decimal i.number)

-- a comma after what is listed, if anything is
abbrev pub separated : List ℕ → List ℕ
separated [] = []
separated (c ∷ cs) = (c ∷ cs) ++ codes ", "

-- The items after those that are listed. If a list with one more item has over 60 octets, two dots are in place of
-- that item and of all after it.
abbrev pub listed_after : (listed : List ℕ) → List Item → List ℕ
listed_after listed [] = listed
listed_after listed (i ∷ is) =
    if nat_lt 60 (length (separated listed) + length (item_words i))
    then separated listed ++ codes ".."
    else listed_after (separated listed ++ item_words i) is
