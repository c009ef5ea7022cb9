-- The text of an account: its rows in JSON (RFC 8259), from the root down (own rule). Each row is an array that begins
-- with the name of its kind. All numbers are whole, and written in digits alone. A text with a sign, a fraction or an
-- exponent is not that of the account, even if the number is the same.
use Rattle.std.specs.Prelude.{◌≡◌, ℕ, List, [], ◌∷◌, ◌++◌, map, Some, codes, decimal}
use Rattle.json.specs.Json.{Json, number, string, array, Items, no_items, item, document}
use Rattle.json.specs.Print.{print}
use Rattle.json.specs.Tree.{json_tokens}
use Rattle.encodings.specs.Account.{Numbers, Account}
use Rattle.octet_account.specs.Flat.{FlatRow, a_leaf, a_wrap, a_seq, a_seqof, a_set, a_setof, an_absent, a_default}
use Rattle.octet_account.specs.Flat.{AreRows}

-- the items of a JSON array with these members, in order
abbrev pub items : List Json → Items
items [] = no_items
items (j ∷ js) = item j (items js)

-- a whole number as JSON, in decimal digits alone, without leading zeros
abbrev pub number_json : ℕ → Json
number_json n = number (decimal n)

-- a list of places as JSON, which is an array of whole numbers, in order
abbrev pub places_json : List ℕ → Json
places_json ps = array (items (map number_json ps))

-- the numbers of a header as JSON, those of its identifier octets, of its length octets and of its contents octets
abbrev pub numbers_json : Numbers → List Json
numbers_json z = number_json z.identifier ∷ number_json z.size ∷ number_json z.contents ∷ []

-- The items of a row as JSON, which begin with the name of its kind. The numbers of a header come next, and the number
-- of its members. In SET and SET OF the place of each member in the octets follows, and then the member at each place.
abbrev pub row_items : FlatRow → List Json
row_items (a_leaf z) = string (codes "leaf") ∷ numbers_json z
row_items (a_wrap z) = string (codes "wrap") ∷ numbers_json z
row_items (a_seq z n) = string (codes "seq") ∷ (numbers_json z ++ number_json n ∷ [])
row_items (a_seqof z n) = string (codes "seqof") ∷ (numbers_json z ++ number_json n ∷ [])
row_items (a_set z n p q) =
    string (codes "set") ∷ (numbers_json z ++ number_json n ∷ places_json p ∷ places_json q ∷ [])
row_items (a_setof z n p q) =
    string (codes "setof") ∷ (numbers_json z ++ number_json n ∷ places_json p ∷ places_json q ∷ [])
row_items an_absent = string (codes "absent") ∷ []
row_items a_default = string (codes "default") ∷ []

-- a row as JSON, which is an array of its items
abbrev pub row_json : FlatRow → Json
row_json r = array (items (row_items r))

-- the rows of an account as JSON, which is an array with an array for each row, in order
abbrev pub rows_json : List FlatRow → Json
rows_json rs = array (items (map row_json rs))

-- the text without white space
abbrev pub compact_text : List FlatRow → List ℕ
compact_text rs = print (json_tokens (rows_json rs))

-- the text, in octets, is one of the rows of account a, in any JSON spelling, and the account keeps the bounds
pub record IsAccountText (text : List ℕ) (a : Account) : Type 0 where
  pub rows : List FlatRow
  pub are : AreRows a rows
  pub read : document text ≡ Some (rows_json rows)
