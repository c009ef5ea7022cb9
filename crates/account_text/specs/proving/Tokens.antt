-- The tokens of rows, put before other tokens.
use Rattle.std.specs.Prelude.{ℕ, List, [], ◌∷◌, codes, decimal}
use Rattle.std.specs.List.{AllByRecursion}
use Rattle.json.specs.Token.{Token, begin_array, end_array, string, number}
use Rattle.encodings.specs.Account.{Numbers}
use Rattle.octet_account.specs.Flat.{FlatRow, a_leaf, a_wrap, a_seq, a_seqof, a_set, a_setof, an_absent, a_default}
use Rattle.octet_account.specs.Flat.{IsSmall, AreSmall}
use Rattle.account_text.specs.declared.kind.Kind.{Kind}
use Rattle.account_text.specs.declared.kind.Kind.TheVariants.{Leaf, Wrap, Seq, SeqOf, Set, SetOf, Absent, Default}

abbrev pub kind_name : Kind → List ℕ
kind_name Leaf = codes "leaf"
kind_name Wrap = codes "wrap"
kind_name Seq = codes "seq"
kind_name SeqOf = codes "seqof"
kind_name Set = codes "set"
kind_name SetOf = codes "setof"
kind_name Absent = codes "absent"
kind_name Default = codes "default"

abbrev pub kind_of : FlatRow → Kind
kind_of (a_leaf z) = Leaf
kind_of (a_wrap z) = Wrap
kind_of (a_seq z n) = Seq
kind_of (a_seqof z n) = SeqOf
kind_of (a_set z n p q) = Set
kind_of (a_setof z n p q) = SetOf
kind_of an_absent = Absent
kind_of a_default = Default

abbrev pub number_first : ℕ → List Token → List Token
number_first n ts = number (decimal n) ∷ ts

abbrev pub numbers_first : Numbers → List Token → List Token
numbers_first z ts = number_first z.identifier (number_first z.size (number_first z.contents ts))

-- the tokens of each element, one after the other
abbrev pub all_first : {A : Type 0} → (A → List Token → List Token) → List A → List Token → List Token
all_first first [] ts = ts
all_first first (x ∷ xs) ts = first x (all_first first xs ts)

-- the tokens of numbers, without brackets
abbrev pub each_first : List ℕ → List Token → List Token
each_first = all_first number_first

abbrev pub list_first : List ℕ → List Token → List Token
list_first ns ts = begin_array ∷ each_first ns (end_array ∷ ts)

-- the tokens of a row after its name, without the bracket at the end
abbrev pub listed_first : FlatRow → List Token → List Token
listed_first (a_leaf z) ts = numbers_first z ts
listed_first (a_wrap z) ts = numbers_first z ts
listed_first (a_seq z n) ts = numbers_first z (number_first n ts)
listed_first (a_seqof z n) ts = numbers_first z (number_first n ts)
listed_first (a_set z n p q) ts = numbers_first z (number_first n (list_first p (list_first q ts)))
listed_first (a_setof z n p q) ts = numbers_first z (number_first n (list_first p (list_first q ts)))
listed_first an_absent ts = ts
listed_first a_default ts = ts

abbrev pub row_first : FlatRow → List Token → List Token
row_first r ts = begin_array ∷ string (kind_name (kind_of r)) ∷ listed_first r (end_array ∷ ts)

-- the tokens of rows, without brackets
abbrev pub rows_first : List FlatRow → List Token → List Token
rows_first = all_first row_first

-- all numbers of a row are within their bounds
abbrev pub IsSmallRow : FlatRow → Type 0
IsSmallRow (a_leaf z) = AreSmall z
IsSmallRow (a_wrap z) = AreSmall z
IsSmallRow (a_seq z n) = AreSmall z × IsSmall n
IsSmallRow (a_seqof z n) = AreSmall z × IsSmall n
IsSmallRow (a_set z n p q) = AreSmall z × (IsSmall n × (AllByRecursion IsSmall p × AllByRecursion IsSmall q))
IsSmallRow (a_setof z n p q) = AreSmall z × (IsSmall n × (AllByRecursion IsSmall p × AllByRecursion IsSmall q))
IsSmallRow an_absent = Unit {0}
IsSmallRow a_default = Unit {0}
