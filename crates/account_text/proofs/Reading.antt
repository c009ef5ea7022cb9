-- What is read one after the other, up to the bracket that closes an array.
use Rattle.std.proofs.Common.{arith, length, ◌≤◌, ◌<◌, ◌≡◌, ℕ, List, [], ◌∷◌, ◌++◌, refl, sym, ap}
use Rattle.std.specs.Prelude.{None, Bool, true, false, if◌then◌else◌}
use Rattle.std.specs.List.{AllByRecursion}
use Rattle.json.specs.Token.{Token, end_array}
use Rattle.json.specs.Json.{after_end_array}
use Rattle.octet_account.specs.declared.row.Row.{Row}
use Rattle.octet_account.specs.Flat.{FlatRow, a_leaf, a_wrap, a_seq, a_seqof, a_set, a_setof, an_absent, a_default}
use Rattle.octet_account.specs.Seen.{flat_row, flat}
use Rattle.account_text.specs.proving.Tokens.{all_first, each_first, list_first, listed_first, row_first}

abbrev pub after : List Token → List Token
after [] = []
after (t ∷ ts) = ts

module _ {A : Type 0} (first : A → List Token → List Token) (P : A → Type 0) where
  -- the elements that are there, if the tokens are those of a list, before the bracket at its end
  pub record IsThere (now : List Token) (ts : List Token) : Type 0 where
    pub elements : List A
    pub allowed : AllByRecursion P elements
    pub there : now ≡ all_first first elements (end_array ∷ ts)

  pub all_more : (xs : List A) (x : A) (ts : List Token) → all_first first (xs ++ x ∷ []) ts ≡ all_first first xs (first x ts)
  all_more [] x ts = refl
  all_more (y ∷ xs) x ts = ap (first y) (all_more xs x ts)

  pub allowed_more : (xs : List A) (x : A) → AllByRecursion P xs → P x → AllByRecursion P (xs ++ x ∷ [])
  allowed_more [] x h p = (p, tt)
  allowed_more (y ∷ xs) x h p = (h.0, allowed_more xs x h.1 p)

  -- if the next token is neither the bracket nor that of an element, there is no list
  pub none_there : (now ts : List Token) → after_end_array now ≡ None → ((x : A) (us : List Token) → P x → now ≡ first x us → ⊥) → IsThere now ts → ⊥
  none_there now ts no_end none h = go h.elements h.allowed h.there
    where
      go : (xs : List A) → AllByRecursion P xs → now ≡ all_first first xs (end_array ∷ ts) → ⊥
      go [] a e = absurd (cc)
      go (x ∷ xs) a e = none x (all_first first xs (end_array ∷ ts)) a.0 e

  pub others_there : (now next ts : List Token) (x : A)
      → after_end_array now ≡ None
      → ((y : A) (us : List Token) → P y → now ≡ first y us → us ≡ next)
      → IsThere now ts → IsThere next ts
  others_there now next ts x no_end one h = go h.elements h.allowed h.there
    where
      go : (xs : List A) → AllByRecursion P xs → now ≡ all_first first xs (end_array ∷ ts) → IsThere next ts
      go [] a e = absurd (cc)
      go (y ∷ ys) a e = record { elements = ys; allowed = a.1; there = sym (one y (all_first first ys (end_array ∷ ts)) a.0 e) }

pub appended : {A : Type 0} (b : Bool) (now xs ys : List A) → now ≡ (if b then xs else ys) → b ≡ true → now ≡ xs
appended true now xs ys e f = e
appended false now xs ys e f = absurd (cc)

-- ---- rows have tokens

numbers_longer : (ns : List ℕ) (ts : List Token) → length ts ≤ length (each_first ns ts)
numbers_longer [] ts = omega arith
numbers_longer (n ∷ ns) ts = omega (arith, numbers_longer ns ts)

listed_longer : (r : FlatRow) (ts : List Token) → length ts ≤ length (listed_first r ts)
listed_longer (a_set z n p q) ts = omega (arith, numbers_longer p (end_array ∷ list_first q ts), numbers_longer q (end_array ∷ ts))
listed_longer (a_setof z n p q) ts = omega (arith, numbers_longer p (end_array ∷ list_first q ts), numbers_longer q (end_array ∷ ts))
listed_longer q ts = omega arith

pub row_longer : (r : FlatRow) (now next : List Token) → now ≡ row_first r next → length next < length now
row_longer r now next e = omega (arith, listed_longer r (end_array ∷ next), ap length e)

pub flat_more : (rows : List Row) (r : Row) → flat (rows ++ r ∷ []) ≡ flat rows ++ flat_row r.listed ∷ []
flat_more [] r = refl
flat_more (q ∷ rows) r = ap (λ rs. flat_row q.listed ∷ rs) (flat_more rows r)
