-- The limits under which productions are read (own rule), and what is at a place among lexemes.
use Rattle.std.specs.Prelude.{◌≡◌, ℕ, ◌+◌, ◌-◌, ◌^◌, ◌<◌, ◌≤◌, Bool, true, nat_lt, List, length, take, drop}
use Rattle.grammar.specs.Lexeme.{Lexeme}
use Rattle.grammar.specs.Grammar.{Grammar}
use Rattle.grammar.specs.Reading.{Limit, Nesting, Integer, TagNumber}

-- What each limit allows: the number of parts that may be open at one place, which numbers without a minus, and which
-- numbers of tags (own rule).
pub record Limits : Type 0 where
  pub nesting : ℕ
  pub number : ℕ → Bool
  pub tag : ℕ → Bool

-- every number
abbrev pub any : ℕ → Bool
any n = true

-- the numbers below 2^127
abbrev pub small : ℕ → Bool
small n = nat_lt n (2 ^ 127)

-- the numbers below 2^31
abbrev pub tag_small : ℕ → Bool
tag_small n = nat_lt n 2147483648

-- the limits of this compiler, if n more parts may be open (own rule)
abbrev pub bounded : ℕ → Limits
bounded n = record { nesting = n; number = small; tag = tag_small }

-- everything that this limit of a allows is allowed by that of b
abbrev pub Within : Limit → Limits → Limits → Type 0
Within Nesting a b = a.nesting ≤ b.nesting
Within Integer a b = (n : ℕ) → a.number n ≡ true → b.number n ≡ true
Within TagNumber a b = (n : ℕ) → a.tag n ≡ true → b.tag n ≡ true

-- the limits a, but with this one limit from b
abbrev pub raised : Limit → Limits → Limits → Limits
raised Nesting a b = record { nesting = b.nesting; number = a.number; tag = a.tag }
raised Integer a b = record { nesting = a.nesting; number = b.number; tag = a.tag }
raised TagNumber a b = record { nesting = a.nesting; number = a.number; tag = b.tag }

-- A grammar under limits.
abbrev pub Limited : Type 0 → Type 1
Limited A = Limits → Grammar A

-- the grammar under any limits
abbrev pub free : {A : Type 0} → Limited A → Grammar A
free g = record {
  Is = λ x ts. (a : Limits) × (g a).Is x ts;
  IsPrefix = λ ts. (a : Limits) × (g a).IsPrefix ts;
}

-- the lexemes from place i up to place j
abbrev pub between : List Lexeme → ℕ → ℕ → List Lexeme
between ts i j = take (j - i) (drop i ts)

-- The lexemes from `start` to `end` are the tree x within the limits, and the next lexeme can't continue them.
pub record IsRead {A : Type 0} (limited all : Grammar A) (ts : List Lexeme) (start : ℕ) (x : A) (end : ℕ) : Type 0 where
  pub from : start ≤ end
  pub to : end ≤ length ts
  pub is : limited.Is x (between ts start end)
  pub ends : end < length ts → all.IsPrefix (between ts start (end + 1)) → ⊥

module _ {A : Type 0} (g : Limited A) (a : Limits) (ts : List Lexeme) (start i : ℕ) where
  -- The longest prefix of the lexemes from `start` on that can continue within the limits ends before place i.
  pub record Stops : Type 0 where
    pub from : start ≤ i
    pub to : i ≤ length ts
    pub before : (g a).IsPrefix (between ts start i)
    pub longest : (j : ℕ) → i < j → j ≤ length ts → (g a).IsPrefix (between ts start j) → ⊥

  -- Nothing can continue at place i. That prefix is the longest under any limits, and it isn't a whole if the lexemes
  -- end there.
  pub record Ends : Type 0 where
    pub stops : Stops
    pub always : (b : Limits) (j : ℕ) → i < j → j ≤ length ts → (g b).IsPrefix (between ts start j) → ⊥
    pub none : i ≡ length ts → (x : A) → (free g).Is x (between ts start i) → ⊥

  -- A limit is passed at place i: a longer prefix can continue if this limit alone is raised.
  pub record PassesLimit (l : Limit) : Type 0 where
    pub stops : Stops
    pub others : Limits
    pub further : ℕ
    pub longer : i < further
    pub to : further ≤ length ts
    pub goes_on : (g (raised l a others)).IsPrefix (between ts start further)
