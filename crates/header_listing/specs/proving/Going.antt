-- How far a listing of headers is (X.690, 8.1): the lines so far, and the octets that are left to show.
use Rattle.std.specs.Prelude.{◌≡◌, ℕ, suc, ◌+◌, ◌*◌, ◌<◌, List, [], ◌∷◌, ◌++◌, length, map, reverse, string_bytes}
use Rattle.std.specs.List.{AllByRecursion}
use Rattle.encodings.specs.Header.{Octets}
use Rattle.header_listing.specs.Lines.{AreLines}
use Rattle.header_listing.specs.Shown.{Line, offset_of, ShowsLines}
use Rattle.header_listing.specs.declared.walk.Listing.{Listing}
use Rattle.header_listing.specs.declared.walk.Outer.{Outer}

-- The lines show the next m octets, the first of which are those left of the innermost open encoding. `outs` has what
-- comes after each open encoding, the innermost first.
pub data Goes : List Octets → ℕ → Octets → ℕ → List Line → Type 0 where
  inside : {outs : List Octets} {n m : ℕ} {o : Octets} {ls : List Line}
      → ShowsLines (length outs) n o m ls
      → Goes outs n o m ls
  out : {outs : List Octets} {n p k m q : ℕ} {o u : Octets} {ks ls js : List Line}
      → ShowsLines (suc (length outs)) n o k ks
      → k ≡ length o
      → p ≡ n + k
      → Goes outs p u m ls
      → q ≡ k + m
      → js ≡ ks ++ ls
      → Goes (u ∷ outs) n o q js

-- what comes after each open encoding, the innermost first
abbrev pub outs_of : List Outer → List Octets
outs_of items = reverse (map (λ u. u.rest.now) items)

-- how many octets these lists have together
abbrev pub total : List Octets → ℕ
total [] = 0
total (o ∷ os) = length o + total os

-- what is left to show, with the open encodings
abbrev pub measure : Octets → List Outer → ℕ
measure left items = 2 * (length left + total (outs_of items)) + length items

-- The lines of the text show the octets before the offset, and lines for what is left complete them.
pub record Going
    (o : Octets) (limit : ℕ) (outs : List Octets) (left : Octets) (offset : ℕ) (text : List ℕ) : Type 0 where
  pub lines : List Line
  pub are_lines : AreLines lines text
  pub before : AllByRecursion (λ l. offset_of l < limit) lines
  pub goes : (m : ℕ) (ls : List Line) → Goes outs offset left m ls → ShowsLines 0 0 o (offset + m) (lines ++ ls)
  pub sum : offset + (length left + total outs) ≡ length o

-- the listing shows the first octets of o by lines with offsets below the limit, and can go on with the others
abbrev pub IsGoing : Octets → ℕ → Listing → Type 0
IsGoing o limit l = Going o limit (outs_of l.outer.items) l.left.now l.offset (string_bytes l.out)

-- how much a listing has to show
abbrev pub weight : Listing → ℕ
weight l = measure l.left.now l.outer.items

-- The second listing goes on from the first, whose offset is below the limit. It has less to show.
pub record GoesOn (l k : Listing) : Type 0 where
  pub going : (o : Octets) (limit : ℕ) → l.offset < limit → IsGoing o limit l → IsGoing o limit k
  pub less : weight k < weight l
