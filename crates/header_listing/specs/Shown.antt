-- The headers of octets, each in the contents of another one or after it (X.690, 8.1), and the lines that show them.
use Rattle.std.specs.Prelude.{◌≡◌, ℕ, suc, ◌+◌, ◌≤◌, Bool, true, false, List, [], ◌∷◌, ◌++◌, length}
use Rattle.asn_base.specs.declared.tag.Tag.{Tag}
use Rattle.encodings.specs.Header.{Octets, identifier, LengthOf}

-- Octets o start with an encoding of tag t, constructed or not as c says (X.690, 8.1.1.1): identifier octets i, length
-- octets z, and as many contents octets x as these promise, no more than a message has. The octets `rest` follow it.
pub record IsFirst (t : Tag) (c : Bool) (i z x rest o : Octets) : Type 0 where
  pub identified : i ≡ identifier t.class t.number c  -- 8.1.2
  pub sized : LengthOf (length x) z  -- 8.1.3
  pub few : length x ≤ 16777216
  pub whole : o ≡ i ++ (z ++ (x ++ rest))

-- no encoding is at the start of octets o
abbrev pub HasNone : Octets → Type 0
HasNone o = (t : Tag) (c : Bool) (i z x rest : Octets) → IsFirst t c i z x rest o → ⊥

-- What a line shows. Its depth is the number of encodings that it is within, and its offset is that of its first octet
-- in the message, from 0.
pub data Line : Type 0 where
  -- a header, in identifier octets i and length octets z, with the contents octets x of a primitive encoding; x has no
  -- octets for a constructed encoding
  header : (depth offset : ℕ) (i z x : Octets) → Line
  -- octets at the start of which no encoding is
  others : (depth offset : ℕ) (x : Octets) → Line

-- the octets that a line shows
abbrev pub octets_of : Line → Octets
octets_of (header d n i z x) = i ++ (z ++ x)
octets_of (others d n x) = x

-- the offset of a line
abbrev pub offset_of : Line → ℕ
offset_of (header d n i z x) = n
offset_of (others d n x) = n

-- The lines show the first m of octets o, which are at offset n within d encodings. They show each encoding in order: a
-- primitive one by a line, and a constructed one by a line for its header and lines for its contents, which are
-- encodings in turn (X.690, 8.1.1, 8.1.4). Lines may end after any header and after any encoding.
pub data ShowsLines : (d n : ℕ) → Octets → (m : ℕ) → List Line → Type 0 where
  -- no more octets are shown
  ends : {d n : ℕ} {o : Octets} → ShowsLines d n o 0 []
  primitive : {d n m : ℕ} {t : Tag} {i z x rest o : Octets} {ls : List Line}
      → IsFirst t false i z x rest o
      → ShowsLines d (n + length (i ++ (z ++ x))) rest m ls
      → ShowsLines d n o (length (i ++ (z ++ x)) + m) (header d n i z x ∷ ls)
  -- some contents of a constructed encoding are shown, or all of them, and nothing after it
  within : {d n m : ℕ} {t : Tag} {i z x rest o : Octets} {ls : List Line}
      → IsFirst t true i z x rest o
      → ShowsLines (suc d) (n + length (i ++ z)) x m ls
      → ShowsLines d n o (length (i ++ z) + m) (header d n i z [] ∷ ls)
  -- all contents of a constructed encoding are shown, and what is after it
  after : {d n m : ℕ} {t : Tag} {i z x rest o : Octets} {ks ls : List Line}
      → IsFirst t true i z x rest o
      → ShowsLines (suc d) (n + length (i ++ z)) x (length x) ks
      → ShowsLines d (n + length (i ++ z) + length x) rest m ls
      → ShowsLines d n o (length (i ++ z) + (length x + m)) (header d n i z [] ∷ (ks ++ ls))
  -- all of the octets are shown in one line if no encoding is at their start
  none : {d n : ℕ} {o : Octets} → 1 ≤ length o → HasNone o → ShowsLines d n o (length o) (others d n o ∷ [])
