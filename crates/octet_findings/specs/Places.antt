-- Where the headers and the contents octets of a part of a message are (X.690, 8.1.1).
use Rattle.std.specs.Prelude.{◌≡◌, ℕ, zero, suc, ◌+◌, ◌<◌, ◌≤◌, Bool, true, false, List, [], ◌∷◌, drop, take}
use Rattle.asn_base.specs.declared.tag.Tag.{Tag}
use Rattle.encodings.specs.Header.{Octets}
use Rattle.octets.specs.Fronts.{HeaderAt}

-- Among the encodings from offset s of octets o on, and those within them, is a primitive one with tag t. Its contents
-- octets are x, and the first of them is at offset `at`. Octets after the contents of one encoding are the next one.
pub data LeafFrom (o : Octets) (at : ℕ) : (s : ℕ) → Tag → (x : Octets) → Type 0 where
  -- the header at s ends where the contents start
  here : {s n k : ℕ} {t : Tag} {x : Octets}
      → HeaderAt t false n k (drop s o)
      → s + k ≡ at
      → x ≡ take n (drop at o)
      → LeafFrom o at s t x
  -- the contents start within a constructed encoding
  within : {s n k : ℕ} {t u : Tag} {x : Octets}
      → HeaderAt u true n k (drop s o)
      → at ≤ s + k + n
      → LeafFrom o at (s + k) t x
      → LeafFrom o at s t x
  -- the encoding at s ends before the contents
  after : {s n k : ℕ} {c : Bool} {t u : Tag} {x : Octets}
      → HeaderAt u c n k (drop s o)
      → s + k + n < at
      → LeafFrom o at (s + k + n) t x
      → LeafFrom o at s t x

-- x are primitive contents octets in message o, with tag t, and the first of them is at the offset
abbrev pub IsLeafAt : (o : Octets) (at : ℕ) → Tag → (x : Octets) → Type 0
IsLeafAt o at t x = LeafFrom o at 0 t x

-- The headers at offset s of octets o, each but the last one right before the next, have these tags. The last one is
-- constructed or not as flag c says; its contents octets are x, and the first of them is at offset `at`.
pub data PartFrom (o : Octets) : (s : ℕ) → List Tag → (c : Bool) → (at : ℕ) → (x : Octets) → Type 0 where
  last : {s n k at : ℕ} {c : Bool} {t : Tag} {x : Octets}
      → HeaderAt t c n k (drop s o)
      → s + k ≡ at
      → x ≡ take n (drop at o)
      → PartFrom o s (t ∷ []) c at x
  outer : {s n k at : ℕ} {c d : Bool} {t u : Tag} {ts : List Tag} {x : Octets}
      → HeaderAt t d n k (drop s o)
      → PartFrom o (s + k) (u ∷ ts) c at x
      → PartFrom o s (t ∷ u ∷ ts) c at x

-- Among the encodings from offset s of octets o on, and those within them, one has the octet at offset `at` in its
-- header. This header starts at offset h and ends before offset e, and d of the encodings are around it. Contents
-- octets of either form are taken for encodings.
pub data HeaderFrom (o : Octets) (at h e : ℕ) : (s d : ℕ) → Type 0 where
  -- the octet is in the header at s
  at_header : {s n k : ℕ} {c : Bool} {t : Tag}
      → HeaderAt t c n k (drop s o)
      → h ≡ s
      → e ≡ s + k
      → at < e
      → HeaderFrom o at h e s zero
  -- it is in the contents octets of the encoding at s
  in_contents : {s n k d : ℕ} {c : Bool} {t : Tag}
      → HeaderAt t c n k (drop s o)
      → s + k ≤ at
      → at < s + k + n
      → HeaderFrom o at h e (s + k) d
      → HeaderFrom o at h e s (suc d)
  -- the encoding at s ends before it
  past_encoding : {s n k d : ℕ} {c : Bool} {t : Tag}
      → HeaderAt t c n k (drop s o)
      → s + k + n ≤ at
      → HeaderFrom o at h e (s + k + n) d
      → HeaderFrom o at h e s d

-- the header at an offset of message o is within d others; d is 0 if no header is there
pub data HasDepth (o : Octets) (at d : ℕ) : Type 0 where
  a_header : {e : ℕ} → HeaderFrom o at at e 0 d → HasDepth o at d
  no_header : ((e b : ℕ) → HeaderFrom o at at e 0 b → ⊥) → d ≡ 0 → HasDepth o at d

-- Contents octets, which may be empty, start at an offset of message o, and d headers are around them, with their own,
-- whose last octet is at offset i; d is 0 if no contents octets start there.
pub data HasContentsDepth (o : Octets) (at d : ℕ) : Type 0 where
  some_contents : {i h b : ℕ} → at ≡ i + 1 → HeaderFrom o i h at 0 b → d ≡ b + 1 → HasContentsDepth o at d
  no_contents : ((i h b : ℕ) → at ≡ i + 1 → HeaderFrom o i h at 0 b → ⊥) → d ≡ 0 → HasContentsDepth o at d
