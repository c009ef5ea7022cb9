-- Headers at offsets.
use Rattle.std.proofs.Common.{arith, ℕ, ◌+◌, ◌<◌, ◌≤◌, Bool, length, drop, ap, length-append, length-drop}
use Rattle.asn_base.specs.declared.tag.Tag.{Tag}
use Rattle.encodings.specs.Header.{Octets, LengthOf, short, long, identifier}
use Rattle.octets.specs.Fronts.{HeaderAt}
use Rattle.octet_findings.specs.Tags.{HasNoHeader}

-- length octets are some
pub size_some : {n : ℕ} {z : Octets} → LengthOf n z → 1 ≤ length z
size_some (short l) = omega arith
size_some (long f) = omega arith

-- the octets of a header are some
pub header_some : {t : Tag} {c : Bool} {n k : ℕ} {o : Octets} → HeaderAt t c n k o → 1 ≤ k
header_some {t} {c} h =
    let s = size_some h.is_header.is_size in
    let w = ap length h.is_header.whole in
    let a = length-append (identifier t.class t.number c) h.is_header.size in
    let l = h.long in
    omega (arith, s, w, a, l)

-- an encoding is within the octets
pub header_within : {t : Tag} {c : Bool} {n k : ℕ} (o : Octets) (s : ℕ)
    → HeaderAt t c n k (drop s o)
    → s + k + n ≤ length o
header_within o s h =
    let w = ap length h.whole in
    let a = length-append h.header h.rest in
    let d = length-drop s o in
    let l = h.long in
    let f = h.follow in
    let m = header_some h in
    omega (arith, w, a, d, l, f, m)

-- no header is past the octets
pub none_past : (o : Octets) (at : ℕ) → length o < at → HasNoHeader (drop at o)
none_past o at p t c n k h = let w = header_within o at h in absurd (omega (arith, w, p))
