-- Contents of leaves have one number of levels.
use Rattle.std.proofs.Common.{◌≡◌, ℕ, suc, Bool, List, [], ◌++◌, refl, sym, ap, ◌∙◌}
use Rattle.std.specs.Prelude.{max}
use Rattle.asn_base.specs.Abstract.{AbstractValue}
use Rattle.asn_base.specs.Types.{Kind}
use Rattle.encodings.specs.Rules.{Rules}
use Rattle.encodings.specs.Strings.{Pieces, whole, cut, Segments, no_segment, segment, BitPieces, whole_bits, cut_bits, BitSegments, last_segment, bit_segment, octet_string_tag, bit_string_tag}
use Rattle.encodings.specs.Contents.{Contents, of_false, of_true, of_integer, of_enumerated, of_bits, of_named_bits, of_octets, of_null, of_oid, of_relative_oid, of_utf8, of_restricted}
use Rattle.encodings.specs.Levels.{piece_levels, segment_levels, bit_piece_levels, bit_segment_levels, leaf_levels}
use Rattle.encodings.proofs.LeafValues.{header_some, piece_front, nil_right, not_empty, segments_some}

deeper : {a b c d : ℕ} → a ≡ b → c ≡ d → max (suc a) c ≡ max (suc b) d
deeper {a} {b} {c} {d} e f = ap (λ q. max (suc q) c) e ∙ ap (λ q. max (suc b) q) f

mutual
  pub pieces_levels : {s u : List ℕ} {c d : Bool} {o p : List ℕ} (a : Pieces s c o) (b : Pieces u d p) → c ≡ d → o ≡ p → piece_levels a ≡ piece_levels b
  pieces_levels (whole b) (whole b') f e = refl
  pieces_levels (whole b) (cut g) f e = absurd (cc)
  pieces_levels (cut g) (whole b) f e = absurd (cc)
  pieces_levels (cut g) (cut g') f e = segments_levels g g' e

  segments_levels : {s u : List ℕ} {o p : List ℕ} (a : Segments s o) (b : Segments u p) → o ≡ p → segment_levels a ≡ segment_levels b
  segments_levels no_segment no_segment e = refl
  segments_levels no_segment (segment {h = h} {p = p} {o = o} hd ps gs) e = absurd (not_empty h p o (header_some hd) (sym e))
  segments_levels (segment {h = h} {p = p} {o = o} hd ps gs) no_segment e = absurd (not_empty h p o (header_some hd) e)
  segments_levels (segment {c = c} {h = h} {p = p} {o = o} hd ps gs) (segment {c = d} {h = h'} {p = p'} {o = o'} hd' ps' gs') e =
      let r = piece_front octet_string_tag c d h h' p p' o o' hd hd' e in
      deeper (pieces_levels ps ps' r.forms r.inside) (segments_levels gs gs' r.rest)

mutual
  pub bits_levels : {s u : List Bool} {c d : Bool} {o p : List ℕ} (a : BitPieces s c o) (b : BitPieces u d p) → c ≡ d → o ≡ p → bit_piece_levels a ≡ bit_piece_levels b
  bits_levels (whole_bits a) (whole_bits b) f e = refl
  bits_levels (whole_bits a) (cut_bits b) f e = absurd (cc)
  bits_levels (cut_bits a) (whole_bits b) f e = absurd (cc)
  bits_levels (cut_bits a) (cut_bits b) f e = bit_segments_levels a b e

  bit_segments_levels : {s u : List Bool} {o p : List ℕ} (a : BitSegments s o) (b : BitSegments u p) → o ≡ p → bit_segment_levels a ≡ bit_segment_levels b
  bit_segments_levels (last_segment {c = c} {h = h} {p = p} hd ps) (last_segment {c = d} {h = h'} {p = p'} hd' ps') e =
      let r = piece_front bit_string_tag c d h h' p p' [] [] hd hd' (ap (λ q. q ++ []) e) in
      ap suc (bits_levels ps ps' r.forms r.inside)
  bit_segments_levels (last_segment {c = c} {h = h} {p = p} hd ps) (bit_segment {c = d} {h = h'} {p = p'} {o = o'} hd' ps' m gs') e =
      let r = piece_front bit_string_tag c d h h' p p' [] o' hd hd' (nil_right (h ++ p) ∙ e) in
      absurd (segments_some gs' (sym r.rest))
  bit_segments_levels (bit_segment {c = c} {h = h} {p = p} {o = o} hd ps m gs) (last_segment {c = d} {h = h'} {p = p'} hd' ps') e =
      let r = piece_front bit_string_tag c d h h' p p' o [] hd hd' (e ∙ sym (nil_right (h' ++ p'))) in
      absurd (segments_some gs r.rest)
  bit_segments_levels (bit_segment {c = c} {h = h} {p = p} {o = o} hd ps m gs) (bit_segment {c = d} {h = h'} {p = p'} {o = o'} hd' ps' m' gs') e =
      let r = piece_front bit_string_tag c d h h' p p' o o' hd hd' e in
      deeper (bits_levels ps ps' r.forms r.inside) (bit_segments_levels gs gs' r.rest)

-- contents of a kind have one number of levels
pub contents_levels : {r r' : Rules} {k : Kind} {v w : AbstractValue} {c d : Bool} {x y : List ℕ} (a : Contents r k v c x) (b : Contents r' k w d y) → c ≡ d → x ≡ y → leaf_levels a ≡ leaf_levels b
contents_levels of_false of_false f e = refl
contents_levels of_false (of_true l m n) f e = refl
contents_levels (of_true l m n) of_false f e = refl
contents_levels (of_true l m n) (of_true l' m' n') f e = refl
contents_levels (of_integer a) (of_integer b) f e = refl
contents_levels (of_enumerated a) (of_enumerated b) f e = refl
contents_levels (of_bits a g h) (of_bits b g' h') f e = bits_levels a b f e
contents_levels (of_named_bits a g h i) (of_named_bits b g' h' i') f e = bits_levels a b f e
contents_levels (of_octets a g) (of_octets b g') f e = pieces_levels a b f e
contents_levels of_null of_null f e = refl
contents_levels (of_oid a) (of_oid b) f e = refl
contents_levels (of_relative_oid a) (of_relative_oid b) f e = refl
contents_levels (of_utf8 a g) (of_utf8 b g') f e = pieces_levels a b f e
contents_levels (of_restricted a g) (of_restricted b g') f e = pieces_levels a b f e
