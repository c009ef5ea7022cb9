-- How many octets a tree stands for.
use Rattle.std.proofs.Common.{◌≡◌, ℕ, ◌+◌, true, List, ◌++◌, length, ap, ◌∙◌, length-append}
use Rattle.std.specs.List.{concat}
use Rattle.encodings.specs.Fewest.{shortest_header}
use Rattle.codec_code.specs.Events.{Tree, done, piece, lacking, within, ordered, Members, no_member, no_component, member, SetMember as Placed, encodings_of, HasOctets, PartsOf}
use Rattle.der_layout.specs.Lengths.{octets_in, members_in}
use Rattle.der_layout.proofs.Trees.{permuted_length}

mutual
  pub length_of : (t : Tree) (o : List ℕ) → HasOctets t o → length o ≡ octets_in t
  length_of done o h = ap length h
  length_of (piece x t) o h = ap length h.2 ∙ length-append x h.0 ∙ ap (λ n. length x + n) (length_of t h.0 h.1)
  length_of (lacking d t) o h = length_of t o h
  length_of (within g c k i t) o h =
      ap length h.4 ∙ length-append (shortest_header g c (length h.0)) (h.0 ++ h.1)
      ∙ ap (λ n. length (shortest_header g c (length h.0)) + n) (length-append h.0 h.1 ∙ ap (λ n. length h.0 + n) (length_of t h.1 h.3))
      ∙ ap (λ n. length (shortest_header g c n) + (n + octets_in t)) (length_of i h.0 h.2)
  length_of (ordered g a ms t) o h =
      let x = h.2 in
      let y = h.3 in
      let m : length x ≡ members_in ms = ap length h.6 ∙ permuted_length h.0 h.1 h.5.same ∙ lengths_of ms h.0 h.4 in
      ap length h.8 ∙ length-append (shortest_header g true (length x)) (x ++ y)
      ∙ ap (λ n. length (shortest_header g true (length x)) + n) (length-append x y ∙ ap (λ n. length x + n) (length_of t y h.7))
      ∙ ap (λ n. length (shortest_header g true n) + (n + octets_in t)) m

  pub lengths_of : (ms : Members) (ps : List Placed) → PartsOf ms ps → length (concat (encodings_of ps)) ≡ members_in ms
  lengths_of no_member ps h = ap (λ q. length (concat (encodings_of q))) h
  lengths_of (no_component d ms) ps h = lengths_of ms ps h
  lengths_of (member r i ms) ps h =
      ap (λ q. length (concat (encodings_of q))) h.4 ∙ length-append h.0 (concat (encodings_of h.1))
      ∙ ap (λ n. n + length (concat (encodings_of h.1))) (length_of i h.0 h.2) ∙ ap (λ n. octets_in i + n) (lengths_of ms h.1 h.3)
