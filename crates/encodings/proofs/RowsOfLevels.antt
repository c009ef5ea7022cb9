-- Worked rows: what counts as a level of headers, and what is no octet.
use Rattle.std.proofs.Common.{◌≡◌, ℕ, suc, ◌+◌, ◌<◌, Bool, true, false, List, [], ◌∷◌, ◌++◌, refl}
use Rattle.std.specs.Int.Digits.{AllBelowBase}
use Rattle.asn_base.specs.declared.tag.Tag.{Tag}
use Rattle.asn_base.specs.Abstract.{AbstractValue, boolean}
use Rattle.asn_base.specs.Types.{Kind, a_boolean, Component, Resolved, Is}
use Rattle.encodings.specs.Rules.{Rules}
use Rattle.encodings.specs.Strings.{Pieces, whole}
use Rattle.encodings.specs.Contents.{Contents, of_true}
use Rattle.encodings.specs.Encoding.{Framed, Unknown, UnknownIf, unknown, extensible, says, ContentsEncode}
use Rattle.encodings.specs.Levels.{levels, inner_levels, unknown_levels}

-- each tag is a level, explicit ones too
two_headers : {s : List Resolved} {r : Rules} {t n : ℕ} {f g : Tag} {k : Kind} {w : AbstractValue} {c : Bool} {x o : List ℕ} (i : Is s t (f ∷ g ∷ []) k) (h : ContentsEncode s r k w n c x) (fr : Framed r (f ∷ g ∷ []) c x o) → levels (says i h fr) ≡ 2 + inner_levels h
two_headers i h fr = refl

-- an unknown addition is a level, whatever it holds
one_for_unknown : {s : List Resolved} {cs : List Component} {k : ℕ} {us : List (List ℕ)} (u : UnknownIf s cs true (suc k) us) → unknown_levels u ≡ 1
one_for_unknown (extensible (unknown x h b f u)) = refl

-- TRUE is an octet, and so is each of a string and of an unknown addition
true_is_an_octet : {r : Rules} {x : ℕ} → Contents r a_boolean (boolean true) false (x ∷ []) → x < 256
true_is_an_octet (of_true l m e) = m

whole_octets : {s o : List ℕ} → Pieces s false o → AllBelowBase 256 s
whole_octets (whole b) = b

new_octets : {s : List Resolved} {cs : List Component} {k : ℕ} {o : List ℕ} {us : List (List ℕ)} → Unknown s cs (suc k) (o ∷ us) → (h : List ℕ) × (x : List ℕ) × (o ≡ h ++ x) × AllBelowBase 256 x
new_octets (unknown {h = h} x hd b f u) = (h, x, refl, b)
