-- A question for a name that may have been meant.
use Rattle.std.proofs.Common.{◌≡◌, inl, inr, ℕ, List, codes, refl}
use Rattle.suggestions.specs.Hint.{IsAlike, IsJoined, IsMeant, IsQuestion, IsShown, question}

pub asks : (name meant spelled words : List ℕ)
    → IsMeant name meant
    → IsShown spelled meant
    → words ≡ question spelled
    → IsQuestion name words
asks name meant spelled words m s w = record {
  meant = meant;
  is_meant = m;
  spelled = spelled;
  shown = s;
  is = w;
}

pub octet_string : (name : List ℕ) → IsAlike name (codes "OCTETSTRING") → IsMeant name (codes "OCTET STRING")
octet_string name a = inr (codes "OCTETSTRING", inl (refl, refl), a)

pub bit_string : (name : List ℕ) → IsAlike name (codes "BITSTRING") → IsMeant name (codes "BIT STRING")
bit_string name a = inr (codes "BITSTRING", inr (inl (refl, refl)), a)

pub object_identifier : (name : List ℕ)
    → IsAlike name (codes "OBJECTIDENTIFIER")
    → IsMeant name (codes "OBJECT IDENTIFIER")
object_identifier name a = inr (codes "OBJECTIDENTIFIER", inr (inr (inl (refl, refl))), a)

pub relative_oid : (name : List ℕ) → IsAlike name (codes "RELATIVEOID") → IsMeant name (codes "RELATIVE-OID")
relative_oid name a = inr (codes "RELATIVEOID", inr (inr (inr (inl (refl, refl)))), a)

pub sequence_of : (name : List ℕ) → IsAlike name (codes "SEQUENCEOF") → IsMeant name (codes "SEQUENCE OF")
sequence_of name a = inr (codes "SEQUENCEOF", inr (inr (inr (inr (inl (refl, refl))))), a)

pub set_of : (name : List ℕ) → IsAlike name (codes "SETOF") → IsMeant name (codes "SET OF")
set_of name a = inr (codes "SETOF", inr (inr (inr (inr (inr (refl, refl))))), a)
