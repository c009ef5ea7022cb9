-- Which values are open after some tokens, and which of their parts are being read.
use Rattle.std.specs.Prelude.{ℕ, suc, List, [], ◌∷◌, ◌++◌, Option, Some, None}
use Rattle.asn_base.specs.declared.schema.TypeId.{TypeId}
use Rattle.octet_answers.specs.States.{Token, component, chosen, begun, ended, held, passed}
use Rattle.ber_reader.specs.declared.open.OpenValue.{OpenValue}
use Rattle.ber_reader.specs.declared.open.Part.{Part}
use Rattle.ber_reader.specs.declared.open.Part.TheVariants.{Component, Alternative, Element}

-- a value of type t that begins, of which no part was read
abbrev pub opened : TypeId → OpenValue
opened t = record { ty = t; part = None; read = 0 }

abbrev pub with_part : Option Part → OpenValue → OpenValue
with_part p o = record { ty = o.ty; part = p; read = o.read }

-- the part that begins: the one that a token named, or else element n
abbrev pub part_or : Option Part → ℕ → Option Part
part_or None n = Some (Element n)
part_or (Some p) n = Some p

abbrev pub entered : OpenValue → OpenValue
entered o = with_part (part_or o.part o.read) o

-- the value after one of its parts ended
abbrev pub after_part : OpenValue → OpenValue
after_part o = record { ty = o.ty; part = None; read = suc o.read }

abbrev pub on_last : (OpenValue → OpenValue) → List OpenValue → List OpenValue
on_last f [] = []
on_last f (o ∷ []) = f o ∷ []
on_last f (o ∷ p ∷ os) = o ∷ on_last f (p ∷ os)

abbrev pub but_last : List OpenValue → List OpenValue
but_last [] = []
but_last (o ∷ []) = []
but_last (o ∷ p ∷ os) = o ∷ but_last (p ∷ os)

-- the values that are open after one more token, the outermost first
abbrev pub opens_after : List OpenValue → Token → List OpenValue
opens_after os (component i) = on_last (with_part (Some (Component i))) os
opens_after os (chosen i) = on_last (with_part (Some (Alternative i))) os
opens_after os (begun t) = on_last entered os ++ opened t ∷ []
opens_after os ended = on_last after_part (but_last os)
opens_after os (held k c x at) = os
opens_after os passed = os

abbrev pub opens_from : List OpenValue → List Token → List OpenValue
opens_from os [] = os
opens_from os (t ∷ ts) = opens_from (opens_after os t) ts

-- the values that are open after the tokens, the outermost first
abbrev pub opens : List Token → List OpenValue
opens ts = opens_from [] ts
