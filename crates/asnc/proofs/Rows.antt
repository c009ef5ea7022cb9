-- Worked rows: by which rules octets are read, and the path of what was being read.
use Rattle.std.proofs.Common.{arith, ◌≡◌, ℕ, zero, suc, ◌<◌, true, List, [], ◌∷◌, length, Some, None, refl, get_or}
use Rattle.std.specs.Prelude.{codes}
use Rattle.std.specs.Fmt.{digits}
use Rattle.asn_base.specs.declared.schema.TypeId.{TypeId}
use Rattle.asn_base.specs.Types.{any_size, a_boolean, a_sequence, a_sequence_of, a_choice, mandatory, optional, Resolved}
use Rattle.encodings.specs.Rules.{Basic, Distinguished}
use Rattle.ber_reader.specs.declared.open.Part.TheVariants.{Component, Alternative, Element}
use Rattle.asnc.specs.ErrorSites.{path_of, with_name, with_number}
use Rattle.asnc.specs.Reading.{rules_of}
use Rattle.asnc.specs.declared.reading.Rules.TheVariants as asked

-- ---- rules

basic : rules_of asked.Ber ≡ Basic
basic = refl

distinguished : rules_of asked.Der ≡ Distinguished
distinguished = refl

-- ---- paths

first : with_name [] (codes "a") ≡ codes "a"
first = refl

name_after_path : with_name (codes "a") (codes "b") ≡ codes "a.b"
name_after_path = refl

-- elements are counted from 0
first_element : with_number (codes "a") 0 ≡ codes "a[0]"
unfolding digits
first_element = refl

tenth_element : with_number [] 9 ≡ codes "[9]"
unfolding digits
tenth_element = refl

-- a BOOLEAN, a SEQUENCE {first BOOLEAN, second the CHOICE}, a CHOICE {one BOOLEAN, ..., two the SEQUENCE OF}, and a
-- SEQUENCE OF the SEQUENCE
abbrev types : List Resolved
types =
    record { tags = []; kind = a_boolean }
    ∷ record {
      tags = [];
      kind = a_sequence true
          (record { name = codes "first"; type = 0; presence = mandatory }
          ∷ record { name = codes "second"; type = 2; presence = optional }
          ∷ []);
    }
    ∷ record {
      tags = [];
      kind = a_choice (record { name = codes "one"; type = 0 } ∷ []) true (record { name = codes "two"; type = 3 } ∷ []);
    }
    ∷ record { tags = []; kind = a_sequence_of any_size 1 }
    ∷ []

abbrev id : ℕ → TypeId
id t = record { index = t }

-- the path to the element after two, in the second alternative of the second component, of which nothing was decoded
a_path :
    path_of types
    (record { ty = id 1; part = Some (Component 1); read = 1 }
    ∷ record { ty = id 2; part = Some (Alternative 1); read = 0 }
    ∷ record { ty = id 3; part = Some (Element 2); read = 2 }
    ∷ record { ty = id 1; part = None; read = 0 }
    ∷ [])
    ≡ codes "second.two[2]"
unfolding digits
a_path = refl

-- an element of the outermost list, and its first component
an_element_first :
    path_of types
    (record { ty = id 3; part = Some (Element 0); read = 0 } ∷ record { ty = id 1; part = Some (Component 0); read = 0 } ∷ [])
    ≡ codes "[0].first"
unfolding digits
an_element_first = refl
