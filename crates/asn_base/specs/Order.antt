-- Places in the canonical order of tags (X.680, clause 8.6).
use Rattle.std.specs.Prelude.{ℕ, ◌+◌, ◌==◌, nat_lt, Bool, false, ◌||◌, ◌&&◌, if◌then◌else◌, List, [], ◌∷◌, Option, Some}
use Rattle.std.specs.Prelude.{None, slice_get}
use Rattle.asn_base.specs.declared.tag.Tag.{Tag}
use Rattle.asn_base.specs.Types.{TypeNumber, Resolved}
use Rattle.asn_base.specs.Tags.{class_rank}

-- whether tag g comes before tag f in the canonical order of tags (X.680, clause 8.6)
abbrev pub tag_precedes : Tag → Tag → Bool
tag_precedes g f =
    nat_lt (class_rank g.class) (class_rank f.class)
    || ((class_rank g.class == class_rank f.class) && nat_lt g.number f.number)

-- the first of the tags, None if there are none
abbrev pub outermost : List Tag → Option Tag
outermost [] = None
outermost (g ∷ gs) = Some g

-- the outermost tag of type t of schema s, None if it has none
abbrev pub tag_at : List Resolved → TypeNumber → Option Tag
tag_at s t = elim (slice_get s t) [ None ↦ None | Some r ↦ outermost r.tags ]

-- whether both tags are there and the first comes before the second in the canonical order (X.680, clause 8.6)
abbrev pub both_before : Option Tag → Option Tag → Bool
both_before (Some g) (Some f) = tag_precedes g f
both_before g f = false

-- whether the outermost tag of type t of schema s comes before that of type u in the canonical order (X.680, clause
-- 8.6)
abbrev pub precedes : List Resolved → TypeNumber → TypeNumber → Bool
precedes s t u = both_before (tag_at s t) (tag_at s u)

-- how many of the types with these numbers come before type t in the canonical order of tags, which is its place among
-- them (X.680, clause 8.6)
abbrev pub place_among : List Resolved → List TypeNumber → TypeNumber → ℕ
place_among s [] t = 0
place_among s (u ∷ us) t = (if precedes s u t then 1 else 0) + place_among s us t
