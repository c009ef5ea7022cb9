-- The text that lists the types of a program. For each type it has its number, the place where it is written, its tags,
-- and the steps of its routine.
use Rattle.std.specs.Prelude.{ℕ, suc, List, [], ◌∷◌, ◌++◌, Option, Some, None, codes, cond, decimal, length}
use Rattle.std.specs.Prelude.{nat_lt, option_map, slice_get}
use Rattle.std.specs.Char.{is_ascii_lowercase}
use Rattle.asn_base.specs.declared.tag.Class.{Class}
use Rattle.asn_base.specs.declared.tag.Class.TheVariants as classes
use Rattle.asn_base.specs.declared.tag.Tag.{Tag}
use Rattle.asn_base.specs.Types.{Resolved}
use Rattle.codec_code.specs.Listing.{steps_text, tags_of}
use Rattle.codec_code.specs.Routines.{routine_at}
use Rattle.resolve.specs.Program.{Program, IsAssignment}
use Rattle.source_text.specs.Shown.{shown}
use Rattle.trees.specs.Values.{Name}
use Rattle.type_table.specs.Table.{Part, Type', WrittenKind, members}

-- ---- tags

-- what comes before the number of a tag (X.680, 31.2)
abbrev pub class_words : Class → List ℕ
class_words classes.Universal = codes "UNIVERSAL "
class_words classes.Application = codes "APPLICATION "
class_words classes.Context = []
class_words classes.Private = codes "PRIVATE "

-- tags in the notation of modules, each after a space
abbrev pub tag_words : List Tag → List ℕ
tag_words [] = []
tag_words (g ∷ gs) = codes " [" ++ (class_words g.class ++ (decimal g.number ++ (codes "]" ++ tag_words gs)))

-- the line of a type's tags, the outermost first; an untagged CHOICE has none
abbrev pub tags_line : List Tag → List ℕ
tags_line [] = codes "  tags none\n"
tags_line (g ∷ gs) = codes "  tags" ++ (tag_words (g ∷ gs) ++ codes "\n")

-- ---- where a type is written

-- the names of the members of a written type, in order
abbrev pub members_of : WrittenKind → List Part
members_of (members k marker cs) = cs
members_of k = []

-- the name of the member with this number in type j, if there is one
abbrev pub member_name : List Type' → ℕ → ℕ → Option Name
member_name ts j i =
    elim (slice_get ts j) [ None ↦ None | Some n ↦ option_map (λ c. c.name) (slice_get (members_of n.kind) i) ]

-- the identifier of a member, of which at most 60 characters are shown, and the number of its list
abbrev pub member_words : Name → ℕ → List ℕ
member_words x j = shown x ++ (codes " of type " ++ (decimal j ++ codes ", "))

-- the member that a type is, and the number of its list; nothing for a type that is no member
abbrev pub place_words : List Type' → Option (ℕ × ℕ) → List ℕ
place_words ts None = []
place_words ts (Some p) =
    elim (member_name ts p.0 p.1) [ None ↦ [] | Some name ↦ member_words name p.0 ]

-- Whether a name is that of a value: it begins with a small letter, and names of types with a capital one (X.680, 12.2
-- and 12.4).
abbrev pub value_words : Name → List ℕ
value_words [] = []
value_words (c ∷ cs) = cond (is_ascii_lowercase c) (codes "the type of ") []

-- What comes before the assignment of name x, in which type t of program p is written, which is n: whether it is the
-- type of a value, or the member that it is within the assignment.
abbrev pub words_before : Program → ℕ → Type' → Name → List ℕ
words_before p t n x =
    cond (nat_lt t (length p.assignments)) (value_words x) (place_words p.types n.place ++ codes "in ")

-- Where type t of program p, which is n, is written: in the assignment of name x in module M. At most 60 characters of
-- a name are shown.
abbrev pub home_words : Program → ℕ → Type' → Name → Name → List ℕ
home_words p t n M x = words_before p t n x ++ (shown M ++ (codes "." ++ shown x))

-- ---- all types

-- The lines of type t, which is n and which is written in the assignment of name x in module M of program p: a line
-- with the number and the place where it is written, a line with its tags in schema s, and a line for each step of its
-- routine.
abbrev pub type_lines : Program → List Resolved → ℕ → Type' → Name → Name → List ℕ
type_lines p s t n M x =
    codes "type " ++ (decimal t ++ (codes ": " ++ (home_words p t n M x ++ (codes "\n"
    ++ (tags_line (tags_of s t) ++ steps_text (routine_at s t))))))

-- the text has the lines of these types of program p, the first of which has number t
pub data AreListed (p : Program) (s : List Resolved) : ℕ → List Type' → List ℕ → Type 0 where
  none : {t : ℕ} → AreListed p s t [] []
  more : {t : ℕ} {n : Type'} {ns : List Type'} {M x : Name} {rest : List ℕ} →
      IsAssignment p n.assignment M x →
      AreListed p s (suc t) ns rest →
      AreListed p s t (n ∷ ns) (type_lines p s t n M x ++ rest)

-- the text lists all types of program p, whose tags and kinds are those of schema s
abbrev pub IsTypeListing : Program → List Resolved → List ℕ → Type 0
IsTypeListing p s text = AreListed p s 0 p.types text
