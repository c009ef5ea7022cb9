-- The trees of constraints: the form in which their notation is kept, without addresses in memory or places in the text
-- (X.680, clauses 49 to 51). A name is the list of its octets.
use Rattle.std.specs.Prelude.{ℕ, ℤ, Option, Bool, List, map, option_map}
use Rattle.trees.specs.Names.{reference_module, reference_name}
use Rattle.trees.specs.declared.constraint.EndSyntax.{EndSyntax}
use Rattle.trees.specs.declared.constraint.EndSyntax.TheVariants as ends
use Rattle.trees.specs.declared.constraint.RangeSyntax.{RangeSyntax}
use Rattle.trees.specs.declared.constraint.RangeSyntax.TheVariants as ranges
use Rattle.trees.specs.declared.constraint.RangesSyntax.{RangesSyntax}
use Rattle.trees.specs.declared.constraint.CharsSyntax.{CharsSyntax}
use Rattle.trees.specs.declared.constraint.ConstraintSyntax.{ConstraintSyntax}
use Rattle.trees.specs.declared.constraint.ConstraintForm.{ConstraintForm}
use Rattle.trees.specs.declared.constraint.ConstraintForm.TheVariants as forms

-- an end of a range, or a single value (X.680, clauses 51.2 and 51.4)
pub data EndTree : Type 0 where
  -- a number with its sign
  number_end : ℤ → EndTree
  -- the module's name, if one is given, and the name of a value or of a named number
  name_end : Option (List ℕ) → List ℕ → EndTree

-- a single value or a range, of numbers or of sizes (X.680, clauses 51.2 and 51.4)
pub data RangeTree : Type 0 where
  only : EndTree → RangeTree
  -- the lower end is None for MIN, and the upper end is None for MAX
  between : Option EndTree → Option EndTree → RangeTree

-- ranges, and whether the extension marker follows them (X.680, clause 50.1)
pub record RangesTree : Type 0 where
  pub ranges : List RangeTree
  pub marker : Bool

-- a constraint as it is written: of numbers, of sizes, or of characters (X.680, clauses 51.2, 51.4, 51.5 and 51.7)
pub data ConstraintTree : Type 0 where
  -- single values and ranges
  values_in : RangesTree → ConstraintTree
  -- SIZE, with single values and ranges
  sizes_in : RangesTree → ConstraintTree
  -- FROM, with texts, or the first and the last one of a range
  chars_in : List (List ℕ × Option (List ℕ)) → ConstraintTree

-- the tree that an end of a range or a single value in memory holds (X.680, clauses 51.2 and 51.4)
abbrev pub end_of : EndSyntax → EndTree
end_of (ends.Number n) = number_end n.it
end_of (ends.Reference r) = name_end (reference_module r) (reference_name r)

-- the tree that a single value or a range in memory holds (X.680, clauses 51.2 and 51.4)
abbrev pub range_of : RangeSyntax → RangeTree
range_of (ranges.Single e) = only (end_of e)
range_of (ranges.Between a b) = between (option_map (λ e. end_of e.value) a) (option_map (λ e. end_of e.value) b)

-- the tree that ranges in memory hold, and whether the extension marker follows them (X.680, clause 50.1)
abbrev pub ranges_of : RangesSyntax → RangesTree
ranges_of r = record { ranges = map range_of r.ranges.items; marker = r.marker }

-- a text in memory, or the first and the last one of a range, as lists of octets (X.680, clauses 51.4 and 51.7)
abbrev pub chars_of : CharsSyntax → List ℕ × Option (List ℕ)
chars_of c = (c.first.it.items, option_map (λ l. l.it.items) c.last)

-- the tree that the form of a constraint in memory holds: its values, its sizes or its characters
abbrev pub constraint_tree : ConstraintForm → ConstraintTree
constraint_tree (forms.Values r) = values_in (ranges_of r)
constraint_tree (forms.Size r) = sizes_in (ranges_of r)
constraint_tree (forms.From cs) = chars_in (map chars_of cs.items)

-- the tree that a constraint in memory holds
abbrev pub constraint_of : ConstraintSyntax → ConstraintTree
constraint_of c = constraint_tree c.form
