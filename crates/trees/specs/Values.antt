-- The trees of values: the form in which their notation is kept, without addresses in memory or places in the text
-- (X.680, clause 17). A name is the list of its octets.
use Rattle.std.specs.Prelude.{ℕ, ℤ, Option, List, [], ◌∷◌, map, string_bytes, String}
use Rattle.std.specs.Global.{Global}
use Rattle.trees.specs.Names.{reference_module, reference_name}
use Rattle.trees.specs.declared.location.At.{At}
use Rattle.trees.specs.declared.value.ValueSyntax.{ValueSyntax}
use Rattle.trees.specs.declared.value.Named.{Named}
use Rattle.trees.specs.declared.value.ValueSyntax.TheOpen.{ValueSyntax-F}
use Rattle.trees.specs.declared.value.ValueForm.{ValueForm}
use Rattle.trees.specs.declared.value.ValueForm.TheVariants.{True, False, Null, Number, BinaryString, HexString, CharacterString, Reference, Chosen, Empty, Numbers, Items, Fields}
use Rattle.trees.specs.declared.value.ValueSyntax.TheFolds.{fold-ValueSyntax}

-- the name of a module, type or value, or an identifier, as the list of its octets (X.680, clauses 12.2 to 12.5)
abbrev pub Name : Type 0
Name = List ℕ

-- a name, without its offset
abbrev pub name_at : At (String Global) → Name
name_at n = string_bytes n.it

mutual
  -- a value as it is written, before its type gives it a meaning (X.680, clause 17)
  pub data Tree : Type 0 where
    -- TRUE, FALSE and NULL in turn
    yes : Tree
    no : Tree
    null : Tree
    -- a number with its sign
    number : ℤ → Tree
    -- the digits of a binary string, each below 2
    binary : List ℕ → Tree
    -- the digits of a hexadecimal string, each below 16
    hex : List ℕ → Tree
    -- the octets of a character string, in which two quotes in a row are one
    chars : List ℕ → Tree
    -- the module's name, if one is given, and the name of a value, or an identifier of the value's type
    reference : Option (List ℕ) → List ℕ → Tree
    -- an alternative's identifier, and the value after its colon
    chosen : List ℕ → Tree → Tree
    -- empty braces
    nothing : Tree
    -- numbers in braces, without commas, as those of an object identifier
    numbers : List ℕ → Tree
    -- values in braces
    items : Trees → Tree
    -- values in braces, each after its identifier
    fields : NamedTrees → Tree

  -- the values in braces, in the order of the text
  pub data Trees : Type 0 where
    no_tree : Trees
    tree_and : Tree → Trees → Trees

  -- the fields of a value's notation, each an identifier and a value, in the order of the text
  pub data NamedTrees : Type 0 where
    no_member : NamedTrees
    member_and : List ℕ → Tree → NamedTrees → NamedTrees

-- the values in this list, in the form in which the tree of a value holds them
abbrev pub trees : List Tree → Trees
trees [] = no_tree
trees (t ∷ ts) = tree_and t (trees ts)

-- the fields in this list, in the form in which the tree of a value holds them
abbrev pub named_trees : List (Name × Tree) → NamedTrees
named_trees [] = no_member
named_trees (m ∷ ms) = member_and m.0 m.1 (named_trees ms)

-- one level of a value
abbrev pub layer : ValueForm Tree → Tree
layer True = yes
layer False = no
layer Null = null
layer (Number n) = number n
layer (BinaryString b) = binary b.items
layer (HexString h) = hex h.items
layer (CharacterString c) = chars c.items
layer (Reference r) = reference (reference_module r) (reference_name r)
layer (Chosen x v) = chosen (string_bytes x) v.value
layer Empty = nothing
layer (Numbers ns) = numbers ns.items
layer (Items vs) = items (trees vs.items)
layer (Fields fs) = fields (named_trees (map (λ f. (name_at f.name, f.value)) fs.items))

-- the tree of one level of a value in memory, without its place in the text; the values in it are trees already
abbrev pub value_layer : ValueSyntax-F Tree → Tree
value_layer v = layer v.form

-- the tree that a value in memory holds
abbrev pub tree_of : ValueSyntax → Tree
tree_of = fold-ValueSyntax Tree value_layer

abbrev pub member_of : Named ValueSyntax → Name × Tree
member_of f = (name_at f.name, tree_of f.value)
