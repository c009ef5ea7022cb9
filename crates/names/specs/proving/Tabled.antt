-- Names with a table of them.
use Rattle.std.specs.Prelude.{◌≡◌, List, String}
use Rattle.std.specs.Global.{Global}
use Rattle.std.specs.List.{list_any}
use Rattle.std.specs.Str.{bytes_eq}
use Rattle.indexmap.specs.IndexSet.{IndexSet, contains_text}
use Rattle.trees.specs.declared.location.At.{At}
use Rattle.trees.specs.Values.{Name, name_at}

-- the table has exactly these names
abbrev pub IsTableOf : {S : Type 0} → List (At (String Global)) → IndexSet (String Global) S → Type 0
IsTableOf names table = (x : Name) → contains_text table x ≡ list_any (λ n. bytes_eq x (name_at n)) names
