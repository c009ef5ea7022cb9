-- Entries of tables of names.
use Rattle.std.proofs.Common.{◌≡◌, List, [], ◌∷◌, ◌++◌, Option, Some, None, option_map, refl, sym, ap, ◌∙◌, string_bytes}
use Rattle.std.specs.Prelude.{String}
use Rattle.std.specs.Global.{Global}
use Rattle.std.specs.String.{string_eq}
use Rattle.std.proofs.lemmas.List.{map-append}
use Rattle.indexmap.specs.IndexMap.{IndexMap, get, insert_entry}
use Rattle.indexmap.proofs.CallerLemmas.{insert_entry-new}
use Rattle.trees.specs.Values.{Name}
use Rattle.names.specs.Names.{under}
use Rattle.names.specs.Scopes.{seen}
use Rattle.names.specs.proving.Meanings.{under_seen}

pub none_map : {X Y : Type 0} (f : X → Y) (o : Option X) → option_map f o ≡ None → o ≡ None
none_map f None e = refl
none_map f (Some x) e = absurd cc

pub inserted : {X Y S : Type 0} (f : X → Y) (m : IndexMap (String Global) X S) (k : String Global) (v : X)
    (x : Name) (es : List (String Global × X)) → string_bytes k ≡ x → under x (seen f m.entries) ≡ None →
    es ≡ insert_entry string_eq m.entries k v →
    seen f es ≡ seen f m.entries ++ (x, f v) ∷ []
inserted f m k v x es q none e =
    let absent : get string_eq m k ≡ None = none_map f (get string_eq m k) (sym (under_seen f m.entries (string_bytes k)) ∙ ap (λ y. under y (seen f m.entries)) q ∙ none) in
    ap (seen f) (e ∙ insert_entry-new string_eq m k v absent) ∙ map-append (λ y. (string_bytes y.0, f y.1)) m.entries ((k, v) ∷ []) ∙ ap (λ y. seen f m.entries ++ (y, f v) ∷ []) q
