-- Names that get numbers.
use Rattle.std.proofs.Common.{◌≡◌, ℕ, List, [], ◌∷◌, ◌++◌, Option, Some, None, refl, sym, ap, ◌∙◌, option_map, cond, string_bytes}
use Rattle.std.specs.Prelude.{Bool, String, bytes_eq, true, false}
use Rattle.std.specs.Global.{Global}
use Rattle.std.specs.String.{string_eq}
use Rattle.std.proofs.lemmas.List.{append-nil, map-append}
use Rattle.std.proofs.lemmas.Slice.Eq.{bytes_eq-Decides}
use Rattle.indexmap.specs.IndexMap.{IndexMap, get, insert_entry}
use Rattle.indexmap.proofs.CallerLemmas.{insert_entry-new}
use Rattle.trees.specs.Values.{Name}
use Rattle.names.specs.Names.{under}
use Rattle.names.specs.Scopes.{seen}
use Rattle.names.specs.proving.Meanings.{under_seen}
use Rattle.typed_values.specs.Chains.{number_of}
use Rattle.typed_values.specs.declared.stops.Stops.{Stops}
use Rattle.typed_values.specs.proving.Stopping.{HasMore}

past : (b : Bool) (w v : ℕ) (o p : Option ℕ) → (o ≡ None → p ≡ Some v) → cond b (Some w) o ≡ None → cond b (Some w) p ≡ Some v
past true w v o p h e = absurd cc
past false w v o p h e = h e

under_end : (es : List (Name × ℕ)) (x : Name) (v : ℕ) → under x es ≡ None → under x (es ++ (x, v) ∷ []) ≡ Some v
under_end [] x v e = ap (λ b. cond b (Some v) None) ((bytes_eq-Decides x x).1 refl)
under_end (y ∷ es) x v e = past (bytes_eq x y.0) y.1 v (under x es) (under x (es ++ (x, v) ∷ [])) (under_end es x v) e

kept_past : (b : Bool) (w v : ℕ) (o p : Option ℕ) → (o ≡ Some v → p ≡ Some v) → cond b (Some w) o ≡ Some v →
    cond b (Some w) p ≡ Some v
kept_past true w v o p h e = e
kept_past false w v o p h e = h e

under_kept : (es fs : List (Name × ℕ)) (x : Name) (v : ℕ) → under x es ≡ Some v → under x (es ++ fs) ≡ Some v
under_kept [] fs x v e = absurd cc
under_kept (y ∷ es) fs x v e = kept_past (bytes_eq x y.0) y.1 v (under x es) (under x (es ++ fs)) (under_kept es fs x v) e

none_map : (o : Option ℕ) → option_map (λ n. n) o ≡ None → o ≡ None
none_map None e = refl
none_map (Some x) e = absurd cc

inserted : {S : Type 0} (m : IndexMap (String Global) ℕ S) (k : String Global) (v : ℕ) (es : List (String Global × ℕ)) →
    under (string_bytes k) (seen (λ n. n) m.entries) ≡ None → es ≡ insert_entry string_eq m.entries k v →
    seen (λ n. n) es ≡ seen (λ n. n) m.entries ++ (string_bytes k, v) ∷ []
inserted m k v es none e =
    let absent : get string_eq m k ≡ None =
    none_map (get string_eq m k) (sym (under_seen (λ n. n) m.entries (string_bytes k)) ∙ none) in
    ap (seen (λ n. n)) (e ∙ insert_entry-new string_eq m k v absent)
    ∙ map-append (λ y. (string_bytes y.0, y.1)) m.entries ((k, v) ∷ [])

module _ (s r : Stops) (k : String Global) (v : ℕ) (none : number_of s (string_bytes k) ≡ None)
    (e : r.numbers.entries ≡ insert_entry string_eq s.numbers.entries k v) where
  added : seen (λ n. n) r.numbers.entries ≡ seen (λ n. n) s.numbers.entries ++ (string_bytes k, v) ∷ []
  added = inserted s.numbers k v r.numbers.entries none e

  pub numbered_new : number_of r (string_bytes k) ≡ Some v
  numbered_new = ap (under (string_bytes k)) added ∙ under_end (seen (λ n. n) s.numbers.entries) (string_bytes k) v none

  pub numbers_more : r.branches ≡ s.branches → r.height ≡ s.height → HasMore s r
  numbers_more b h = record {
    branches = ([], ap (λ x. x.items) b ∙ sym (append-nil s.branches.items));
    numbers = λ x i n. ap (under x) added ∙ under_kept (seen (λ n. n) s.numbers.entries) ((string_bytes k, v) ∷ []) x i n;
    height = h;
  }

pub numbers_same : (s r : Stops) → r.numbers.entries ≡ s.numbers.entries → r.branches ≡ s.branches → r.height ≡ s.height → HasMore s r
numbers_same s r e b h = record {
  branches = ([], ap (λ x. x.items) b ∙ sym (append-nil s.branches.items));
  numbers = λ x i n. ap (λ es. under x (seen (λ n. n) es)) e ∙ n;
  height = h;
}
