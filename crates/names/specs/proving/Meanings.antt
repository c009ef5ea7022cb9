-- The look-up of a name finds its meaning.
use Rattle.std.proofs.Common.{◌≡◌, ◌↔◌, ℕ, Bool, true, false, List, [], ◌∷◌, Option, Some, None, refl, sym, ap, ◌∙◌, option_map, cond, string_bytes}
use Rattle.std.specs.Prelude.{String, bytes_eq, option_copied}
use Rattle.std.specs.Borrow.{Bor}
use Rattle.std.specs.Global.{Global}
use Rattle.std.specs.Map.{lookup}
use Rattle.trees.specs.Values.{Name}
use Rattle.names.specs.declared.scope.Assigned.{Assigned}
use Rattle.names.specs.declared.scope.Assigned.TheVariants as assigned
use Rattle.std.proofs.lemmas.Option.{same_Some}
use Rattle.names.specs.Names.{Module, under, Meaning, own, imported, IsApart, Refers, bare, within, across}
use Rattle.names.specs.Scopes.{seen}
use Rattle.names.specs.proving.Lookup.{found, found_in, found_or, assigned_in, assigned_from, imported_in}

step : {X Y : Type 0} (f : X → Y) (b : Bool) (x : X) (o : Option X) (p : Option Y) → p ≡ option_map f o →
    cond b (Some (f x)) p ≡ option_map f (cond b (Some x) o)
step f true x o p e = refl
step f false x o p e = e

pub under_seen : {X Y : Type 0} (f : X → Y) (es : List (String Global × X)) (q : Name) →
    under q (seen f es) ≡ option_map f (lookup (λ k. bytes_eq q (string_bytes k)) es)
under_seen f [] q = refl
under_seen f (e ∷ es) q = step f (bytes_eq q (string_bytes e.0)) e.1 _ _ (under_seen f es q)

-- the entry of a name in a table of names
pub under_found : {X Y : Type 0} (f : X → Y) (es : List (String Global × X)) (q : Name) (r : Option (Bor X)) →
    option_copied r ≡ lookup (λ k. bytes_eq q (string_bytes k)) es → option_map (λ b. f b.now) r ≡ under q (seen f es)
under_found f es q None e = ap (option_map f) e ∙ sym (under_seen f es q)
under_found f es q (Some b) e = ap (option_map f) e ∙ sym (under_seen f es q)

from_other : (ms : List (Name × Module)) (M x N : Name) (i : Assigned) (m : Module) (o : Option Module) →
    under M ms ≡ Some m → under x m.imports ≡ Some N → under N ms ≡ o → assigned_in x o ≡ Some i → Meaning ms M x i
from_other ms M x N i m None e f g h = absurd cc
from_other ms M x N i m (Some n) e f g h = imported m n N e f g h

from_import : (ms : List (Name × Module)) (M x : Name) (i : Assigned) (m : Module) (o : Option Name) →
    under M ms ≡ Some m → under x m.imports ≡ o → assigned_from ms x o ≡ Some i → Meaning ms M x i
from_import ms M x i m None e f h = absurd cc
from_import ms M x i m (Some N) e f h = from_other ms M x N i m (under N ms) e f refl h

from_own : (ms : List (Name × Module)) (M x : Name) (i : Assigned) (m : Module) (o : Option Assigned) →
    under M ms ≡ Some m → under x m.assigned ≡ o → found_or o (assigned_from ms x (under x m.imports)) ≡ Some i →
    Meaning ms M x i
from_own ms M x i m (Some j) e f h = own m e (f ∙ h)
from_own ms M x i m None e f h = from_import ms M x i m (under x m.imports) e refl h

from_module : (ms : List (Name × Module)) (M x : Name) (i : Assigned) (o : Option Module) → under M ms ≡ o →
    found_in ms x o ≡ Some i → Meaning ms M x i
from_module ms M x i None e h = absurd cc
from_module ms M x i (Some m) e h = from_own ms M x i m (under x m.assigned) e refl h

pub found_meaning : (ms : List (Name × Module)) (M x : Name) (i : Assigned) → found ms M x ≡ Some i → Meaning ms M x i
unfolding found
found_meaning ms M x i h = from_module ms M x i (under M ms) refl h

pub meaning_found : (ms : List (Name × Module)) (M x : Name) (i : Assigned) → IsApart ms → Meaning ms M x i →
    found ms M x ≡ Some i
unfolding found
meaning_found ms M x i a (own m e f) = rw (e, f) refl
meaning_found ms M x i a (imported m n N e f g h) = let k = a M x N m e f in rw (e, k, f, g) h

pub refers_bare : (ms : List (Name × Module)) (M x : Name) (o : Option Assigned) →
    ((a : Assigned) → (o ≡ Some a ↔ Meaning ms M x a)) → (a : Assigned) → (o ≡ Some a ↔ Refers ms M None x a)
refers_bare ms M x o e a = (λ h. bare ((e a).0 h), λ r. (e a).1 (off r))
  where
    off : Refers ms M None x a → Meaning ms M x a
    off (bare m) = m

any_meaning : (ms : List (Name × Module)) (M x N : Name) (a : Assigned) → Refers ms M (Some N) x a → Meaning ms M x a
any_meaning ms M x N a (within m) = m
any_meaning ms M x N a (across m K e f h) = h

pub refers_within : (ms : List (Name × Module)) (M x N : Name) (o : Option Assigned) → N ≡ M →
    ((a : Assigned) → (o ≡ Some a ↔ Meaning ms M x a)) → (a : Assigned) → (o ≡ Some a ↔ Refers ms M (Some N) x a)
refers_within ms M x N o q e a = (λ h. rw q (within ((e a).0 h)), λ r. (e a).1 (any_meaning ms M x N a r))

from_module' : (ms : List (Name × Module)) (M x N : Name) (o : Option Module) (a : Assigned) → under M ms ≡ o →
    imported_in x o ≡ Some N → Meaning ms M x a → Refers ms M (Some N) x a
from_module' ms M x N None a e f h = absurd cc
from_module' ms M x N (Some m) a e f h = across m N e f h

pub refers_across : (ms : List (Name × Module)) (M x N : Name) (o : Option Assigned) →
    imported_in x (under M ms) ≡ Some N → ((a : Assigned) → (o ≡ Some a ↔ Meaning ms M x a)) → (a : Assigned) →
    (o ≡ Some a ↔ Refers ms M (Some N) x a)
refers_across ms M x N o q e a =
    (λ h. from_module' ms M x N (under M ms) a refl q ((e a).0 h), λ r. (e a).1 (any_meaning ms M x N a r))

not_across : (ms : List (Name × Module)) (M x N : Name) (a : Assigned) → (N ≡ M → ⊥) →
    (imported_in x (under M ms) ≡ Some N → ⊥) → Refers ms M (Some N) x a → ⊥
not_across ms M x N a p q (within m) = p refl
not_across ms M x N a p q (across m K e f h) = q (rw e f)

pub refers_not : (ms : List (Name × Module)) (M x N : Name) → (N ≡ M → ⊥) →
    (imported_in x (under M ms) ≡ Some N → ⊥) → (a : Assigned) → (None ≡ Some a ↔ Refers ms M (Some N) x a)
refers_not ms M x N p q a = (λ h. absurd cc, λ r. absurd (not_across ms M x N a p q r))

pub refers_meaning : (ms : List (Name × Module)) (M x : Name) (N : Option Name) (a : Assigned) → Refers ms M N x a →
    Meaning ms M x a
refers_meaning ms M x N a (bare m) = m
refers_meaning ms M x N a (within m) = m
refers_meaning ms M x N a (across m K e f h) = h

-- a name has one meaning in a module
pub one_meaning : (ms : List (Name × Module)) (M x : Name) (a b : Assigned)
    → IsApart ms
    → Meaning ms M x a
    → Meaning ms M x b
    → a ≡ b
one_meaning ms M x a b apart m n =
    same_Some a b (sym (meaning_found ms M x a apart m) ∙ meaning_found ms M x b apart n)

abbrev number_in : Assigned → ℕ
number_in (assigned.Value i) = i
number_in (assigned.Type i) = i

pub one_value_meant : (ms : List (Name × Module)) (M : Name) (q : Option Name) (x : Name) (i j : ℕ)
    → IsApart ms
    → Refers ms M q x (assigned.Value i)
    → Refers ms M q x (assigned.Value j)
    → i ≡ j
one_value_meant ms M q x i j apart a b =
    ap number_in
    (one_meaning ms M x (assigned.Value i) (assigned.Value j) apart (refers_meaning ms M x q (assigned.Value i) a)
    (refers_meaning ms M x q (assigned.Value j) b))
