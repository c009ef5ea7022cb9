-- The kind of a type, and the types directly in it.
use Rattle.std.proofs.Common.{◌≡◌, ℕ, zero, suc, ◌+◌, List, [], Some, refl, sym, subst, ap, ◌∙◌, arith}
use Rattle.std.specs.Prelude.{slice_get, Bool, Option}
use Rattle.asn_base.specs.declared.tag.Tag.{Tag}
use Rattle.trees.specs.Values.{Name}
use Rattle.trees.specs.declared.types.Keyword.{Keyword}
use Rattle.trees.specs.Types.{FormTree, a_simple, a_reference, a_list, an_elements, a_tagged, Plain, TypeTree, TypeMembers, no_member, member_and}
use Rattle.trees.specs.declared.types.ListKind.{ListKind}
use Rattle.trees.specs.declared.types.ElementsKind.{ElementsKind}
use Rattle.names.specs.declared.scope.Assigned.TheVariants as assigned
use Rattle.names.specs.Names.{Module, Refers}
use Rattle.type_table.specs.Table.{Part, WrittenKind, simple, reference, tagged, members, elements}
use Rattle.names.specs.Sources.{Source}
use Rattle.type_table.specs.Numbering.{form_parts, inner_source, member_sources, numbered, IsKind}

pub data Parts (ms : List (Name × Module)) (M : Name) (n : ℕ) (f : FormTree) : WrittenKind → Type 0 where
  plain : {p : Plain} → ((a i : ℕ) → form_parts a i f ≡ []) → Parts ms M n f (simple p)
  referring : {j : ℕ} (N : Option Name) (x : Name) → Refers ms M N x (assigned.Type j) →
      ((a i : ℕ) → form_parts a i f ≡ []) → Parts ms M n f (reference j)
  tagging : {g : Tag} {w : Keyword} (u : TypeTree) → ((a i : ℕ) → form_parts a i f ≡ inner_source a u) →
      Parts ms M n f (tagged g w n)
  listing : {l : ListKind} {m : Bool} (us : TypeMembers) →
      ((a i : ℕ) → form_parts a i f ≡ member_sources a i 0 us) → Parts ms M n f (members l m (numbered n us))
  having : {e : ElementsKind} (u : TypeTree) → ((a i : ℕ) → form_parts a i f ≡ inner_source a u) →
      Parts ms M n f (elements e n)

pub kind_parts : (ms : List (Name × Module)) (M : Name) (n : ℕ) (f : FormTree) (k : WrittenKind) → IsKind ms M n f k →
    Parts ms M n f k
kind_parts ms M n (a_simple p) k e = subst (λ q. Parts ms M n (a_simple p) q) (sym e) (plain (λ a i. refl))
kind_parts ms M n (a_reference N x) k e = subst (λ q. Parts ms M n (a_reference N x) q) (sym e.2) (referring N x e.1 (λ a i. refl))
kind_parts ms M n (a_list l m us) k e = subst (λ q. Parts ms M n (a_list l m us) q) (sym e) (listing us (λ a i. refl))
kind_parts ms M n (an_elements y t) k e = subst (λ q. Parts ms M n (an_elements y t) q) (sym e) (having t (λ a i. refl))
kind_parts ms M n (a_tagged g w t) k e = subst (λ q. Parts ms M n (a_tagged g w t) q) (sym e) (tagging t (λ a i. refl))

-- member number k of a list
pub record Member (a i n m k : ℕ) (us : TypeMembers) (p : Part) : Type 0 where
  pub source : Source
  pub there : slice_get (member_sources a i m us) k ≡ Some source
  pub ty : p.ty ≡ n + k
  pub place : source.place ≡ Some (i, m + k)

pub member_at : (a i n m k : ℕ) (us : TypeMembers) (p : Part) → slice_get (numbered n us) k ≡ Some p →
    Member a i n m k us p
member_at a i n m k no_member p e = absurd cc
member_at a i n m zero (member_and x t o g us) p e =
    let q : record { name = x; ty = n; presence = o; standing = g } ≡ p = cc in
    let z : n ≡ n + 0 = omega arith in
    let y : m ≡ m + 0 = omega arith in
    record { source = record { tree = t; assignment = a; place = Some (i, m) }; there = refl; ty = sym (ap (λ r. r.ty) q) ∙ z; place = ap (λ w. Some (i, w)) y }
member_at a i n m (suc k) (member_and x t o g us) p e =
    let r = member_at a i (suc n) (suc m) k us p e in
    let z : suc n + k ≡ n + suc k = omega arith in
    let y : suc m + k ≡ m + suc k = omega arith in
    record { source = r.source; there = r.there; ty = r.ty ∙ z; place = r.place ∙ ap (λ w. Some (i, w)) y }

-- and the other way round
pub record Listed (a i n m k : ℕ) (us : TypeMembers) (s : Source) : Type 0 where
  pub part : Part
  pub there : slice_get (numbered n us) k ≡ Some part
  pub ty : part.ty ≡ n + k
  pub place : s.place ≡ Some (i, m + k)

pub listed_at : (a i n m k : ℕ) (us : TypeMembers) (s : Source) → slice_get (member_sources a i m us) k ≡ Some s →
    Listed a i n m k us s
listed_at a i n m k no_member s e = absurd cc
listed_at a i n m zero (member_and x t o g us) s e =
    let q : record { tree = t; assignment = a; place = Some (i, m) } ≡ s = cc in
    let z : n ≡ n + 0 = omega arith in
    let y : m ≡ m + 0 = omega arith in
    record { part = record { name = x; ty = n; presence = o; standing = g }; there = refl; ty = z; place = sym (ap (λ r. r.place) q) ∙ ap (λ w. Some (i, w)) y }
listed_at a i n m (suc k) (member_and x t o g us) s e =
    let r = listed_at a i (suc n) (suc m) k us s e in
    let z : suc n + k ≡ n + suc k = omega arith in
    let y : suc m + k ≡ m + suc k = omega arith in
    record { part = r.part; there = r.there; ty = r.ty ∙ z; place = r.place ∙ ap (λ w. Some (i, w)) y }
