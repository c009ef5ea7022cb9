-- What is known of the types of a schema, and of types that keep the first rules, when values are judged.
use Rattle.std.proofs.Common.{arith, ◌≡◌, ℕ, zero, suc, ◌≤◌, List, [], ◌∷◌, length, lit<, refl, ap, subst}
use Rattle.std.proofs.lemmas.List.{length-append}
use Rattle.std.specs.Prelude.{Option, Some, None, IsSome, option_map, slice_get, Vec}
use Rattle.std.specs.List.{AllByRecursion}
use Rattle.std.specs.declared.alloc.Global.{Global}
use Rattle.asn_base.specs.declared.rule.SchemaRule.TheVariants.{Count}
use Rattle.asn_base.specs.Depths.{AreNumbered, AreOf, IsReady}
use Rattle.asn_base.specs.Rules.{AllKeep, AreFew, HasFewMembers, additions_of, root_of}
use Rattle.asn_base.specs.Schemas.{AreListed, HasValue, IsSchema, IsSound, components}
use Rattle.asn_base.specs.Types.{Kind, a_sequence, a_set, Component, Resolved}
use Rattle.asn_base.proofs.Ruled.{parts}

few_listed : {s : List Resolved} {e : _} {cs : List Component} → AreListed s e cs → length cs ≤ 4294967295
few_listed l = let e = ap length l.parts in let a = l.few_root in let b = l.few_more in omega (arith, e, a, b, length-append l.root l.more)

few_sound : (s : List Resolved) (k : Kind) → IsSound s k → length (components k) ≤ 4294967295
few_sound s (a_sequence e cs) h = few_listed h
few_sound s (a_set e cs) h = few_listed h.0
few_sound s k h = omega arith

values_sound : (s : List Resolved) (k : Kind) → IsSound s k → AllByRecursion (HasValue s) (components k)
values_sound s (a_sequence e cs) h = h.defaults
values_sound s (a_set e cs) h = h.0.defaults
values_sound s k h = tt

pub numbered : {s : List Resolved} → IsSchema s → AreNumbered s
numbered {s} h t r e = few_sound s r.kind (h.sound t r.tags r.kind (record { found = e }))

pub ready : {s : List Resolved} → IsSchema s → (table : Option (Vec (Vec ℕ Global) Global)) → IsReady s table
ready {s} h table = record {
  numbered = numbered h;
  values = λ n t r e. values_sound s r.kind (h.sound t r.tags r.kind (record { found = e }));
}

pub no_table : {A B : Type 0} (f : A → B) (o : Option A) → None ≡ option_map f o → o ≡ None
no_table f None e = refl
no_table f (Some x) e = cc

all_at : {A : Type 0} (P : A → Type 0) (xs : List A) (i : ℕ) (c : A) → AllByRecursion P xs → slice_get xs i ≡ Some c → P c
all_at P [] i c h e = cc
all_at P (x ∷ xs) zero c h e = let same : x ≡ c = cc in subst P same h.0
all_at P (x ∷ xs) (suc i) c h e = all_at P xs i c h.1 e

-- the DEFAULT of a component is a value if there is no table
pub value_known : {s : List Resolved} {table : Option (Vec (Vec ℕ Global) Global)} (t i : ℕ) (cs : List Component) (c : Component) → IsReady s table → AreOf s t cs → slice_get cs i ≡ Some c → table ≡ None → HasValue s c
value_known {s} t i cs c r o e n = all_at (HasValue s) cs i c (subst (AllByRecursion (HasValue s)) o.2 (r.values n t o.0 o.1)) e

-- with a table nothing has to be known of defaults
pub with_table : {s : List Resolved} {table : Option (Vec (Vec ℕ Global) Global)} → AreNumbered s → IsSome table → IsReady s table
with_table {table = table} n h = record { numbered = n; values = λ e. absurd (none table h e) }
  where
    none : {A : Type 0} (o : Option A) → IsSome o → o ≡ None → ⊥
    none None h e = cc
    none (Some x) h e = cc

few_parts : (cs : List Component) → AreFew 0 256 (length (root_of cs)) (length (additions_of cs)) → length cs ≤ 4294967295
few_parts cs h =
    let e = ap length (parts cs) in
    let a = h.few_root in
    let b = h.few_more in
    omega (arith, e, a, b, length-append (root_of cs) (additions_of cs))

few_members : (k : Kind) → HasFewMembers k → length (components k) ≤ 4294967295
few_members (a_sequence e cs) h = few_parts cs h
few_members (a_set e cs) h = few_parts cs h
few_members k h = omega arith

-- types that keep the rules before that on DEFAULTs
pub numbered_by_rules : (s : List Resolved) → AllKeep s 13 → AreNumbered s
numbered_by_rules s h t r e = few_members r.kind (h Count (lit< tt) t r.tags r.kind (record { found = e }))
