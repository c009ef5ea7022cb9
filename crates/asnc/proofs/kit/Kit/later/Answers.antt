use Rattle.std.proofs.Common.{◌↔◌, ◌<◌, inl, inr, length, subst, sym, ℕ}
use Rattle.std.specs.Prelude.{IsTrue}
use Rattle.later_versions.specs.Later.{Later}
use Rattle.judging.specs.named_values.Named.{Names, TypeNamed}
use Rattle.asnc.specs.Kits.{Opened}
use Rattle.asnc.proofs.kit.Kit.later.Goals as goal

pub returns-in_default-clause-refused : goal.returns-in_default-clause-refused
returns-in_default-clause-refused c = (
  c.in_ok-from_str.ensures.ok,
  inl (subst (λ (k : Opened). (t : ℕ) → TypeNamed k.program c.args.ty.now t → ⊥) c.older.view_is c.in_default.ensures.named),
)

pub returns-in_default-type_number-clause-refused : goal.returns-in_default-type_number-clause-refused
returns-in_default-type_number-clause-refused c = (
  c.in_ok-from_str-2.ensures.ok,
  inr (subst (λ (k : Opened). (t : ℕ) → TypeNamed k.program c.args.ty.now t → ⊥) c.newer.view_is
      c.in_default-type_number.ensures.named),
)

pub returns-in-Ok-clause-compared : goal.returns-in-Ok-clause-compared
returns-in-Ok-clause-compared c =
    let t = c.in-Some.first.index in
    let u = c.in-Some-type_number.second.index in
    let b = c.in-Ok.answer in
    let named = c.in-Some-type_number.ensures in
    record {
      older = t;
      newer = u;
      older_named = subst (λ (k : Opened). Names k.program c.args.ty.now t) c.older.view_is c.in-Some.ensures.only;
      newer_named = subst (λ (k : Opened). Names k.program c.args.ty.now u) c.newer.view_is named.only;
      newer_there = subst (λ n. u < n) (sym c.settled.ensures.settled.types.as_many)
          (subst (λ (k : Opened). u < length k.program.types) c.newer.view_is named.within);
      is =
          let first = subst (λ s. IsTrue b ↔ Later s t c.newer.inside.schema u) c.older.invariant.1 c.in-Ok.ensures in
          let both = subst (λ s. IsTrue b ↔ Later c.older.inside.code t s u) c.newer.invariant.1 first in
          let seen = subst (λ (k : Opened). IsTrue b ↔ Later k.types t c.newer.inside.code u) c.older.view_is both in
          subst (λ (k : Opened). IsTrue b ↔ Later c.args.older.now.types t k.types u) c.newer.view_is seen;
    }
