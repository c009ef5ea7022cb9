use Rattle.std.proofs.Common.{◌<◌, inl, inr, length, subst, sym, ℕ}
use Rattle.std.specs.Prelude.{◌↔◌, IsTrue}
use Rattle.later_versions.specs.Differences.{IsComparison}
use Rattle.later_versions.specs.Later.{Later}
use Rattle.judging.specs.named_values.Named.{Names, TypeNamed}
use Rattle.later_versions.specs.DifferenceText.{HasText, comparison_of, says_later}
use Rattle.asnc.specs.Kits.{Opened}
use Rattle.asnc.proofs.kit.Kit.compare.Goals as goal

pub returns-in_default-clause-refused : goal.returns-in_default-clause-refused
returns-in_default-clause-refused c = (
  c.in_ok-from_str.ensures.ok,
  inl (subst (λ (k : Opened). (t : ℕ) → TypeNamed k.program c.args.ty.now t → ⊥) c.older.view_is c.in_default.ensures.named),
)

pub returns-in_default-type_number-clause-refused : goal.returns-in_default-type_number-clause-refused
returns-in_default-type_number-clause-refused c = (
  c.in_ok-from_str-2.ensures.ok,
  inr (subst (λ (k : Opened). (t : ℕ) → TypeNamed k.program c.args.ty.now t → ⊥) c.newer.view_is
      c.in_default-type_number.ensures.named),
)

pub returns-in-Ok-clause-compared : goal.returns-in-Ok-clause-compared
returns-in-Ok-clause-compared c =
    let t = c.in-Some.first.index in
    let u = c.in-Some-type_number.second.index in
    let a = c.in-Ok.answer in
    let d = comparison_of a in
    let named = c.in-Some-type_number.ensures in
    record {
      older = t;
      newer = u;
      older_named = subst (λ (k : Opened). Names k.program c.args.ty.now t) c.older.view_is c.in-Some.ensures.only;
      newer_named = subst (λ (k : Opened). Names k.program c.args.ty.now u) c.newer.view_is named.only;
      newer_there = subst (λ n. u < n) (sym c.settled.ensures.settled.types.as_many)
          (subst (λ (k : Opened). u < length k.program.types) c.newer.view_is named.within);
      yes =
          let first = subst (λ s. IsTrue (says_later a) ↔ Later s t c.newer.inside.schema u) c.older.invariant.1 c.in-Ok.ensures.later in
          let both = subst (λ s. IsTrue (says_later a) ↔ Later c.older.inside.code t s u) c.newer.invariant.1 first in
          let seen = subst (λ (k : Opened). IsTrue (says_later a) ↔ Later k.types t c.newer.inside.code u) c.older.view_is both in
          subst (λ (k : Opened). IsTrue (says_later a) ↔ Later c.args.older.now.types t k.types u) c.newer.view_is seen;
      is =
          let first = subst (λ s. IsComparison s t c.newer.inside.schema u d) c.older.invariant.1 c.in-Ok.ensures.compared in
          let both = subst (λ s. IsComparison c.older.inside.code t s u d) c.newer.invariant.1 first in
          let seen = subst (λ (k : Opened). IsComparison k.types t c.newer.inside.code u d) c.older.view_is both in
          subst (λ (k : Opened). IsComparison c.args.older.now.types t k.types u d) c.newer.view_is seen;
      text_of =
          let first = subst (λ s. HasText s t c.newer.inside.schema a) c.older.invariant.1 c.in-Ok.ensures.text_of in
          let both = subst (λ s. HasText c.older.inside.code t s a) c.newer.invariant.1 first in
          let seen = subst (λ (k : Opened). HasText k.types t c.newer.inside.code a) c.older.view_is both in
          subst (λ (k : Opened). HasText c.args.older.now.types t k.types a) c.newer.view_is seen;
    }
