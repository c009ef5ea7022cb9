-- What is widened, by the laws of values that are alike.
use Rattle.std.proofs.Common.{arith, ℕ, ◌<◌, ◌≤◌, List, length}
use Rattle.asn_base.specs.Abstract.{AbstractValue}
use Rattle.asn_base.specs.Types.{Resolved}
use Rattle.asn_base.specs.Typed.{IsValue, IsValueWithoutNodes}
use Rattle.asn_base.specs.Same.{Same}
use Rattle.asn_base.specs.Schemas.{IsSchema}
use Rattle.encodings.specs.Rules.{Rules, Distinguished}
use Rattle.encodings.specs.Levels.{levels}
use Rattle.encodings.specs.Encoding.{Der, EncodesTo}
use Rattle.encodings.specs.Reading.{Encodes}
use Rattle.later_versions.specs.Later.{Later}
use Rattle.version_laws.specs.Versions.{IsReadAs, IsStrictlyReadAs}
use Rattle.version_laws.specs.Lifted.{lifted}
use Rattle.version_laws.proofs.Apart.{type_there}
use Rattle.version_laws.proofs.Alikes.{Laws}
use Rattle.version_laws.proofs.Back.{back}
use Rattle.version_laws.proofs.Basics.{basic}
use Rattle.version_laws.proofs.Newer.{value_widened}
use Rattle.version_laws.proofs.NewerAlike.{alike_widened}
use Rattle.version_laws.proofs.NewerSays.{SaysNewer, newer}

module _ (laws : Laws) (s s' : List Resolved) (t t' : ℕ) (schema : IsSchema s') (l : Later s t s' t') (h : t' < length s') where
  pub wide_value : (v : AbstractValue) → IsValueWithoutNodes s t v → IsValueWithoutNodes s' t' (lifted s' t' v)
  wide_value v a = value_widened laws s s' schema 64 t t' v l (type_there s' t' h) a

  pub wide_nodes : (v : AbstractValue) → IsValue s t v → IsValue s' t' (lifted s' t' v)
  wide_nodes v a =
      let b = back s s' schema l (type_there s' t' h) a.shaped in
      let n = b.as_many in
      let few = a.few_nodes in
      record { shaped = wide_value v a.shaped; few_nodes = omega (arith, n, few) }

  pub wide_same : {v w : AbstractValue} → Same s t v w → Same s' t' (lifted s' t' v) (lifted s' t' w)
  wide_same {v} {w} a = record {
    first = wide_value v a.first;
    second = wide_value w a.second;
    are_alike = alike_widened laws s s' schema 64 t t' v w l (type_there s' t' h) a.first a.second a.are_alike;
  }

  pub wide_says : {r : Rules} {w : AbstractValue} {o : List ℕ} → IsValueWithoutNodes s t w → (d : EncodesTo s r t w 0 o) → SaysNewer s' r t' (lifted s' t' w) o (levels d)
  wide_says v d = newer laws s s' schema l (type_there s' t' h) d v (omega arith)

  pub wide_stands : {r : Rules} {w : AbstractValue} {o : List ℕ} → Encodes s r t w 0 o → Encodes s' r t' (lifted s' t' w) 0 o
  wide_stands {w = w} e = record { value = wide_value w e.value; says_it = (wide_says e.value e.says_it).says_it }

  pub wide_basic : {v : AbstractValue} {o : List ℕ} → IsReadAs s t v 0 o → IsReadAs s' t' (lifted s' t' v) 0 o
  wide_basic r =
      let a = wide_says r.encodes.value r.encodes.says_it in
      let few = a.few in
      let most = r.few in
      record {
        value = lifted s' t' r.value;
        same = wide_same r.same;
        encodes = record { value = wide_value r.value r.encodes.value; says_it = a.says_it };
        few = omega (arith, few, most);
      }

  pub wide_der : ((w : AbstractValue) (o : List ℕ) (d : EncodesTo s' Distinguished t' w 0 o) → IsValueWithoutNodes s' t' w → levels d ≤ 400) → {v : AbstractValue} {o : List ℕ} → Der s t v 0 o → IsStrictlyReadAs s' t' (lifted s' t' v) 0 o
  wide_der within {v} {o} e =
      let same = wide_same e.1 in
      let a = (wide_says e.1.second e.2).says_it in
      let most = within (lifted s' t' e.0) o a same.second in
      let b = basic a in
      let few = b.few in
      record {
        is = record {
          value = lifted s' t' e.0;
          same = same;
          encodes = record { value = same.second; says_it = b.says_it };
          few = omega (arith, few, most);
        };
        strict = a;
      }
