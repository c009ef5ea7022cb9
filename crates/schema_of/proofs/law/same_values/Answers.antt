use Rattle.std.specs.Prelude.{ℕ, List}
use Rattle.asn_base.specs.Abstract.{AbstractValue}
use Rattle.asn_base.specs.Types.{Resolved}
use Rattle.asn_base.specs.Typed.{ValueIn}
use Rattle.names.specs.Names.{IsApart}
use Rattle.resolve.specs.Program.{Program}
use Rattle.type_table.specs.Lists.{AreSound}
use Rattle.value_notations.specs.Values.{NotatedValueIn}
use Rattle.values.specs.Allowing.{Allows, AllowsCode}
use Rattle.schema_of.specs.SchemaOf.{IsSchemaOf}
use Rattle.schema_of.proofs.ValuesOfTypes.{written}
use Rattle.schema_of.proofs.Resolved.{resolved}
use Rattle.schema_of.proofs.law.same_values.Goals as goal

pub returns : goal.returns
returns c =
    let one = c.one_value.ensures in
    let inside : (p : Program) (s : List Resolved) (n i : ℕ) (v : AbstractValue)
    → IsApart p.modules
    → AreSound p.types
    → IsSchemaOf p (Allows p) (AllowsCode p) s
    → NotatedValueIn p (Allows p) (AllowsCode p) n i v
    → ValueIn s n i v =
    λ p s n i v apart sound of h.
    resolved p (Allows p) (AllowsCode p) s (λ os M i m v w a b. one p os M i m v w apart sound a b) sound of h in
    record {
      notated = inside;
      levels = λ p s n i v apart sound schema of. (
        λ h. written p (Allows p) (AllowsCode p) s schema of h,
        λ h. inside p s n i v apart sound of h,
      );
      whole = λ p s i v apart sound schema of. (
        λ h. record { shaped = written p (Allows p) (AllowsCode p) s schema of h.shaped; few_nodes = h.few_nodes },
        λ h. record { shaped = inside p s 64 i v apart sound of h.shaped; few_nodes = h.few_nodes },
      );
    }
