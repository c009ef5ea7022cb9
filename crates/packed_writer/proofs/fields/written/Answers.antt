use Rattle.std.proofs.Common.{◌≡◌, ◌-◌, ◌≤◌, true, false, arith, sym, subst, ◌∙◌}
use Rattle.asn_base.specs.Abstract.{abstract}
use Rattle.asn_base.specs.Typed.{ValueIn}
use Rattle.packed_encodings.specs.Computed.{is_default}
use Rattle.packed_writer.specs.proving.Values.{HasComponent}
use Rattle.packed_writer.proofs.Components.{not_true, none_written, default_left_out, is_there, component_in, without_default}
use Rattle.packed_writer.proofs.fields.written.Goals as goal

pub returns-in_default : goal.returns-in_default
returns-in_default c = none_written c.args.code.now c.args.typed.id.index (abstract c.args.typed.value.now) c.args.field c.in_default.ensures

pub returns-then-not-field : goal.returns-then-not-field
returns-then-not-field c =
    let f = c.requires.field in
    is_there c.args.code.now c.args.typed.id.index c.args.typed.levels (abstract c.args.typed.value.now) (abstract c.in-Some.value.now) c.args.field f.component c.requires.value.is c.in-Some.ensures f.there f.is
    (without_default c.args.code.now (abstract c.in-Some.value.now) c.args.field f.component f.is (not_true c.args.field.with_default c.if-not-field.true))

pub is_default-requires : goal.is_default-requires
is_default-requires c =
    let f = c.requires.field in
    let n = c.args.typed.levels in
    let v = component_in c.args.code.now c.args.typed.id.index n (abstract c.args.typed.value.now) (abstract c.in-Some.value.now) c.args.field.place f.component c.requires.value.is c.in-Some.ensures f.there in (
      f.component,
      subst (λ q. HasComponent q c.args.typed.id.index c.args.field.place f.component) (sym c.schema.ensures) f.there,
      (let k : n - 1 ≤ 64 = (let h = c.requires.value.few in omega (arith, h)) in c.lemma_levels_grow.ensures c.schema.result.now f.component.type (n - 1) 64 (abstract c.in-Some.value.now) k (subst (λ q. ValueIn q (n - 1) f.component.type (abstract c.in-Some.value.now)) (sym c.schema.ensures) v)),
    )

pub returns-then-is_default : goal.returns-then-is_default
returns-then-is_default c =
    let f = c.requires.field in
    default_left_out c.args.code.now c.args.typed.id.index (abstract c.args.typed.value.now) (abstract c.in-Some.value.now) c.args.field f.component c.in-Some.ensures f.there
    (subst (λ q. is_default q f.component (abstract c.in-Some.value.now) ≡ true) c.schema.ensures
    (sym (c.is_default.ensures f.component (subst (λ q. HasComponent q c.args.typed.id.index c.args.field.place f.component) (sym c.schema.ensures) f.there)) ∙ c.if-is_default.true))

pub returns : goal.returns
returns c =
    let f = c.requires.field in
    is_there c.args.code.now c.args.typed.id.index c.args.typed.levels (abstract c.args.typed.value.now) (abstract c.in-Some.value.now) c.args.field f.component c.requires.value.is c.in-Some.ensures f.there f.is
    (subst (λ q. is_default q f.component (abstract c.in-Some.value.now) ≡ false) c.schema.ensures
    (sym (c.is_default.ensures f.component (subst (λ q. HasComponent q c.args.typed.id.index c.args.field.place f.component) (sym c.schema.ensures) f.there)) ∙ c.if-is_default.false))
