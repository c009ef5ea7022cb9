use Rattle.std.proofs.Common.{arith, ◌<◌, length, map, sym, subst, ◌∙◌}
use Rattle.std.specs.Prelude.{Some, option_map}
use Rattle.std.proofs.lemmas.List.{map-set}
use Rattle.asn_base.specs.Abstract.{abstract}
use Rattle.views.specs.Rows.{IsPut}
use Rattle.views.proofs.Filled.{put_there, put_nowhere, get_mapped, length_same, nothing_in, something_in}
use Rattle.views.proofs.view.put.Goals.{else-number-len-via-then-number-len+else-is_none, else-number-len-via-else-number-len}
use Rattle.views.proofs.view.put.Goals as goal

pub returns-then-is_none : goal.returns-then-is_none
returns-then-is_none c =
    let vs = c.args.values.now.items in
    let os = map (option_map abstract) vs in
    let m = length_same (option_map abstract) vs in
    let within : c.args.number < length vs = omega (arith, c.if-number-len.true, c.len.ensures, c.args.values.now.ok.0) in
    subst (λ q. IsPut os c.args.number (abstract c.args.one) q) (sym (map-set (option_map abstract) vs c.args.number (Some c.args.one)))
    (put_there os c.args.number (abstract c.args.one) (omega (arith, m, within))
    (get_mapped abstract vs c.args.number c.index.result.now within c.index.ensures ∙ nothing_in abstract c.index.result.now c.if-is_none.ensures))

pub returns-else-number-len : goal.returns-else-number-len
returns-else-number-len c =
    elim c.else-number-len.branch [
      | else-number-len-via-then-number-len+else-is_none w ↦
          (let vs = c.args.values.now.items in
          let within : c.args.number < length vs = omega (arith, w.if-number-len.true, c.len.ensures, c.args.values.now.ok.0) in
          let some = something_in abstract w.index.result.now w.if-is_none.ensures in
          put_nowhere (map (option_map abstract) vs) c.args.number (abstract c.args.one)
          (λ i e l. (some.0, get_mapped abstract vs c.args.number w.index.result.now within w.index.ensures ∙ some.1)))
      | else-number-len-via-else-number-len w ↦
          put_nowhere (map (option_map abstract) c.args.values.now.items) c.args.number (abstract c.args.one)
          (λ i e l. absurd (let m = length_same (option_map abstract) c.args.values.now.items in omega (arith, m, l, e, w.if-number-len.false, c.len.ensures, c.args.values.now.ok.0)))
    ]
