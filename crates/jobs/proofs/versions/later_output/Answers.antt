use Rattle.std.proofs.Common.{subst}
use Rattle.std.specs.Prelude.{map, string_bytes}
use Rattle.asnc.specs.front_end.Accepted.{octets_of, AreAccepted}
use Rattle.jobs.specs.Refusals.{LacksType}
use Rattle.jobs.proofs.Refused.{without_type}
use Rattle.jobs.proofs.versions.later_output.Goals as goal

-- both texts are accepted, so the fault is that the name has no type
pub returns-in-Err-compared-clause-refused : goal.returns-in-Err-compared-clause-refused
returns-in-Err-compared-clause-refused c =
    let p = c.in-Ok.kit.program in
    let q = c.in-Ok-newer_kit.kit.program in
    let e = c.in-Err-compared.fault in
    let older : AreAccepted (map octets_of c.args.inputs.now.files.items) p =
    subst (λ xs. AreAccepted (map octets_of xs) p) c.as_slice.ensures.value c.in-Ok.ensures.opened.accepted in
    let newer : AreAccepted (map octets_of c.args.inputs.now.newer.items) q =
    subst (λ xs. AreAccepted (map octets_of xs) q) c.as_slice-2.ensures.value
    c.in-Ok-newer_kit.ensures.opened.accepted in
    let lacks : LacksType p q (string_bytes c.args.job.now.ty) e =
    subst (λ n. LacksType p q n e) c.as_str.ensures.value c.in-Err-compared.ensures.lacks in
    without_type (map octets_of c.args.inputs.now.files.items) (map octets_of c.args.inputs.now.newer.items)
    (string_bytes c.args.job.now.ty) p q e older newer lacks
