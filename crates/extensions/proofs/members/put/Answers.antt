use Rattle.std.proofs.Common.{◌≡◌, map, subst, sym, ◌++◌, ◌∷◌, []}
use Rattle.std.proofs.lemmas.Result.{on_ok_weaker}
use Rattle.asn_base.specs.Seen.{alternative_of}
use Rattle.settled.specs.schema_of.SchemaOf.{AreAlternativesOf}
use Rattle.type_table.specs.Seen.{part_of}
use Rattle.extensions.proofs.Parts.{put_root, put_addition}
use Rattle.extensions.proofs.members.put.Goals as goal

pub returns-in-Root : goal.returns-in-Root
returns-in-Root c cs r following =
    let part = part_of c.args.part.now in
    let root = map alternative_of c.args.root.now.items in
    let more = map alternative_of c.args.additions.now.items in
    let one = alternative_of c.in-Ok.one in
    on_ok_weaker c.add.result
    (λ (e : map alternative_of c.add.new.alternatives.items ≡ root ++ one ∷ []).
    subst (λ xs. AreAlternativesOf (cs ++ part ∷ []) xs more) (sym e)
    (put_root cs root more part one r following c.in-Root.is c.in-Ok.ensures))
    c.add.ensures

pub returns-in-Addition : goal.returns-in-Addition
returns-in-Addition c cs r following =
    let part = part_of c.args.part.now in
    let root = map alternative_of c.args.root.now.items in
    let more = map alternative_of c.args.additions.now.items in
    let one = alternative_of c.in-Ok.one in
    on_ok_weaker c.add-in-Addition.result
    (λ (e : map alternative_of c.add-in-Addition.new.alternatives.items ≡ more ++ one ∷ []).
    subst (λ xs. AreAlternativesOf (cs ++ part ∷ []) root xs) (sym e)
    (put_addition cs root more part one c.in-Addition.field-0 r c.in-Addition.is c.in-Ok.ensures))
    c.add-in-Addition.ensures
