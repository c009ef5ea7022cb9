use Rattle.std.proofs.Common.{map, subst}
use Rattle.names.specs.proving.Gathering.{IsNamingFault}
use Rattle.names.specs.First.{IsPassedLimitAt}
use Rattle.names.specs.Modules.{AreFew}
use Rattle.trees.specs.Modules.{module_tree_of}
use Rattle.resolve.proofs.Ready.{are_linked, naming_link, assembly_link}
use Rattle.resolve.proofs.Firsts.{counts_first, meanings_first, offers_first, text_of}
use Rattle.resolve.proofs.linking.link.Goals as goal

pub returns-in-Err-check_all-clause-fault : goal.returns-in-Err-check_all-clause-fault
returns-in-Err-check_all-clause-fault c =
    let ms = map module_tree_of c.args.modules.items in
    naming_link ms c.in-Err-check_all.fault (c.lemma_all_named.ensures.fault ms c.in-Ok-gather.gathered c.in-Err-check_all.fault c.in-Ok-gather.ensures.ok c.in-Err-check_all.ensures.fault)

pub assemble-requires : goal.assemble-requires
assemble-requires c = record { ready = c.lemma_ready.ensures (map module_tree_of c.args.modules.items) c.in-Ok-gather.gathered c.in-Ok-gather.ensures.ok }

pub returns-in-Err-clause-fault : goal.returns-in-Err-clause-fault
returns-in-Err-clause-fault c = naming_link (map module_tree_of c.args.modules.items) c.in-Err.fault (subst (λ l. IsNamingFault (map module_tree_of l) c.in-Err.fault) c.deref.ensures.value c.in-Err.ensures.fault)

pub returns-in-Err-gather-clause-fault : goal.returns-in-Err-gather-clause-fault
returns-in-Err-gather-clause-fault c = naming_link (map module_tree_of c.args.modules.items) c.in-Err-gather.fault c.in-Err-gather.ensures.fault

pub returns-in-Ok-assemble-clause-linked : goal.returns-in-Ok-assemble-clause-linked
returns-in-Ok-assemble-clause-linked c =
    let ms = map module_tree_of c.args.modules.items in
    let g = c.in-Ok-gather.gathered in
    are_linked ms g c.in-Ok-assemble.linked.program (subst (λ l. AreFew (map module_tree_of l)) c.deref.ensures.value c.in-Ok.ensures.ok) (c.lemma_all_named.ensures.named ms g c.in-Ok-gather.ensures.ok c.in-Ok-check_all.ensures.ok) c.in-Ok-gather.ensures.ok c.in-Ok-assemble.ensures.assembled

pub returns-in-Ok-assemble-clause-text : goal.returns-in-Ok-assemble-clause-text
returns-in-Ok-assemble-clause-text c =
    text_of c.args.modules.items c.in-Ok-gather.gathered c.in-Ok-assemble.linked c.in-Ok-gather.ensures.written c.in-Ok-assemble.ensures.text

pub returns-in-Err-assemble-clause-fault : goal.returns-in-Err-assemble-clause-fault
returns-in-Err-assemble-clause-fault c =
    let ms = map module_tree_of c.args.modules.items in
    assembly_link ms c.in-Ok-gather.gathered c.in-Err-assemble.fault c.in-Ok-gather.ensures.ok c.in-Err-assemble.ensures.fault

pub returns-in-Err-clause-written : goal.returns-in-Err-clause-written
returns-in-Err-clause-written c =
    let ws = c.args.modules.items in
    counts_first ws c.in-Err.fault (subst (λ l. IsNamingFault (map module_tree_of l) c.in-Err.fault) c.deref.ensures.value c.in-Err.ensures.fault) (subst (λ l. IsPassedLimitAt l c.in-Err.fault) c.deref.ensures.value c.in-Err.ensures.at)

pub returns-in-Err-gather-clause-written : goal.returns-in-Err-gather-clause-written
returns-in-Err-gather-clause-written c =
    meanings_first c.args.modules.items c.in-Err-gather.fault (subst (λ l. AreFew (map module_tree_of l)) c.deref.ensures.value c.in-Ok.ensures.ok) c.in-Err-gather.ensures.place

pub returns-in-Err-check_all-clause-written : goal.returns-in-Err-check_all-clause-written
returns-in-Err-check_all-clause-written c =
    let ws = c.args.modules.items in
    let ms = map module_tree_of ws in
    let g = c.in-Ok-gather.gathered in
    offers_first ws g c.in-Err-check_all.fault (subst (λ l. AreFew (map module_tree_of l)) c.deref.ensures.value c.in-Ok.ensures.ok) c.in-Ok-gather.ensures.ok c.in-Ok-gather.ensures.written
    (c.lemma_all_named.ensures.fault ms g c.in-Err-check_all.fault c.in-Ok-gather.ensures.ok c.in-Err-check_all.ensures.fault) c.in-Err-check_all.ensures.first

pub returns-in-Err-assemble-clause-written : goal.returns-in-Err-assemble-clause-written
returns-in-Err-assemble-clause-written c =
    let ws = c.args.modules.items in
    let ms = map module_tree_of ws in
    let g = c.in-Ok-gather.gathered in
    c.in-Err-assemble.ensures.first ws c.in-Ok-gather.ensures.ok c.in-Ok-gather.ensures.written (c.lemma_all_named.ensures.named ms g c.in-Ok-gather.ensures.ok c.in-Ok-check_all.ensures.ok) (subst (λ l. AreFew (map module_tree_of l)) c.deref.ensures.value c.in-Ok.ensures.ok)
