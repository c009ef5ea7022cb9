use Rattle.std.proofs.Common.{ap, subst, ◌∙◌}
use Rattle.asn_base.specs.Seen.{types_of}
use Rattle.resolve.specs.Program.{Program, WrittenProgram, IsWhole}
use Rattle.tagging.specs.Tagged.{IsTagged}
use Rattle.extensions.proofs.accepted.accepted.Goals as goal

pub of-requires : goal.of-requires
of-requires c =
    let p = c.args.bounded.now.program in
    let s = types_of c.args.types.items in
    let h = c.requires.settled.settled in
    let a = c.requires.settled.asked in
    let tags = c.lemma_tags_are_kept.ensures in
    let whole = subst IsWhole (ap (λ (q : WrittenProgram). q.program) c.linked-linked.ensures.value ∙ (ap (λ (w : WrittenProgram). w.program) c.tagged-tagged.ensures)) c.lemma_whole.ensures in
    let tagged = subst (λ (q : Program). IsTagged q.types) (ap (λ (w : WrittenProgram). w.program) c.tagged-tagged.ensures) c.linked-linked.ensures.tagged in
    c.lemma_program_schema_is_schema.ensures p s
    (record {
      whole = whole;
      apart = c.requires.read.apart;
      sound = c.requires.read.sound;
      spelled = c.requires.read.spelled;
      additions = a.additions;
      defaults = a.defaults;
    })
    h
    (record {
      tagged = tags.tagged p s h;
      distinct_tags = tags.distinct_tags p s tagged h;
      few = tags.few p s tagged h;
      components = λ i ts m cs is. tags.components p s i ts m cs whole tagged h is;
      alternatives = λ i ts m root more is. tags.alternatives p s i ts m root more whole tagged h is;
      ascending = λ i ts m root more is. tags.ascending p s i ts m root more a.additions h is;
    })
