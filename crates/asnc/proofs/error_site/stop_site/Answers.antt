use Rattle.std.proofs.Common.{refl, ap, ◌∙◌}
use Rattle.asnc.specs.ErrorSites.{path_of}
use Rattle.asnc.proofs.error_site.stop_site.Goals as goal

pub returns : goal.returns
returns c =
    let found = c.in_ok-found.ensures in
    record {
      id = c.args.id;
      numbered = refl;
      found = c.in_ok-found.found;
      is = found.is;
      first = found.first;
      judged = found.judged;
      innermost = found.innermost;
      at = refl;
      parts = c.in_ok-path.ensures ∙ ap (path_of c.args.schema.now) c.as_slice.ensures.value
          ∙ ap (λ s. path_of s c.in_ok-found.found.values.items) c.requires.same;
    }
