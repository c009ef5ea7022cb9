use Rattle.std.proofs.Common.{◌≡◌, ap, refl, string_bytes, sym, ◌∙◌}
use Rattle.std.specs.Prelude.{Some}
use Rattle.std.proofs.lemmas.Option.{slice_get-map, slice_get_read}
use Rattle.std.specs.Option.{option_map}
use Rattle.programs.specs.Jobs.{IsAmong, names}
use Rattle.programs.proofs.Faults.{widen}
use Rattle.programs.proofs.files.texts_of.Goals as goal

pub returns-in-Err-clause-unread : goal.returns-in-Err-clause-unread
returns-in-Err-clause-unread c =
    widen (λ x. x ≡ string_bytes c.in_ok-clone-in-Err.field-0) (IsAmong (names c.args.files.now))
    (λ x e. (
      c.loop-file.file-index,
      slice_get-map string_bytes c.args.files.now c.loop-file.file-index
          ∙ ap (option_map string_bytes)
          (slice_get_read c.args.files.now _ c.loop-file.file-index c.file-item.result refl c.loop-file-test.true c.file-item.is)
          ∙ ap Some (sym c.in_ok-clone-in-Err.ensures.cases ∙ sym e),
    ))
    c.file_fault.result
    c.file_fault.ensures
