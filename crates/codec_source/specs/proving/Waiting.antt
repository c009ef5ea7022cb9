-- Frames that wait, and the frame above them that goes on.
use Rattle.std.specs.Prelude.{List, [], ◌∷◌, ◌++◌, Option, Some, None}
use Rattle.codec_source.specs.declared.frame.Frame.{Frame}

-- the frames, with the frame that goes on at the end, if there is one
abbrev pub and_next : List Frame → Option Frame → List Frame
and_next fs None = fs
and_next fs (Some f) = fs ++ f ∷ []
