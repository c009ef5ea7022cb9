-- Headers and assignments in memory, and as definitions see them.
use Rattle.std.proofs.Common.{◌≡◌, ℕ, ◌<◌, List, length, Some, map, get_or}
use Rattle.std.specs.Prelude.{slice_get}
use Rattle.names.specs.declared.sources.AssignedAt.{AssignedAt}
use Rattle.names.specs.declared.sources.Header.{Header}
use Rattle.names.specs.proving.Distinct.{item_at}
use Rattle.names.specs.Sources.{assignment_of, header_of}

pub assignment_at : (gs : List AssignedAt) (i : ℕ) (g : AssignedAt) → i < length gs → g ≡ get_or gs i g →
    slice_get (map assignment_of gs) i ≡ Some (assignment_of g)
assignment_at gs i g l e = item_at assignment_of gs i g l e

pub header_at : (hs : List Header) (i : ℕ) (h : Header) → i < length hs → h ≡ get_or hs i h →
    slice_get (map header_of hs) i ≡ Some (header_of h)
header_at hs i h l e = item_at header_of hs i h l e
