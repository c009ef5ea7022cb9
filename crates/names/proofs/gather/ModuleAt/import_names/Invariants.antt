use Rattle.std.proofs.Common.{◌≡◌, ◌++◌, map}
use Rattle.trees.specs.Values.{name_at}
use Rattle.names.specs.Names.{names_of}
use Rattle.names.specs.Modules.{AreDifferent}
use Rattle.names.specs.First.{import_spot, name_spot}
use Rattle.names.specs.proving.Gathering.{origin_offsets}
use Rattle.names.specs.Scopes.{meanings, origin_spots, origins}
use Rattle.names.proofs.gather.ModuleAt.import_names.Given as goal

abbrev pub invariant-loop-name : goal.invariant-loop-name
invariant-loop-name l =
    record {
      sum :
          origins l.imports.entries ++ map (λ x. (x, name_at l.from.value)) (map name_at l.name-iterator.rest.items)
          ≡ origins l.fn.imports.entries ++ map (λ x. (x, name_at l.from.value)) (map name_at l.fn.names.items);
      distinct : AreDifferent (names_of (meanings l.assigned.entries) ++ names_of (origins l.imports.entries));
      spots :
          origin_offsets l.imports.entries ++ map name_spot l.name-iterator.rest.items
          ≡ origin_offsets l.fn.imports.entries ++ map name_spot l.fn.names.items;
      written :
          origin_spots l.imports.entries ++ map (import_spot l.from.value) l.name-iterator.rest.items
          ≡ origin_spots l.fn.imports.entries ++ map (import_spot l.from.value) l.fn.names.items;
    }
