use Rattle.std.proofs.Common.{◌≡◌, ◌++◌, map}
use Rattle.trees.specs.Modules.{import_of}
use Rattle.names.specs.Names.{names_of}
use Rattle.names.specs.Modules.{imports_of, AreDifferent}
use Rattle.names.specs.First.{import_spots, written_imports}
use Rattle.names.specs.proving.Gathering.{origin_offsets}
use Rattle.names.specs.Scopes.{meanings, origin_spots, origins}
use Rattle.names.proofs.gather.ModuleAt.import_all.Given as goal

abbrev pub invariant-loop-names : goal.invariant-loop-names
invariant-loop-names l =
    record {
      sum :
          origins l.imports.entries ++ imports_of (map import_of l.names-iterator.rest.items)
          ≡ imports_of (map import_of l.fn.given.items);
      distinct : AreDifferent (names_of (meanings l.assigned.entries) ++ names_of (origins l.imports.entries));
      spots :
          origin_offsets l.imports.entries ++ import_spots l.names-iterator.rest.items ≡ import_spots l.fn.given.items;
      written :
          origin_spots l.imports.entries ++ written_imports l.names-iterator.rest.items
          ≡ written_imports l.fn.given.items;
    }
