use Rattle.std.proofs.Common.{◌≡◌, ◌++◌, map}
use Rattle.trees.specs.Modules.{assignment_tree_of as given_of}
use Rattle.names.specs.First.{assigned_spots}
use Rattle.names.specs.Scopes.{meanings}
use Rattle.names.specs.proving.Gathering.{offsets}
use Rattle.names.proofs.Gatherings.{ArePlaced}
use Rattle.names.proofs.Writings.{AreWritten}
use Rattle.names.proofs.gather.ModuleAt.add_all.Given as goal

abbrev pub invariant-loop-given : goal.invariant-loop-given
invariant-loop-given l =
    record {
      placed :
          ArePlaced l.self.number (map given_of l.fn.givens.items) (map given_of l.given-iterator.rest.items) l.fn.tables
          l.tables (meanings l.assigned.entries);
      spots :
          offsets l.assigned.entries ++ assigned_spots l.given-iterator.rest.items ≡ assigned_spots l.fn.givens.items;
      written : AreWritten l.fn.givens.items l.given-iterator.rest.items l.fn.tables l.tables;
    }
