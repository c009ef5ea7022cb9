use Rattle.typed_values.proofs.stops.Stops.+found.Given as goal

-- each call is for half of the number, in a tree of one branch less
abbrev pub decreases-found : goal.decreases-found
decreases-found l = l.height
