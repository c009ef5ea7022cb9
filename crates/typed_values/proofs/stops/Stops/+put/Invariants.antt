use Rattle.typed_values.proofs.stops.Stops.+put.Given as goal

-- each call is for half of the number, in a tree of one branch less
abbrev pub decreases-put : goal.decreases-put
decreases-put l = l.height
