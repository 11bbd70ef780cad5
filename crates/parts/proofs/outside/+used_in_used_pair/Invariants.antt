use Rattle.std.proofs.Common.{◌+◌, ◌-◌}
use Rattle.parts.proofs.outside.+used_in_used_pair.Given as goal

abbrev pub decreases-used_in : goal.decreases-used_in
decreases-used_in l = l.end - l.at

abbrev pub decreases-used_pair : goal.decreases-used_pair
decreases-used_pair l = l.end - l.at + 1
