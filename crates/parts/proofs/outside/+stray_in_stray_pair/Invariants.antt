use Rattle.std.proofs.Common.{◌+◌, ◌-◌}
use Rattle.parts.proofs.outside.+stray_in_stray_pair.Given as goal

abbrev pub decreases-stray_in : goal.decreases-stray_in
decreases-stray_in l = l.end - l.at

abbrev pub decreases-stray_pair : goal.decreases-stray_pair
decreases-stray_pair l = l.end - l.at + 1
