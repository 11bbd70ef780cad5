-- No entry is found by its hash yet.
use Rattle.names.proofs.Hashing.{hashed_start}
use Rattle.ntread.proofs.read_lanes.Goals as goal

pub read_anew-requires-clause-hashed : goal.read_anew-requires-clause-hashed
read_anew-requires-clause-hashed c = hashed_start
