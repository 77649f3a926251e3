-- Document 01, "Speed and its row": the lane width of a road. It is all that the exact road asks of a rule book, and both books have the same.
use Rattle.std.specs.Prelude.{ℕ}
use Rattle.road.specs.File.{Road}
use Rattle.road.specs.Limits.{limits}

-- that of its speed's row
unfoldable pub lane_width : Road → ℕ
lane_width r = (limits r).lane
