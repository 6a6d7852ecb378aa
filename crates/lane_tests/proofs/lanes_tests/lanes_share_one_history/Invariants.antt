use Rattle.std.proofs.Common.{true, Some}
use Rattle.lane_tests.proofs.lanes_tests.lanes_share_one_history.Given as goal

abbrev pub ghosts-run_lanes : goal.ghosts-run_lanes
ghosts-run_lanes g a = record { service = record { tells = true; one = Some 1714564800; settings = a.seats.settings } }
