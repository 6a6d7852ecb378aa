use Rattle.std.proofs.Common.{◌≡◌, vec_len, All}
use Rattle.serve_lanes.specs.Histories.{TellsOne}
use Rattle.server_commands.proofs.serve.clocks_of.Given as goal

abbrev pub invariant-loop-lane : goal.invariant-loop-lane
invariant-loop-lane g l = record {
  count : vec_len l.clocks ≡ l._lane;
  one : All (λ c. TellsOne (g.H.Host.seen l.initial.host).moment (g.C.Clock.seen c).one) l.clocks.items;
  host : g.H.Host.seen l.host ≡ g.H.Host.seen l.initial.host;
}
