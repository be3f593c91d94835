use Rattle.std.proofs.Common.{◌≡◌, ◌++◌, drop}
use Rattle.ix_gen.specs.Rounds.{behind_data, data_of, drawn_for}
use Rattle.ix_gen.proofs.rounds.data.Given as goal

-- what is done and what is to do are the whole round
abbrev pub invariant-loop-client : goal.invariant-loop-client
invariant-loop-client l =
    (l.recording ++ data_of l.ahead.state (drop l.client-index l.clients) ≡ l.fn.recording ++ data_of l.state l.clients)
    × (drawn_for l.ahead.state (drop l.client-index l.clients) ≡ drawn_for l.state l.clients)
    × (l.ahead.clients.items ++ behind_data l.ahead.state (drop l.client-index l.clients) ≡ behind_data l.state l.clients)
