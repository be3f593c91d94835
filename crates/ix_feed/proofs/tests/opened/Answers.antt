use Rattle.std.proofs.Common.{◌≡◌, ◌≤◌, [], ◌∷◌, false, subst, sym, ap, ◌∙◌, arith}
use Rattle.std.specs.Prelude.{count_by}
use Rattle.ix_reta.specs.Table.{Table}
use Rattle.ix_wire.specs.Entries.{terms_of}
use Rattle.ix_feed.specs.Replays.{CanFeed, ReplayView, is_move}
use Rattle.ix_feed.proofs.tests.opened.Goals as goal

pub new-requires : goal.new-requires
new-requires c =
    let room : count_by is_move c.in_ok-replay.replay.entries ≤ c.in_ok-nic.nic.table.room =
    omega (arith, c.moves.ensures, ap (λ (t : Table). t.room) c.in_ok-nic.ensures.table) in
    subst (λ (r : ReplayView). CanFeed c.in_ok-nic.nic r) (sym c.begin.ensures)
    (c.wires_can_be_fed.ensures.feeds (terms_of 0 2 2 (false ∷ [])) c.in_ok-nic.nic c.in_ok-replay.replay c.in_ok-replay.ensures.wire
    (sym c.in_ok-replay.ensures.frames) c.in_ok-replay.ensures.lines (sym c.in_ok-nic.ensures.count)
    (ap (λ (t : Table). t.live) c.in_ok-nic.ensures.table) (ap (λ (t : Table). t.turns) c.in_ok-nic.ensures.table) room c.in_ok-nic.ensures.clear)
