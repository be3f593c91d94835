use Rattle.std.proofs.Common.{◌≡◌, ◌+◌, ◌≤◌, drop, length}
use Rattle.ix_conf.specs.Settings.{settings_of}
use Rattle.ix_fits.specs.Behind.{behind_at, card_of}
use Rattle.ix_fits.specs.Card.{fit_entries}
use Rattle.ix_fits.proofs.entries.fit_entries.Given as goal

abbrev pub invariant-loop-w : goal.invariant-loop-w
invariant-loop-w l =
    record {
      lengths : length l.wire ≡ length l.entries;
      from : l.place.from ≤ l.w;
      settle : l.place.settle ≤ l.w;
      rest : fit_entries (settings_of l.conf) l.records (card_of (behind_at l.conf.live l.entries l.settles l.w l.place)) l.clock (drop l.w l.wire) (drop l.w l.entries) (drop (l.place.settle + 1) l.settles)
          ≡ fit_entries (settings_of l.conf) l.records (card_of (behind_at l.conf.live l.entries l.settles 0 (record { from = 0; settle = 0 }))) 0 l.wire l.entries (drop 1 l.settles);
    }
