use Rattle.std.proofs.Common.{◌≡◌, ◌≤◌, ◌+◌, ◌++◌, length}
use Rattle.std.specs.VecDeque.{deque_capacity}
use Rattle.ix_ring.specs.Ends.{put_list, spare}
use Rattle.ix_nic.specs.Ports.{PutsOn}
use Rattle.ix_nic.proofs.port.retry.Given as goal

abbrev pub invariant-loop-item : goal.invariant-loop-item
invariant-loop-item l = record {
  ring : PutsOn l.initial.items l.items;
  whole : put_list l.items ++ l.behind.items ≡ put_list l.initial.items ++ l.initial.behind.items;
  room : length l.behind.items + spare l.initial.items ≤ spare l.items + length l.initial.behind.items;
  fewer : length l.behind.items ≤ length l.initial.behind.items;
  capacity : deque_capacity l.behind ≡ deque_capacity l.initial.behind;
}

abbrev pub decreases-loop-item : goal.decreases-loop-item
decreases-loop-item l = length l.behind.items
