use Rattle.std.proofs.Common.{◌≡◌, ℕ, ◌<◌, ◌^◌, All, map}
use Rattle.ix_pcap.specs.Written.{IsWritable}
use Rattle.ix_playdef.specs.Order.{sent_of}
use Rattle.ix_playdef.specs.Replies.{IsShort}
use Rattle.ix_playdef.proofs.Ticks.{AreClocks}
use Rattle.ix_playdef.proofs.order.sent_at.Given as goal

abbrev pub invariant-loop-reply : goal.invariant-loop-reply
invariant-loop-reply l = record {
  clocks : AreClocks l.entries l.clocks.items;
  below : All (λ (clock : ℕ). clock < 2 ^ 32) l.clocks.items;
  sent : l.sent.items ≡ map (sent_of l.entries) l.yielded;
  writable : All IsShort l.fn.replies.items → All IsWritable l.sent.items;
}
