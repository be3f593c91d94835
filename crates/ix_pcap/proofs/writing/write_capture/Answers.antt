use Rattle.std.proofs.Common.{◌≡◌, arith, subst, sym}
use Rattle.ix_pcap.specs.Written.{ReadsBack, capture_bytes}
use Rattle.ix_pcap.proofs.WrittenLaws.{all_written, capture_bytes-reads_back}
use Rattle.ix_pcap.proofs.writing.write_capture.Goals as goal

pub returns-clause-written : goal.returns-clause-written
unfolding capture_bytes
returns-clause-written c = all_written c.loop-one.bytes (capture_bytes c.args.sent.now) c.args.sent.now c.loop-one.one-index (omega arith) c.loop-one.invariant

pub returns-clause-reads_back : goal.returns-clause-reads_back
unfolding capture_bytes
returns-clause-reads_back c = λ room.
    let is : c.loop-one.bytes ≡ capture_bytes c.args.sent.now = all_written c.loop-one.bytes (capture_bytes c.args.sent.now) c.args.sent.now c.loop-one.one-index (omega arith) c.loop-one.invariant in
    subst (ReadsBack c.args.sent.now) (sym is) (capture_bytes-reads_back c.args.sent.now c.requires room)
