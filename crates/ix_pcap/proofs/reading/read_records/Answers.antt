use Rattle.std.proofs.Common.{◌+◌, drop, sym, ◌∙◌, ap, arith}
use Rattle.std.proofs.lemmas.Grind.{common_steps}
use Rattle.ix_pcap.specs.Capture.{with_front}
use Rattle.ix_pcap.proofs.RecordLaws.{no_more, too_many, cut_header, cut_frame, one_more, within_one_more}
use Rattle.ix_pcap.proofs.reading.read_records.Goals as goal

pub returns-then-len-max-clause-read : goal.returns-then-len-max-clause-read
returns-then-len-max-clause-read g c =
    sym c.loop-at.invariant.read
    ∙ ap (with_front c.loop-at.spans.items) (too_many g.T.ByteOrder.number_of _ c.loop-at.at (drop c.loop-at.at c.args.bytes.now) (grind arith) (grind (arith, common_steps)))

pub returns-then-rest-lt-RECORD_HEADER_LEN-clause-read : goal.returns-then-rest-lt-RECORD_HEADER_LEN-clause-read
returns-then-rest-lt-RECORD_HEADER_LEN-clause-read g c =
    sym c.loop-at.invariant.read
    ∙ ap (with_front c.loop-at.spans.items) (cut_header g.T.ByteOrder.number_of _ c.loop-at.at (drop c.loop-at.at c.args.bytes.now) (grind arith) (grind (arith, common_steps)) (grind (arith, common_steps)))

pub returns-then-rest-len-clause-read : goal.returns-then-rest-len-clause-read
returns-then-rest-len-clause-read g c =
    sym c.loop-at.invariant.read
    ∙ ap (with_front c.loop-at.spans.items) (cut_frame g.T.ByteOrder.number_of _ c.loop-at.at (drop c.loop-at.at c.args.bytes.now) (grind arith) (grind (arith, common_steps)) (grind (arith, common_steps)))

pub loop-at-preserved : goal.loop-at-preserved
loop-at-preserved g c = record {
  read = one_more g.T.ByteOrder.number_of c.args.max c.loop-at.at c.read_u32-len.result c.args.bytes.now c.loop-at.spans.items c.push.new.self.items _
      (grind (arith, common_steps)) (grind arith) (grind (arith, common_steps)) (grind (arith, common_steps)) c.loop-at.invariant.read;
  place = grind (arith, common_steps);
  within = within_one_more c.args.bytes.now c.loop-at.spans.items c.push.new.self.items (record { from = c.loop-at.at + 16; to = c.loop-at.at + 16 + c.read_u32-len.result })
      (grind (arith, common_steps)) (omega arith) (grind (arith, common_steps)) c.loop-at.invariant.within;
  count = grind (arith, common_steps);
}

pub returns-clause-read : goal.returns-clause-read
returns-clause-read g c =
    sym c.loop-at.invariant.read
    ∙ ap (with_front c.loop-at.spans.items) (no_more g.T.ByteOrder.number_of _ c.loop-at.at (drop c.loop-at.at c.args.bytes.now) (grind (arith, common_steps)))
    ∙ grind (arith, common_steps)
