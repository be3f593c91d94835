use Rattle.std.proofs.Common.{◌≡◌, ◌≤◌, ◌+◌, ◌*◌, ◌++◌, length, List, ap, sym, ◌∙◌, arith, append_assoc}
use Rattle.std.specs.Prelude.{min}
use Rattle.std.proofs.lemmas.List.{length_push}
use Rattle.ix_tcpout.specs.declared.outs.OutSeg.{OutSeg}
use Rattle.ix_tcpout.proofs.SegmentLemmas.{first_segments}
use Rattle.ix_tcpout.proofs.cycle.push_bytes.Goals as goal

pub loop-left-preserved : goal.loop-left-preserved
loop-left-preserved c =
    let mss : c.from-mss.result ≡ c.args.tcb.now.mss = c.from-mss.ensures in
    let n_is : c.min-n.result ≡ min c.args.tcb.now.mss c.loop-left.left = c.min-n.ensures ∙ ap (λ m. min m c.loop-left.left) mss in
    let len : length c.push.new.self.items ≡ length c.loop-left.entries.items + 1 = ap length c.push.ensures.items ∙ length_push c.loop-left.entries.items c.bytes.result in
    let fill : 64 * length c.loop-left.entries.items + c.loop-left.left ≤ 65599 = c.loop-left.invariant.fill c.loop-left-test.true in
    let least : 64 ≤ c.args.tcb.now.mss = c.requires.mss in
    record {
      value = rw (c.push.ensures.items, c.bytes.ensures, append_assoc)
          (ap (λ (es : List OutSeg). c.loop-left.entries.items ++ es) (sym (first_segments c.args.cfg.now c.args.tcb.now c.loop-left.from c.loop-left.left _ least c.loop-left-test.true n_is))
          ∙ c.loop-left.invariant.value);
      room = omega (arith, len, fill);
      fill = λ more. omega (arith, len, fill, least, n_is, more);
      window = omega (arith, c.loop-left.invariant.window);
      place = omega (arith, c.loop-left.invariant.place, n_is);
    }
