use Rattle.std.proofs.Common.{rules, ◌≡◌, ◌<◌, ◌++◌, length, List, ap, sym, ◌∙◌, arith, append_assoc}
use Rattle.std.proofs.lemmas.Grind.{common_steps}
use Rattle.std.specs.Prelude.{min}
use Rattle.ix_tcpdef.specs.declared.types.Output.{Output}
use Rattle.ix_tcpdef.proofs.FlushLemmas.{first_frames}
use Rattle.ix_tcpdef.proofs.flush.push_data.Goals as goal

pub loop-rest-preserved : goal.loop-rest-preserved
loop-rest-preserved c =
    let more : 0 < length c.loop-rest.rest.now = grind (arith, common_steps) in
    let n_is : c.min-n.result ≡ min c.args.w.now.mss (length c.loop-rest.rest.now) = search rules in
    record {
      frames = rw (c.in_ok-push.ensures.ok, c.data_frame.ensures, c.in_ok-first.ensures, c.split_at.ensures.front, c.split_at.ensures.back, append_assoc)
          (ap (λ (os : List Output). c.loop-rest.outputs ++ os) (sym (first_frames c.args.cfg.now c.args.w.now c.loop-rest.at _ c.loop-rest.rest.now c.requires.mss more n_is))
          ∙ c.loop-rest.invariant.frames);
      first = grind (arith, common_steps);
      at = grind (arith, common_steps);
    }
