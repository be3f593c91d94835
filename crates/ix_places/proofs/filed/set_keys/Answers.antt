use Rattle.std.proofs.Common.{◌∙◌, arith}
use Rattle.ix_places.specs.Told.{reply_with}
use Rattle.ix_places.proofs.SetLaws.{changed-all, set-long, set-next}
use Rattle.ix_places.proofs.filed.set_keys.Goals as goal

pub loop-i-preserved : goal.loop-i-preserved
loop-i-preserved c =
    record {
      long = set-long _ _ _ _ c.loop-i.invariant.long;
      set = λ places is.
          set-next places c.args.replies.now.items c.loop-i.replies.items c.args.keys.now c.loop-i.i c.index_mut.result.now (omega (arith, c.loop-i-test.true, c.requires)) c.index_mut.ensures.value is
          (c.loop-i.invariant.set places is);
    }

pub returns : goal.returns
returns c = λ places is.
    c.loop-i.invariant.set places is ∙ changed-all (reply_with places) c.args.replies.now.items c.loop-i.i (omega (arith, c.loop-i-test.false, c.requires))
