use Rattle.std.proofs.Common.{◌≡◌, ◌++◌, [], drop}
use Rattle.ix_groupdef.specs.Env.{setting_of}
use Rattle.ix_fits.specs.Connects.{answers_from, asked_from}
use Rattle.ix_told.proofs.connects.connects_to.Given as goal

abbrev pub invariant-loop-peer : goal.invariant-loop-peer
invariant-loop-peer l =
    record {
      asked : l.asked.items ++ asked_from (setting_of l.env) l.live l.asked.items (drop l.peer-index l.peers) ≡ asked_from (setting_of l.env) l.live [] l.peers;
      answers : l.answers.items ++ answers_from (setting_of l.env) l.live l.asked.items (drop l.peer-index l.peers) ≡ answers_from (setting_of l.env) l.live [] l.peers;
    }
