use Rattle.std.proofs.Common.{◌≡◌, ◌++◌}
use Rattle.ix_groupdef.specs.Env.{setting_of}
use Rattle.ix_playdef.specs.Groups.{AreRecordsGiven}
use Rattle.ix_playdef.proofs.groups.records_given.Given as goal

abbrev pub invariant-loop-given : goal.invariant-loop-given
invariant-loop-given l = record {
  rest : l.yielded ++ l.given-iterator.rest.items ≡ l.fn.lists.items;
  left : AreRecordsGiven (setting_of l.env) l.connects l.yielded l.records.items;
}
