use Rattle.std.proofs.Common.{◌≡◌, ◌+◌, ◌-◌}
use Rattle.ix_groupdef.specs.Env.{setting_of}
use Rattle.ix_fits.specs.Connects.{free_port, is_free, last_port, port_behind}
use Rattle.ix_told.proofs.connects.free_port.Given as goal

abbrev pub invariant-loop-port : goal.invariant-loop-port
invariant-loop-port l =
    free_port (is_free (setting_of l.env) l.live l.earlier l.peer) l.port (last_port + 1 - l.port) ≡ port_behind (setting_of l.env) l.live l.earlier l.peer
