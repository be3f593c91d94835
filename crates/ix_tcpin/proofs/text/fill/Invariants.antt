use Rattle.std.proofs.Common.{◌≡◌, ◌+◌, ◌≤◌, ◌++◌, length}
use Rattle.ix_tcpin.specs.Text.{filled_numbers}
use Rattle.ix_tcpin.proofs.text.fill.Given as goal

abbrev pub invariant-loop-first : goal.invariant-loop-first
invariant-loop-first l =
    record {
      numbers : (filled_numbers l.tcb.held.items l.fin l.tcb).numbers ≡ (filled_numbers l.fn.tcb.held.items l.fn.own_fin l.fn.tcb).numbers;
      uses : l.uses.items ++ (filled_numbers l.tcb.held.items l.fin l.tcb).uses ≡ (filled_numbers l.fn.tcb.held.items l.fn.own_fin l.fn.tcb).uses;
      fin : (filled_numbers l.tcb.held.items l.fin l.tcb).fin ≡ (filled_numbers l.fn.tcb.held.items l.fn.own_fin l.fn.tcb).fin;
      room : length l.uses.items + length l.tcb.held.items ≤ 8;
    }

abbrev pub decreases-loop-first : goal.decreases-loop-first
decreases-loop-first l = length l.tcb.held.items
