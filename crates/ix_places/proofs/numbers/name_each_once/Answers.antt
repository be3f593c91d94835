use Rattle.std.proofs.Common.{◌≡◌, ℕ, List, subst}
use Rattle.std.specs.Bool.{Decides}
use Rattle.std.specs.List.{range_with_len}
use Rattle.ix_places.proofs.NumberLaws.{once-decided}
use Rattle.ix_places.proofs.numbers.name_each_once.Goals as goal

pub returns : goal.returns
returns c =
    once-decided c.args.strays.now c.args.conns.now c.in_ok-numbers.numbers.items c.sort.new.self.items c.args.count c.is_range.result c.in_ok-numbers.ensures c.in_ok-sort.ensures.permutation
    c.in_ok-sort.ensures.sorted (subst (λ (zs : List ℕ). Decides c.is_range.result (zs ≡ range_with_len 0 c.args.count)) c.deref.ensures.value c.is_range.ensures)
