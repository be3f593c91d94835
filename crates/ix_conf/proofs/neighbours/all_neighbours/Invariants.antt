use Rattle.std.proofs.Common.{◌≡◌, drop}
use Rattle.toml.specs.View.{items_view}
use Rattle.ix_conf.specs.Tables.{all_of, neighbour_in}
use Rattle.ix_conf.proofs.TableLaws.{with_all}
use Rattle.ix_conf.proofs.neighbours.all_neighbours.Given as goal

abbrev pub invariant-loop-element : goal.invariant-loop-element
invariant-loop-element l =
    with_all l.neighbours (all_of neighbour_in (items_view (drop l.element-index l.element-items))) ≡ all_of neighbour_in (items_view l.element-items)
