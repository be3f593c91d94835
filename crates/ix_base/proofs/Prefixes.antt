-- Laws on fronts of lists.
pub use Rattle.ix_base.specs.Prefix.{prefix_nil, prefix_refl, prefix_append, prefix_take, prefix_trans}
