-- Each accepted frame lies in a buffer of its ring's core (docs/FITS.md).
use Rattle.std.specs.Prelude.{◌≡◌, ◌<◌, ℕ, List, All}
use Rattle.std.specs.List.{AllByRecursion}
use Rattle.ix_mbuf.specs.Pools.{Stock}
use Rattle.ix_lines.specs.declared.types.EntryLine.{EntryLine}
use Rattle.ix_lines.specs.declared.types.EntryLine.TheVariants as lines
use Rattle.ix_carried.specs.Laws.{HasOwnBuffer}
use Rattle.ix_feed.specs.Told.{used_on}
use Rattle.ix_homes.specs.Homes.{IsIdOf}

-- a frame goes to the ring of one of the cores
abbrev pub HasRing : ℕ → EntryLine → Type 0
HasRing cores (lines.Frame rec at group ring fate) = ring.0 < cores
HasRing cores (lines.Time t) = Unit {0}
HasRing cores (lines.Tag group) = Unit {0}
HasRing cores (lines.Move group to) = Unit {0}
HasRing cores lines.Settle = Unit {0}

abbrev pub FramesAreOwn : Type 0
FramesAreOwn =
    (cores buffers : ℕ) (pool : ℕ → Stock) (told : List EntryLine) → ((c : ℕ) → c < cores → ((pool c).home.0 ≡ c) × ((pool c).n ≡ buffers)) → AllByRecursion (HasRing cores) told
    → ((c : ℕ) → c < cores → All (IsIdOf (pool c)) (used_on c told)) → AllByRecursion (HasOwnBuffer buffers) told
