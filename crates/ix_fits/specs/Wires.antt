-- What the rings and the cores are played by: a wire list with the group and the verdict of each frame.
use Rattle.std.specs.Prelude.{◌≡◌, ◌<◌, ◌≤◌, ℕ, false, List, [], ◌∷◌, map}
use Rattle.ix_base.specs.declared.id.TheConstants.{FLOW_GROUPS}
use Rattle.ix_conf.specs.Settings.{Settings}
use Rattle.ix_order.specs.Steppers.{TagsAlternate}
use Rattle.ix_order.specs.Wire.{Entry, frame, time, tag, move, settle, NameCores, RingsAre, Table}
use Rattle.ix_trace.specs.declared.sheet.Sheet.{Sheet}
use Rattle.ix_wire.specs.declared.entry.Entry.{Entry as WireEntry}
use Rattle.ix_wire.specs.declared.entry.Entry.TheVariants as wire
use Rattle.ix_wire.specs.Entries.{IsWireSoFar, Terms}
use Rattle.ix_fits.specs.Card.{entry_of, opening_table}
use Rattle.ix_fits.specs.Fits.{CardFits}

-- An entry of the wire list as the rings see it: a frame is of some group, and has a verdict.
abbrev pub IsSeen : WireEntry → Entry → Type 0
IsSeen (wire.Frame rec) (frame g v) = Unit {0}
IsSeen (wire.Time t) time = Unit {0}
IsSeen (wire.Tag g) (tag h) = h ≡ g.0
IsSeen (wire.Move g c) (move h d) = (h ≡ g.0) × (d ≡ c.0)
IsSeen wire.Settle settle = Unit {0}
IsSeen _ _ = ⊥

abbrev pub AreSeen : List WireEntry → List Entry → Type 0
AreSeen [] [] = Unit {0}
AreSeen [] (y ∷ ys) = ⊥
AreSeen (x ∷ xs) [] = ⊥
AreSeen (x ∷ xs) (y ∷ ys) = IsSeen x y × AreSeen xs ys

-- Each move names a core, and the tags and moves of each group alternate.
pub record IsPlayable (cores : ℕ) (ys : List Entry) : Type 0 where
  pub names : NameCores cores ys
  pub alternate : (g : ℕ) → g < FLOW_GROUPS → TagsAlternate g false ys

-- So it is of what a script gives, also before its end, whatever the verdicts.
abbrev pub WiresArePlayable : Type 0
WiresArePlayable = (x : Terms) (es : List WireEntry) (ys : List Entry) → IsWireSoFar x es → AreSeen es ys → IsPlayable x.cores ys

-- With the verdicts of frames that stand on their groups' rings it is, from the opening on, a list that the law on all cores is about
-- (`Played` of ix_history): each group begins on a core of the play, with tenure 0, and its tags and moves alternate.
pub record CanBeJoined (cores : ℕ) (t : Table) (ys : List Entry) : Type 0 where
  pub core : (g : ℕ) → g < FLOW_GROUPS → (t g).core < cores
  pub tenure : (g : ℕ) → g < FLOW_GROUPS → (t g).tenure ≡ 0
  pub names : NameCores cores ys
  pub rings : RingsAre t ys
  pub alternate : (g : ℕ) → g < FLOW_GROUPS → TagsAlternate g false ys

abbrev pub WiresCanBeJoined : Type 0
WiresCanBeJoined =
    (x : Terms) (es : List WireEntry) (ys : List Entry) → 1 ≤ x.live → x.live ≤ x.cores → IsWireSoFar x es → AreSeen es ys → RingsAre (opening_table x.live) ys
    → CanBeJoined x.cores (opening_table x.live) ys

-- The entries of a report whose card fits are those of the wire list, and each accepted frame is on the ring of its group's core.
pub record IsPlayOf (s : Settings) (es : List WireEntry) (ys : List Entry) : Type 0 where
  pub seen : AreSeen es ys
  pub rings : RingsAre (opening_table s.live) ys

abbrev pub ReportsArePlays : Type 0
ReportsArePlays =
    (s : Settings) (frames : List (List ℕ)) (es : List WireEntry) (r : Sheet) → CardFits s frames es r → IsPlayOf s es (map entry_of r.entries)
