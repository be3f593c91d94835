-- A naming of all frames that agrees with the entries.
use Rattle.std.specs.Prelude.{◌≡◌, List, ◌∷◌, Option, Some, None}
use Rattle.ix_base.specs.declared.id.BufId.{BufId}
use Rattle.ix_base.specs.declared.id.WireNo.{WireNo}
use Rattle.ix_mbuf.specs.declared.name.Name.{Name}
use Rattle.ix_lines.specs.declared.types.EntryLine.{EntryLine}
use Rattle.ix_fits.specs.Journals.{buffer_of}
use Rattle.ix_fits.specs.Owners.{home_of}
use Rattle.ix_settled.specs.Moments.{AreTold, Moment, Opening, Settled}

abbrev pub id_in : Option BufId → BufId
id_in (Some b) = b
id_in None = record { home = record { 0 = 0 }; slot = 0 }

-- the buffer that the entries tell, in the use that a naming has
abbrev pub named_in : List EntryLine → (WireNo → Name) → WireNo → Name
named_in entries name w = record { id = id_in (buffer_of entries w.0); uses = (name w).uses }

-- The buffers of a naming are those of the entries.
pub record AgreesWith (entries : List EntryLine) (name : WireNo → Name) : Type 0 where
  pub home : (w : WireNo) → (name w).id.home ≡ home_of entries w
  pub id : (w : WireNo) (b : BufId) → buffer_of entries w.0 ≡ Some b → (name w).id ≡ b

abbrev pub renamed : Opening → List EntryLine → Opening
renamed p entries = record p { name = named_in entries p.name }

pub record IsRenamed (p : Opening) (m : Moment) (ms : List Moment) : Type 0 where
  pub settled : Settled (renamed p m.done) (m ∷ ms)
  pub told : AreTold (renamed p m.done) m
  pub agrees : AgreesWith m.done (renamed p m.done).name

-- A play stays one where the frames that its cores didn't take are named by the entries too.
abbrev pub PlaysAreRenamed : Type 0
PlaysAreRenamed = (p : Opening) (m : Moment) (ms : List Moment) → Settled p (m ∷ ms) → AreTold p m → IsRenamed p m ms
