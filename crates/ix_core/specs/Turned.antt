-- What one turn does, and what it answers.
use Rattle.std.specs.Prelude.{◌≡◌, ◌<◌, ◌-◌, ◌==◌, ◌&&◌, ◌||◌, nat_lt, not, ℕ, Bool, true, false, if◌then◌else◌, List, Some, [], ◌++◌, length, map, slice_index_or}
use Rattle.ix_mbuf.specs.Buffers.{Buffer}
use Rattle.ix_desk.specs.Views.{View}
use Rattle.ix_desk.specs.Groups.{unit_of}
use Rattle.ix_desk.specs.Desks.{group_at, has_work}
use Rattle.ix_desk.specs.Steps.{AllWorked, group_leaves, leave}
use Rattle.ix_ring.specs.Ends.{known, put_list, taken}
use Rattle.ix_run.specs.declared.actors.Turn.{Turn}
use Rattle.ix_run.specs.declared.actors.Turn.TheVariants.{Ended, Idle, Worked}
use Rattle.ix_stack.specs.declared.work.Work.{Work}
use Rattle.ix_stack.specs.declared.item.Item.{Item}
use Rattle.ix_core.specs.declared.intake.Stop.{Stop}
use Rattle.ix_core.specs.declared.intake.Stop.TheVariants.{Full, Empty, Control}
use Rattle.ix_core.specs.declared.link.Link.{Link}
use Rattle.ix_core.specs.declared.turning.Core.{Core}
use Rattle.ix_history.specs.Events.{Parcel}
use Rattle.ix_history.specs.Join.{IsIdle}
use Rattle.ix_core.specs.Items.{ring_item}
use Rattle.ix_core.specs.Runs.{Calm}
use Rattle.ix_core.specs.Taking.{Takes}
use Rattle.ix_core.specs.Dealing.{FirstWaits}
use Rattle.ix_core.specs.Links.{AllUnawaited, HeardUp, IsDrained, all_out, all_put, all_taken}

-- What a turn answers, by where it stopped taking from its receive ring, how many frames it had taken there, whether the rest of it was
-- quiet, and how many frames it stepped.
abbrev pub answer_of : Stop → ℕ → Bool → ℕ → Turn
answer_of (Control true) taken quiet frames = Ended frames
answer_of (Control false) taken quiet frames = Worked frames
answer_of Full taken quiet frames = Worked frames
answer_of Empty taken quiet frames = if taken == 0 && quiet then Idle else Worked frames

module _ {U E : Type 0} where
  -- Nothing but the receive ring gave the core something to do: no ring of the mesh gave a message, no desk had work once what came was
  -- dealt, and no message was waiting to go out.
  abbrev pub is_quiet : Core U E → View U Work → Core U E → Bool
  is_quiet old ready new =
      not ((nat_lt (all_taken old.links.items) (all_taken new.links.items) || has_work ready) || nat_lt (all_put old.links.items) (all_out new.links.items))

-- nothing came over a link, none is known to be there, nothing was put, and nothing waits
pub record LinkWasIdle {U E : Type 0} (old new : Link U E) : Type 0 where
  pub heard : taken new.take ≡ taken old.take
  pub none : known new.take ≡ []
  pub put : put_list new.put ≡ put_list old.put
  pub waits : new.waiting.items ≡ []

-- A core was idle: nothing came over its rings, none is known to be there, nothing was put on the mesh, and nothing is left to be done.
pub record WasIdle {U E : Type 0} (old new : Core U E) : Type 0 where
  pub items : taken new.items ≡ taken old.items
  pub none : known new.items ≡ []
  pub links : (i : ℕ) (d : Link U E) → i < length old.links.items → LinkWasIdle (slice_index_or old.links.items i d) (slice_index_or new.links.items i d)
  pub desks : IsIdle new.desks

-- each flow group that is here just handed out all buffers that it doesn't need any more
abbrev pub AreDrained : {U : Type 0} → (U → List Buffer → U → Type 0) → View U Work → Type 0
AreDrained {U} drained v = (g : ℕ) (u : U) → g < 512 → unit_of (group_at v g) ≡ Some u → IsDrained drained u

module _ {U E : Type 0} (counted : Work → Bool) (name : Work → ℕ) (stepped : U → List (ℕ × ℕ)) (advanced : U → E → ℕ → List Work → U → Type 0) (drained : U → List Buffer → U → Type 0) (env : E) where
  -- One turn, part by part: each does all that it may.
  pub record Turned (turn : Turn) (old new : Core U E) : Type 0 where
    -- it takes items up to a batch of frames, a control item or the end of what there is
    pub stop : Stop
    pub count : ℕ
    pub came : List Item
    pub takes : Takes old.batch stop count old.items new.items old.came.items came
    -- it takes from each other core 256 messages, or all that there are
    pub hears : (i : ℕ) (d : Link U E) → i < length old.links.items → HeardUp (slice_index_or old.links.items i d) (slice_index_or new.links.items i d)
    -- flow groups land, and items go to the desks, in order, as long as the next one fits
    pub ins : List (ℕ × Parcel U Work)
    pub dealt : List Item
    pub ready : View U Work
    pub arrives : Calm counted name stepped advanced drained env old.desks ready (map ring_item dealt) ins [] []
    pub queue : came ≡ dealt ++ new.came.items
    pub waits : FirstWaits ready new.came.items
    -- the first flow group that is kept of a link isn't awaited
    pub aside : AllUnawaited new.desks new.links.items
    -- one batch is worked, and each flow group's items of it go to one step
    pub done : View U Work
    pub works : AllWorked counted name stepped advanced env ready.core old.batch ready done
    pub frames : ℕ
    pub number : frames ≡ old.batch - leave (group_leaves counted) old.batch ready.groups
    -- every flow group that is here hands out the buffers that it doesn't need any more
    pub frees : List (List Buffer)
    pub empty : View U Work
    pub drains : Calm counted name stepped advanced drained env done empty [] [] frees []
    pub clean : AreDrained drained empty
    -- flow groups that are to leave do
    pub outs : List (Parcel U Work)
    pub leaves : Calm counted name stepped advanced drained env empty new.desks [] [] [] outs
    -- where the turn stepped less than a batch, no desk has work
    pub rest : frames < old.batch → has_work new.desks ≡ false
    pub answer : turn ≡ answer_of stop count (is_quiet old ready new) frames
