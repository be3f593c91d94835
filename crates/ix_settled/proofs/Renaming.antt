-- Frames named by the entries.
use Rattle.std.proofs.Common.{◌≡◌, ℕ, List, [], ◌∷◌, refl, sym, ap, ◌∙◌}
use Rattle.std.specs.Prelude.{Option, Some, None}
use Rattle.ix_base.specs.declared.id.BufId.{BufId}
use Rattle.ix_base.specs.declared.id.WireNo.{WireNo}
use Rattle.ix_mbuf.specs.declared.name.Name.{Name}
use Rattle.ix_desk.specs.declared.unit.DeskItem.TheVariants.{Work as Stepped, Tag, Cut, Start}
use Rattle.ix_history.specs.Events.{RingItem, at_end, for_each, for_group}
use Rattle.ix_history.specs.Items.{taken_in}
use Rattle.ix_stack.specs.declared.work.Taken.{Taken}
use Rattle.ix_stack.specs.declared.work.Work.{Work}
use Rattle.ix_stack.specs.declared.work.Work.TheVariants as works
use Rattle.ix_lines.specs.declared.types.EntryLine.{EntryLine}
use Rattle.ix_fits.specs.Journals.{buffer_in, buffer_of}
use Rattle.ix_fits.specs.Owners.{home_in}
use Rattle.ix_settled.specs.Moments.{AtSettle, GoesOn, IsFrameOf, IsRingItemTold, IsTold, Moment, Opening, Settled}
use Rattle.ix_settled.specs.Renamed.{PlaysAreRenamed, id_in, named_in, renamed}
use Rattle.ix_settled.proofs.Numbers.{all-more}

-- ## What was told stays told
frame-renamed : (frames : List (List ℕ)) (name : WireNo → Name) (entries : List EntryLine) (t : Taken) → IsFrameOf frames name entries t → IsFrameOf frames (named_in entries name) entries t
frame-renamed frames name entries t is =
    let buffer : buffer_of entries t.w.0 ≡ Some is.buf = ap (λ (l : Option EntryLine). buffer_in l) is.line in
    let id : id_in (buffer_of entries t.w.0) ≡ is.buf = ap id_in buffer in
    let same : name t.w ≡ named_in entries name t.w = ap (λ b. (let n : Name = record { id = b; uses = (name t.w).uses } in n)) (is.id ∙ sym id) in
    record {
      rec = is.rec;
      at = is.at;
      group = is.group;
      ring = is.ring;
      buf = is.buf;
      line = is.line;
      bytes = is.bytes;
      named = is.named ∙ same;
      id = id;
    }

work-renamed : (frames : List (List ℕ)) (name : WireNo → Name) (entries : List EntryLine) (x : Work) → IsTold frames name entries x → IsTold frames (named_in entries name) entries x
work-renamed frames name entries (works.Frame t) told = frame-renamed frames name entries t told
work-renamed frames name entries (works.Time w now) told = told

item-renamed : (frames : List (List ℕ)) (name : WireNo → Name) (entries : List EntryLine) (x : RingItem Work) → IsRingItemTold frames name entries x → IsRingItemTold frames (named_in entries name) entries x
item-renamed frames name entries (for_group g (Stepped x)) told = work-renamed frames name entries x told
item-renamed frames name entries (for_group g Tag) told = tt
item-renamed frames name entries (for_group g (Cut to)) told = tt
item-renamed frames name entries (for_group g (Start k)) told = tt
item-renamed frames name entries (for_each x) told = work-renamed frames name entries x told
item-renamed frames name entries at_end told = tt

-- ## Nothing else speaks of names
module _ (p : Opening) (entries : List EntryLine) where
  at-renamed : (m : Moment) → AtSettle p m → AtSettle (renamed p entries) m
  at-renamed m at = record { played = at.played; alternate = at.alternate }

  on-renamed : (m m' : Moment) → GoesOn p m m' → GoesOn (renamed p entries) m m'
  on-renamed m m' on = record { between = on.between; no_settle = on.no_settle; done = on.done; more = on.more; history = on.history; runs = on.runs; bounds = on.bounds }

  settled-renamed : (m : Moment) (ms : List Moment) → Settled p (m ∷ ms) → Settled (renamed p entries) (m ∷ ms)
  settled-renamed m [] first = record { settle = at-renamed m first.settle; done = first.done; bounds = first.bounds }
  settled-renamed m (before ∷ ms) s = (at-renamed m s.0, on-renamed before m s.1, settled-renamed before ms s.2)

home-agrees : (o : Option BufId) → (id_in o).home ≡ home_in o
home-agrees (Some b) = refl
home-agrees None = refl

pub plays-renamed : PlaysAreRenamed
plays-renamed p m ms settled told = record {
  settled = settled-renamed p m.done m ms settled;
  told = record {
    records = told.records;
    items = λ c lt. all-more (IsRingItemTold p.frames p.name m.done) (IsRingItemTold p.frames (named_in m.done p.name) m.done) (taken_in (m.history c)) (item-renamed p.frames p.name m.done) (told.items c lt);
  };
  agrees = record {
    home = λ w. home-agrees (buffer_of m.done w.0);
    id = λ w b is. ap id_in is;
  };
}
