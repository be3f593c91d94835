-- All rings, over the call of an entry.
use Rattle.std.proofs.Common.{◌≡◌, ◌<◌, ◌≤◌, ◌+◌, ℕ, List, length, get_or, sym, subst, inl, inr, None}
use Rattle.std.proofs.lemmas.Bool.{cases_eq}
use Rattle.std.specs.Prelude.{Option}
use Rattle.ix_base.specs.declared.id.CoreId.{CoreId}
use Rattle.ix_base.specs.declared.id.WireNo.{WireNo}
use Rattle.ix_lines.specs.declared.types.EntryLine.{EntryLine}
use Rattle.ix_nic.specs.declared.offer.Offer.{Offer}
use Rattle.ix_nic.specs.Cards.{CardView, Offered, core_at}
use Rattle.ix_nic.specs.Offers.{Answers}
use Rattle.ix_nic.specs.Ports.{IsRetried, PortView, Puts}
use Rattle.ix_stack.specs.declared.item.Item.{Item}
use Rattle.ix_steer.specs.Steering.{group_of_frame}
use Rattle.ix_wire.specs.declared.entry.Entry.{Entry}
use Rattle.ix_wire.specs.declared.entry.Entry.TheVariants as wire
use Rattle.ix_feed.specs.Feeding.{AllPut, Calls, CardStays, FrameCall}
use Rattle.ix_feed.specs.Turns.{SamePortRings, SameRings}
use Rattle.ix_feed.proofs.Ports.{answers_behind, answers_retried, answers_rings, none_stays, puts_behind, puts_none_behind, puts_rings, stays_rings}

-- what holds of a ring to which nothing or an item was put, and of one to which a frame was offered, holds of each ring
pub offered_each : (P : PortView → PortView → Type 0) (w : WireNo) (frame : List ℕ) (answer : Offer) (x y : CardView) → Offered w frame answer x y
    → ((p q : PortView) → Puts None p q → P p q)
    → ((p q : PortView) → Answers w (group_of_frame frame) (core_at x.table (group_of_frame frame)) frame answer p q → P p q)
    → (r : ℕ) (d : PortView) → r < length x.ports → P (get_or x.ports r d) (get_or y.ports r d)
offered_each P w frame answer x y o on_none on_answer r d lt =
    elim (cases_eq r (core_at x.table (group_of_frame frame)).0) [
      | inl is ↦ subst (λ n. P (get_or x.ports n d) (get_or y.ports n d)) (sym is) (on_answer _ _ (o.ring d))
      | inr other ↦ on_none _ _ (o.others r d lt other)
    ]

pub put_each : (P : PortView → PortView → Type 0) (item : ℕ → Option Item) (x y : CardView) → AllPut item x y
    → ((o : Option Item) (p q : PortView) → Puts o p q → P p q) → (r : ℕ) (d : PortView) → r < length x.ports → P (get_or x.ports r d) (get_or y.ports r d)
put_each P item x y c on_item r d lt = on_item (item r) _ _ (c.rings r d lt)

pub calls_each : (P : PortView → PortView → Type 0) (frames : List (List ℕ)) (w clock : ℕ) (e : Entry) (l : EntryLine) (x y : CardView)
    → ((item : Option Item) (p q : PortView) → Puts item p q → P p q)
    → ((v : WireNo) (g : ℕ) (core : CoreId) (frame : List ℕ) (answer : Offer) (p q : PortView) → Answers v g core frame answer p q → P p q)
    → Calls frames w clock e l x y → (r : ℕ) (d : PortView) → r < length x.ports → P (get_or x.ports r d) (get_or y.ports r d)
calls_each P frames w clock (wire.Frame rec) l x y on_item on_answer c =
    offered_each P (record { 0 = w }) c.bytes c.answer x y c.offered (on_item None) (on_answer (record { 0 = w }) _ _ c.bytes c.answer)
calls_each P frames w clock (wire.Tag group) l x y on_item on_answer c = put_each P _ x y c.put on_item
calls_each P frames w clock (wire.Move group to) l x y on_item on_answer c = put_each P _ x y c.put on_item
calls_each P frames w clock (wire.Time t) l x y on_item on_answer c = put_each P _ x y c.put on_item
calls_each P frames w clock wire.Settle l x y on_item on_answer c = put_each P _ x y c.put on_item

pub calls_count : (frames : List (List ℕ)) (w clock : ℕ) (e : Entry) (l : EntryLine) (x y : CardView) → Calls frames w clock e l x y → length y.ports ≡ length x.ports
calls_count frames w clock (wire.Frame rec) l x y c = c.offered.count
calls_count frames w clock (wire.Tag group) l x y c = c.put.count
calls_count frames w clock (wire.Move group to) l x y c = c.put.count
calls_count frames w clock (wire.Time t) l x y c = c.put.count
calls_count frames w clock wire.Settle l x y c = c.put.count

pub calls_rings : (frames : List (List ℕ)) (w clock : ℕ) (e : Entry) (l : EntryLine) (x y : CardView) → Calls frames w clock e l x y → SameRings x y
calls_rings frames w clock e l x y c = record {
  count = calls_count frames w clock e l x y c;
  ports = calls_each SamePortRings frames w clock e l x y puts_rings answers_rings c;
}

pub calls_retried : (frames : List (List ℕ)) (w clock : ℕ) (e : Entry) (l : EntryLine) (x y : CardView) → Calls frames w clock e l x y
    → (r : ℕ) (d : PortView) → r < length x.ports → IsRetried (get_or y.ports r d)
calls_retried frames w clock e l x y c =
    calls_each (λ p q. IsRetried q) frames w clock e l x y (λ item p q puts. puts.stops) answers_retried c

-- a frame leaves no more behind a ring, and a control entry one item
pub frame_behind : (frames : List (List ℕ)) (w clock rec : ℕ) (l : EntryLine) (x y : CardView) → FrameCall frames w clock rec l x y
    → (r : ℕ) (d : PortView) → r < length x.ports → length (get_or y.ports r d).behind ≤ length (get_or x.ports r d).behind
frame_behind frames w clock rec l x y c =
    offered_each (λ p q. length q.behind ≤ length p.behind) (record { 0 = w }) c.bytes c.answer x y c.offered puts_none_behind
    (answers_behind (record { 0 = w }) _ _ c.bytes c.answer)

pub put_behind : (item : ℕ → Option Item) (x y : CardView) → AllPut item x y
    → (r : ℕ) (d : PortView) → r < length x.ports → length (get_or y.ports r d).behind ≤ length (get_or x.ports r d).behind + 1
put_behind item x y c = put_each (λ p q. length q.behind ≤ length p.behind + 1) item x y c puts_behind

-- ## No entry
pub nothing_stays : (x y : CardView) → y.table ≡ x.table → AllPut (λ r. None) x y → CardStays x y
nothing_stays x y table c = record {
  table = table;
  count = c.count;
  ports = λ r d lt. none_stays _ _ (c.rings r d lt);
}

pub cards_stay_rings : (x y : CardView) → CardStays x y → SameRings x y
cards_stay_rings x y s = record { count = s.count; ports = λ r d lt. stays_rings _ _ (s.ports r d lt) }
