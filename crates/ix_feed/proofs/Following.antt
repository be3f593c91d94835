-- What the next entry asks of the card, and that the card can be fed on behind it.
use Rattle.std.proofs.Common.{◌≡◌, ◌≢◌, ◌<◌, ◌≤◌, ◌+◌, ℕ, suc, List, [], ◌∷◌, ◌++◌, length, drop, get_or, Bool, true, false, Some, None, refl, ap, sym, subst, ◌∙◌, inl, inr, arith, length-append}
use Rattle.std.proofs.lemmas.Bool.{cases_eq}
use Rattle.std.proofs.lemmas.Bool.Decides.{nat_tests}
use Rattle.std.proofs.lemmas.List.Sums.{sum_by-cons}
use Rattle.std.specs.Prelude.{◌==◌, if◌then◌else◌, not, nat_lt, count_by, slice_get, slice_set}
use Rattle.std.specs.List.{AllByRecursion}
use Rattle.ix_base.specs.Branches.{if_true, if_false}
use Rattle.ix_base.specs.declared.id.CoreId.{CoreId}
use Rattle.ix_base.specs.declared.id.GroupId.{GroupId}
use Rattle.ix_cp.specs.Plan.{is_core}
use Rattle.ix_lines.specs.declared.types.EntryLine.{EntryLine}
use Rattle.ix_nic.specs.Cards.{AreOpen, CardView, HaveRoom, all_waiting, core_at}
use Rattle.ix_nic.specs.Ports.{PortView}
use Rattle.ix_nic.specs.Words.{ended_after, seats}
use Rattle.ix_order.specs.Wire.{Seat, turned}
use Rattle.ix_order.specs.Wire as order
use Rattle.ix_reta.specs.Table.{Table}
use Rattle.ix_wire.specs.declared.entry.Entry.{Entry}
use Rattle.ix_wire.specs.declared.entry.Entry.TheVariants as wire
use Rattle.ix_wire.specs.Entries.{EachAllowed, is_control, is_within, moved_by, since_settle}
use Rattle.ix_feed.specs.Feeding.{Calls, CardStays, CarriedBy, entry_of}
use Rattle.ix_feed.specs.Replays.{CanFeed, CanFollow, IsThere, IsUnderWay, NextIs, ReplayView, is_move, is_settle, left_of}
use Rattle.ix_feed.specs.Turns.{noted, over}
use Rattle.ix_feed.proofs.Lists.{closes_behind, get_set_other, get_set_same, left_at, more_behind, none_left, within}
use Rattle.ix_feed.proofs.Steps.{calls_count, frame_behind, put_behind}

-- what is left behind the next entry
abbrev pub behind_next : ReplayView → List Entry
behind_next r = drop (suc (length r.lines)) r.entries

pub left_is : (e : Entry) (r : ReplayView) → NextIs e r → left_of r ≡ e ∷ behind_next r
left_is e r n = left_at r.entries (length r.lines) e n.entry

pub follow_is : (e : Entry) (card : CardView) (r : ReplayView) → CanFeed card r → NextIs e r → CanFollow card r.frames (e ∷ behind_next r)
follow_is e card r f n = subst (CanFollow card r.frames) (left_is e r n) f.follow

pub under_way_is : (e : Entry) (card : CardView) (r : ReplayView) → CanFeed card r → NextIs e r → IsUnderWay card (e ∷ behind_next r)
under_way_is e card r f n = subst (IsUnderWay card) (left_is e r n) (f.under_way n.not_ended)

pub has_next : (e : Entry) (r : ReplayView) → NextIs e r → length r.lines < length r.entries
has_next e r n = within r.entries (length r.lines) e n.entry

-- ## What calls ask
pub is_there : (e : Entry) (card : CardView) (r : ReplayView) → CanFeed card r → NextIs e r → IsThere (length card.ports) r.frames e
is_there e card r f n = (follow_is e card r f n).there.0

pub is_open : (e : Entry) (card : CardView) (r : ReplayView) → CanFeed card r → NextIs e r → AreOpen card.ports
is_open e card r f n = (under_way_is e card r f n).are_open

pub have_room : (e : Entry) (card : CardView) (r : ReplayView) → CanFeed card r → NextIs e r → HaveRoom card.ports
have_room e card r f n = λ i d lt. let u = under_way_is e card r f n in omega (arith, u.behind i d lt, u.most)

elsewhere_is : (to : ℕ) (owner : CoreId) → not (is_core to (Some owner)) ≡ true → to ≢ owner.0
elsewhere_is to owner e = grind (arith, nat_tests)

pub goes_elsewhere : (group : GroupId) (to : CoreId) (card : CardView) (r : ReplayView) → CanFeed card r → NextIs (wire.Move group to) r
    → to.0 ≢ (core_at card.table group.0).0
goes_elsewhere group to card r f n =
    let c = follow_is (wire.Move group to) card r f n in
    elsewhere_is to.0 (core_at card.table group.0) (ap (λ o. not (is_core to.0 o)) (sym (c.table group.0 c.there.0.0)) ∙ c.elsewhere.0)

counted_move : (group : GroupId) (to : CoreId) (es : List Entry) → count_by is_move (wire.Move group to ∷ es) ≡ 1 + count_by is_move es
counted_move group to es = sum_by-cons (λ (x : Entry). if is_move x then 1 else 0) (wire.Move group to) es

pub has_turn : (group : GroupId) (to : CoreId) (card : CardView) (r : ReplayView) → CanFeed card r → NextIs (wire.Move group to) r → 0 < card.table.room
has_turn group to card r f n =
    let c = follow_is (wire.Move group to) card r f n in omega (arith, c.turns, counted_move group to (behind_next r))

-- ## Behind the entry
abbrev numbered : ℕ → CoreId
numbered n = record { 0 = n }

same_core : (a b : CoreId) → a.0 ≡ b.0 → a ≡ b
same_core a b e = ap numbered e

moved_seat : (line : order.Entry) (group : GroupId) (to : CoreId) (old new : Table) (g : ℕ) → line ≡ order.move group.0 to.0
    → seats new g ≡ turned (seats old) line g → core_at new g ≡ (if g == group.0 then to else core_at old g)
moved_seat line group to old new g is seat =
    let turn : seats new g ≡ turned (seats old) (order.move group.0 to.0) g = seat ∙ ap (λ (x : order.Entry). turned (seats old) x g) is in
    elim (cases_eq g group.0) [
      | inl same ↦
          same_core (core_at new g) to
          (ap (λ (s : Seat). s.core) turn ∙ ap (λ (s : Seat). s.core) (if_true (g == group.0) _ (seats old g) (grind (arith, nat_tests))))
          ∙ sym (if_true (g == group.0) to (core_at old g) (grind (arith, nat_tests)))
      | inr other ↦
          same_core (core_at new g) (core_at old g)
          (ap (λ (s : Seat). s.core) turn
          ∙ ap (λ (s : Seat). s.core) (if_false (g == group.0) (record { core = to.0; tenure = (seats old group.0).tenure + 1 }) (seats old g) (grind (arith, nat_tests))))
          ∙ sym (if_false (g == group.0) to (core_at old g) (grind (arith, nat_tests)))
    ]

same_table : (at : List CoreId) (old new : Table) → new ≡ old → ((g : ℕ) → g < 512 → slice_get at g ≡ Some (core_at old g))
    → (g : ℕ) → g < 512 → slice_get at g ≡ Some (core_at new g)
same_table at old new same h g lt = h g lt ∙ ap (λ (t : Table). Some (core_at t g)) (sym same)

moved_table : (at : List CoreId) (group : GroupId) (to : CoreId) (old new : Table) → group.0 < 512
    → ((g : ℕ) → core_at new g ≡ (if g == group.0 then to else core_at old g))
    → ((g : ℕ) → g < 512 → slice_get at g ≡ Some (core_at old g)) → (g : ℕ) → g < 512 → slice_get (slice_set at group.0 to) g ≡ Some (core_at new g)
moved_table at group to old new below is h g lt =
    elim (cases_eq g group.0) [
      | inl same ↦
          ap (slice_get (slice_set at group.0 to)) same ∙ get_set_same at group.0 to (core_at old group.0) (h group.0 below)
          ∙ ap (λ (c : CoreId). Some c) (sym (is g ∙ if_true (g == group.0) to (core_at old g) (grind (arith, nat_tests))))
      | inr other ↦
          get_set_other at group.0 g to other ∙ h g lt
          ∙ ap (λ (c : CoreId). Some c) (sym (is g ∙ if_false (g == group.0) to (core_at old g) (grind (arith, nat_tests))))
    ]

table_after : (frames : List (List ℕ)) (w clock : ℕ) (e : Entry) (l : EntryLine) (x y : CardView) (at : List CoreId)
    → IsThere (length x.ports) frames e → CarriedBy frames w clock e l x y
    → ((g : ℕ) → g < 512 → slice_get at g ≡ Some (core_at x.table g)) → (g : ℕ) → g < 512 → slice_get (moved_by at e) g ≡ Some (core_at y.table g)
table_after frames w clock (wire.Frame rec) l x y at there c h = same_table at x.table y.table c.call.offered.table h
table_after frames w clock (wire.Tag group) l x y at there c h = same_table at x.table y.table c.call.table h
table_after frames w clock (wire.Move group to) l x y at there c h =
    moved_table at group to x.table y.table there.0
    (λ g. moved_seat (entry_of l) group to x.table y.table g (ap entry_of c.call.line_is) (c.entry.table g)) h
table_after frames w clock (wire.Time t) l x y at there c h = same_table at x.table y.table c.call.table h
table_after frames w clock wire.Settle l x y at there c h = same_table at x.table y.table c.call.table h

same_turns : (e : Entry) (es : List Entry) (old new : Table) → new ≡ old → count_by is_move (e ∷ es) ≤ old.room → count_by is_move es ≤ new.room
same_turns e es old new same few =
    omega (arith, few, ap (λ (t : Table). t.room) same, sum_by-cons (λ (x : Entry). if is_move x then 1 else 0) e es)

turns_after : (frames : List (List ℕ)) (w clock : ℕ) (e : Entry) (es : List Entry) (l : EntryLine) (x y : CardView) → Calls frames w clock e l x y
    → count_by is_move (e ∷ es) ≤ x.table.room → count_by is_move es ≤ y.table.room
turns_after frames w clock (wire.Frame rec) es l x y c few = same_turns (wire.Frame rec) es x.table y.table c.offered.table few
turns_after frames w clock (wire.Tag group) es l x y c few = same_turns (wire.Tag group) es x.table y.table c.table few
turns_after frames w clock (wire.Move group to) es l x y c few =
    omega (arith, few, counted_move group to es, ap (λ (t : Table). t.room) c.table)
turns_after frames w clock (wire.Time t) es l x y c few = same_turns (wire.Time t) es x.table y.table c.table few
turns_after frames w clock wire.Settle es l x y c few = same_turns wire.Settle es x.table y.table c.table few

pub follow_after : (frames : List (List ℕ)) (w clock : ℕ) (e : Entry) (es : List Entry) (l : EntryLine) (x y : CardView)
    → CanFollow x frames (e ∷ es) → CarriedBy frames w clock e l x y → CanFollow y frames es
follow_after frames w clock e es l x y f c = record {
  there = subst (λ n. AllByRecursion (IsThere n frames) es) (sym (calls_count frames w clock e l x y c.call)) f.there.1;
  at = moved_by f.at e;
  table = table_after frames w clock e l x y f.at f.there.0 c f.table;
  elsewhere = f.elsewhere.1;
  turns = turns_after frames w clock e es l x y c.call f.turns;
  closed = closes_behind e es f.closed;
}

-- ## The epoch under way
ended_same : (frames : List (List ℕ)) (w clock : ℕ) (e : Entry) (l : EntryLine) (x y : CardView) → Calls frames w clock e l x y → is_settle e ≡ false
    → (b : Bool) → ended_after (entry_of l) b ≡ b
ended_same frames w clock (wire.Frame rec) l x y c not_settle b = ap (λ (k : EntryLine). ended_after (entry_of k) b) c.line_is
ended_same frames w clock (wire.Tag group) l x y c not_settle b = ap (λ (k : EntryLine). ended_after (entry_of k) b) c.line_is
ended_same frames w clock (wire.Move group to) l x y c not_settle b = ap (λ (k : EntryLine). ended_after (entry_of k) b) c.line_is
ended_same frames w clock (wire.Time t) l x y c not_settle b = ap (λ (k : EntryLine). ended_after (entry_of k) b) c.line_is
ended_same frames w clock wire.Settle l x y c not_settle b = absurd (cc)

open_after : (frames : List (List ℕ)) (w clock : ℕ) (e : Entry) (l : EntryLine) (x y : CardView) → CarriedBy frames w clock e l x y → is_settle e ≡ false
    → AreOpen x.ports → AreOpen y.ports
open_after frames w clock e l x y c not_settle are_open = λ r d lt.
    let below : r < length x.ports = subst (λ n. r < n) c.entry.count lt in
    c.entry.ends r d below ∙ ended_same frames w clock e l x y c.call not_settle (get_or x.ports r d).ended ∙ are_open r d below

control_allowed : (n : ℕ) → nat_lt n 1000 ≡ true → n + 1 ≤ 1000
control_allowed n e = grind (arith, nat_tests)

most_after : (e : Entry) (es : List Entry) (x : CardView) → (u : IsUnderWay x (e ∷ es)) → is_settle e ≡ false → since_settle is_control u.controls e ≤ 1000
most_after (wire.Frame rec) es x u not_settle = u.most
most_after (wire.Tag group) es x u not_settle = control_allowed u.controls u.few.0
most_after (wire.Move group to) es x u not_settle = control_allowed u.controls u.few.0
most_after (wire.Time t) es x u not_settle = control_allowed u.controls u.few.0
most_after wire.Settle es x u not_settle = absurd (cc)

abbrev Behind : CardView → ℕ → Type 0
Behind x n = (r : ℕ) (d : PortView) → r < length x.ports → length (get_or x.ports r d).behind ≤ n

one_behind : (x y : CardView) (n : ℕ) → length y.ports ≡ length x.ports → Behind x n
    → ((r : ℕ) (d : PortView) → r < length x.ports → length (get_or y.ports r d).behind ≤ length (get_or x.ports r d).behind + 1) → Behind y (n + 1)
one_behind x y n count b more = λ r d lt.
    let below : r < length x.ports = subst (λ k. r < k) count lt in
    let before : length (get_or x.ports r d).behind ≤ n = b r d below in omega (arith, before, more r d below)

behind_after : (frames : List (List ℕ)) (w clock : ℕ) (e : Entry) (l : EntryLine) (x y : CardView) (n : ℕ) → Calls frames w clock e l x y → is_settle e ≡ false
    → Behind x n → Behind y (since_settle is_control n e)
behind_after frames w clock (wire.Frame rec) l x y n c not_settle b = λ r d lt.
    let below : r < length x.ports = subst (λ k. r < k) c.offered.count lt in
    let before : length (get_or x.ports r d).behind ≤ n = b r d below in omega (arith, before, frame_behind frames w clock rec l x y c r d below)
behind_after frames w clock (wire.Tag group) l x y n c not_settle b = one_behind x y n c.put.count b (put_behind _ x y c.put)
behind_after frames w clock (wire.Move group to) l x y n c not_settle b = one_behind x y n c.put.count b (put_behind _ x y c.put)
behind_after frames w clock (wire.Time t) l x y n c not_settle b = one_behind x y n c.put.count b (put_behind _ x y c.put)
behind_after frames w clock wire.Settle l x y n c not_settle b = absurd (cc)

pub under_way_after : (frames : List (List ℕ)) (w clock : ℕ) (e : Entry) (es : List Entry) (l : EntryLine) (x y : CardView)
    → CanFollow x frames (e ∷ es) → IsUnderWay x (e ∷ es) → is_settle e ≡ false → CarriedBy frames w clock e l x y → IsUnderWay y es
under_way_after frames w clock e es l x y f u not_settle c = record {
  more = more_behind e es f.closed not_settle;
  are_open = open_after frames w clock e l x y c not_settle u.are_open;
  controls = since_settle is_control u.controls e;
  most = most_after e es x u not_settle;
  behind = behind_after frames w clock e l x y u.controls c.call not_settle u.behind;
  few = u.few.1;
}

-- ## The card can be fed on
pub same_left : (e : Entry) (line : EntryLine) (r : ReplayView) → behind_next r ≡ left_of (noted e line r)
same_left e line r =
    let more : suc (length r.lines) ≡ length (r.lines ++ line ∷ []) = omega (arith, length-append r.lines (line ∷ [])) in ap (λ n. drop n r.entries) more

pub feeds_on : (e : Entry) (line : EntryLine) (x y : CardView) (r : ReplayView) → CanFeed x r → NextIs e r → is_settle e ≡ false
    → CarriedBy r.frames (length r.lines) r.clock e line x y → CanFeed y (noted e line r)
feeds_on e line x y r f n not_settle c =
    let follow = follow_is e x r f n in
    record {
      follow = subst (CanFollow y r.frames) (same_left e line r) (follow_after r.frames (length r.lines) r.clock e (behind_next r) line x y follow c);
      under_way = λ not_ended. subst (IsUnderWay y) (same_left e line r)
          (under_way_after r.frames (length r.lines) r.clock e (behind_next r) line x y follow (under_way_is e x r f n) not_settle c);
      over = λ ended. absurd (let not_ended = n.not_ended in cc);
    }

pub same_follow : (x y : CardView) (frames : List (List ℕ)) (es : List Entry) → CanFollow x frames es → y.table ≡ x.table → length y.ports ≡ length x.ports
    → CanFollow y frames es
same_follow x y frames es f table count = record {
  there = subst (λ n. AllByRecursion (IsThere n frames) es) (sym count) f.there;
  at = f.at;
  table = same_table f.at x.table y.table table f.table;
  elsewhere = f.elsewhere;
  turns = subst (λ (t : Table). count_by is_move es ≤ t.room) (sym table) f.turns;
  closed = f.closed;
}

none_since : (n : ℕ) (e : Entry) → is_settle e ≡ true → since_settle is_control n e ≡ 0
none_since n (wire.Frame rec) settle = absurd (cc)
none_since n (wire.Tag group) settle = absurd (cc)
none_since n (wire.Move group to) settle = absurd (cc)
none_since n (wire.Time t) settle = absurd (cc)
none_since n wire.Settle settle = refl

pub feeds_ended : (e : Entry) (line : EntryLine) (x y z : CardView) (r : ReplayView) (waiting : ℕ) → CanFeed x r → NextIs e r → is_settle e ≡ true
    → CarriedBy r.frames (length r.lines) r.clock e line x y → CardStays y z → waiting ≡ all_waiting z.ports → CanFeed z (over waiting (noted e line r))
feeds_ended e line x y z r waiting f n settle c s waits =
    let u = under_way_is e x r f n in
    record {
      follow = subst (CanFollow z r.frames) (same_left e line r)
          (same_follow y z r.frames (behind_next r) (follow_after r.frames (length r.lines) r.clock e (behind_next r) line x y (follow_is e x r f n) c) s.table s.count);
      under_way = λ not_ended. absurd (cc);
      over = λ ended. record {
        waits = waits;
        few = subst (EachAllowed (is_within is_control 1000) (since_settle is_control) 0) (same_left e line r)
            (subst (λ k. EachAllowed (is_within is_control 1000) (since_settle is_control) k (behind_next r)) (none_since u.controls e settle) u.few.1);
      };
    }

pub feeds_none : (x y : CardView) (r : ReplayView) (waiting : ℕ) → CanFeed x r → r.ended ≡ true → CardStays x y → waiting ≡ all_waiting y.ports
    → CanFeed y (record r { waiting = waiting })
feeds_none x y r waiting f ended s waits = record {
  follow = same_follow x y r.frames (left_of r) f.follow s.table s.count;
  under_way = λ not_ended. absurd (cc);
  over = λ ended. record { waits = waits; few = (f.over ended).few };
}

pub none_is_next : (x : CardView) (r : ReplayView) → CanFeed x r → (r.ended ≡ false → slice_get r.entries (length r.lines) ≡ None) → r.ended ≡ false → ⊥
none_is_next x r f none not_ended = none_left r.entries (length r.lines) (none not_ended) (f.under_way not_ended).more
