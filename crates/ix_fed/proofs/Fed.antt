-- An epoch of a card that is fed.
use Rattle.std.proofs.Common.{◌≡◌, ◌<◌, ◌+◌, ℕ, suc, List, [], ◌∷◌, ◌++◌, length, get_or, fold, Bool, true, false, refl, ap, sym, subst, ◌∙◌, arith}
use Rattle.std.specs.Prelude.{◌||◌, if◌then◌else◌}
use Rattle.std.specs.List.{AllByRecursion, list_any}
use Rattle.ix_base.specs.declared.id.CoreId.{CoreId}
use Rattle.ix_base.specs.declared.id.GroupId.{GroupId}
use Rattle.ix_lines.specs.declared.types.EntryLine.{EntryLine}
use Rattle.ix_lines.specs.declared.types.EntryLine.TheVariants as lines
use Rattle.ix_lines.specs.declared.types.Fate.{Fate}
use Rattle.ix_lines.specs.declared.types.SettleLine.{SettleLine}
use Rattle.ix_nic.specs.declared.offer.Offer.{Offer}
use Rattle.ix_nic.specs.declared.offer.Offer.TheVariants.{TooLong, RingFull, NoBuffer, Accepted}
use Rattle.ix_nic.specs.Cards.{CardView, core_at}
use Rattle.ix_nic.specs.Ports.{PortView}
use Rattle.ix_nic.specs.Words.{CarriesOut}
use Rattle.ix_playdef.specs.Clock.{clock_after, clock_from}
use Rattle.ix_wire.specs.declared.entry.Entry.{Entry}
use Rattle.ix_wire.specs.declared.entry.Entry.TheVariants as wire
use Rattle.ix_wire.specs.Entries.{EachAllowed, clock_by}
use Rattle.ix_feed.specs.Feeding as feed
use Rattle.ix_feed.specs.Feeding.{CarriedBy, Feeds, Follows}
use Rattle.ix_feed.specs.Replays.{FeedView}
use Rattle.ix_feed.specs.Replays as replays
use Rattle.ix_feed.specs.Turns.{comes_before_the_end, ended_by}
use Rattle.ix_fits.specs.Card.{settles_after}
use Rattle.ix_fits.specs.Cutting.{is_settle}
use Rattle.ix_carried.specs.Course.{CardStays, Carried, CountsStay, Course, IsSettled, fate_of}
use Rattle.ix_fed.specs.Fed.{CoursesGoOn, EndsInSettle, EpochsEndInSettles, MovesWithin}
use Rattle.ix_fed.proofs.Joined.{course-append, stays-joined, stays-same}

-- ## The same in both crates' words
fate-same : (answer : Offer) → feed.fate_of answer ≡ fate_of answer
fate-same (TooLong len) = refl
fate-same (RingFull ring group items) = refl
fate-same (NoBuffer ring group frames) = refl
fate-same (Accepted ring group buf) = refl

clock-same : (clock : ℕ) (e : Entry) → clock_by clock e ≡ clock_after clock e
clock-same clock (wire.Frame rec) = refl
clock-same clock (wire.Time t) = refl
clock-same clock (wire.Tag group) = refl
clock-same clock (wire.Move group to) = refl
clock-same clock wire.Settle = refl

clocks-same : (clock : ℕ) (es : List Entry) → fold clock_by clock es ≡ clock_from clock es
clocks-same clock [] = refl
clocks-same clock (e ∷ es) = ap (λ n. fold clock_by n es) (clock-same clock e) ∙ clocks-same (clock_after clock e) es

port-counts : (p q : PortView) → feed.PortStays p q → CountsStay p q
port-counts p q s = record { items = ap (λ (x : PortView). x.items) s.rest; frames = ap (λ (x : PortView). x.frames) s.rest; posted = ap (λ (x : PortView). x.posted) s.rest }

card-stays : (x y : CardView) → feed.CardStays x y → CardStays x y
card-stays x y s = record { table = s.table; count = s.count; rings = λ r d lt. port-counts (get_or x.ports r d) (get_or y.ports r d) (s.ports r d lt) }

end-stays : (x y : CardView) (line : EntryLine) → feed.ControlCall lines.Settle x.table feed.end_on line x y → CardStays x y
end-stays x y line call = record {
  table = call.table;
  count = call.put.count;
  rings = λ r d lt.
      let puts = call.put.rings r d lt in
      record { items = ap (λ (v : PortView). v.items) puts.rest; frames = ap (λ (v : PortView). v.frames) puts.rest; posted = ap (λ (v : PortView). v.posted) puts.rest };
}

-- ## One entry that is no settle
abbrev Goes : List (List ℕ) → ℕ → ℕ → Entry → EntryLine → List SettleLine → CardView → CardView → Type 0
Goes frames clock w e l ss a b = Carried frames (clock_after clock e) w e l ss a b × (settles_after l ss ≡ ss) × (is_settle l ≡ false)

frame-line-same : (rec clock : ℕ) (card : CardView) (g : ℕ) (group : GroupId) (ring : CoreId) (answer : Offer) → group.0 ≡ g
    → ◌≡◌ {A = EntryLine} (lines.Frame rec clock group ring (feed.fate_of answer)) (lines.Frame rec clock (record { 0 = g }) ring (fate_of answer))
frame-line-same rec clock card g group ring answer is =
    ap (λ (n : ℕ). (let l : EntryLine = lines.Frame rec clock (record { 0 = n }) ring (feed.fate_of answer) in l)) is
    ∙ ap (λ (f : Fate). (let l : EntryLine = lines.Frame rec clock (record { 0 = g }) ring f in l)) (fate-same answer)

goes : (frames : List (List ℕ)) (n clock w : ℕ) (e : Entry) (l : EntryLine) (ss : List SettleLine) (a b : CardView) → length a.ports ≡ n → MovesWithin n e → replays.is_settle e ≡ false
    → CarriedBy frames w clock e l a b → Goes frames clock w e l ss a b
goes frames n clock w (wire.Frame rec) l ss a b count within other so =
    let call = so.call in
    let told = call.line_is ∙ frame-line-same rec clock a _ call.group (core_at a.table _) call.answer call.group_is in (
      record { bytes = call.bytes; answer = call.answer; found = call.record_is; offered = call.offered; told = told },
      subst (λ (z : EntryLine). settles_after z ss ≡ ss) (sym call.line_is) refl,
      subst (λ (z : EntryLine). is_settle z ≡ false) (sym call.line_is) refl,
    )
goes frames n clock w (wire.Time t) l ss a b count within other so =
    let call = so.call in (
      record { table = call.table; rings = record { count = call.put.count; rings = call.put.rings }; told = call.line_is },
      subst (λ (z : EntryLine). settles_after z ss ≡ ss) (sym call.line_is) refl,
      subst (λ (z : EntryLine). is_settle z ≡ false) (sym call.line_is) refl,
    )
goes frames n clock w (wire.Tag group) l ss a b count within other so =
    let call = so.call in (
      record { table = call.table; rings = record { count = call.put.count; rings = call.put.rings }; told = call.line_is },
      subst (λ (z : EntryLine). settles_after z ss ≡ ss) (sym call.line_is) refl,
      subst (λ (z : EntryLine). is_settle z ≡ false) (sym call.line_is) refl,
    )
goes frames n clock w (wire.Move group to) l ss a b count within other so =
    let call = so.call in (
      record {
        core = subst (λ k. to.0 < k) (sym count) within;
        rings = record { count = call.put.count; rings = call.put.rings };
        entry = subst (λ (z : EntryLine). CarriesOut (feed.entry_of z) w a b) call.line_is so.entry;
        told = call.line_is;
      },
      subst (λ (z : EntryLine). settles_after z ss ≡ ss) (sym call.line_is) refl,
      subst (λ (z : EntryLine). is_settle z ≡ false) (sym call.line_is) refl,
    )
goes frames n clock w wire.Settle l ss a b count within other so = absurd (cc)

-- ## The last entry alone is a settle
abbrev OnlyLast : List Entry → Type 0
OnlyLast [] = ⊥
OnlyLast (e ∷ []) = replays.is_settle e ≡ true
OnlyLast (e ∷ f ∷ es) = (replays.is_settle e ≡ false) × OnlyLast (f ∷ es)

none-after : (es : List Entry) → EachAllowed comes_before_the_end ended_by true es → es ≡ []
none-after [] so = refl
none-after (e ∷ es) so = absurd (let never = so.0 in cc)

only-last : (es : List Entry) → EachAllowed comes_before_the_end ended_by false es → fold ended_by false es ≡ true → OnlyLast es
only-last [] so ends = absurd (cc)
only-last (e ∷ []) so ends = by_test (replays.is_settle e) ends
  where
    by_test : (b : Bool) → (if b then true else false) ≡ true → b ≡ true
    by_test true ends = refl
    by_test false ends = ends
only-last (e ∷ f ∷ es) so ends = by_test (replays.is_settle e) refl so.1 ends (only-last (f ∷ es))
  where
    by_test : (b : Bool) → replays.is_settle e ≡ b → EachAllowed comes_before_the_end ended_by (if b then true else false) (f ∷ es) → fold ended_by (if b then true else false) (f ∷ es) ≡ true
        → (EachAllowed comes_before_the_end ended_by false (f ∷ es) → fold ended_by false (f ∷ es) ≡ true → OnlyLast (f ∷ es)) → (replays.is_settle e ≡ false) × OnlyLast (f ∷ es)
    by_test true is so ends again = absurd (let none = none-after (f ∷ es) so in cc)
    by_test false is so ends again = (is, again so ends)

-- ## An epoch
settle-course : (frames : List (List ℕ)) (clock w : ℕ) (e : Entry) (l : EntryLine) (old mid new after : CardView) (line : SettleLine) → replays.is_settle e ≡ true
    → Follows frames w clock e l old mid → feed.CardStays mid new → IsSettled line new after → Course frames clock w (e ∷ []) (l ∷ []) (line ∷ []) old after
settle-course frames clock w (wire.Frame rec) l old mid new after line is follows stays settled = absurd (cc)
settle-course frames clock w (wire.Time t) l old mid new after line is follows stays settled = absurd (cc)
settle-course frames clock w (wire.Tag group) l old mid new after line is follows stays settled = absurd (cc)
settle-course frames clock w (wire.Move group to) l old mid new after line is follows stays settled = absurd (cc)
settle-course frames clock w wire.Settle l old mid new after line is follows stays settled =
    let call = follows.carried.call in
    let still : CardStays old new =
    stays-joined old follows.before new (card-stays old follows.before follows.stays) (stays-joined follows.before mid new (end-stays follows.before mid l call) (card-stays mid new stays)) in (
      new,
      after,
      (
        still,
        record { settle = line; later = []; next = refl; settled = settled; told = call.line_is },
        (subst (λ (z : EntryLine). settles_after z (line ∷ []) ≡ []) (sym call.line_is) refl, stays-same after),
      ),
    )

feeds-course : (frames : List (List ℕ)) (n clock w : ℕ) (es : List Entry) (ls : List EntryLine) (old new after : CardView) (line : SettleLine) → OnlyLast es → AllByRecursion (MovesWithin n) es
    → length old.ports ≡ n → Feeds frames w clock es ls old new → IsSettled line new after → Course frames clock w es ls (line ∷ []) old after
feeds-course frames n clock w [] ls old new after line last within count fed settled = absurd last
feeds-course frames n clock w (e ∷ es) [] old new after line last within count fed settled = absurd fed
feeds-course frames n clock w (e ∷ []) (l ∷ []) old new after line last within count fed settled =
    settle-course frames clock w e l old fed.0 new after line last fed.1.0 fed.1.1 settled
feeds-course frames n clock w (e ∷ []) (l ∷ m ∷ ls) old new after line last within count fed settled = absurd fed.1.1
feeds-course frames n clock w (e ∷ f ∷ es) (l ∷ ls) old new after line last within count fed settled =
    let mid : CardView = fed.0 in
    let follows : Follows frames w clock e l old mid = fed.1.0 in
    let here : length follows.before.ports ≡ n = follows.stays.count ∙ count in
    let one : Goes frames clock w e l (line ∷ []) follows.before mid = goes frames n clock w e l (line ∷ []) follows.before mid here within.0 last.0 follows.carried in
    let rest : Course frames (clock_by clock e) (suc w) (f ∷ es) ls (line ∷ []) mid after =
    feeds-course frames n (clock_by clock e) (suc w) (f ∷ es) ls mid new after line last.1 within.1 (follows.carried.entry.count ∙ here) fed.1.1 settled in (
      follows.before,
      mid,
      (
        card-stays old follows.before follows.stays,
        one.0,
        subst (λ (zs : List SettleLine). Course frames (clock_after clock e) (suc w) (f ∷ es) ls zs mid after) (sym one.1)
            (subst (λ (c : ℕ). Course frames c (suc w) (f ∷ es) ls (line ∷ []) mid after) (clock-same clock e) rest),
      ),
    )

pub courses_go_on : CoursesGoOn
courses_go_on xs ys settles opened x y after line same lines_are clock_is opened_now ended course b within settled =
    let last : OnlyLast b.carried =
    only-last b.carried (subst (λ (t : Bool). EachAllowed comes_before_the_end ended_by t b.carried) opened_now b.epoch) (ap (λ (t : Bool). fold ended_by t b.carried) (sym opened_now) ∙ sym b.ended ∙ ended) in
    let number : length x.replay.lines ≡ 0 + length xs = omega (arith, same, ap length lines_are) in
    let fed : Feeds x.replay.frames (0 + length xs) (clock_from 0 xs) b.carried b.told x.card y.card =
    subst (λ (w : ℕ). Feeds x.replay.frames w (clock_from 0 xs) b.carried b.told x.card y.card) number
    (subst (λ (c : ℕ). Feeds x.replay.frames (length x.replay.lines) c b.carried b.told x.card y.card) (clock_is ∙ clocks-same 0 xs) b.fed) in
    let next = feeds-course x.replay.frames (length x.card.ports) (clock_from 0 xs) (0 + length xs) b.carried b.told x.card y.card after line last within refl fed settled in
    subst (λ (ls : List EntryLine). Course x.replay.frames 0 0 (xs ++ b.carried) ls (settles ++ line ∷ []) opened after) (ap (λ (ls : List EntryLine). ls ++ b.told) (sym lines_are) ∙ sym b.lines)
    (course-append x.replay.frames 0 0 xs ys settles b.carried b.told (line ∷ []) opened x.card after course next)

-- ## The lines of an epoch
lines-end : (frames : List (List ℕ)) (w clock : ℕ) (es : List Entry) (ls : List EntryLine) (old new : CardView) → OnlyLast es → Feeds frames w clock es ls old new → EndsInSettle ls
lines-end frames w clock [] ls old new last fed = absurd last
lines-end frames w clock (e ∷ es) [] old new last fed = absurd fed
lines-end frames w clock (e ∷ []) (l ∷ []) old new last fed = record { between = []; no_settle = refl; is = ap (λ (z : EntryLine). z ∷ []) (settle-line e last fed.1.0.carried) }
  where
    settle-line : (e : Entry) → replays.is_settle e ≡ true → CarriedBy frames w clock e l fed.1.0.before fed.0 → l ≡ lines.Settle
    settle-line (wire.Frame rec) is so = absurd (cc)
    settle-line (wire.Time t) is so = absurd (cc)
    settle-line (wire.Tag group) is so = absurd (cc)
    settle-line (wire.Move group to) is so = absurd (cc)
    settle-line wire.Settle is so = so.call.line_is
lines-end frames w clock (e ∷ []) (l ∷ m ∷ ls) old new last fed = absurd fed.1.1
lines-end frames w clock (e ∷ f ∷ es) (l ∷ ls) old new last fed =
    let rest : EndsInSettle ls = lines-end frames (suc w) (clock_by clock e) (f ∷ es) ls fed.0 new last.1 fed.1.1 in
    record {
      between = l ∷ rest.between;
      no_settle = either (is_settle l) (list_any is_settle rest.between) (other-line e last.0 fed.1.0.carried) rest.no_settle;
      is = ap (λ (zs : List EntryLine). l ∷ zs) rest.is;
    }
  where
    either : (a b : Bool) → a ≡ false → b ≡ false → (a || b) ≡ false
    either true b e f = e
    either false b e f = f

    other-line : (e : Entry) → replays.is_settle e ≡ false → CarriedBy frames w clock e l fed.1.0.before fed.0 → is_settle l ≡ false
    other-line (wire.Frame rec) other so = subst (λ (z : EntryLine). is_settle z ≡ false) (sym so.call.line_is) refl
    other-line (wire.Time t) other so = subst (λ (z : EntryLine). is_settle z ≡ false) (sym so.call.line_is) refl
    other-line (wire.Tag group) other so = subst (λ (z : EntryLine). is_settle z ≡ false) (sym so.call.line_is) refl
    other-line (wire.Move group to) other so = subst (λ (z : EntryLine). is_settle z ≡ false) (sym so.call.line_is) refl
    other-line wire.Settle other so = absurd (cc)

pub epochs_end_in_settles : EpochsEndInSettles
epochs_end_in_settles x y opened_now ended b =
    let last : OnlyLast b.carried =
    only-last b.carried (subst (λ (t : Bool). EachAllowed comes_before_the_end ended_by t b.carried) opened_now b.epoch) (ap (λ (t : Bool). fold ended_by t b.carried) (sym opened_now) ∙ sym b.ended ∙ ended) in
    lines-end x.replay.frames (length x.replay.lines) x.replay.clock b.carried b.told x.card y.card last b.fed
