-- Entries one after the other, ring by ring.
use Rattle.std.proofs.Common.{◌≡◌, ◌<◌, ◌+◌, ℕ, zero, suc, List, [], ◌∷◌, ◌++◌, length, drop, map, get_or, Bool, refl, ap, sym, subst, ◌∙◌, append-nil, append_assoc, inl, inr, Some, arith, length-append}
use Rattle.std.proofs.lemmas.Bool.{cases_eq}
use Rattle.std.proofs.lemmas.Bool.Decides.{nat_tests}
use Rattle.std.proofs.lemmas.List.{append_cancel_left, get_or_default, map-append}
use Rattle.std.proofs.lemmas.List.Sums.{sum_by-append}
use Rattle.std.specs.Prelude.{◌==◌, ◌^◌, if◌then◌else◌, count_by, slice_get}
use Rattle.std.specs.List.{AllByRecursion}
use mathlib.Core.Path.{fun_ext}
use Rattle.ix_base.specs.Branches.{if_true, if_false}
use Rattle.ix_base.specs.declared.id.BufId.{BufId}
use Rattle.ix_base.specs.declared.id.CoreId.{CoreId}
use Rattle.ix_base.specs.declared.id.GroupId.{GroupId}
use Rattle.ix_base.specs.declared.id.WireNo.{WireNo}
use Rattle.ix_lines.specs.declared.types.EntryLine.{EntryLine}
use Rattle.ix_mbuf.specs.Buffers.{Buffer, next_use}
use Rattle.ix_mbuf.specs.Owners.{maybe, same_id, weigh}
use Rattle.ix_mbuf.specs.declared.name.Name.{Name}
use Rattle.ix_nic.specs.declared.offer.Offer.{Offer}
use Rattle.ix_nic.specs.declared.offer.Offer.TheVariants as offers
use Rattle.ix_nic.specs.Cards.{CardView, Offered, core_at}
use Rattle.ix_nic.specs.Offers.{Accepts, Answers}
use Rattle.ix_nic.specs.Ports.{PortView, capped, whole}
use Rattle.ix_nic.specs.Words.{seats, word, words_on}
use Rattle.ix_order.specs.Wire.{put_by, put_on, turned}
use Rattle.ix_order.specs.Wire as order
use Rattle.ix_reta.specs.Table.{tenure_of}
use Rattle.ix_ring.specs.Ends.{taken}
use Rattle.ix_stack.specs.declared.item.Item.{Item}
use Rattle.ix_stack.specs.declared.item.Item.TheVariants as items
use Rattle.ix_stack.specs.Items.{items_weight}
use Rattle.ix_steer.specs.Steering.{group_of_frame}
use Rattle.ix_wire.specs.declared.entry.Entry.{Entry}
use Rattle.ix_wire.specs.declared.entry.Entry.TheVariants as wire
use Rattle.ix_wire.specs.Entries.{clock_by}
use Rattle.ix_feed.specs.Feeding.{Calls, Feeds, PortStays, entry_of, fate_of}
use Rattle.ix_feed.specs.Replays.{FeedView, ReplayView, left_of}
use Rattle.ix_feed.specs.Told.{IsTold, RingIsCounted, RingIsTold, RingUsed, ids_of, is_counted, is_work, kept_id, used_by, used_on}
use Rattle.ix_feed.specs.Turns.{FeedBecame}
use Rattle.ix_feed.proofs.CarriedOut.{stays_carries}
use Rattle.ix_feed.proofs.PortSteps.{IsNamed, PortStep, PutIsCounted, ToldBy, accepted_once, answer_step, control_step, is_end, is_tag, is_time, is_turn, no_name, other_step}
use Rattle.ix_feed.proofs.Steps.{calls_count}

-- ## The name of a frame's buffer
-- what an offer says, taken of any port, since it speaks of one that is there
abbrev answer_name : (w : WireNo) (g : ℕ) (core : CoreId) (frame : List ℕ) (answer : Offer) (p q : PortView) → Answers w g core frame answer p q → Name
answer_name w g core frame (offers.TooLong len) p q a = no_name
answer_name w g core frame (offers.RingFull ring group n) p q a = no_name
answer_name w g core frame (offers.NoBuffer ring group n) p q a = no_name
answer_name w g core frame (offers.Accepted ring group id) p q a = next_use a.3.buf.name

abbrev offer_name : (w : WireNo) (frame : List ℕ) (answer : Offer) (x y : CardView) → Offered w frame answer x y → List PortView → Name
offer_name w frame answer x y o [] = no_name
offer_name w frame answer x y o (p ∷ ports) =
    answer_name w (group_of_frame frame) (core_at x.table (group_of_frame frame)) frame answer _ _ (o.ring p)

accepted_name : (w : ℕ) (frame : List ℕ) (ring : CoreId) (group : GroupId) (id : BufId) (x y : CardView) (o : Offered (record { 0 = w }) frame (offers.Accepted ring group id) x y)
    → (ports : List PortView) → ports ≡ x.ports → (d : PortView) → (core_at x.table (group_of_frame frame)).0 < length x.ports
    → (a : Accepts (record { 0 = w }) group frame id (get_or x.ports (core_at x.table (group_of_frame frame)).0 d) (get_or y.ports (core_at x.table (group_of_frame frame)).0 d))
    → next_use a.buf.name ≡ offer_name (record { 0 = w }) frame (offers.Accepted ring group id) x y o ports
accepted_name w frame ring group id x y o [] same d lt a = absurd (omega (arith, lt, ap length same))
accepted_name w frame ring group id x y o (p ∷ ports) same d lt a =
    let n : ℕ = (core_at x.table (group_of_frame frame)).0 in
    accepted_once (record { 0 = w }) group group frame id id (get_or x.ports n d) (get_or y.ports n d) (get_or x.ports n p) (get_or y.ports n p)
    (get_or_default x.ports n p d lt) (get_or_default y.ports n p d (subst (λ k. n < k) (sym o.count) lt)) a (o.ring p).3

offer_named : (w : ℕ) (frame : List ℕ) (answer : Offer) (x y : CardView) (o : Offered (record { 0 = w }) frame answer x y) (d : PortView)
    → (core_at x.table (group_of_frame frame)).0 < length x.ports
    → IsNamed w frame answer (offer_name (record { 0 = w }) frame answer x y o x.ports)
    (get_or x.ports (core_at x.table (group_of_frame frame)).0 d) (get_or y.ports (core_at x.table (group_of_frame frame)).0 d)
offer_named w frame (offers.TooLong len) x y o d lt = tt
offer_named w frame (offers.RingFull ring group n) x y o d lt = tt
offer_named w frame (offers.NoBuffer ring group n) x y o d lt = tt
offer_named w frame (offers.Accepted ring group id) x y o d lt = λ a. accepted_name w frame ring group id x y o x.ports refl d lt a

abbrev call_name : (frames : List (List ℕ)) (w clock : ℕ) (e : Entry) (l : EntryLine) (x y : CardView) → Calls frames w clock e l x y → Name
call_name frames w clock (wire.Frame rec) l x y c = offer_name (record { 0 = w }) c.bytes c.answer x y c.offered x.ports
call_name frames w clock (wire.Tag group) l x y c = no_name
call_name frames w clock (wire.Move group to) l x y c = no_name
call_name frames w clock (wire.Time t) l x y c = no_name
call_name frames w clock wire.Settle l x y c = no_name

-- ## One entry
calls_steps : (frames : List (List ℕ)) (w clock : ℕ) (e : Entry) (l : EntryLine) (x y : CardView) → (c : Calls frames w clock e l x y)
    → (r : ℕ) (d : PortView) → r < length x.ports → PortStep r frames w e l (call_name frames w clock e l x y c) (get_or x.ports r d) (get_or y.ports r d)
calls_steps frames w clock (wire.Frame rec) l x y c r d lt =
    elim (cases_eq r (core_at x.table (group_of_frame c.bytes)).0) [
      | inl is ↦
          subst (λ n. PortStep r frames w (wire.Frame rec) l (offer_name (record { 0 = w }) c.bytes c.answer x y c.offered x.ports) (get_or x.ports n d) (get_or y.ports n d)) (sym is)
          (answer_step r frames w clock rec c.bytes c.group (group_of_frame c.bytes) (core_at x.table (group_of_frame c.bytes)) c.answer l
          (offer_name (record { 0 = w }) c.bytes c.answer x y c.offered x.ports) _ _ (offer_named w c.bytes c.answer x y c.offered d (subst (λ n. n < length x.ports) is lt))
          (sym is) c.group_is c.record_is c.line_is (c.offered.ring d))
      | inr other ↦
          other_step r frames w clock rec c.group (core_at x.table (group_of_frame c.bytes)) (fate_of c.answer) l _ _ _ other c.line_is (c.offered.others r d lt other)
    ]
calls_steps frames w clock (wire.Tag group) l x y c r d lt =
    control_step r frames w (wire.Tag group) l no_name _ _ _ (is_tag r frames w (wire.Tag group) l no_name group (r == (core_at x.table group.0).0)) (ap (used_by r) c.line_is) (c.put.rings r d lt)
calls_steps frames w clock (wire.Move group to) l x y c r d lt =
    control_step r frames w (wire.Move group to) l no_name _ _ _
    (is_turn r frames w (wire.Move group to) l no_name group to (tenure_of x.table.turns group.0 + 1) (r == (core_at x.table group.0).0) (r == to.0))
    (ap (used_by r) c.line_is) (c.put.rings r d lt)
calls_steps frames w clock (wire.Time t) l x y c r d lt =
    control_step r frames w (wire.Time t) l no_name _ _ _ (is_time r frames w t l no_name) (ap (used_by r) c.line_is) (c.put.rings r d lt)
calls_steps frames w clock wire.Settle l x y c r d lt =
    control_step r frames w wire.Settle l no_name _ _ _ (is_end r frames w wire.Settle l no_name) (ap (used_by r) c.line_is) (c.put.rings r d lt)

-- ## Buffers
weigh_join : (f : Name → ℕ) (ms ns : List Name) → weigh f (ms ++ ns) ≡ weigh f ms + weigh f ns
weigh_join f ms ns = sum_by-append f ms ns

used_join : (us vs : List BufId) (n k total : ℕ) (p m q : PortView) → total ≡ n + k → RingUsed us n p m → RingUsed vs k m q → RingUsed (us ++ vs) total p q
used_join us vs n k total p m q sum a b = record {
  bufs = a.bufs ++ b.bufs;
  took = b.took ∙ ap (λ (bs : List Buffer). bs ++ b.bufs) a.took ∙ append_assoc (taken p.posts) a.bufs b.bufs;
  in_order =
      ap (λ (is : List BufId). kept_id p.kept ++ is) (map-append (λ (z : Buffer). z.name.id) a.bufs b.bufs)
      ∙ sym (append_assoc (kept_id p.kept) (ids_of a.bufs) (ids_of b.bufs))
      ∙ ap (λ (is : List BufId). is ++ ids_of b.bufs) a.in_order
      ∙ append_assoc us (kept_id m.kept) (ids_of b.bufs)
      ∙ ap (λ (is : List BufId). us ++ is) b.in_order
      ∙ sym (append_assoc us vs (kept_id q.kept));
  fills = a.fills ++ b.fills;
  few = omega (arith, sum, a.few, b.few, length-append a.fills b.fills);
  among = λ i.
      omega (
        arith,
        a.among i,
        b.among i,
        sum_by-append (λ (j : BufId). if same_id i j then 1 else 0) us vs,
        weigh_join (λ (n : Name). if same_id i n.id then 1 else 0) a.fills b.fills,
      );
  weight = λ f.
      let filled : weigh f (map next_use (a.fills ++ b.fills)) ≡ weigh f (map next_use a.fills) + weigh f (map next_use b.fills) =
      ap (weigh f) (map-append next_use a.fills b.fills) ∙ weigh_join f (map next_use a.fills) (map next_use b.fills) in
      omega (arith, a.weight f, b.weight f, filled, weigh_join f a.fills b.fills, sum_by-append (λ (z : Buffer). f z.name) a.bufs b.bufs);
}

used_stays : (p q : PortView) → PortStays p q → RingUsed [] 0 p q
used_stays p q s = record {
  bufs = [];
  took = s.posts.took ∙ sym (append-nil (taken p.posts));
  in_order = append-nil (kept_id p.kept) ∙ ap (λ (v : PortView). kept_id v.kept) (sym s.rest);
  fills = [];
  few = omega arith;
  among = λ i. omega arith;
  weight = λ f.
      let on : items_weight f (whole q) ≡ items_weight f (whole p) = ap (items_weight f) s.whole in
      let keeps : maybe (λ (b : Buffer). f b.name) q.kept ≡ maybe (λ (b : Buffer). f b.name) p.kept = ap (λ (v : PortView). maybe (λ (b : Buffer). f b.name) v.kept) s.rest in
      omega (arith, on, keeps);
}

pub feeds_used : (frames : List (List ℕ)) (w clock : ℕ) (es : List Entry) (ls : List EntryLine) (x y : CardView) → Feeds frames w clock es ls x y
    → (r : ℕ) (d : PortView) → r < length x.ports → RingUsed (used_on r ls) (length ls) (get_or x.ports r d) (get_or y.ports r d)
feeds_used frames w clock [] [] x y f r d lt = used_stays _ _ (f.ports r d lt)
feeds_used frames w clock [] (l ∷ ls) x y f r d lt = absurd f
feeds_used frames w clock (e ∷ es) [] x y f r d lt = absurd f
feeds_used frames w clock (e ∷ es) (l ∷ ls) x y f r d lt =
    let first = f.1.0 in
    let below : r < length first.before.ports = subst (λ n. r < n) (sym first.stays.count) lt in
    let later : r < length f.0.ports = subst (λ n. r < n) (sym (calls_count frames w clock e l first.before f.0 first.carried.call)) below in
    used_join (used_by r l) (used_on r ls) 1 (length ls) (length (l ∷ ls)) (get_or x.ports r d) (get_or f.0.ports r d) (get_or y.ports r d) (omega arith)
    (used_join [] (used_by r l) 0 1 1 (get_or x.ports r d) (get_or first.before.ports r d) (get_or f.0.ports r d) (omega arith)
    (used_stays _ _ (first.stays.ports r d lt)) (calls_steps frames w clock e l first.before f.0 first.carried.call r d below).used)
    (feeds_used frames (suc w) _ es ls f.0 y f.1.1 r d later)

-- ## Counts
capped_join : (n a b : ℕ) → capped (capped (n + a) + b) ≡ capped (n + (a + b))
capped_join n a b = omega arith

capped_below : (n m : ℕ) → m ≡ capped n → m < 2 ^ 32
capped_below n m is = omega (arith, is)

count_join : (f : order.Item → Bool) (xs ys : List order.Item) → count_by f (xs ++ ys) ≡ count_by f xs + count_by f ys
count_join f xs ys = sum_by-append (λ (x : order.Item). if f x then 1 else 0) xs ys

counted_join : (us vs : List order.Item) (p m q : PortView) → p.items < 2 ^ 32 → p.frames < 2 ^ 32 → PutIsCounted us p m → (m.items < 2 ^ 32 → m.frames < 2 ^ 32 → RingIsCounted vs m q)
    → RingIsCounted (us ++ vs) p q
counted_join us vs p m q below few a rest =
    let b = rest (capped_below (p.items + count_by is_counted us) m.items (a.items below)) (capped_below (p.frames + count_by is_work us) m.frames (a.frames few)) in
    record {
      items = b.items ∙ ap (λ n. capped (n + count_by is_counted vs)) (a.items below) ∙ capped_join p.items (count_by is_counted us) (count_by is_counted vs)
          ∙ ap (λ n. capped (p.items + n)) (sym (count_join is_counted us vs));
      frames = b.frames ∙ ap (λ n. capped (n + count_by is_work vs)) (a.frames few) ∙ capped_join p.frames (count_by is_work us) (count_by is_work vs)
          ∙ ap (λ n. capped (p.frames + n)) (sym (count_join is_work us vs));
      posted = b.posted ∙ a.posted;
    }

counted_after : (us : List order.Item) (p m q : PortView) → PortStays p m → PutIsCounted us m q → PutIsCounted us p q
counted_after us p m q s c =
    let items : m.items ≡ p.items = ap (λ (v : PortView). v.items) s.rest in
    let frames : m.frames ≡ p.frames = ap (λ (v : PortView). v.frames) s.rest in
    record {
      items = λ lt. c.items (subst (λ n. n < 2 ^ 32) (sym items) lt) ∙ ap (λ n. capped (n + count_by is_counted us)) items;
      frames = λ lt. c.frames (subst (λ n. n < 2 ^ 32) (sym frames) lt) ∙ ap (λ n. capped (n + count_by is_work us)) frames;
      posted = c.posted ∙ ap (λ (v : PortView). v.posted) s.rest;
    }

counted_stays : (p q : PortView) → PortStays p q → p.items < 2 ^ 32 → p.frames < 2 ^ 32 → RingIsCounted [] p q
counted_stays p q s below few = record {
  items = ap (λ (v : PortView). v.items) s.rest ∙ omega (arith, below);
  frames = ap (λ (v : PortView). v.frames) s.rest ∙ omega (arith, few);
  posted = ap (λ (v : PortView). v.posted) s.rest;
}

-- the words of what was put are those of the law on pieces
words_put : (p m : PortView) (put : List Item) (words : List order.Item) → whole m ≡ whole p ++ put → words_on m ≡ words_on p ++ words → map word put ≡ words
words_put p m put words more is =
    append_cancel_left (words_on p) (map word put) words (sym (ap (map word) more ∙ map-append word (whole p) put) ∙ is)

pub feeds_counted : (frames : List (List ℕ)) (w clock : ℕ) (es : List Entry) (ls : List EntryLine) (x y : CardView) → Feeds frames w clock es ls x y
    → (r : ℕ) (d : PortView) → r < length x.ports → (get_or x.ports r d).items < 2 ^ 32 → (get_or x.ports r d).frames < 2 ^ 32
    → RingIsCounted (put_on r (seats x.table) w (map entry_of ls)) (get_or x.ports r d) (get_or y.ports r d)
feeds_counted frames w clock [] [] x y f r d lt below few = counted_stays _ _ (f.ports r d lt) below few
feeds_counted frames w clock [] (l ∷ ls) x y f r d lt below few = absurd f
feeds_counted frames w clock (e ∷ es) [] x y f r d lt below few = absurd f
feeds_counted frames w clock (e ∷ es) (l ∷ ls) x y f r d lt below few =
    let first = f.1.0 in
    let within : r < length first.before.ports = subst (λ n. r < n) (sym first.stays.count) lt in
    let later : r < length f.0.ports = subst (λ n. r < n) (sym (calls_count frames w clock e l first.before f.0 first.carried.call)) within in
    let step = calls_steps frames w clock e l first.before f.0 first.carried.call r d within in
    let whole_entry = stays_carries (entry_of l) w x first.before f.0 first.stays first.carried.entry in
    let words : map word step.put ≡ put_by r (seats x.table) w (entry_of l) =
    words_put (get_or x.ports r d) (get_or f.0.ports r d) step.put (put_by r (seats x.table) w (entry_of l))
    (step.more ∙ ap (λ (is : List Item). is ++ step.put) (first.stays.ports r d lt).whole) (whole_entry.rings r d lt) in
    let table : seats f.0.table ≡ turned (seats x.table) (entry_of l) = fun_ext whole_entry.table in
    counted_join (put_by r (seats x.table) w (entry_of l)) (put_on r (turned (seats x.table) (entry_of l)) (suc w) (map entry_of ls))
    (get_or x.ports r d) (get_or f.0.ports r d) (get_or y.ports r d) below few
    (subst (λ (ws : List order.Item). PutIsCounted ws (get_or x.ports r d) (get_or f.0.ports r d)) words
    (counted_after (map word step.put) (get_or x.ports r d) (get_or first.before.ports r d) (get_or f.0.ports r d) (first.stays.ports r d lt) step.counts))
    (λ b n. subst (λ (t : order.Table). RingIsCounted (put_on r t (suc w) (map entry_of ls)) (get_or f.0.ports r d) (get_or y.ports r d)) table
    (feeds_counted frames (suc w) _ es ls f.0 y f.1.1 r d later b n))

-- ## Items
-- these stand in a list from a place on
abbrev StandAt : {X : Type 0} → List X → ℕ → List X → Type 0
StandAt {X} all w xs = (i : ℕ) (x : X) → slice_get xs i ≡ Some x → slice_get all (w + i) ≡ Some x

stands_first : {X : Type 0} (all : List X) (w : ℕ) (x : X) (xs : List X) → StandAt all w (x ∷ xs) → slice_get all w ≡ Some x
stands_first all w x xs at = let zero_more : w + 0 ≡ w = omega arith in ap (slice_get all) (sym zero_more) ∙ at 0 x refl

stand_behind : {X : Type 0} (all : List X) (w : ℕ) (x : X) (xs : List X) → StandAt all w (x ∷ xs) → StandAt all (suc w) xs
stand_behind all w x xs at i y is = let same : suc w + i ≡ w + suc i = omega arith in ap (slice_get all) same ∙ at (suc i) y is

told_of : (r : ℕ) (frames : List (List ℕ)) (w : ℕ) (e : Entry) (l : EntryLine) (one : Name) (name : ℕ → Name) (z : ReplayView) (item : Item) → z.frames ≡ frames
    → slice_get z.entries w ≡ Some e → slice_get z.lines w ≡ Some l → name w ≡ one → ToldBy r frames w e l one item → IsTold r name w z item
told_of r frames w e l one name z (items.Frame v group buf) same entry line named t = record {
  behind = omega (arith, t.0);
  rec = t.1.rec;
  entry = ap (slice_get z.entries) t.0 ∙ entry ∙ ap (λ (k : Entry). Some k) t.1.entry;
  at = t.1.at;
  line = ap (slice_get z.lines) t.0 ∙ line ∙ ap (λ (k : EntryLine). Some k) t.1.line;
  bytes = ap (λ (fs : List (List ℕ)). slice_get fs t.1.rec) same ∙ t.1.bytes;
  named = t.1.named ∙ sym named ∙ ap name (sym t.0);
}
told_of r frames w e l one name z (items.Time v t) same entry line named is =
    (omega (arith, is.0), ap (slice_get z.entries) is.0 ∙ entry ∙ ap (λ (k : Entry). Some k) is.1)
told_of r frames w e l one name z (items.Tag group) same entry line named is = tt
told_of r frames w e l one name z (items.Cut group to) same entry line named is = tt
told_of r frames w e l one name z (items.Start group tenure) same entry line named is = tt
told_of r frames w e l one name z items.End same entry line named is = tt

-- behind one more entry, at which another buffer may be named
told_later : (r w : ℕ) (one : Name) (name : ℕ → Name) (z : ReplayView) (item : Item) → IsTold r name (suc w) z item → IsTold r (λ i. if i == w then one else name i) w z item
told_later r w one name z (items.Frame v group buf) t = record {
  behind = omega (arith, t.behind);
  rec = t.rec;
  entry = t.entry;
  at = t.at;
  line = t.line;
  bytes = t.bytes;
  named = t.named ∙ sym (if_false (v.0 == w) one (name v.0) (let after = t.behind in grind (arith, nat_tests)));
}
told_later r w one name z (items.Time v t) is = (omega (arith, is.0), is.1)
told_later r w one name z (items.Tag group) is = tt
told_later r w one name z (items.Cut group to) is = tt
told_later r w one name z (items.Start group tenure) is = tt
told_later r w one name z items.End is = tt

all_told : (P Q R : Item → Type 0) (xs ys : List Item) → ((x : Item) → P x → R x) → ((y : Item) → Q y → R y) → AllByRecursion P xs → AllByRecursion Q ys
    → AllByRecursion R (xs ++ ys)
all_told P Q R [] [] first later a b = tt
all_told P Q R [] (y ∷ ys) first later a b = (later y b.0, all_told P Q R [] ys first later tt b.1)
all_told P Q R (x ∷ xs) ys first later a b = (first x a.0, all_told P Q R xs ys first later a.1 b)

-- the names of the buffers of the frames that were accepted, by the numbers of their entries
abbrev pub name_in : (frames : List (List ℕ)) (w clock : ℕ) (es : List Entry) (ls : List EntryLine) (x y : CardView) → Feeds frames w clock es ls x y → ℕ → Name
name_in frames w clock [] [] x y f i = no_name
name_in frames w clock [] (l ∷ ls) x y f i = no_name
name_in frames w clock (e ∷ es) [] x y f i = no_name
name_in frames w clock (e ∷ es) (l ∷ ls) x y f i =
    if i == w then call_name frames w clock e l f.1.0.before f.0 f.1.0.carried.call else name_in frames (suc w) (clock_by clock e) es ls f.0 y f.1.1 i

pub feeds_told : (frames : List (List ℕ)) (w clock : ℕ) (es : List Entry) (ls : List EntryLine) (x y : CardView) (z : ReplayView) → z.frames ≡ frames
    → StandAt z.entries w es → StandAt z.lines w ls → (f : Feeds frames w clock es ls x y)
    → (r : ℕ) (d : PortView) → r < length x.ports → RingIsTold r (name_in frames w clock es ls x y f) w z (get_or x.ports r d) (get_or y.ports r d)
feeds_told frames w clock [] [] x y z same at_entries at_lines f r d lt = record { items = []; more = (f.ports r d lt).whole ∙ sym (append-nil _); are_told = tt }
feeds_told frames w clock [] (l ∷ ls) x y z same at_entries at_lines f r d lt = absurd f
feeds_told frames w clock (e ∷ es) [] x y z same at_entries at_lines f r d lt = absurd f
feeds_told frames w clock (e ∷ es) (l ∷ ls) x y z same at_entries at_lines f r d lt =
    let first = f.1.0 in
    let within : r < length first.before.ports = subst (λ n. r < n) (sym first.stays.count) lt in
    let later : r < length f.0.ports = subst (λ n. r < n) (sym (calls_count frames w clock e l first.before f.0 first.carried.call)) within in
    let step = calls_steps frames w clock e l first.before f.0 first.carried.call r d within in
    let one : Name = call_name frames w clock e l first.before f.0 first.carried.call in
    let name : ℕ → Name = name_in frames (suc w) (clock_by clock e) es ls f.0 y f.1.1 in
    let rest = feeds_told frames (suc w) (clock_by clock e) es ls f.0 y z same (stand_behind z.entries w e es at_entries) (stand_behind z.lines w l ls at_lines) f.1.1 r d later in
    record {
      items = step.put ++ rest.items;
      more = rest.more ∙ ap (λ (is : List Item). is ++ rest.items) (step.more ∙ ap (λ (is : List Item). is ++ step.put) (first.stays.ports r d lt).whole)
          ∙ append_assoc (whole (get_or x.ports r d)) step.put rest.items;
      are_told = all_told (ToldBy r frames w e l one) (IsTold r name (suc w) z) (IsTold r (λ i. if i == w then one else name i) w z) step.put rest.items
          (λ item t. told_of r frames w e l one (λ i. if i == w then one else name i) z item same (stands_first z.entries w e es at_entries) (stands_first z.lines w l ls at_lines)
          (if_true (w == w) one (name w) (grind (arith, nat_tests))) t)
          (λ item t. told_later r w one name z item t)
          step.told rest.are_told;
    }

get_behind : {X : Type 0} (all : List X) (n i : ℕ) → slice_get (drop n all) i ≡ slice_get all (n + i)
get_behind [] zero i = refl
get_behind [] (suc n) i = refl
get_behind (x ∷ all) zero i = let none : 0 + i ≡ i = omega arith in ap (slice_get (x ∷ all)) (sym none)
get_behind (x ∷ all) (suc n) i = let more : suc n + i ≡ suc (n + i) = omega arith in get_behind all n i ∙ ap (slice_get (x ∷ all)) (sym more)

get_first : {X : Type 0} (xs ys : List X) (i : ℕ) (x : X) → slice_get xs i ≡ Some x → slice_get (xs ++ ys) i ≡ Some x
get_first [] ys i x is = absurd (cc)
get_first (y ∷ xs) ys zero x is = is
get_first (y ∷ xs) ys (suc i) x is = get_first xs ys i x is

get_after : {X : Type 0} (xs ys : List X) (i : ℕ) → slice_get (xs ++ ys) (length xs + i) ≡ slice_get ys i
get_after [] ys i = let none : 0 + i ≡ i = omega arith in ap (slice_get ys) none
get_after (x ∷ xs) ys i = let more : suc (length xs) + i ≡ suc (length xs + i) = omega arith in ap (slice_get (x ∷ (xs ++ ys))) more ∙ get_after xs ys i

pub entries_stand : (x y : FeedView) (b : FeedBecame x y) → StandAt y.replay.entries (length x.replay.lines) b.carried
entries_stand x y b i e is =
    ap (λ (es : List Entry). slice_get es (length x.replay.lines + i)) b.entries
    ∙ sym (get_behind x.replay.entries (length x.replay.lines) i)
    ∙ ap (λ (es : List Entry). slice_get es i) b.left
    ∙ get_first b.carried (left_of y.replay) i e is

pub lines_stand : (x y : FeedView) (b : FeedBecame x y) → StandAt y.replay.lines (length x.replay.lines) b.told
lines_stand x y b i l is =
    ap (λ (ls : List EntryLine). slice_get ls (length x.replay.lines + i)) b.lines ∙ get_after x.replay.lines b.told i ∙ is
