-- One turn: what became of the card, and what is answered.
use Rattle.std.proofs.Common.{◌≡◌, ◌<◌, ℕ, suc, List, [], ◌∷◌, ◌++◌, length, drop, Bool, true, false, None, refl, ap, sym, subst, ◌∙◌, arith, append-nil, length-append}
use Rattle.std.proofs.lemmas.Bool.Decides.{nat_tests}
use Rattle.std.specs.Prelude.{◌==◌, ◌&&◌, ◌^◌, if◌then◌else◌, not}
use Rattle.ix_base.specs.declared.id.WireNo.{WireNo}
use Rattle.ix_lines.specs.declared.types.EntryLine.{EntryLine}
use Rattle.ix_nic.specs.declared.offer.Offer.{Offer}
use Rattle.ix_nic.specs.declared.offer.Offer.TheVariants.{TooLong, RingFull, NoBuffer, Accepted}
use Rattle.ix_nic.specs.Cards.{CardView, Offered, all_waiting}
use Rattle.ix_nic.specs.Ports.{PortView}
use Rattle.ix_run.specs.declared.actors.Turn.{Turn}
use Rattle.ix_run.specs.declared.actors.Turn.TheVariants.{Ended, Idle, Worked}
use Rattle.ix_wire.specs.declared.entry.Entry.{Entry}
use Rattle.ix_wire.specs.declared.entry.Entry.TheVariants as wire
use Rattle.ix_wire.specs.Entries.{clock_by, is_frame}
use Rattle.ix_feed.specs.Feeding.{AllPut, CanBeTold, CardStays, CarriedBy}
use Rattle.ix_feed.specs.Laws.{card_stays, rings_join}
use Rattle.ix_feed.specs.Replays.{NextIs, ReplayView, feed_view, is_settle, left_of}
use Rattle.ix_feed.specs.Turns.{FeedBecame, FeedTurned, frames_next, noted, over}
use Rattle.ix_feed.proofs.Following.{behind_next, left_is, same_left}
use Rattle.ix_feed.proofs.Steps.{calls_retried, calls_rings, cards_stay_rings}

-- ## What became of the card
not_over : (e : Entry) (b : Bool) → b ≡ false → is_settle e ≡ false → b ≡ (if is_settle e then true else b)
not_over (wire.Frame rec) b x y = refl
not_over (wire.Tag group) b x y = refl
not_over (wire.Move group to) b x y = refl
not_over (wire.Time t) b x y = refl
not_over wire.Settle b x y = absurd (cc)

is_over : (e : Entry) (b : Bool) → is_settle e ≡ true → true ≡ (if is_settle e then true else b)
is_over e b settle = ap (λ (c : Bool). if c then true else b) (sym settle)

one_became : (e : Entry) (line : EntryLine) (x y z : CardView) (r s : ReplayView) → NextIs e r → CarriedBy r.frames (length r.lines) r.clock e line x y → CardStays y z
    → s.entries ≡ r.entries → s.frames ≡ r.frames → s.lines ≡ r.lines ++ line ∷ [] → s.clock ≡ clock_by r.clock e
    → s.ended ≡ (if is_settle e then true else r.ended) → FeedBecame (feed_view x r) (feed_view z s)
one_became e line x y z r s n c stays entries frames lines clock ended = record {
  entries = entries;
  frames = frames;
  carried = e ∷ [];
  told = line ∷ [];
  left = left_is e r n ∙ ap (λ (es : List Entry). e ∷ es)
      (same_left e line r ∙ ap (λ (ls : List EntryLine). drop (length ls) r.entries) (sym lines) ∙ ap (λ (es : List Entry). drop (length s.lines) es) (sym entries));
  lines = lines;
  clock = clock;
  epoch = (ap not n.not_ended, tt);
  ended = ended;
  fed = (y, (record { before = x; stays = card_stays x; carried = c }, stays));
  rings = rings_join x y z (calls_rings r.frames (length r.lines) r.clock e line x y c.call) (cards_stay_rings y z stays);
}

pub entry_became : (e : Entry) (line : EntryLine) (x y : CardView) (r : ReplayView) → NextIs e r → CarriedBy r.frames (length r.lines) r.clock e line x y
    → is_settle e ≡ false → FeedBecame (feed_view x r) (feed_view y (noted e line r))
entry_became e line x y r n c not_settle =
    one_became e line x y y r (noted e line r) n c (card_stays y) refl refl refl refl (not_over e r.ended n.not_ended not_settle)

pub settle_became : (e : Entry) (line : EntryLine) (x y z : CardView) (r : ReplayView) (waiting : ℕ) → NextIs e r → CarriedBy r.frames (length r.lines) r.clock e line x y
    → CardStays y z → is_settle e ≡ true → FeedBecame (feed_view x r) (feed_view z (over waiting (noted e line r)))
settle_became e line x y z r waiting n c stays settle =
    one_became e line x y z r (over waiting (noted e line r)) n c stays refl refl refl refl (is_over e r.ended settle)

pub none_became : (x y : CardView) (r : ReplayView) (waiting : ℕ) → CardStays x y → FeedBecame (feed_view x r) (feed_view y (record r { waiting = waiting }))
none_became x y r waiting stays = record {
  entries = refl;
  frames = refl;
  carried = [];
  told = [];
  left = refl;
  lines = sym (append-nil r.lines);
  clock = refl;
  epoch = tt;
  ended = refl;
  fed = stays;
  rings = cards_stay_rings x y stays;
}

-- ## What is answered
answers_open : (a b : Bool) (v w m n : ℕ) → a ≡ false → b ≡ false → m ≡ n → ◌≡◌ {A = Turn} (Worked m) (if b && w == 0 then Ended n else if a && v == w then Idle else Worked n)
answers_open false false v w m n p q e = ap Worked e
answers_open true b v w m n p q e = absurd (cc)
answers_open false true v w m n p q e = absurd (cc)

answers_none : (a b : Bool) (v w m n : ℕ) → b ≡ true → m ≡ n → w ≡ 0 → ◌≡◌ {A = Turn} (Ended m) (if b && w == 0 then Ended n else if a && v == w then Idle else Worked n)
answers_none a false v w m n q e z = absurd (cc)
answers_none a true v w m n q e z = ap Ended e ∙ ap (λ k. if k == 0 then Ended n else if a && v == k then Idle else Worked n) (sym z)

some_wait : (w : ℕ) → (w ≡ 0 → ⊥) → (w == 0) ≡ false
some_wait w some = grind (arith, nat_tests)

answers_some : (a b : Bool) (v w m n : ℕ) → a ≡ false → b ≡ true → m ≡ n → (w ≡ 0 → ⊥)
    → ◌≡◌ {A = Turn} (Worked m) (if b && w == 0 then Ended n else if a && v == w then Idle else Worked n)
answers_some false true v w m n p q e some = ap Worked e ∙ ap (λ c. if c then Ended n else Worked n) (sym (some_wait w some))
answers_some true b v w m n p q e some = absurd (cc)
answers_some false false v w m n p q e some = absurd (cc)

next_frames : (e : Entry) (x : CardView) (r : ReplayView) (n : ℕ) → NextIs e r → n ≡ (if is_frame e then 1 else 0) → n ≡ frames_next r.ended (left_of r)
next_frames e x r n next is =
    is ∙ ap (λ (b : Bool). frames_next b (e ∷ behind_next r)) (sym next.not_ended) ∙ ap (frames_next r.ended) (sym (left_is e r next))

one_more : (e : Entry) (line : EntryLine) (r : ReplayView) → NextIs e r → length (r.lines ++ line ∷ []) ≡ (if r.ended then length r.lines else suc (length r.lines))
one_more e line r n = omega (arith, length-append r.lines (line ∷ [])) ∙ ap (λ (b : Bool). if b then length r.lines else suc (length r.lines)) (sym n.not_ended)

pub entry_turned : (e : Entry) (line : EntryLine) (x y : CardView) (r : ReplayView) (frames : ℕ) → NextIs e r → CarriedBy r.frames (length r.lines) r.clock e line x y
    → frames ≡ (if is_frame e then 1 else 0) → FeedTurned (Worked frames) (feed_view x r) (feed_view y (noted e line r))
entry_turned e line x y r frames n c is = record {
  count = one_more e line r n;
  answer_is = answers_open r.ended r.ended (all_waiting x.ports) (all_waiting y.ports) frames (frames_next r.ended (left_of r)) n.not_ended n.not_ended (next_frames e x r frames n is);
  retried = λ i d lt. calls_retried r.frames (length r.lines) r.clock e line x y c.call i d (subst (λ k. i < k) c.entry.count lt);
}

pub settle_ended : (e : Entry) (line : EntryLine) (x y z : CardView) (r : ReplayView) (waiting frames : ℕ) → NextIs e r → AllPut (λ i. None) y z → waiting ≡ all_waiting z.ports
    → frames ≡ (if is_frame e then 1 else 0) → waiting ≡ 0 → FeedTurned (Ended frames) (feed_view x r) (feed_view z (over waiting (noted e line r)))
settle_ended e line x y z r waiting frames n put waits is none = record {
  count = one_more e line r n;
  answer_is = answers_none r.ended true (all_waiting x.ports) (all_waiting z.ports) frames (frames_next r.ended (left_of r)) refl (next_frames e x r frames n is) (sym waits ∙ none);
  retried = λ i d lt. (put.rings i d (subst (λ k. i < k) put.count lt)).stops;
}

pub settle_worked : (e : Entry) (line : EntryLine) (x y z : CardView) (r : ReplayView) (waiting frames : ℕ) → NextIs e r → AllPut (λ i. None) y z → waiting ≡ all_waiting z.ports
    → frames ≡ (if is_frame e then 1 else 0) → (waiting ≡ 0 → ⊥) → FeedTurned (Worked frames) (feed_view x r) (feed_view z (over waiting (noted e line r)))
settle_worked e line x y z r waiting frames n put waits is some = record {
  count = one_more e line r n;
  answer_is = answers_some r.ended true (all_waiting x.ports) (all_waiting z.ports) frames (frames_next r.ended (left_of r)) n.not_ended refl (next_frames e x r frames n is) (λ z. some (waits ∙ z));
  retried = λ i d lt. (put.rings i d (subst (λ k. i < k) put.count lt)).stops;
}

-- ## The number that a line can tell
pub some_port : (ports : List PortView) (n : ℕ) → n < length ports → PortView
some_port [] n lt = absurd (omega arith)
some_port (p ∷ ports) n lt = p

pub told_offer : (w : WireNo) (frame : List ℕ) (answer : Offer) (x y : CardView) → Offered w frame answer x y → PortView → length frame < 2 ^ 32 → CanBeTold answer
told_offer w frame (TooLong len) x y o d size = let is = (o.ring d).0 in subst (λ n. n < 2 ^ 32) (sym is) size
told_offer w frame (RingFull ring group items) x y o d size = tt
told_offer w frame (NoBuffer ring group frames) x y o d size = tt
told_offer w frame (Accepted ring group buf) x y o d size = tt
