-- Turns one after the other.
use Rattle.std.proofs.Common.{◌≡◌, ◌<◌, ◌+◌, ℕ, suc, Bool, List, [], ◌∷◌, ◌++◌, length, get_or, refl, sym, ap, subst, ◌∙◌, append_assoc, append-nil, length-append, arith}
use Rattle.std.specs.Prelude.{fold}
use Rattle.std.proofs.lemmas.List.Sums.{fold-append}
use Rattle.ix_lines.specs.declared.types.EntryLine.{EntryLine}
use Rattle.ix_nic.specs.Cards.{CardView}
use Rattle.ix_nic.specs.Ports.{PortView, PutsOn}
use Rattle.ix_mbuf.specs.Buffers.{Buffer}
use Rattle.ix_ring.specs.Ends.{known}
use Rattle.ix_ring.specs.Views.{PutView, TakeView}
use Rattle.ix_stack.specs.declared.item.Item.{Item}
use Rattle.ix_wire.specs.declared.entry.Entry.{Entry}
use Rattle.ix_wire.specs.Entries.{EachAllowed, clock_by}
use Rattle.ix_feed.specs.Feeding.{CardStays, Feeds, PortStays, PostsStay}
use Rattle.ix_feed.specs.Replays.{FeedView, ReplayView, feed_view, left_of}
use Rattle.ix_feed.specs.Turns.{FeedBecame, SamePortRings, SameRings, comes_before_the_end, ended_by}

-- ## A card that only put what stood behind its rings
puts_join : (p q s : PutView Item) → PutsOn p q → PutsOn q s → PutsOn p s
puts_join p q s a b = record {
  same = (b.same.0 ∙ a.same.0, b.same.1 ∙ a.same.1);
  items = a.items ++ b.items;
  put = b.put ∙ ap (λ (xs : List Item). xs ++ b.items) a.put ∙ append_assoc p.put a.items b.items;
}

pub posts_stay : (t : TakeView Buffer) → PostsStay t t
posts_stay t = record { same = refl; took = refl; more = ([], append-nil (known t)) }

posts_join : (t u v : TakeView Buffer) → PostsStay t u → PostsStay u v → PostsStay t v
posts_join t u v a b = record {
  same = b.same ∙ a.same;
  took = b.took ∙ a.took;
  more = (a.more.0 ++ b.more.0, sym (append_assoc (known t) a.more.0 b.more.0) ∙ ap (λ (xs : List Buffer). xs ++ b.more.0) a.more.1 ∙ b.more.1);
}

port_stays : (p : PortView) → PortStays p p
port_stays p = record { ring = record { same = (refl, refl); items = []; put = sym (append-nil p.ring.put) }; whole = refl; posts = posts_stay p.posts; rest = refl }

ports_join : (p q s : PortView) → PortStays p q → PortStays q s → PortStays p s
ports_join p q s a b = record {
  ring = puts_join p.ring q.ring s.ring a.ring b.ring;
  whole = b.whole ∙ a.whole;
  posts = posts_join p.posts q.posts s.posts a.posts b.posts;
  rest = b.rest ∙ ap (λ (v : PortView). record v { ring = s.ring; behind = s.behind; posts = s.posts }) a.rest;
}

pub card_stays : (x : CardView) → CardStays x x
card_stays x = record { table = refl; count = refl; ports = λ r d lt. port_stays (get_or x.ports r d) }

pub cards_join : (x y z : CardView) → CardStays x y → CardStays y z → CardStays x z
cards_join x y z a b = record {
  table = b.table ∙ a.table;
  count = b.count ∙ a.count;
  ports = λ r d lt. ports_join (get_or x.ports r d) (get_or y.ports r d) (get_or z.ports r d) (a.ports r d lt) (b.ports r d (subst (λ n. r < n) (sym a.count) lt));
}

-- ## Entries that are carried out
pub stays_feeds : (frames : List (List ℕ)) (w clock : ℕ) (es : List Entry) (ls : List EntryLine) (x y z : CardView)
    → CardStays x y → Feeds frames w clock es ls y z → Feeds frames w clock es ls x z
stays_feeds frames w clock [] [] x y z a f = cards_join x y z a f
stays_feeds frames w clock [] (l ∷ ls) x y z a f = absurd f
stays_feeds frames w clock (e ∷ es) [] x y z a f = absurd f
stays_feeds frames w clock (e ∷ es) (l ∷ ls) x y z a f =
    (f.0, (record { before = f.1.0.before; stays = cards_join x y f.1.0.before a f.1.0.stays; carried = f.1.0.carried }, f.1.1))

pub feeds_join : (frames : List (List ℕ)) (w clock v : ℕ) (es fs : List Entry) (ls ms : List EntryLine) (x y z : CardView) → v ≡ w + length ls
    → Feeds frames w clock es ls x y → Feeds frames v (fold clock_by clock es) fs ms y z → Feeds frames w clock (es ++ fs) (ls ++ ms) x z
feeds_join frames w clock v [] fs [] ms x y z at a b =
    stays_feeds frames w clock fs ms x y z a (subst (λ n. Feeds frames n clock fs ms y z) (omega (arith, at)) b)
feeds_join frames w clock v [] fs (l ∷ ls) ms x y z at a b = absurd a
feeds_join frames w clock v (e ∷ es) fs [] ms x y z at a b = absurd a
feeds_join frames w clock v (e ∷ es) fs (l ∷ ls) ms x y z at a b =
    (a.0, (a.1.0, feeds_join frames (suc w) (clock_by clock e) v es fs ls ms a.0 y z (omega (arith, at)) a.1.1 b))

pub allowed_join : {S : Type 0} (allowed : S → Entry → Bool) (next : S → Entry → S) (s : S) (es fs : List Entry)
    → EachAllowed allowed next s es → EachAllowed allowed next (fold next s es) fs → EachAllowed allowed next s (es ++ fs)
allowed_join allowed next s [] fs a b = b
allowed_join allowed next s (e ∷ es) fs a b = (a.0, allowed_join allowed next (next s e) es fs a.1 b)

-- ## The rings
pub same_rings : (x : CardView) → SameRings x x
same_rings x = record { count = refl; ports = λ r d lt. record { items = (refl, refl); posts = refl } }

port_rings_join : (p q s : PortView) → SamePortRings p q → SamePortRings q s → SamePortRings p s
port_rings_join p q s a b = record { items = (b.items.0 ∙ a.items.0, b.items.1 ∙ a.items.1); posts = b.posts ∙ a.posts }

pub rings_join : (x y z : CardView) → SameRings x y → SameRings y z → SameRings x z
rings_join x y z a b = record {
  count = b.count ∙ a.count;
  ports = λ r d lt. port_rings_join (get_or x.ports r d) (get_or y.ports r d) (get_or z.ports r d) (a.ports r d lt) (b.ports r d (subst (λ n. r < n) (sym a.count) lt));
}

-- ## Turns
pub feed_stays : (x : FeedView) → FeedBecame x x
feed_stays x = record {
  entries = refl;
  frames = refl;
  carried = [];
  told = [];
  left = refl;
  lines = sym (append-nil x.replay.lines);
  clock = refl;
  epoch = tt;
  ended = refl;
  fed = card_stays x.card;
  rings = same_rings x.card;
}

pub feed_joins : (x y z : FeedView) → FeedBecame x y → FeedBecame y z → FeedBecame x z
feed_joins x y z p q = record {
  entries = q.entries ∙ p.entries;
  frames = q.frames ∙ p.frames;
  carried = p.carried ++ q.carried;
  told = p.told ++ q.told;
  left = p.left ∙ ap (λ (es : List Entry). p.carried ++ es) q.left ∙ sym (append_assoc p.carried q.carried (left_of z.replay));
  lines = q.lines ∙ ap (λ (ls : List EntryLine). ls ++ q.told) p.lines ∙ append_assoc x.replay.lines p.told q.told;
  clock = q.clock ∙ ap (λ n. fold clock_by n q.carried) p.clock ∙ sym (fold-append clock_by x.replay.clock p.carried q.carried);
  epoch = allowed_join comes_before_the_end ended_by x.replay.ended p.carried q.carried p.epoch
      (subst (λ b. EachAllowed comes_before_the_end ended_by b q.carried) p.ended q.epoch);
  ended = q.ended ∙ ap (λ b. fold ended_by b q.carried) p.ended ∙ sym (fold-append ended_by x.replay.ended p.carried q.carried);
  fed = feeds_join x.replay.frames (length x.replay.lines) x.replay.clock (length y.replay.lines) p.carried q.carried p.told q.told x.card y.card z.card
      (ap length p.lines ∙ length-append x.replay.lines p.told)
      p.fed
      (subst (λ (fr : List (List ℕ)). Feeds fr (length y.replay.lines) (fold clock_by x.replay.clock p.carried) q.carried q.told y.card z.card) p.frames
      (subst (λ c. Feeds y.replay.frames (length y.replay.lines) c q.carried q.told y.card z.card) p.clock q.fed));
  rings = rings_join x.card y.card z.card p.rings q.rings;
}

-- a meeting of the card with its cores carries out no entry
pub feed_meets : (x y : CardView) (r : ReplayView) → CardStays x y → FeedBecame (feed_view x r) (feed_view y r)
feed_meets x y r stays = record {
  entries = refl;
  frames = refl;
  carried = [];
  told = [];
  left = refl;
  lines = sym (append-nil r.lines);
  clock = refl;
  epoch = tt;
  ended = refl;
  fed = stays;
  rings = record { count = stays.count; ports = λ c d lt. let one = stays.ports c d lt in record { items = one.ring.same; posts = one.posts.same } };
}
