-- What stands on the rings, in the words of the law on pieces.
use Rattle.std.proofs.Common.{◌≡◌, ◌<◌, ℕ, suc, List, [], ◌∷◌, ◌++◌, map, get_or, refl, ap, sym, subst, ◌∙◌, arith}
use Rattle.ix_base.specs.declared.id.BufId.{BufId}
use Rattle.ix_lines.specs.declared.types.EntryLine.{EntryLine}
use Rattle.ix_mbuf.specs.Buffers.{Buffer, buffers_weight}
use Rattle.ix_mbuf.specs.Owners.{maybe}
use Rattle.ix_nic.specs.Cards.{CardView}
use Rattle.ix_nic.specs.Entries.{AreCarriedOut, CarryOut, EntriesAreCarriedOut}
use Rattle.ix_nic.specs.Held.{Conserves, held_weight, taken_weight}
use Rattle.ix_nic.specs.Ports.{PortView, whole}
use Rattle.ix_nic.specs.Words.{CarriesOut, ended_after, seats, word, words_on}
use Rattle.ix_order.specs.Wire.{RingIs, RingsAre, put_by, put_on, turned}
use Rattle.ix_order.specs.Wire as order
use Rattle.ix_reta.specs.Table.{Table}
use Rattle.ix_stack.specs.Items.{items_weight}
use Rattle.ix_wire.specs.declared.entry.Entry.{Entry}
use Rattle.ix_feed.specs.Feeding.{CardStays, Feeds, PortStays, entry_of}

port_held : (f : BufId → ℕ) (p q : PortView) → PortStays p q → held_weight f q ≡ held_weight f p
port_held f p q s =
    let on : items_weight (λ n. f n.id) (whole q) ≡ items_weight (λ n. f n.id) (whole p) = ap (items_weight (λ n. f n.id)) s.whole in
    let kept : maybe (λ (b : Buffer). f b.name.id) q.kept ≡ maybe (λ (b : Buffer). f b.name.id) p.kept = ap (λ (v : PortView). maybe (λ (b : Buffer). f b.name.id) v.kept) s.rest in
    omega (arith, on, kept)

port_took : (f : BufId → ℕ) (p q : PortView) → PortStays p q → taken_weight f q ≡ taken_weight f p
port_took f p q s = ap (buffers_weight (λ n. f n.id)) s.posts.took

conserve_before : (f : BufId → ℕ) (p m q : PortView) → PortStays p m → Conserves f m q → Conserves f p q
conserve_before f p m q s c = omega (arith, c, port_held f p m s, port_took f p m s)

conserve_after : (f : BufId → ℕ) (p m q : PortView) → Conserves f p m → PortStays m q → Conserves f p q
conserve_after f p m q c s = omega (arith, c, port_held f m q s, port_took f m q s)

same_words : (p q : PortView) → PortStays p q → words_on q ≡ words_on p
same_words p q s = ap (map word) s.whole

pub stays_carries : (e : order.Entry) (w : ℕ) (x b y : CardView) → CardStays x b → CarriesOut e w b y → CarriesOut e w x y
stays_carries e w x b y s c = record {
  count = c.count ∙ s.count;
  rings = λ r d lt.
      c.rings r d (subst (λ n. r < n) (sym s.count) lt)
      ∙ ap (λ (ws : List order.Item). ws ++ put_by r (seats b.table) w e) (same_words _ _ (s.ports r d lt))
      ∙ ap (λ (t : Table). words_on (get_or x.ports r d) ++ put_by r (seats t) w e) s.table;
  ends = λ r d lt.
      c.ends r d (subst (λ n. r < n) (sym s.count) lt) ∙ ap (λ (p : PortView). ended_after e p.ended) (s.ports r d lt).rest;
  placed = subst (λ (t : Table). RingIs (seats t) e) s.table c.placed;
  table = λ g. c.table g ∙ ap (λ (t : Table). turned (seats t) e g) s.table;
  buffers = record {
    same = λ f r d lt. conserve_before f (get_or x.ports r d) (get_or b.ports r d) (get_or y.ports r d) (s.ports r d lt) (c.buffers.same f r d (subst (λ n. r < n) (sym s.count) lt));
  };
}

pub stays_after : (es : List order.Entry) (w : ℕ) (x m y : CardView) → AreCarriedOut es w x m → CardStays m y → AreCarriedOut es w x y
stays_after es w x m y a s = record {
  count = s.count ∙ a.count;
  rings = λ r d lt. same_words _ _ (s.ports r d (subst (λ n. r < n) (sym a.count) lt)) ∙ a.rings r d lt;
  placed = a.placed;
  table = λ g. ap (λ (t : Table). seats t g) s.table ∙ a.table g;
  buffers = record {
    same = λ f r d lt. conserve_after f (get_or x.ports r d) (get_or m.ports r d) (get_or y.ports r d) (a.buffers.same f r d lt) (s.ports r d (subst (λ n. r < n) (sym a.count) lt));
  };
}

-- the calls alone, and what was put behind them
record Out (es : List order.Entry) (w : ℕ) (x y : CardView) : Type 0 where
  mid : CardView
  carry : CarryOut es w x mid
  stays : CardStays mid y

calls_out : (frames : List (List ℕ)) (w clock : ℕ) (es : List Entry) (ls : List EntryLine) (x y : CardView) → Feeds frames w clock es ls x y → Out (map entry_of ls) w x y
calls_out frames w clock [] [] x y f = record { mid = x; carry = refl; stays = f }
calls_out frames w clock [] (l ∷ ls) x y f = absurd f
calls_out frames w clock (e ∷ es) [] x y f = absurd f
calls_out frames w clock (e ∷ es) (l ∷ ls) x y f =
    let rest = calls_out frames (suc w) _ es ls f.0 y f.1.1 in
    record {
      mid = rest.mid;
      carry = (f.0, (stays_carries (entry_of l) w x f.1.0.before f.0 f.1.0.stays f.1.0.carried.entry, rest.carry));
      stays = rest.stays;
    }

pub feeds_out : EntriesAreCarriedOut → (frames : List (List ℕ)) (w clock : ℕ) (es : List Entry) (ls : List EntryLine) (x y : CardView) → Feeds frames w clock es ls x y
    → AreCarriedOut (map entry_of ls) w x y
feeds_out law frames w clock es ls x y f =
    let out = calls_out frames w clock es ls x y f in stays_after (map entry_of ls) w x out.mid y (law (map entry_of ls) w x out.mid out.carry) out.stays
