-- A card of three rings to which no end was put, over a call.
use Rattle.std.proofs.Common.{◌≡◌, ◌<◌, ◌%◌, ℕ, zero, suc, List, [], ◌∷◌, map, Bool, false, None, Some, length, get_or, refl, ap, sym, subst, ◌∙◌, inl, inr, arith}
use Rattle.std.proofs.lemmas.Bool.{cases_eq}
use Rattle.std.proofs.lemmas.Nat.{mod_below}
use Rattle.std.specs.Prelude.{Option}
use Rattle.ix_mbuf.specs.Buffers.{Buffer}
use Rattle.ix_ring.specs.Views.{PutView, TakeView}
use Rattle.ix_stack.specs.declared.item.Item.{Item}
use Rattle.ix_order.specs.Wire.{Entry}
use Rattle.ix_nic.specs.declared.offer.Offer.{Offer}
use Rattle.ix_nic.specs.declared.offer.Offer.TheVariants.{TooLong, RingFull, NoBuffer, Accepted}
use Rattle.ix_reta.specs.Table.{core_from}
use Rattle.ix_nic.specs.declared.port.NicEnd.{NicEnd}
use Rattle.ix_nic.specs.Cards.{CardView, IsAtRest, AreAtRest, IsUnused, opened, AreOpen, ChangesOne, core_at}
use Rattle.ix_nic.specs.Offers.{TakesPosted, BothMeet}
use Rattle.ix_nic.specs.Ports.{PortView, Puts}
use Rattle.ix_nic.specs.Words.{CarriesOut, ended_after, offered}

pub open_after : (e : Entry) (w : ℕ) (old new : CardView) → CarriesOut e w old new → ((b : Bool) → ended_after e b ≡ b) → AreOpen old.ports → AreOpen new.ports
open_after e w old new c same are = λ r d lt. let within = subst (λ n. r < n) c.count lt in c.ends r d within ∙ same _ ∙ are r d within

pub open_retried : (old new : List PortView) → length new ≡ length old → ((r : ℕ) (d : PortView) → r < length old → Puts None (get_or old r d) (get_or new r d))
    → AreOpen old → AreOpen new
open_retried old new count rings are = λ r d lt.
    let within = subst (λ n. r < n) count lt in
    ap (λ (p : PortView). p.ended) (rings r d within).rest ∙ are r d within

-- a frame is no end
pub frame_ends : (g : ℕ) (answer : Offer) (b : Bool) → ended_after (offered g answer) b ≡ b
frame_ends g (TooLong len) b = refl
frame_ends g (RingFull ring group items) b = refl
frame_ends g (NoBuffer ring group frames) b = refl
frame_ends g (Accepted ring group buf) b = refl

pub open_changed : (core : ℕ) (old new : CardView) → ChangesOne core old new → ((d : PortView) → (get_or new.ports core d).ended ≡ (get_or old.ports core d).ended)
    → AreOpen old.ports → AreOpen new.ports
open_changed core old new c same are = λ r d lt.
    let within = subst (λ n. r < n) c.count lt in
    elim (cases_eq r core) [
      | inl is ↦
          subst (λ n. (get_or new.ports n d).ended ≡ false) (sym is) (same d ∙ are core d (subst (λ n. n < length old.ports) is within))
      | inr other ↦ ap (λ (p : PortView). p.ended) (c.others r d other) ∙ are r d within
    ]

pub posted_ends : (answer : Option Buffer) (p q : PortView) → TakesPosted answer p q → q.ended ≡ p.ended
posted_ends None p q t = ap (λ (x : PortView). x.ended) t.0
posted_ends (Some buf) p q t = ap (λ (x : PortView). x.ended) t.0

-- the groups at the opening
pub spread_within : (live room group : ℕ) → 0 < live → (core_at (record { live = live; turns = []; room = room }) group).0 < live
unfolding core_from
spread_within live room group some = mod_below (group % 128) live some

pub opened_count : (ends : List NicEnd) → length (map opened ends) ≡ length ends
opened_count [] = refl
opened_count (e ∷ es) = let rest = opened_count es in omega (arith, rest)

pub opened_open : (ends : List NicEnd) (r : ℕ) (d : PortView) → r < length (map opened ends) → (get_or (map opened ends) r d).ended ≡ false
opened_open [] r d lt = absurd (omega arith)
opened_open (e ∷ es) zero d lt = refl
opened_open (e ∷ es) (suc r) d lt = opened_open es r d (omega (arith, lt))

-- a ring that met its other end and on which nothing was put
pub rests : (e : NicEnd) (old new : List PortView) (items items' : TakeView Item) (posted posted' : PutView Buffer) → old ≡ opened e ∷ [] → IsUnused e
    → length new ≡ length old → ((d : PortView) → BothMeet (get_or old 0 d) (get_or new 0 d) items items' posted posted') → AreAtRest new
rests e old new items items' posted posted' is unused count met = λ r d lt.
    let one : length new ≡ 1 = count ∙ ap length is in
    let first : 0 ≡ r = omega (arith, lt, one) in
    let m = subst (λ (ports : List PortView). BothMeet (get_or ports 0 d) (get_or new 0 d) items items' posted posted') is (met d) in
    subst (λ n. IsAtRest (get_or new n d)) first
    (record { none = ap (λ (p : PortView). p.behind) m.rest; room = omega (arith, m.items_meet.no_less, unused.room) })
