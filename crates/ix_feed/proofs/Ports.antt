-- One ring, over a call of the card.
use Rattle.std.proofs.Common.{◌≡◌, ◌≤◌, ◌+◌, ℕ, List, [], ◌++◌, length, ap, sym, ◌∙◌, append-nil, length-append, subst, inl, inr, None, Some, arith}
use Rattle.std.specs.Prelude.{Option, option_to_list}
use Rattle.ix_base.specs.declared.id.CoreId.{CoreId}
use Rattle.ix_base.specs.declared.id.WireNo.{WireNo}
use Rattle.ix_mbuf.specs.Buffers.{Buffer}
use Rattle.ix_nic.specs.declared.offer.Offer.{Offer}
use Rattle.ix_nic.specs.declared.offer.Offer.TheVariants.{TooLong, RingFull, NoBuffer, Accepted}
use Rattle.ix_nic.specs.Offers.{Answers, IsFull}
use Rattle.ix_nic.specs.Ports.{IsRetried, PortView, Puts, PutsOn, TakesNext, whole}
use Rattle.ix_ring.specs.Ends.{SameTakeEnd}
use Rattle.ix_ring.specs.Views.{TakeView}
use Rattle.ix_stack.specs.declared.item.Item.{Item}
use Rattle.ix_feed.specs.Feeding.{PortStays, PostsStay}
use Rattle.ix_feed.specs.Laws.{posts_stay}
use Rattle.ix_feed.specs.Turns.{SamePortRings}

-- ## What stands behind a ring
option_length : {X : Type 0} (o : Option X) → length (option_to_list o) ≤ 1
option_length None = omega arith
option_length (Some x) = omega arith

behind_after : (p q : PortView) (items : List Item) → PutsOn p.ring q.ring → whole q ≡ whole p ++ items → length q.behind ≤ length p.behind + length items
behind_after p q items puts more =
    omega (
      arith,
      ap length more,
      ap length puts.put,
      length-append q.ring.put q.behind,
      length-append (p.ring.put ++ p.behind) items,
      length-append p.ring.put p.behind,
      length-append p.ring.put puts.items,
    )

pub puts_behind : (item : Option Item) (p q : PortView) → Puts item p q → length q.behind ≤ length p.behind + 1
puts_behind item p q puts = omega (arith, behind_after p q (option_to_list item) puts.ring puts.whole, option_length item)

none_behind : (p q : PortView) → Puts None p q → length q.behind ≤ length p.behind
none_behind p q puts = omega (arith, behind_after p q [] puts.ring puts.whole)

nothing_behind : (p q : PortView) → q.behind ≡ [] → length q.behind ≤ length p.behind
nothing_behind p q none = omega (arith, ap length none)

full_behind : (frame : List ℕ) (p q : PortView) → IsFull frame p q → length q.behind ≤ length p.behind
full_behind frame p q full =
    elim full.cause [
      | inl s ↦ omega (arith, behind_after p q [] s.ring (s.whole ∙ sym (append-nil (whole p))))
      | inr g ↦ nothing_behind p q (ap (λ (v : PortView). v.behind) g.rest)
    ]

pub answers_behind : (w : WireNo) (g : ℕ) (core : CoreId) (frame : List ℕ) (answer : Offer) (p q : PortView) → Answers w g core frame answer p q
    → length q.behind ≤ length p.behind
answers_behind w g core frame (TooLong len) p q a = none_behind p q a.2
answers_behind w g core frame (RingFull ring group items) p q a = full_behind frame p q a.4
answers_behind w g core frame (NoBuffer ring group frames) p q a = nothing_behind p q (ap (λ (v : PortView). v.behind) a.4.rest)
answers_behind w g core frame (Accepted ring group buf) p q a = nothing_behind p q (ap (λ (v : PortView). v.behind) a.3.rest)

pub puts_none_behind : (p q : PortView) → Puts None p q → length q.behind ≤ length p.behind
puts_none_behind p q puts = none_behind p q puts

-- ## What stands behind was put as far as the ring takes it
full_retried : (frame : List ℕ) (p q : PortView) → IsFull frame p q → IsRetried q
full_retried frame p q full =
    elim full.cause [
      | inl s ↦ inr s.full
      | inr g ↦ inr g.full
    ]

pub answers_retried : (w : WireNo) (g : ℕ) (core : CoreId) (frame : List ℕ) (answer : Offer) (p q : PortView) → Answers w g core frame answer p q → IsRetried q
answers_retried w g core frame (TooLong len) p q a = a.2.stops
answers_retried w g core frame (RingFull ring group items) p q a = full_retried frame p q a.4
answers_retried w g core frame (NoBuffer ring group frames) p q a = inl (ap (λ (v : PortView). v.behind) a.4.rest)
answers_retried w g core frame (Accepted ring group buf) p q a = inl (ap (λ (v : PortView). v.behind) a.3.rest)

-- ## The rings
same_posts : (p q : PortView) → q.posts ≡ p.posts → SameTakeEnd p.posts q.posts
same_posts p q same = ap (λ (v : TakeView Buffer). v.ring) same

pub puts_rings : (item : Option Item) (p q : PortView) → Puts item p q → SamePortRings p q
puts_rings item p q puts = record { items = puts.ring.same; posts = same_posts p q (ap (λ (v : PortView). v.posts) puts.rest) }

takes_rings : (kept : Option Buffer) (old new : TakeView Buffer) (buf : Buffer) → TakesNext kept old buf new → SameTakeEnd old new
takes_rings None old new buf takes = takes.0
takes_rings (Some b) old new buf takes = ap (λ (v : TakeView Buffer). v.ring) takes.1

full_rings : (frame : List ℕ) (p q : PortView) → IsFull frame p q → SamePortRings p q
full_rings frame p q full =
    elim full.cause [
      | inl s ↦ record { items = s.ring.same; posts = same_posts p q (ap (λ (v : PortView). v.posts) s.rest) }
      | inr g ↦ record { items = g.ring.same; posts = takes_rings p.kept p.posts q.posts g.buf g.takes }
    ]

pub answers_rings : (w : WireNo) (g : ℕ) (core : CoreId) (frame : List ℕ) (answer : Offer) (p q : PortView) → Answers w g core frame answer p q → SamePortRings p q
answers_rings w g core frame (TooLong len) p q a = puts_rings None p q a.2
answers_rings w g core frame (RingFull ring group items) p q a = full_rings frame p q a.4
answers_rings w g core frame (NoBuffer ring group frames) p q a =
    record { items = a.4.ring.same; posts = same_posts p q (ap (λ (v : PortView). v.posts) a.4.rest) }
answers_rings w g core frame (Accepted ring group buf) p q a =
    record { items = a.3.ring.same; posts = takes_rings p.kept p.posts q.posts a.3.buf a.3.takes }

-- ## No entry
pub none_stays : (p q : PortView) → Puts None p q → PortStays p q
none_stays p q puts =
    let same : q.posts ≡ p.posts = ap (λ (v : PortView). v.posts) puts.rest in
    record {
      ring = puts.ring;
      whole = puts.whole ∙ append-nil (whole p);
      posts = subst (λ (t : TakeView Buffer). PostsStay p.posts t) (sym same) (posts_stay p.posts);
      rest = puts.rest ∙ ap (λ (t : TakeView Buffer). record p { ring = q.ring; behind = q.behind; posts = t }) (sym same);
    }

pub stays_rings : (p q : PortView) → PortStays p q → SamePortRings p q
stays_rings p q s = record { items = s.ring.same; posts = s.posts.same }
