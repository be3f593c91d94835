-- What calls of the card and turns of the cores leave as it is.
use Rattle.std.proofs.Common.{◌≡◌, ◌≢◌, ◌<◌, ◌≤◌, ◌⊎◌, inl, inr, ℕ, zero, suc, Bool, Option, None, Some, List, [], ◌∷◌, ◌++◌, append-nil, length, get_or, set, take, drop, refl, ap, subst, ◌∙◌, arith}
use Rattle.std.proofs.Math.ListN.{length-set}
use Rattle.std.proofs.lemmas.Bool.{cases_eq, cases_lt}
use Rattle.std.proofs.lemmas.List.{get_or-set_other, get_or-set_same, drop_all, take_all}
use Rattle.ix_base.specs.declared.id.CoreId.{CoreId}
use Rattle.ix_base.specs.declared.id.WireNo.{WireNo}
use Rattle.ix_mbuf.specs.Buffers.{Buffer}
use Rattle.ix_order.specs.Wire.{Entry}
use Rattle.ix_ring.specs.Views.{TakeView}
use Rattle.ix_ring.specs.Ends.{SamePutEnd, SameTakeEnd}
use Rattle.ix_steer.specs.Steering.{group_of_frame}
use Rattle.ix_stack.specs.declared.item.Item.{Item}
use Rattle.ix_nic.specs.declared.offer.Offer.{Offer}
use Rattle.ix_nic.specs.declared.offer.Offer.TheVariants.{TooLong, RingFull, NoBuffer, Accepted}
use Rattle.ix_nic.specs.Cards.{AreOpen, CardView, Carries, Offered, core_at}
use Rattle.ix_nic.specs.Offers.{Answers, GivesBack, StandsBehind}
use Rattle.ix_nic.specs.Ports.{PortView, Puts, TakesNext}
use Rattle.ix_nic.specs.Words.{CarriesOut, ended_after, offered}
use Rattle.ix_core.specs.declared.turning.Core.{Core}
use Rattle.ix_core.specs.Cores.{SameEnds}
use Rattle.ix_core.specs.LinkRuns.{same_links}
use Rattle.ix_core.specs.Meeting.{CardLearned, CoresLearned}
use Rattle.ix_core.specs.Order.{SameCores, SameRings}
use Rattle.ix_drill.specs.Quiet.{ArePlaced}

beyond : {X : Type 0} (xs : List X) (i : ℕ) (d : X) → length xs ≤ i → get_or xs i d ≡ d
beyond [] i d le = refl
beyond (x ∷ xs) zero d le = absurd (omega arith)
beyond (x ∷ xs) (suc i) d le = beyond xs i d (omega arith)

any : {X : Type 0} (xs : List X) (i : ℕ) (d e : X) → i < length xs → get_or xs i d ≡ get_or xs i e
any [] i d e lt = absurd (omega arith)
any (x ∷ xs) zero d e lt = refl
any (x ∷ xs) (suc i) d e lt = any xs i d e (omega arith)

-- all elements of a vector that were lent and came back
pub lent_back : {X : Type 0} (n : ℕ) (old new : List X) → n ≡ length old → length new ≡ length old → take n (new ++ drop (length new) old) ≡ new
lent_back n old new is same =
    ap (λ l. take n (new ++ l)) (drop_all (length new) old (omega (arith, same))) ∙ ap (take n) (append-nil new) ∙ take_all n new (omega (arith, is, same))

-- ## The card's ends of rings
abbrev SamePort : PortView → PortView → Type 0
SamePort p q = SamePutEnd p.ring q.ring × SameTakeEnd p.posts q.posts

same_port : (p : PortView) → SamePort p p
same_port p = ((refl, refl), refl)

rings_same : (old new : CardView) → length new.ports ≡ length old.ports → ((r : ℕ) (d : PortView) → r < length old.ports → SamePort (get_or old.ports r d) (get_or new.ports r d)) → SameRings old new
rings_same old new count each = record { count = count; items = λ c p. (at c p (cases_lt c (length old.ports))).0; posts = λ c p. (at c p (cases_lt c (length old.ports))).1 } where
  at : (c : ℕ) (p : PortView) → (c < length old.ports) ⊎ (length old.ports ≤ c) → SamePort (get_or old.ports c p) (get_or new.ports c p)
  at c p (inl lt) = each c p lt
  at c p (inr le) = rw (beyond old.ports c p le, beyond new.ports c p (omega (arith, le, count))) (same_port p)

puts_same : (it : Option Item) (p q : PortView) → Puts it p q → SamePort p q
puts_same it p q so = (so.ring.same, ap (λ (v : PortView). v.posts.ring) so.rest)

pub carried : (control : _) (old new : CardView) → Carries control old.ports new.ports → SameRings old new
carried control old new so = rings_same old new so.count (λ r d lt. puts_same _ _ _ (so.rings r d lt))

next_same : (k : Option Buffer) (p : TakeView Buffer) (b : Buffer) (q : TakeView Buffer) → TakesNext k p b q → SameTakeEnd p q
next_same None p b q so = so.0
next_same (Some kept) p b q so = ap (λ (t : TakeView Buffer). t.ring) so.1

answers_same : (w : WireNo) (g : ℕ) (core : CoreId) (frame : List ℕ) (answer : Offer) (p q : PortView) → Answers w g core frame answer p q → SamePort p q
answers_same w g core frame (TooLong len) p q so = puts_same None p q so.2
answers_same w g core frame (RingFull ring group items) p q so = full so.4.cause where
  full : StandsBehind p q ⊎ GivesBack frame p q → SamePort p q
  full (inl it) = (it.ring.same, ap (λ (v : PortView). v.posts.ring) it.rest)
  full (inr it) = (it.ring.same, next_same _ _ _ _ it.takes)
answers_same w g core frame (NoBuffer ring group frames) p q so = let it = so.4 in (it.ring.same, ap (λ (v : PortView). v.posts.ring) it.rest)
answers_same w g core frame (Accepted ring group buf) p q so = let it = so.3 in (it.ring.same, next_same _ _ _ _ it.takes)

pub offered_same : (w : WireNo) (frame : List ℕ) (answer : Offer) (old new : CardView) → Offered w frame answer old new → SameRings old new
offered_same w frame answer old new so = rings_same old new so.count (λ r d lt. at r d lt (cases_eq r (core_at old.table (group_of_frame frame)).0)) where
  at : (r : ℕ) (d : PortView) → r < length old.ports → (r ≡ (core_at old.table (group_of_frame frame)).0) ⊎ (r ≢ (core_at old.table (group_of_frame frame)).0) → SamePort (get_or old.ports r d) (get_or new.ports r d)
  at r d lt (inl is) = rw is (answers_same w (group_of_frame frame) (core_at old.table (group_of_frame frame)) frame answer _ _ (so.ring d))
  at r d lt (inr apart) = puts_same None _ _ (so.others r d lt apart)

pub same_rings : (card : CardView) → SameRings card card
same_rings card = record { count = refl; items = λ c p. (refl, refl); posts = λ c p. refl }

pub learned : (old new : CardView) → CardLearned old new → SameRings old new
learned old new so = record { count = so.count; items = λ c p. (so.each c p).ring.ring; posts = λ c p. (so.each c p).posts.ring }

-- ## No end was put
pub open_after : (e : Entry) (w : ℕ) (old new : CardView) → CarriesOut e w old new → ((b : Bool) → ended_after e b ≡ b) → AreOpen old.ports → AreOpen new.ports
open_after e w old new c same are = λ r d lt. let within = subst (λ n. r < n) c.count lt in c.ends r d within ∙ same _ ∙ are r d within

pub open_retried : (old new : List PortView) → length new ≡ length old → ((r : ℕ) (d : PortView) → r < length old → Puts None (get_or old r d) (get_or new r d)) → AreOpen old → AreOpen new
open_retried old new count rings are = λ r d lt. let within = subst (λ n. r < n) count lt in ap (λ (p : PortView). p.ended) (rings r d within).rest ∙ are r d within

pub frame_ends : (g : ℕ) (answer : Offer) (b : Bool) → ended_after (offered g answer) b ≡ b
frame_ends g (TooLong len) b = refl
frame_ends g (RingFull ring group items) b = refl
frame_ends g (NoBuffer ring group frames) b = refl
frame_ends g (Accepted ring group buf) b = refl

pub open_learned : (old new : CardView) → CardLearned old new → AreOpen old.ports → AreOpen new.ports
open_learned old new so are = λ r d lt. ap (λ (p : PortView). p.ended) (so.each r d).rest ∙ are r d (subst (λ n. r < n) so.count lt)

module _ {U E : Type 0} where
  same_ends : (x : Core U E) → SameEnds x x
  same_ends x = record { home = refl; batch = refl; items = refl; posted = (refl, refl); links = same_links x.links.items }

  pub same_cores : (cores : List (Core U E)) → SameCores cores cores
  same_cores cores = record { count = refl; each = λ c d. same_ends (get_or cores c d) }

  -- one core made a turn
  pub stepped : (i : ℕ) (cores : List (Core U E)) (x y : Core U E) → i < length cores → x ≡ get_or cores i x → SameEnds x y → SameCores cores (set cores i y)
  stepped i cores x y lt read ends = record { count = length-set cores i y; each = λ c d. at c d (cases_eq c i) } where
    at : (c : ℕ) (d : Core U E) → (c ≡ i) ⊎ (c ≢ i) → SameEnds (get_or cores c d) (get_or (set cores i y) c d)
    at c d (inl is) = rw (is, get_or-set_same cores i y d lt) (subst (λ (k : Core U E). SameEnds k y) (read ∙ any cores i x d lt) ends)
    at c d (inr apart) = rw (get_or-set_other cores i c y d apart) (same_ends (get_or cores c d))

  -- all cores made turns
  pub all_stepped : (old new : List (Core U E)) → length new ≡ length old → ((c : ℕ) (d : Core U E) → c < length old → SameEnds (get_or old c d) (get_or new c d)) → SameCores old new
  all_stepped old new count each = record { count = count; each = λ c d. at c d (cases_lt c (length old)) } where
    at : (c : ℕ) (d : Core U E) → (c < length old) ⊎ (length old ≤ c) → SameEnds (get_or old c d) (get_or new c d)
    at c d (inl lt) = each c d lt
    at c d (inr le) = rw (beyond old c d le, beyond new c d (omega (arith, le, count))) (same_ends d)

  -- ## Rings keep their places
  pub placed_still : (card card' : CardView) (cores cores' : List (Core U E)) → ArePlaced card cores → SameRings card card' → SameCores cores cores' → ArePlaced card' cores'
  placed_still card card' cores cores' placed rings same c p d lt =
      let before = placed c p d (omega (arith, lt, same.count)) in
      ((rings.items c p).1 ∙ before.0, (same.each c d).posted.1 ∙ before.1)

  pub placed_learned : (card card' : CardView) (cores cores' : List (Core U E)) → ArePlaced card cores → CardLearned card card' → CoresLearned cores cores' → ArePlaced card' cores'
  placed_learned card card' cores cores' placed met same c p d lt =
      let before = placed c p d (omega (arith, lt, same.count)) in
      ((met.each c p).ring.ring.1 ∙ before.0, (same.each c d).posted.ring.1 ∙ before.1)
