-- What the card keeps over a call, and what its answers say.
use Rattle.std.proofs.Common.{◌≡◌, ◌≢◌, ◌<◌, ◌≤◌, ℕ, List, length, get_or, false, None, refl, ap, sym, subst, ◌∙◌, inl, inr, arith}
use Rattle.std.proofs.lemmas.Bool.{cases_eq}
use Rattle.std.proofs.lemmas.List.Sums.{get_or-le-sum_by}
use Rattle.ix_base.specs.declared.id.CoreId.{CoreId}
use Rattle.ix_base.specs.declared.id.GroupId.{GroupId}
use Rattle.ix_base.specs.declared.id.WireNo.{WireNo}
use Rattle.ix_base.specs.declared.id.TheConstants.{BUFFER_BYTES}
use Rattle.ix_reta.specs.Table.{Table}
use Rattle.ix_steer.specs.Steering.{group_of_frame, group_of_frame-below}
use Rattle.ix_nic.specs.declared.control.Control.{Control}
use Rattle.ix_nic.specs.declared.control.Control.TheVariants as controls
use Rattle.ix_nic.specs.declared.offer.Offer.{Offer}
use Rattle.ix_nic.specs.declared.offer.Offer.TheVariants.{TooLong}
use Rattle.ix_nic.specs.Cards.{IsCard, HaveRoom, HaveRoomFor, AreOpen, Carries, Offered, all_waiting, core_at}
use Rattle.ix_nic.specs.Offers.{Answers}
use Rattle.ix_nic.specs.Ports.{PortView, Puts, IsRetried}
use Rattle.ix_nic.proofs.Answered.{answers_after}

pub have_room : (control : Control) (ports : List PortView) → HaveRoom ports → HaveRoomFor control ports
have_room control ports h = λ r d lt some. h r d lt

pub few_wait : (ports : List PortView) → all_waiting ports < 1024 → HaveRoom ports
few_wait ports few = λ r d lt. let one = get_or-le-sum_by (λ (p : PortView). length p.behind) ports r d lt in omega (arith, one)

pub no_item : (ports : List PortView) → HaveRoomFor controls.Nothing ports
no_item ports = λ r d lt some. absurd (cc)

pub card_kept : (table : Table) (n m : ℕ) → IsCard table n → m ≡ n → IsCard table m
card_kept table n m card same = subst (IsCard table) (sym same) card

pub card_turned : (old new : Table) (n m : ℕ) (group : GroupId) (to : CoreId) → IsCard old n → m ≡ n → to.0 < n → core_at new group.0 ≡ to
    → ((g : ℕ) → g ≢ group.0 → core_at new g ≡ core_at old g) → IsCard new m
card_turned old new n m group to card same below core others = record {
  some = subst (λ k. 1 ≤ k) (sym same) card.some;
  few = subst (λ k. k ≤ 8) (sym same) card.few;
  within = λ g lt.
      subst (λ k. (core_at new g).0 < k) (sym same)
      (elim (cases_eq g group.0) [
        | inl is ↦ subst (λ (c : CoreId). c.0 < n) (sym (ap (core_at new) is ∙ core)) below
        | inr other ↦ subst (λ (c : CoreId). c.0 < n) (sym (others g other)) (card.within g lt)
      ]);
}

-- ## A frame
pub ring_within : (table : Table) (ports mid : List PortView) (g : ℕ) (ring : CoreId) → IsCard table (length ports) → g < 512 → ring ≡ core_at table g
    → Carries controls.Nothing ports mid → ring.0 < length mid
ring_within table ports mid g ring card below is carries =
    subst (λ n. ring.0 < n) (sym carries.count) (subst (λ (c : CoreId). c.0 < length ports) (sym is) (card.within g below))

pub still_open : (ports mid : List PortView) (ring : ℕ) → AreOpen ports → Carries controls.Nothing ports mid → ring < length mid → (d : PortView)
    → (get_or mid ring d).ended ≡ false
still_open ports mid ring are carries lt d =
    let within = subst (λ n. ring < n) carries.count lt in
    ap (λ (p : PortView). p.ended) (carries.rings ring d within).rest ∙ are ring d within

pub is_retried : (ports mid : List PortView) (ring : ℕ) → Carries controls.Nothing ports mid → ring < length mid → (d : PortView) → IsRetried (get_or mid ring d)
is_retried ports mid ring carries lt d = (carries.rings ring d (subst (λ n. ring < n) carries.count lt)).stops

pub offered_is : (w : WireNo) (frame : List ℕ) (answer : Offer) (table : Table) (ports mid new : List PortView) (g : ℕ) (ring : CoreId)
    → Carries controls.Nothing ports mid → g ≡ group_of_frame frame → ring ≡ core_at table g → ring.0 < length mid → length new ≡ length mid
    → ((r : ℕ) (d : PortView) → r ≢ ring.0 → get_or new r d ≡ get_or mid r d)
    → ((d : PortView) → Answers w g ring frame answer (get_or mid ring.0 d) (get_or new ring.0 d))
    → Offered w frame answer (record { table = table; ports = ports }) (record { table = table; ports = new })
offered_is w frame answer table ports mid new g ring carries g_is ring_is lt same others answers =
    let e : ring ≡ core_at table (group_of_frame frame) = ring_is ∙ ap (core_at table) g_is in
    record {
      table = refl;
      count = same ∙ carries.count;
      others = λ r d within other.
          subst (λ (y : PortView). Puts None (get_or ports r d) y) (sym (others r d (λ is. other (is ∙ ap (λ (c : CoreId). c.0) e)))) (carries.rings r d within);
      ring = λ d.
          subst (λ (c : CoreId). Answers w (group_of_frame frame) c frame answer (get_or ports c.0 d) (get_or new c.0 d)) e
          (subst (λ n. Answers w n ring frame answer (get_or ports ring.0 d) (get_or new ring.0 d)) g_is
          (answers_after (get_or ports ring.0 d) (get_or mid ring.0 d) (get_or new ring.0 d) (carries.rings ring.0 d (subst (λ n. ring.0 < n) carries.count lt))
          w g ring frame answer (answers d)));
    }

pub too_long : (w : WireNo) (frame : List ℕ) (len : ℕ) (table : Table) (ports new : List PortView) → IsCard table (length ports)
    → Carries controls.Nothing ports new → len ≡ length frame → BUFFER_BYTES < length frame
    → Offered w frame (TooLong len) (record { table = table; ports = ports }) (record { table = table; ports = new })
too_long w frame len table ports new card carries len_is long = record {
  table = refl;
  count = carries.count;
  others = λ r d within other. carries.rings r d within;
  ring = λ d. (len_is, long, carries.rings (core_at table (group_of_frame frame)).0 d (card.within (group_of_frame frame) (group_of_frame-below frame)));
}
