-- What a meeting is for a card that is fed.
use Rattle.std.proofs.Common.{◌≡◌, ◌++◌, [], length, get_or, sym, ap, ◌∙◌, append-nil}
use Rattle.ix_ring.specs.Ends.{put_list}
use Rattle.ix_nic.specs.Cards.{CardView, all_waiting}
use Rattle.ix_nic.specs.Ports.{PortView}
use Rattle.ix_feed.specs.Feeding.{CardStays, PortStays}
use Rattle.ix_feed.specs.Told.{CardMet}
use Rattle.ix_core.specs.Meeting.{CardLearned, PortLearned}
use Rattle.ix_epochs.proofs.Places.{sums_same}

pub card_met : (x y : CardView) → CardLearned x y → CardMet x y
card_met x y so = record {
  table = so.table;
  count = so.count;
  ports = λ r d lt. record { behind = ap (λ (p : PortView). p.behind) (so.each r d).rest; ended = ap (λ (p : PortView). p.ended) (so.each r d).rest };
}

port_stays : (p q : PortView) → PortLearned p q → PortStays p q
port_stays p q so =
    let behind : q.behind ≡ p.behind = ap (λ (v : PortView). v.behind) so.rest in
    record {
      ring = record { same = so.ring.ring; items = []; put = so.ring.puts ∙ sym (append-nil (put_list p.ring)) };
      whole = ap (λ l. l ++ q.behind) so.ring.puts ∙ ap (λ l. put_list p.ring ++ l) behind;
      posts = record { same = so.posts.ring; took = so.posts.took; more = so.posts.more };
      rest = so.rest ∙ ap (λ l. record p { ring = q.ring; behind = l; posts = q.posts }) (sym behind);
    }

pub card_stays : (x y : CardView) → CardLearned x y → CardStays x y
card_stays x y so = record { table = so.table; count = so.count; ports = λ r d lt. port_stays (get_or x.ports r d) (get_or y.ports r d) (so.each r d) }

pub waits_same : (x y : CardView) → CardLearned x y → all_waiting y.ports ≡ all_waiting x.ports
waits_same x y so = sums_same (λ (p : PortView). length p.behind) x.ports y.ports so.count (λ r d. ap (λ (p : PortView). length p.behind) (so.each r d).rest)
