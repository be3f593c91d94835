-- Behind the first settle of a play each buffer is in its place.
use Rattle.std.proofs.Common.{◌≡◌, ◌<◌, ◌≤◌, ℕ, List, [], None, length, get_or, refl, sym, ap, subst, ◌∙◌, arith}
use Rattle.std.proofs.lemmas.List.{get_or-map}
use Rattle.ix_mbuf.specs.Buffers.{Buffer}
use Rattle.ix_mbuf.specs.Pools.{Stock, all_names}
use Rattle.ix_ring.specs.Views.{PutView}
use Rattle.ix_ring.specs.Ends.{known, put_list, taken}
use Rattle.ix_desk.specs.Views.{View}
use Rattle.ix_stack.specs.declared.work.Work.{Work}
use Rattle.ix_appdef.specs.declared.application.Application.{Application}
use Rattle.ix_groupdef.specs.declared.env.Env.{Env}
use Rattle.ix_conf.specs.Settings.{Settings}
use Rattle.ix_lines.specs.declared.types.ConnectLine.{ConnectLine}
use Rattle.ix_lines.specs.declared.types.SettleLine.{SettleLine}
use Rattle.ix_wire.specs.declared.entry.Entry.{Entry}
use Rattle.ix_nic.specs.declared.port.NicEnd.{NicEnd}
use Rattle.ix_nic.specs.Cards.{opened}
use Rattle.ix_nic.specs.Ports.{PortView}
use Rattle.ix_core.specs.Order.{AreOpenedAs}
use Rattle.ix_epochs.specs.Ready.{IsReady, MeetingsAreReady, OpeningsAreReady}
use Rattle.ix_plainstack.specs.Stack.{Drains, Stack, owners_at, stack_weight}
use Rattle.ix_engine.specs.Courses.{HasBegun}
use Rattle.ix_engine.specs.Openings.{StackCore}
use Rattle.ix_engine.specs.Steps.{Engine}
use Rattle.ix_homes.specs.Homes.{IsHome}
use Rattle.ix_tells.specs.Stays.{IsFresh, OpeningsAreHome}
use Rattle.ix_begun.proofs.Bare.{bare-level, desks-weigh}
use Rattle.ix_begun.proofs.Dialed.{an-element, none-behind, nothing-on-rings, ready-stays}
use Rattle.ix_begun.proofs.Through.{core-end, dialed-count, dialed-desks, dialed-posted, dials-change, first_pool, met-bare, met-core, met-count, met-desks, met-pool, met-returns}

module _ (s : Settings) (frames : List (List ℕ)) (entries : List Entry) (env : Env Application) (connects : List ConnectLine) (line : SettleLine) (x : Engine)
    (b : HasBegun s frames entries env connects line x) where
  -- ## The card's side of a ring
  pub nic-end : (c : ℕ) → c < s.cores → NicEnd
  nic-end c lt = an-element b.opens.card_ends c (omega (arith, lt, b.opens.order.count, b.opens.count))

  pub open-port : (c : ℕ) (p : PortView) (lt : c < s.cores) → get_or b.card.ports c p ≡ opened (get_or b.opens.card_ends c (nic-end c lt))
  open-port c p lt =
      ap (λ (ports : List PortView). get_or ports c p) b.opens.ports
      ∙ get_or-map opened b.opens.card_ends c (nic-end c lt) p (omega (arith, lt, b.opens.order.count, b.opens.count))

  -- no buffer was posted
  none-posted : (c : ℕ) (p : PortView) (d : StackCore) (lt : c < s.cores) → known (get_or b.settled.card.ports c p).posts ≡ []
  none-posted c p d lt =
      let new = b.opens.fresh.ports c (nic-end c lt) (core-end s frames entries env connects line x b c lt) (omega (arith, lt, b.opens.count)) in
      let put : put_list (get_or b.settled.cores c d).posted ≡ [] =
      (met-core s frames entries env connects line x b c d).posted.puts ∙ ap (λ (v : PutView Buffer). put_list v) (dialed-posted s frames entries env connects line x b c d lt) ∙ new.posts_put.none in
      none-behind (taken (get_or b.settled.card.ports c p).posts) (known (get_or b.settled.card.ports c p).posts)
      (sym (b.settled.met.told.ports c p d (omega (arith, lt, met-count s frames entries env connects line x b))).posts.whole ∙ put)

  none-kept : (c : ℕ) (p : PortView) → c < s.cores → (get_or b.settled.card.ports c p).kept ≡ None
  none-kept c p lt = ap (λ (v : PortView). v.kept) (b.settled.met.card_is.each c p).rest ∙ ap (λ (v : PortView). v.kept) (open-port c p lt)

  fresh : (c : ℕ) (p : PortView) (d : StackCore) → c < s.cores → IsFresh stack_weight (get_or b.settled.card.ports c p) (get_or b.settled.cores c d)
  fresh c p d lt = record {
    free = subst (λ (k : Stock). k.free ≡ all_names k.home k.n) (sym (met-pool s frames entries env connects line x b c d lt)) refl;
    returns = met-returns s frames entries env connects line x b c d lt;
    desks = λ f. desks-weigh f (get_or b.settled.cores c d).desks (met-bare s frames entries env connects line x b c d lt);
    posts = none-posted c p d lt;
    kept = none-kept c p lt;
  }

  -- ## Readiness
  are-opened : AreOpenedAs b.opens.core_ends b.cores
  are-opened = record {
    count = b.opens.cores_are.count;
    each = λ c e d lt.
        let o = b.opens.cores_are.each c e d (omega (arith, lt, b.opens.cores_are.count)) in
        record { id = record { 0 = c }; pool = first_pool s c; home = o.homes; batch = s.batch; own = refl; is = o.is };
  }

  ready : 1 ≤ s.cores → OpeningsAreReady Stack (Env Application) → MeetingsAreReady Stack (Env Application) → IsReady b.settled.card b.settled.cores
  ready some opening meeting =
      let at_first = opening 256 b.card b.opens.card_ends b.opens.core_ends b.cores b.opens.ports b.opens.order b.opens.fresh are-opened in
      let then = ready-stays b.card b.cores b.dialed (dials-change s frames entries env connects line x b) at_first in
      (meeting b.card b.settled.card b.dialed b.settled.cores (omega (arith, some, dialed-count s frames entries env connects line x b)) then b.settled.met.card_is b.settled.met.cores_are
      b.settled.met.order b.settled.met.told).ready

  -- ## The settle
  pub is-home : 1 ≤ s.cores → OpeningsAreReady Stack (Env Application) → MeetingsAreReady Stack (Env Application) → OpeningsAreHome Stack (Env Application) Drains stack_weight owners_at
      → IsHome Drains stack_weight x.card x.cores
  is-home some opening meeting homes =
      let are_ready = ready some opening meeting in
      homes b.settled.card x.card b.settled.settled.report b.settled.cores x.cores are_ready (nothing-on-rings b.settled.card b.settled.cores are_ready b.settled.met.told)
      (λ c d lt.
      let low : c < s.cores = omega (arith, lt, met-count s frames entries env connects line x b) in
      bare-level (get_or b.settled.cores c d).desks
      (ap (λ (v : View Stack Work). length v.groups) (met-desks s frames entries env connects line x b c d) ∙ (dialed-desks s frames entries env connects line x b c d low).0)
      (met-bare s frames entries env connects line x b c d low))
      (λ c p d lt. fresh c p d (omega (arith, lt, met-count s frames entries env connects line x b)))
      b.settled.settled.settles
