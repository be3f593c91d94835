-- The card behind the first settle of a play, and what the settle tells.
use Rattle.std.proofs.Common.{◌≡◌, ◌<◌, ℕ, List, length, get_or, sym, ap, ◌∙◌, arith}
use Rattle.std.specs.Prelude.{count_by}
use Rattle.std.proofs.lemmas.List.{get_or-map, length-map}
use Rattle.ix_appdef.specs.declared.application.Application.{Application}
use Rattle.ix_groupdef.specs.declared.env.Env.{Env}
use Rattle.ix_conf.specs.Settings.{Settings}
use Rattle.ix_lines.specs.declared.types.ConnectLine.{ConnectLine}
use Rattle.ix_lines.specs.declared.types.HomeLine.{HomeLine}
use Rattle.ix_lines.specs.declared.types.RingLine.{RingLine}
use Rattle.ix_lines.specs.declared.types.SettleLine.{SettleLine}
use Rattle.ix_wire.specs.declared.entry.Entry.{Entry}
use Rattle.ix_nic.specs.declared.offer.Counts.{Counts}
use Rattle.ix_nic.specs.Cards.{CardView}
use Rattle.ix_nic.specs.Ports.{PortView}
use Rattle.ix_core.specs.Settling.{CoreSettled}
use Rattle.ix_feed.specs.Replays.{is_move}
use Rattle.ix_carried.specs.Laws.{IsOpening}
use Rattle.ix_engine.specs.Courses.{HasBegun}
use Rattle.ix_engine.specs.Openings.{StackCore}
use Rattle.ix_engine.specs.Steps.{Engine, IsSettledBy, home_line, ring_line}
use Rattle.ix_tells.specs.Wholes.{LineTells}
use Rattle.ix_begun.proofs.Dialed.{an-element}
use Rattle.ix_begun.proofs.Homes.{open-port}
use Rattle.ix_begun.proofs.Through.{after-table, met-count, seats-are}

pub line-tells : (line : SettleLine) (card card' : CardView) (cores cores' : List StackCore) (t : IsSettledBy line card card' cores cores') → LineTells line t.report
line-tells line card card' cores cores' t = record {
  rings_count = ap length t.rings ∙ length-map t.report.rings.items ring_line;
  rings = λ c l r lt. ap (λ (ls : List RingLine). get_or ls c l) t.rings ∙ get_or-map ring_line t.report.rings.items c r l lt;
  homes_count = ap length t.homes ∙ length-map t.report.homes.items home_line;
  homes = λ c l h lt. ap (λ (ls : List HomeLine). get_or ls c l) t.homes ∙ get_or-map home_line t.report.homes.items c h l lt;
}

abbrev ring_of : ℕ → ℕ → ℕ → RingLine
ring_of posted frames items = record { posted = posted; frames = frames; items = items }

module _ (s : Settings) (frames : List (List ℕ)) (entries : List Entry) (env : Env Application) (connects : List ConnectLine) (line : SettleLine) (x : Engine)
    (b : HasBegun s frames entries env connects line x) where
  met : (r : ℕ) → r < s.cores → r < length b.settled.cores
  met r lt = omega (arith, lt, met-count s frames entries env connects line x b)

  settled-port : (r : ℕ) (d : PortView) → r < s.cores
      → CoreSettled (get_or b.settled.card.ports r d) (get_or x.card.ports r d) (get_or b.settled.cores r b.dials.first) (get_or x.cores r b.dials.first)
  settled-port r d lt = b.settled.settled.settles.each r d b.dials.first (met r lt)

  -- nothing was counted before the settle
  no-frames : (r : ℕ) (d : PortView) → r < s.cores → (get_or b.settled.card.ports r d).frames ≡ 0
  no-frames r d lt = ap (λ (v : PortView). v.frames) (b.settled.met.card_is.each r d).rest ∙ ap (λ (v : PortView). v.frames) (open-port s frames entries env connects line x b r d lt)

  no-items : (r : ℕ) (d : PortView) → r < s.cores → (get_or b.settled.card.ports r d).items ≡ 0
  no-items r d lt = ap (λ (v : PortView). v.items) (b.settled.met.card_is.each r d).rest ∙ ap (λ (v : PortView). v.items) (open-port s frames entries env connects line x b r d lt)

  tells : LineTells line b.settled.settled.report
  tells = line-tells line b.settled.card x.card b.settled.cores x.cores b.settled.settled

  pub is-opening : IsOpening s line x.card
  is-opening = record {
    count = b.settled.settled.settles.ports ∙ b.settled.met.order.count ∙ met-count s frames entries env connects line x b;
    table = seats-are x.card.table s.live (count_by is_move entries) (after-table s frames entries env connects line x b);
    lines = tells.rings_count ∙ b.settled.settled.settles.rings_count ∙ met-count s frames entries env connects line x b;
    rings = λ r d l lt.
        let within : r < length b.settled.settled.report.rings.items = omega (arith, met r lt, b.settled.settled.settles.rings_count) in
        let counts : Counts = an-element b.settled.settled.report.rings.items r within in
        tells.rings r l counts within ∙ ap ring_line (b.settled.settled.settles.rings r d counts (met r lt))
        ∙ ap (λ (n : ℕ). ring_of n (get_or b.settled.card.ports r d).frames (get_or b.settled.card.ports r d).items) (sym (ap (λ (v : PortView). v.posted) (settled-port r d lt).port_rest))
        ∙ ap (λ (n : ℕ). ring_of (get_or x.card.ports r d).posted n (get_or b.settled.card.ports r d).items) (no-frames r d lt)
        ∙ ap (λ (n : ℕ). ring_of (get_or x.card.ports r d).posted 0 n) (no-items r d lt);
    no_items = λ r d lt. ap (λ (v : PortView). v.items) (settled-port r d lt).port_rest;
    no_frames = λ r d lt. ap (λ (v : PortView). v.frames) (settled-port r d lt).port_rest;
  }
