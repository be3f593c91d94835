-- The cores of a play from its opening through the connects and the meeting to the first settle.
use Rattle.std.proofs.Common.{◌≡◌, ◌<◌, ℕ, Bool, List, [], inl, inr, length, get_or, sym, ap, subst, ◌∙◌, arith, length-set, get_or-set_same, get_or-set_other}
use Rattle.std.specs.Prelude.{◌==◌, count_by, if◌then◌else◌}
use Rattle.std.proofs.lemmas.Bool.{cases_eq}
use Rattle.std.proofs.lemmas.Bool.Decides.{nat_tests}
use Rattle.ix_base.specs.declared.id.CoreId.{CoreId}
use Rattle.ix_mbuf.specs.Pools.{Stock, all_names}
use Rattle.ix_desk.specs.Desks.{group_at}
use Rattle.ix_desk.specs.Groups.{at_home, empty}
use Rattle.ix_desk.specs.Views.{Group}
use Rattle.ix_stack.specs.declared.work.Work.{Work}
use Rattle.ix_appdef.specs.declared.application.Application.{Application}
use Rattle.ix_groupdef.specs.declared.env.Env.{Env}
use Rattle.ix_conf.specs.Settings.{Settings}
use Rattle.ix_lines.specs.declared.types.ConnectLine.{ConnectLine}
use Rattle.ix_lines.specs.declared.types.SettleLine.{SettleLine}
use Rattle.ix_wire.specs.declared.entry.Entry.{Entry}
use Rattle.ix_reta.specs.Table.{Table, core_from, opening_core, tenure_of}
use Rattle.ix_nic.specs.Cards.{core_at}
use Rattle.ix_nic.specs.Ports.{PortView}
use Rattle.ix_nic.specs.Words.{seats}
use Rattle.ix_core.specs.Meeting.{CoreLearned}
use Rattle.ix_core.specs.Settling.{CoreSettled}
use Rattle.ix_feed.specs.Replays.{is_move}
use Rattle.ix_fits.specs.Card.{opening_table}
use Rattle.ix_plainstack.specs.Stack.{Stack, empty_stack}
use Rattle.ix_engine.specs.Courses.{HasBegun, peers_of}
use Rattle.ix_engine.specs.Openings.{CoreIsOpen, StackCore, StackEnds}
use Rattle.ix_engine.specs.Steps.{Engine}
use Rattle.ix_begun.proofs.Bare.{AreBare, bare-desks, dials-keep, dials-rest, dials-same}
use Rattle.ix_begun.proofs.Dialed.{DesksChange, an-element, first-changes}

-- ## The table at the opening
core-is : (table : Table) (live room : ℕ) → table ≡ record { live = live; turns = []; room = room } → (g : ℕ) → core_at table g ≡ opening_core live g
unfolding core_from
core-is table live room is g = ap (λ (t : Table). core_at t g) is

pub seats-are : (table : Table) (live room : ℕ) → table ≡ record { live = live; turns = []; room = room } → (g : ℕ) → seats table g ≡ opening_table live g
unfolding core_from tenure_of
seats-are table live room is g = ap (λ (t : Table). seats t g) is

same-either : (a b : ℕ) → (a == b) ≡ (b == a)
same-either a b = grind (arith, nat_tests)

home-test : (table : Table) (live room core g : ℕ) → table ≡ record { live = live; turns = []; room = room } → ((core_at table g).0 == core) ≡ (core == (opening_core live g).0)
home-test table live room core g is = ap (λ (c : CoreId). c.0 == core) (core-is table live room is g) ∙ same-either (opening_core live g).0 core

-- the pool of a core at the opening
abbrev pub first_pool : Settings → ℕ → Stock
first_pool s c = record { home = record { 0 = c }; n = s.buffers; free = all_names (record { 0 = c }) s.buffers }

module _ (s : Settings) (frames : List (List ℕ)) (entries : List Entry) (env : Env Application) (connects : List ConnectLine) (line : SettleLine) (x : Engine)
    (b : HasBegun s frames entries env connects line x) where
  -- ## How many there are
  pub open-count : length b.cores ≡ s.cores
  open-count = b.opens.cores_are.count ∙ b.opens.count

  pub dialed-count : length b.dialed ≡ s.cores
  dialed-count = ap length b.dials.cores ∙ length-set b.cores 0 b.dials.first ∙ open-count

  pub met-count : length b.settled.cores ≡ s.cores
  met-count = b.settled.met.cores_are.count ∙ dialed-count

  pub after-count : length x.cores ≡ s.cores
  after-count = b.settled.settled.settles.count ∙ met-count

  -- ## The opening
  pub core-end : (c : ℕ) → c < s.cores → StackEnds
  core-end c lt = an-element b.opens.core_ends c (omega (arith, lt, b.opens.count))

  pub open-core : (c : ℕ) (d : StackCore) (lt : c < s.cores) → CoreIsOpen s b.card.table c (get_or b.opens.core_ends c (core-end c lt)) (get_or b.cores c d)
  open-core c d lt = b.opens.cores_are.each c (core-end c lt) d (omega (arith, lt, b.opens.count))

  pub open-home : (c : ℕ) (d : StackCore) → c < s.cores → (g : ℕ) → g < 512 → group_at (get_or b.cores c d).desks g ≡ (if c == (opening_core s.live g).0 then at_home empty_stack else empty)
  open-home c d lt g low =
      let o = open-core c d lt in
      o.is.desks g ∙ o.are.each g low
      ∙ ap (λ (t : Bool). (let z : Group Stack Work = (if t then at_home empty_stack else empty) in z)) (home-test b.card.table s.live (count_by is_move entries) c g b.opens.table)

  open-bare : (c : ℕ) (d : StackCore) → c < s.cores → AreBare (get_or b.cores c d).desks
  open-bare c d lt = bare-desks (get_or b.cores c d).desks (λ g. c == (opening_core s.live g).0) (open-core c d lt).is.groups (open-home c d lt)

  -- ## The connects
  pub first-rests : (d : StackCore) → b.dials.first ≡ record (get_or b.cores 0 d) { desks = b.dials.first.desks }
  first-rests d = dials-rest env 0 (peers_of s) (b.dials.is d).rets (get_or b.cores 0 d) b.dials.first (b.dials.is d).dials

  pub dials-change : DesksChange b.cores b.dialed
  dials-change = subst (DesksChange b.cores) (sym b.dials.cores) (first-changes b.cores b.dials.first first-rests)

  pub first-is : (d : StackCore) → 0 < s.cores → get_or b.dialed 0 d ≡ b.dials.first
  first-is d some = ap (λ (l : List StackCore). get_or l 0 d) b.dials.cores ∙ get_or-set_same b.cores 0 b.dials.first d (omega (arith, some, open-count))

  pub other-is : (c : ℕ) (d : StackCore) → (c ≡ 0 → ⊥) → get_or b.dialed c d ≡ get_or b.cores c d
  other-is c d other = ap (λ (l : List StackCore). get_or l c d) b.dials.cores ∙ get_or-set_other b.cores 0 c b.dials.first d other

  pub first-bare : 0 < s.cores → AreBare b.dials.first.desks
  first-bare some =
      let d = b.dials.first in
      dials-keep env 0 (peers_of s) (b.dials.is d).rets (get_or b.cores 0 d) b.dials.first (b.dials.is d).dials (open-bare 0 d some)

  pub dialed-bare : (c : ℕ) (d : StackCore) → c < s.cores → AreBare (get_or b.dialed c d).desks
  dialed-bare c d lt =
      elim (cases_eq c 0) [
        | inl same ↦
            subst (λ (k : ℕ). AreBare (get_or b.dialed k d).desks) (sym same)
            (subst (λ (z : StackCore). AreBare z.desks) (sym (first-is d (omega (arith, lt)))) (first-bare (omega (arith, lt))))
        | inr other ↦ subst (λ (z : StackCore). AreBare z.desks) (sym (other-is c d other)) (open-bare c d lt)
      ]

  dialed-core : (c : ℕ) (d : StackCore) → c < s.cores → get_or b.dialed c d ≡ record (get_or b.cores c d) { desks = (get_or b.dialed c d).desks }
  dialed-core c d lt = dials-change.each c d (omega (arith, lt, open-count))

  -- ## The meeting
  pub met-core : (c : ℕ) (d : StackCore) → CoreLearned (get_or b.dialed c d) (get_or b.settled.cores c d)
  met-core c d = b.settled.met.cores_are.each c d

  pub met-desks : (c : ℕ) (d : StackCore) → (get_or b.settled.cores c d).desks ≡ (get_or b.dialed c d).desks
  met-desks c d = ap (λ (k : StackCore). k.desks) (met-core c d).rest

  pub met-bare : (c : ℕ) (d : StackCore) → c < s.cores → AreBare (get_or b.settled.cores c d).desks
  met-bare c d lt = subst AreBare (sym (met-desks c d)) (dialed-bare c d lt)

  pub met-pool : (c : ℕ) (d : StackCore) → c < s.cores → (get_or b.settled.cores c d).pool ≡ first_pool s c
  met-pool c d lt = ap (λ (k : StackCore). k.pool) (met-core c d).rest ∙ ap (λ (k : StackCore). k.pool) (dialed-core c d lt) ∙ (open-core c d lt).is.pool_is

  pub met-returns : (c : ℕ) (d : StackCore) → c < s.cores → (get_or b.settled.cores c d).returns.items ≡ []
  met-returns c d lt =
      ap (λ (k : StackCore). k.returns.items) (met-core c d).rest ∙ ap (λ (k : StackCore). k.returns.items) (dialed-core c d lt) ∙ (open-core c d lt).is.returns

  met-batch : (c : ℕ) (d : StackCore) → c < s.cores → (get_or b.settled.cores c d).batch ≡ s.batch
  met-batch c d lt = ap (λ (k : StackCore). k.batch) (met-core c d).rest ∙ ap (λ (k : StackCore). k.batch) (dialed-core c d lt) ∙ (open-core c d lt).is.batch_is

  pub dialed-posted : (c : ℕ) (d : StackCore) (lt : c < s.cores) → (get_or b.dialed c d).posted ≡ (get_or b.opens.core_ends c (core-end c lt)).posted
  dialed-posted c d lt = ap (λ (k : StackCore). k.posted) (dialed-core c d lt) ∙ (open-core c d lt).is.posted

  -- desks for all groups, of the core with this number
  abbrev AreOf : ℕ → StackCore → Type 0
  AreOf c k = (length k.desks.groups ≡ 512) × (k.desks.core ≡ c)

  first-desks : 0 < s.cores → AreOf 0 b.dials.first
  first-desks some =
      let d = b.dials.first in
      let same = dials-same env 0 (peers_of s) (b.dials.is d).rets (get_or b.cores 0 d) b.dials.first (b.dials.is d).dials in
      (same.size ∙ (open-core 0 d some).is.groups, same.core ∙ (open-core 0 d some).is.core)

  pub dialed-desks : (c : ℕ) (d : StackCore) → c < s.cores → (length (get_or b.dialed c d).desks.groups ≡ 512) × ((get_or b.dialed c d).desks.core ≡ c)
  dialed-desks c d lt =
      elim (cases_eq c 0) [
        | inl same ↦
            subst (λ (k : ℕ). AreOf k (get_or b.dialed k d)) (sym same) (subst (AreOf 0) (sym (first-is d (omega (arith, lt)))) (first-desks (omega (arith, lt))))
        | inr other ↦ subst (AreOf c) (sym (other-is c d other)) ((open-core c d lt).is.groups, (open-core c d lt).is.core)
      ]

  -- ## The settle
  pub met-port : (c : ℕ) → c < s.cores → PortView
  met-port c lt = an-element b.settled.card.ports c (omega (arith, lt, b.settled.met.order.count, met-count))

  pub settled-core : (c : ℕ) (d : StackCore) (lt : c < s.cores)
      → CoreSettled (get_or b.settled.card.ports c (met-port c lt)) (get_or x.card.ports c (met-port c lt)) (get_or b.settled.cores c d) (get_or x.cores c d)
  settled-core c d lt = b.settled.settled.settles.each c (met-port c lt) d (omega (arith, lt, met-count))

  pub after-desks : (c : ℕ) (d : StackCore) → c < s.cores → (get_or x.cores c d).desks ≡ (get_or b.dialed c d).desks
  after-desks c d lt = ap (λ (k : StackCore). k.desks) (settled-core c d lt).core_rest ∙ met-desks c d

  pub after-batch : (c : ℕ) (d : StackCore) → c < s.cores → (get_or x.cores c d).batch ≡ s.batch
  after-batch c d lt = ap (λ (k : StackCore). k.batch) (settled-core c d lt).core_rest ∙ met-batch c d lt

  pub after-home : (c : ℕ) (d : StackCore) → c < s.cores → (get_or x.cores c d).pool.home.0 ≡ c
  after-home c d lt = ap (λ (h : CoreId). h.0) (settled-core c d lt).home ∙ ap (λ (k : Stock). k.home.0) (met-pool c d lt)

  pub after-slots : (c : ℕ) (d : StackCore) → c < s.cores → (get_or x.cores c d).pool.n ≡ s.buffers
  after-slots c d lt = (settled-core c d lt).slots ∙ ap (λ (k : Stock). k.n) (met-pool c d lt)

  pub after-table : x.card.table ≡ record { live = s.live; turns = []; room = count_by is_move entries }
  after-table = b.settled.settled.settles.table ∙ b.settled.met.card_is.table ∙ b.opens.table
